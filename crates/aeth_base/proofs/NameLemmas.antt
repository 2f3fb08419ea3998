-- Laws of names: they lie padded in memory, and are equal where their bytes are.
use Rattle.std.proofs.Common.{◌≡◌, ◌≤◌, ◌-◌, ◌++◌, ◌∙◌, ℕ, true, List, Some, length, drop, ap}
use Rattle.std.proofs.Common.{arith, sym, replicate, length-append}
use Rattle.std.proofs.lemmas.{List.drop-replicate, List.length-replicate, Option.cond_some}
use Rattle.std.proofs.Math.Seq.{drop-append_seam, take-append_seam}
use Rattle.aeth_base.specs.{Limits.max_name_bytes, Name.is_name, Name.name_of, NameBytes.IsPadded}

-- A text that is a name is this name.
pub name_only : (word name : List ℕ) → name_of word ≡ Some name
    → (name ≡ word) × (is_name name ≡ true)
name_only word name e =
    let (is, same) = cond_some (is_name word) word name e in
    (sym same, ap is_name (sym same) ∙ is)

-- A name that is written into zeros is padded.
pub is_padded-written : (name zeros : List ℕ) → zeros ≡ replicate max_name_bytes 0
    → length name ≤ max_name_bytes
    → is_name name ≡ true → IsPadded (name ++ drop (length name) zeros) (length name)
is_padded-written name zeros are_zeros short named =
    let rest : drop (length name) zeros ≡ replicate (max_name_bytes - length name) 0 =
    rw are_zeros (drop-replicate (length name) max_name_bytes 0) in
    record {
      size = length-append name (drop (length name) zeros)
          ∙ rw (rest, length-replicate {A = ℕ} (max_name_bytes - length name) 0) (omega arith);
      within = short;
      rest = drop-append_seam name (drop (length name) zeros) ∙ rest;
      named = rw (take-append_seam name (drop (length name) zeros)) named;
    }

-- Laws of the keys of tables that fit.
use Rattle.std.proofs.Common.{◌≡◌, ◌∙◌, ◌++◌, ℕ, false, List, [], ◌∷◌, Option, Some, None, Less}
use Rattle.std.proofs.Common.{Equal, Greater, Ordering, nat_cmp, fold, refl, sym, inl, inr}
use Rattle.std.proofs.Common.{option_map}
use Rattle.std.proofs.lemmas.{Bool.cases_Bool, Bool.false≢true, Map.Lookups.exact_bytes}
use Rattle.std.specs.{Ordering.is_lt, Ordering.match_ordering, Cmp.Lexicographic.slice_cmp}
use Rattle.toml.specs.Data.{Data, Members, no_members, member, get_member}
use Rattle.aeth_base.specs.Shown.{shown_text}
use Rattle.aeth_document.specs.Keys.{Fields, entries_of, is_expected, least, least_wrong_key}
use Rattle.aeth_document.specs.Keys.{lesser, misfit_keys, missing_keys, wrong_key}

-- There is a least key where there is a key.
fold_lesser-some : (best : List ℕ) (keys : List (List ℕ)) → fold lesser (Some best) keys ≡ None → ⊥
fold_lesser-some best [] none = absurd (cc none)
fold_lesser-some best (key ∷ keys) none =
    elim (cases_Bool (is_lt (slice_cmp nat_cmp key best))) [
      | inl less ↦ fold_lesser-some key keys (rw less at none)
      | inr other ↦ fold_lesser-some best keys (rw other at none)
    ]

-- Where no key is least, there is none.
least-none : (keys : List (List ℕ)) → least keys ≡ None → keys ≡ []
least-none [] none = refl
least-none (key ∷ keys) none = absurd (fold_lesser-some key keys none)

second-nil : (missing misfits : List (List ℕ)) → missing ++ misfits ≡ [] → misfits ≡ []
second-nil [] misfits nil = nil
second-nil (key ∷ missing) misfits nil = absurd (cc nil)

not_shown : (key : Option (List ℕ)) → option_map shown_text key ≡ None → key ≡ None
not_shown None none = refl
not_shown (Some key) none = absurd (cc none)

-- A table whose keys fit has none that doesn't.
no_misfit : (fields : Fields) (table : Members) → wrong_key fields table ≡ None
    → misfit_keys fields (entries_of table) ≡ []
unfolding least_wrong_key
no_misfit fields table none =
    let missing = missing_keys table fields in
    let misfits = misfit_keys fields (entries_of table) in
    let least_is = not_shown (least (missing ++ misfits)) none in
    second-nil missing misfits (least-none (missing ++ misfits) least_is)

-- A key that is none of a table's fields isn't there, where the table's keys fit.
absent_in : (fields : Fields) (key : List ℕ)
    → ((value : Data) → is_expected fields (key, value) ≡ false) → (table : Members)
    → misfit_keys fields (entries_of table) ≡ [] → get_member key table ≡ None
absent_in fields key unknown no_members none = refl
absent_in fields key unknown (member other value table) none =
    elim (cases_Bool (is_expected fields (other, value))) [
      | inl fits ↦
          let rest = absent_in fields key unknown table (rw fits at none) in
          let go : (order : Ordering) → slice_cmp nat_cmp key other ≡ order
          → match_ordering order (get_member key table) (Some value) (get_member key table)
          ≡ None =
          elim [
            | Less ↦ λ is. rest
            | Equal ↦ λ is.
                let same = exact_bytes key other is in
                let misfit = rw same at (unknown value) in
                absurd (false≢true (sym misfit ∙ fits))
            | Greater ↦ λ is. rest
          ] in
          go (slice_cmp nat_cmp key other) refl
      | inr misfit ↦ absurd (cc (rw misfit at none))
    ]

-- A key that is none of a table's fields isn't there, where no key is wrong.
pub absent : (fields : Fields) (key : List ℕ)
    → ((value : Data) → is_expected fields (key, value) ≡ false) → (table : Members)
    → wrong_key fields table ≡ None → get_member key table ≡ None
absent fields key unknown table none =
    absent_in fields key unknown table (no_misfit fields table none)

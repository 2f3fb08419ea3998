-- What stays of components that rest, once all others have had their turn.
use Rattle.std.proofs.Common.{ℕ, ◌≤◌, ◌≡◌, refl, sym, ap, ◌∙◌, inl, inr, Bool, true, false, cond}
use Rattle.std.proofs.Common.{eqb, Option, Some, None, List, [], ◌∷◌, get_or, length, map, take}
use Rattle.std.proofs.Common.{slice_get, unwrap_or, eqb-true, take_all}
use Rattle.std.proofs.lemmas.{Bool.cases_Bool, Option.slice_get-get_or, Option.slice_get-map}
use Rattle.std.specs.{List.list_any, Option.option_map, Option.option_map_or}
use Rattle.aeth_base.proofs.Lists.{same_list}
use Rattle.aeth_clocked.specs.{declared.flit.Flit.Flit, Driven.AreDisjoint, Driven.driven}
use Rattle.aeth_clocked.specs.{Driven.is_output, Resting.AllOthers, Resting.RestsDrive}
use Rattle.aeth_clocked.specs.{Resting.is_chosen, Wires.Drives}
use Rattle.aeth_clocked.proofs.DrivenLemmas.{driven-at, is_output-at, is_output-some}
use Rattle.aeth_clocked.proofs.DrivenTurns.{is_output_among}
use Rattle.aeth_clocked.proofs.Turns.{Changed, is_among}

module _ {P : Type 0} (change : P → P) (which : List ℕ) (old now : List P) (turn : ℕ)
    (over : length which ≤ turn) (changed : Changed change (take turn which) old now)
    (rest : AllOthers which (λ part. change part ≡ part) old) where
  -- One component: changed in its turn, or as the change leaves it.
  settled : (i : ℕ) (found : Option P) → slice_get old i ≡ found
      → option_map (λ part. cond (is_among (take turn which) i) (change part) part) found
      ≡ option_map change found
  settled i None at = refl
  settled i (Some part) at = elim (cases_Bool (is_among (take turn which) i)) [
    | inl among ↦ rw among refl
    | inr apart ↦
        let left : is_chosen which i ≡ false = rw (take_all turn which over) at apart in
        let same : change part ≡ part = rest i part at left in
        rw apart (ap (λ (p : P). Some p) (sym same))
  ]

  -- All are as the change leaves them.
  pub Changed-rest : now ≡ map change old
  Changed-rest =
      same_list now (map change old) (λ i.
      changed.at i ∙ settled i (slice_get old i) refl ∙ sym (slice_get-map change old i))

module _ {P : Type 0} (outputs : P → ℕ → Bool) (parts : List P) (link : ℕ) where
  -- Whether a link is an output of the component with this number.
  abbrev sends : ℕ → Bool
  sends number = option_map_or (λ part. outputs part link) (slice_get parts number) false

  output-of : (number : ℕ) (found : Option P) → slice_get parts number ≡ found
      → option_map_or (λ part. outputs part link) found false ≡ true
      → is_output outputs parts link ≡ true
  output-of number None at is = absurd (cc is)
  output-of number (Some part) at is = is_output-at outputs parts number link part at is

  -- An output of some of the components is one of all.
  among-output : (numbers : List ℕ) → list_any sends numbers ≡ true
      → is_output outputs parts link ≡ true
  among-output [] is = absurd (cc is)
  among-output (number ∷ numbers) is = elim (cases_Bool (sends number)) [
    | inl own ↦ output-of number (slice_get parts number) refl own
    | inr not ↦ among-output numbers (rw not at is)
  ]

  -- An output of one of these components is an output of these.
  chosen-output : (numbers : List ℕ) (i : ℕ) (part : P) → slice_get parts i ≡ Some part
      → outputs part link ≡ true → is_chosen numbers i ≡ true → list_any sends numbers ≡ true
  chosen-output [] i part at is chosen = absurd (cc chosen)
  chosen-output (number ∷ numbers) i part at is chosen = elim (cases_Bool (eqb number i)) [
    | inl same ↦
        let own : sends number ≡ true = ap sends (eqb-true number i same)
        ∙ ap (λ (o : Option P). option_map_or (λ part. outputs part link) o false) at ∙ is in
        rw own refl
    | inr other ↦
        let rest = chosen-output numbers i part at is (rw other at chosen) in
        elim (cases_Bool (sends number)) [
          | inl own ↦ rw own refl
          | inr not ↦ rw not rest
        ]
  ]

-- Where components with some numbers have driven, and all others rest, all have driven.
pub Drives-rest : {P : Type 0} (outputs : P → ℕ → Bool) (emit : P → ℕ → ℕ → Option Flit)
    (after : P → ℕ → P) (parts : List P) (cycle : ℕ) (which : List ℕ) (turn : ℕ)
    (old now : List (Option Flit)) → length which ≤ turn → AreDisjoint outputs parts
    → Drives (is_output_among outputs parts (take turn which)) (driven outputs emit parts cycle)
    old now
    → AllOthers which (RestsDrive outputs emit after cycle old) parts
    → Drives (is_output outputs parts) (driven outputs emit parts cycle) old now
Drives-rest outputs emit after parts cycle which turn old now over disjoint drives rest =
    record {
      links = drives.links;
      at = λ link within.
          let among = is_output_among outputs parts (take turn which) link in
          let whole = take_all turn which over in
          elim (cases_Bool among) [
            | inl is ↦
                let output : is_output outputs parts link ≡ true =
                among-output outputs parts link (take turn which) is in
                drives.at link within ∙ rw (is, output) refl
            | inr not ↦ elim (cases_Bool (is_output outputs parts link)) [
              | inr none ↦ drives.at link within ∙ rw (not, none) refl
              | inl is ↦
                  let found = is_output-some outputs parts link is in
                  let left : is_chosen which found.0 ≡ false =
                  elim (cases_Bool (is_chosen which found.0)) [
                    | inr left ↦ left
                    | inl chosen ↦ absurd (
                        let too = chosen-output outputs parts link which found.0 found.1 found.2
                        found.3 chosen in
                        let both : true ≡ false = sym too ∙ rw whole at not in
                        cc both)
                  ] in
                  let rests = rest found.0 found.1 found.2 left in
                  let flit : driven outputs emit parts cycle link ≡ None =
                  driven-at outputs emit parts found.0 cycle link found.1 disjoint found.2 found.3
                  ∙ rests.silent link found.3 in
                  let at = slice_get-get_or old link None within in
                  let none : get_or old link None ≡ None =
                  sym (ap (λ (f : Option (Option Flit)). unwrap_or f None) at)
                  ∙ rests.empty link found.3 in
                  let kept : slice_get now link ≡ slice_get old link =
                  drives.at link within ∙ rw not refl in
                  rw is (kept ∙ at ∙ ap (λ (f : Option Flit). Some f) (none ∙ sym flit))
            ]
          ];
    }

-- Components that have changed one after the other, by the numbers whose turn has come.
use Rattle.std.proofs.Common.{ℕ, ◌+◌, ◌≤◌, ◌≡◌, refl, sym, ap, ◌∙◌, inl, inr, arith, Bool, true}
use Rattle.std.proofs.Common.{false, cond, eqb, ◌||◌, Option, Some, None, List, [], ◌∷◌, ◌++◌}
use Rattle.std.proofs.Common.{length, length-set, map, take, get_or, slice_get, eq-eqb, take_all}
use Rattle.std.proofs.Common.{get_or-take, length-take}
use Rattle.std.proofs.lemmas.Bool.{cases_eq, cases_lt, Decides.nat_tests}
use Rattle.std.proofs.lemmas.List.Folds.{list_any-append, list_any_none}
use Rattle.std.proofs.lemmas.Map.Keys.{apart_from_distinct}
use Rattle.std.proofs.lemmas.Option.{slice_get-map, slice_get-get_or, get_or_from_slice_get}
use Rattle.std.proofs.lemmas.Option.{slice_get_within, slice_get_past}
use Rattle.std.specs.{List.list_any, List.slice_set, Option.option_map}
use Rattle.aeth_base.proofs.Lists.{same_list, slice_get-slice_set_same, slice_get-slice_set_other}
use Rattle.aeth_base.proofs.Lists.{take-slice_get}
use Rattle.aeth_clocked.specs.Order.{AreChosen, IsOrder}
use Rattle.aeth_clocked.proofs.OrderLemmas.{AreChosen-below-at, IsOrder-passes}

-- Whether a number is one of these.
abbrev pub is_among : List ℕ → ℕ → Bool
is_among numbers i = list_any (λ number. eqb number i) numbers

-- One number more.
is_among-push : (numbers : List ℕ) (i j : ℕ)
    → is_among (numbers ++ i ∷ []) j ≡ (is_among numbers j || (eqb i j || false))
is_among-push numbers i j = list_any-append (λ number. eqb number j) numbers (i ∷ [])

-- A number is not among those before it.
is_among-before : (count : ℕ) (order : List ℕ) (turn number : ℕ) → AreChosen count order
    → slice_get order turn ≡ Some number → is_among (take turn order) number ≡ false
is_among-before count order turn number chosen at =
    let before = take turn order in
    list_any_none (λ other. eqb other number) before (λ i default below.
    let size = length-take turn order in
    let within = slice_get_within order turn number at in
    let here = get_or_from_slice_get order turn number default at in
    let there : get_or before i default ≡ get_or order i default =
    get_or-take turn order i default (omega arith) in
    rw (there, ← here)
    (apart_from_distinct eqb order i turn default chosen.distinct (omega arith) within))

-- An option that keeps its value.
option_map-same : {P : Type 0} (part : Option P) → option_map (λ part. part) part ≡ part
option_map-same None = refl
option_map-same (Some part) = refl

module _ {P : Type 0} (change : P → P) where
  -- The components with these numbers have changed, and the others have not.
  pub record Changed (numbers : List ℕ) (old now : List P) : Type 0 where
    pub size : length now ≡ length old
    pub at : (i : ℕ) → slice_get now i
        ≡ option_map (λ part. cond (is_among numbers i) (change part) part) (slice_get old i)

  -- A component that has had no turn is as it was.
  Changed-left : (numbers : List ℕ) (old now : List P) (i : ℕ) (part : P)
      → Changed numbers old now → is_among numbers i ≡ false → slice_get now i ≡ Some part
      → slice_get old i ≡ Some part
  Changed-left numbers old now i part changed left at =
      sym (rw left at (changed.at i) ∙ option_map-same (slice_get old i)) ∙ at

  -- One turn more.
  Changed-more : (numbers : List ℕ) (old now : List P) (i : ℕ) (part : P)
      → Changed numbers old now → is_among numbers i ≡ false → slice_get now i ≡ Some part
      → Changed (numbers ++ i ∷ []) old (slice_set now i (change part))
  Changed-more numbers old now i part changed left at =
      let within = slice_get_within now i part at in
      let was = Changed-left numbers old now i part changed left at in
      record {
        size = length-set now i (change part) ∙ changed.size;
        at = λ j.
            let pushed = is_among-push numbers i j in
            elim (cases_eq j i) [
              | inl same ↦
                  let among : is_among (numbers ++ i ∷ []) i ≡ true =
                  is_among-push numbers i i ∙ rw (left, eq-eqb i i refl) refl in
                  rw same (slice_get-slice_set_same now i (change part) within
                  ∙ rw (among, was) refl)
              | inr other ↦
                  let among : is_among (numbers ++ i ∷ []) j ≡ is_among numbers j =
                  grind (arith, nat_tests) in
                  slice_get-slice_set_other now i j (change part) other
                  ∙ changed.at j ∙ rw among refl
            ];
      }

  -- Turns of different components: those before one turn have been taken.
  module _ (order : List ℕ) (old now : List P) (turn : ℕ)
      (changed : Changed (take turn order) old now) where
    -- The component whose turn comes is as it was.
    pub Changed-next : AreChosen (length old) order → (number : ℕ) (read : P)
        → slice_get order turn ≡ Some number → slice_get old number ≡ Some (get_or now number read)
    Changed-next chosen number read at =
        let below = AreChosen-below-at (length old) order chosen turn number at in
        let same = changed.size in
        Changed-left (take turn order) old now number (get_or now number read) changed
        (is_among-before (length old) order turn number chosen at)
        (slice_get-get_or now number read (omega arith))

    -- It takes its turn.
    pub Changed-turn : AreChosen (length old) order → (number : ℕ) (read part : P)
        → slice_get order turn ≡ Some number → part ≡ change (get_or now number read)
        → Changed (take (turn + 1) order) old (slice_set now number part)
    Changed-turn chosen number read part at is =
        let below = AreChosen-below-at (length old) order chosen turn number at in
        let same = changed.size in
        rw (take-slice_get order turn number at, is)
        (Changed-more (take turn order) old now number (get_or now number read) changed
        (is_among-before (length old) order turn number chosen at)
        (slice_get-get_or now number read (omega arith)))

    -- After the last turn of an order all have changed.
    pub Changed-all : IsOrder order → length order ≡ length old → length order ≤ turn
        → now ≡ map change old
    Changed-all is_order size over =
        same_list now (map change old) (λ i.
        let mapped = slice_get-map change old i in
        elim (cases_lt i (length old)) [
          | inl within ↦
              let among : is_among (take turn order) i ≡ true =
              rw (take_all turn order over)
              (IsOrder-passes order is_order i (omega arith)) in
              changed.at i ∙ rw among (sym mapped)
          | inr past ↦
              let same = changed.size in
              slice_get_past now i (omega arith)
              ∙ sym (mapped ∙ ap (option_map change) (slice_get_past old i past))
        ])

-- Wires that components have driven one after the other, by the numbers whose turn has come.
use Rattle.std.proofs.Common.{ℕ, suc, ◌+◌, ◌≤◌, ◌≡◌, refl, sym, ◌∙◌, arith, Bool, false, ◌||◌}
use Rattle.std.proofs.Common.{Option, Some, List, [], ◌∷◌, ◌++◌, length, take, slice_get, take_all}
use Rattle.std.proofs.Math.Bool.{or-false}
use Rattle.std.proofs.lemmas.List.{Folds.list_any-append, Sorted.list_any-IsPermutation}
use Rattle.std.specs.{List.list_any, List.range_with_len, Option.option_map_or}
use Rattle.aeth_base.proofs.Lists.{take-slice_get}
use Rattle.aeth_clocked.specs.{declared.flit.Flit.Flit, Wires.Drives, Driven.AreDisjoint}
use Rattle.aeth_clocked.specs.{Driven.is_output, Driven.driven, Order.IsOrder}
use Rattle.aeth_clocked.proofs.DrivenLemmas.{driven-at}
use Rattle.aeth_clocked.proofs.WiresLemmas.{Drives-same, Drives-then}

-- A test of each place is a test of each element.
list_any-range : {P : Type 0} (test : P → Bool) (test_at : ℕ → Bool) (parts : List P) (first : ℕ)
    → ((i j : ℕ) (part : P) → first + i ≡ j → slice_get parts i ≡ Some part → test_at j ≡ test part)
    → list_any test_at (range_with_len first (length parts)) ≡ list_any test parts
list_any-range test test_at [] first same = refl
list_any-range test test_at (part ∷ parts) first same =
    let here = same 0 first part (omega arith) refl in
    let rest = list_any-range test test_at parts (first + 1)
    (λ i j other is at. same (suc i) j other (omega arith) at) in
    rw (here, rest) refl

module _ {P : Type 0} (outputs : P → ℕ → Bool) (parts : List P) where
  -- Whether a link is an output of the component with this number.
  abbrev has_output : ℕ → ℕ → Bool
  has_output link number =
      option_map_or (λ part. outputs part link) (slice_get parts number) false

  has_output-at : (link number : ℕ) (part : P) → slice_get parts number ≡ Some part
      → has_output link number ≡ outputs part link
  has_output-at link number part is = rw is refl

  -- Whether a link is an output of a component with one of these numbers.
  abbrev pub is_output_among : List ℕ → ℕ → Bool
  is_output_among numbers link = list_any (has_output link) numbers

  -- One number more.
  is_output_among-push : (numbers : List ℕ) (number link : ℕ) (part : P)
      → slice_get parts number ≡ Some part
      → (is_output_among numbers link || outputs part link)
      ≡ is_output_among (numbers ++ number ∷ []) link
  is_output_among-push numbers number link part is =
      let pushed = list_any-append (has_output link) numbers (number ∷ []) in
      let own = has_output-at link number part is in
      rw (pushed, own, or-false (outputs part link)) refl

  -- The numbers of an order have all outputs.
  is_output_among-order : (order : List ℕ) (link : ℕ) → IsOrder order
      → length order ≡ length parts → is_output_among order link ≡ is_output outputs parts link
  is_output_among-order order link is_order size =
      let test = λ (part : P). outputs part link in
      let range = range_with_len 0 (length order) in
      sym (list_any-IsPermutation (has_output link) range order is_order.permutes)
      ∙ rw size (list_any-range test (has_output link) parts 0
      (λ i j part is at. has_output-at link j part
      (let same : i ≡ j = omega arith in rw (← same) at)))

  module _ (emit : P → ℕ → ℕ → Option Flit) (cycle : ℕ) (order : List ℕ) (turn : ℕ)
      (old now : List (Option Flit))
      (drives : Drives (is_output_among (take turn order)) (driven outputs emit parts cycle)
      old now) where
    -- The component whose turn comes drives.
    pub Drives-turn : (number : ℕ) (part : P) (new : List (Option Flit))
        → AreDisjoint outputs parts → slice_get order turn ≡ Some number
        → slice_get parts number ≡ Some part → Drives (outputs part) (emit part cycle) now new
        → Drives (is_output_among (take (turn + 1) order)) (driven outputs emit parts cycle) old new
    Drives-turn number part new disjoint at is then =
        let flit_on = driven outputs emit parts cycle in
        let earlier = is_output_among (take turn order) in
        let together = is_output_among (take (turn + 1) order) in
        Drives-same (λ link. earlier link || outputs part link) together flit_on old new
        (λ link. rw (take-slice_get order turn number at)
        (is_output_among-push (take turn order) number link part is))
        (Drives-then earlier (outputs part) flit_on (emit part cycle) old now new
        (λ link own. driven-at outputs emit parts number cycle link part disjoint is own)
        drives then)

    -- After the last turn all have driven.
    pub Drives-all : IsOrder order → length order ≡ length parts → length order ≤ turn
        → Drives (is_output outputs parts) (driven outputs emit parts cycle) old now
    Drives-all is_order size over =
        Drives-same (is_output_among order) (is_output outputs parts)
        (driven outputs emit parts cycle) old now
        (λ link. is_output_among-order order link is_order size)
        (rw (take_all turn order over) at drives)

-- Laws of what components do to wires.
use Rattle.std.proofs.Common.{ℕ, ◌<◌, ◌≡◌, ◌↔◌, refl, sym, ap, ◌∙◌, inl, inr, arith, Bool, true}
use Rattle.std.proofs.Common.{eqb, ◌||◌, Option, Some, None, List, length, length-set, map, eq-eqb}
use Rattle.std.proofs.Common.{eqb-true}
use Rattle.std.proofs.lemmas.Bool.{cases_eq, cases_lt, Decides.nat_tests}
use Rattle.std.proofs.lemmas.List.FromFn.{length-map-range_with_len, get_or-map-range_with_len}
use Rattle.std.proofs.lemmas.Option.{slice_get-get_or, slice_get_past}
use Rattle.std.specs.List.{range_with_len, slice_set}
use Rattle.aeth_base.proofs.Lists.{same_list, slice_get-slice_set_same, slice_get-slice_set_other}
use Rattle.aeth_clocked.specs.{declared.flit.Flit.Flit, Resting.HasNoFlit, Wires.AreLinks}
use Rattle.aeth_clocked.specs.{Wires.Drives, Wires.flit_on}

-- A component with one output: that output is a link.
pub AreLinks-one : (output count : ℕ) → AreLinks (λ link. eqb output link) count → output < count
AreLinks-one output count links = links output (eq-eqb output output refl)

-- A component with one output: a write to it.
pub Drives-slice_set : (output : ℕ) (flit_on : ℕ → Option Flit) (old : List (Option Flit))
    → output < length old
    → Drives (λ link. eqb output link) flit_on old (slice_set old output (flit_on output))
Drives-slice_set output flit_on old within =
    record {
      links = length-set old output (flit_on output);
      at = λ link below.
          let written = slice_get-slice_set_same old output (flit_on output) within in
          let kept = slice_get-slice_set_other old output link (flit_on output) in
          elim (cases_eq link output) [
            | inl same ↦ grind (arith, nat_tests)
            | inr other ↦ grind (arith, nat_tests)
          ];
    }

-- A component with one output, or one input: that link is empty.
pub HasNoFlit-one : (only : ℕ) (wires : List (Option Flit))
    → (flit_on wires only ≡ None) ↔ HasNoFlit (λ link. eqb only link) wires
HasNoFlit-one only wires = (
  (λ empty link is. ap (flit_on wires) (sym (eqb-true only link is)) ∙ empty),
  (λ empty. empty only (eq-eqb only only refl)),
)

-- The same outputs by another test.
pub Drives-same : (outputs others : ℕ → Bool) (flit_on : ℕ → Option Flit)
    (old new : List (Option Flit)) → ((link : ℕ) → outputs link ≡ others link)
    → Drives outputs flit_on old new → Drives others flit_on old new
Drives-same outputs others flit_on old new same drives =
    record {
      links = drives.links;
      at = λ link within. rw (← same link) (drives.at link within);
    }

-- A component that drives after others, where one function tells the flits of all.
pub Drives-then : (earlier outputs : ℕ → Bool) (flit_on own_flit_on : ℕ → Option Flit)
    (old middle new : List (Option Flit))
    → ((link : ℕ) → outputs link ≡ true → flit_on link ≡ own_flit_on link)
    → Drives earlier flit_on old middle → Drives outputs own_flit_on middle new
    → Drives (λ link. earlier link || outputs link) flit_on old new
Drives-then earlier outputs flit_on own_flit_on old middle new told before then =
    record {
      links = then.links ∙ before.links;
      at = λ link within.
          let same = before.links in
          let here = then.at link (omega arith) in
          let there = before.at link within in
          let flit = told link in
          grind (arith, nat_tests);
    }

-- Where each link is an output, the new wires are the flits.
pub Drives-whole : (outputs : ℕ → Bool) (flit_on : ℕ → Option Flit)
    (old new : List (Option Flit)) → ((link : ℕ) → link < length old → outputs link ≡ true)
    → Drives outputs flit_on old new → new ≡ map flit_on (range_with_len 0 (length old))
Drives-whole outputs flit_on old new all drives =
    let count = length old in
    let flits = map flit_on (range_with_len 0 count) in
    let size : length flits ≡ count = length-map-range_with_len flit_on 0 count in
    let same = drives.links in
    same_list new flits (λ link.
    elim (cases_lt link count) [
      | inl within ↦
          let at = slice_get-get_or flits link None (omega arith) in
          let flit =
          get_or-map-range_with_len flit_on 0 count link link None within (omega arith) in
          drives.at link within
          ∙ rw (all link within) (sym (at ∙ ap (λ (flit : Option Flit). Some flit) flit))
      | inr past ↦
          slice_get_past new link (omega arith) ∙ sym (slice_get_past flits link (omega arith))
    ])

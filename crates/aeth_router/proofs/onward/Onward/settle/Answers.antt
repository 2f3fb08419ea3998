use Rattle.std.proofs.Common.{◌≡◌, ◌∙◌, List, Option, ap, arith, length, map, None, refl, replicate}
use Rattle.std.proofs.lemmas.List.{length-replicate}
use Rattle.aeth_clocked.specs.declared.flit.Flit.{Flit}
use Rattle.aeth_router.specs.Onward.{Arrival, Nothing, arrivals_of, carried}
use Rattle.aeth_router.proofs.OnwardLemmas.{arrivals_of-none, length-arrivals_of}
use Rattle.aeth_router.proofs.ContendedLemmas.{AreContended-none, AreSettled, carried-unmarked}
use Rattle.aeth_router.proofs.onward.Onward.settle.Goals.{After-clear-2, else-self, then-self}
use Rattle.aeth_router.proofs.onward.Onward.settle.Goals as goal

-- Wires to which several flits came have lost them, if there was one.
settled : (c : After-clear-2) → AreSettled c.self.inside.first c.self.inside.contended
    c.if-self.self-inside.first c.if-self.self-inside.contended
settled c = elim c.if-self.branch [
  | then-self w ↦
      rw w.self-inside-is (record {
        wires_are = w.lose.ensures;
        room = w.clear.ensures.room;
        none = w.clear.ensures.unmarked;
      })
  | else-self w ↦
      let none = c.self.invariant.none w.if-self.false in
      rw w.self-inside-is (record {
        wires_are = carried-unmarked c.self.inside.first c.self.inside.contended none;
        room = refl;
        none = none;
      })
]

-- As many wires are there again.
size : (c : After-clear-2) → length c.clear-2.new.self ≡ length c.self.inside.first
size c =
    let same = ap (λ (wires : List (Option Flit)). length wires) c.clear-2.ensures
    ∙ length-replicate (length c.swap.new.y) None in
    let other = ap (λ (wires : List (Option Flit)). length wires) c.swap.ensures.y_after in
    let wires = c.requires in
    let seen = ap (λ (arrivals : List Arrival). length arrivals) c.self.view_is in
    let all = length-arrivals_of c.self.inside.first c.self.inside.contended in
    omega (arith, same, other, wires, seen, all)

-- Nothing is noted any more.
pub invariant_of-self : goal.invariant_of-self
invariant_of-self c =
    AreContended-none c.self.inside.is_contended c.if-self.self-inside.is_contended
    c.self.inside.first c.clear-2.new.self c.self.inside.contended c.if-self.self-inside.contended
    c.self.invariant (size c) (settled c).room (settled c).none

-- The wires carry what has come.
pub returns-clause-wires : goal.returns-clause-wires
returns-clause-wires c =
    c.swap.ensures.x_after ∙ (settled c).wires_are
    ∙ ap (λ (arrivals : List Arrival). map carried arrivals) c.self.view_is

-- Nothing has come any more.
pub returns-clause-none : goal.returns-clause-none
returns-clause-none c =
    let left = c.if-self.self-inside.contended in
    ap (λ (first : List (Option Flit)). arrivals_of first left) c.clear-2.ensures
    ∙ arrivals_of-none (length c.swap.new.y) left
    ∙ ap (λ count. replicate count Nothing)
    (ap (λ (wires : List (Option Flit)). length wires) c.swap.ensures.y_after ∙ c.requires)

use Rattle.std.proofs.Common.{◌≡◌, ◌∙◌, ◌<◌, ◌++◌, Option, Some, ap, length, refl, subst, sym}
use Rattle.std.proofs.Common.{append-nil}
use Rattle.aeth_base.specs.declared.ids.{Side.Side, Unit.Unit as GroupUnit}
use Rattle.aeth_order.specs.Units.{next_unit, without_unit}
use Rattle.aeth_alloc.specs.Turns.{State, after_turn, refusals_of}
use Rattle.aeth_alloc.specs.declared.turns.State.TheInside.{Inside}
use Rattle.aeth_alloc.proofs.NextUnitLemmas.{next-waits}
use Rattle.aeth_alloc.proofs.TurnLemmas.{turn-none, turn-steps}
use Rattle.aeth_alloc.proofs.turns.State.turn.Goals.{After-done, After-next, in-Some-2+in_ok-push}
use Rattle.aeth_alloc.proofs.turns.State.turn.Goals.{in_default-2}
use Rattle.aeth_alloc.proofs.turns.State.turn.Given as given
use Rattle.aeth_alloc.proofs.turns.State.turn.Goals as goal

-- The unit whose turn is next.
next-is : (g : given.Over) (c : goal.After-next g)
    → c.next.result ≡ next_unit c.self.inside.units c.self.inside.reserved.seats.places
next-is g c =
    c.next.ensures
    ∙ ap (λ (i : Inside). next_unit i.units i.reserved.seats.places) c.self-inside.view_is

-- No unit waits.
pub returns-in_default : goal.returns-in_default
returns-in_default g c =
    turn-none c.args.design.now c.args.turn c.args.self.now
    (ap (λ (s : State). next_unit s.units s.reserved.seats.places) (sym c.self.view_is)
    ∙ sym (next-is g (goal.at.returns-in_default g c).After-next) ∙ c.in_default.is)

-- The unit waits, and so is of a connection of the application.
pub try_unit-requires-clause-unit : goal.try_unit-requires-clause-unit
try_unit-requires-clause-unit g c =
    let state : State = c.args.self.now in
    let waits = next-waits state.units state.reserved.seats.places c.in-Some.unit
    (ap (λ (s : State). next_unit s.units s.reserved.seats.places) (sym c.self.view_is)
    ∙ sym (next-is g (goal.at.try_unit-requires-clause-unit g c).After-next) ∙ c.in-Some.is) in
    subst (λ (u : GroupUnit). u.conn.0 < length c.args.design.now.app.connections) waits.unit_is
    (c.requires.units waits.keys waits.listed)

-- The unit waits no more, and may be refused.
after : (g : given.Over) (c : goal.After-done g) (new : Inside)
    → next_unit c.self.inside.units c.self.inside.reserved.seats.places ≡ Some c.in-Some.unit
    → c.match-branch-2.self-inside ≡ new → new.reserved ≡ c.try_unit.new.reserved
    → new.units ≡ c.self.inside.units → new.refused.items ≡ c.self.inside.refused.items
    ++ refusals_of c.in-Some.unit c.args.turn c.in_ok-side.field-0
    → record { reserved = new.reserved; units = c.done.new.self; refused = new.refused.items }
    ≡ after_turn c.args.design.now c.args.turn c.args.self.now
after g c new next is reserved units refused =
    turn-steps c.args.design.now c.args.turn _ c.args.self.now c.in-Some.unit new.reserved
    c.done.new.self new.refused.items c.in_ok-side.field-0 c.self.view_is next
    (c.in_ok-side.ensures
    ∙ ap (λ r. record { reserved = r; refused = c.in_ok-side.field-0 }) (sym reserved))
    (c.done.ensures ∙ ap (λ (i : Inside). without_unit i.units c.in-Some.unit) is
    ∙ ap (λ us. without_unit us c.in-Some.unit) units) refused

pub returns : goal.returns
returns g c =
    let next = sym (next-is g (goal.at.returns g c).After-next) ∙ c.in-Some.is in
    let refusals = λ (o : Option Side).
    c.self.inside.refused.items ++ refusals_of c.in-Some.unit c.args.turn o in
    elim c.match-branch-2.branch [
      | in-Some-2+in_ok-push w ↦
          rw w.self-inside-is (after g c _ next w.self-inside-is refl refl
          (w.in_ok-push.ensures.items ∙ ap refusals (sym w.in-Some-2.is)))
      | in_default-2 w ↦
          rw w.self-inside-is (after g c _ next w.self-inside-is refl refl
          (sym (append-nil c.self.inside.refused.items) ∙ ap refusals (sym w.in_default-2.is)))
    ]

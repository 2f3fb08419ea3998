use Rattle.std.proofs.Common.{◌≡◌, ◌∙◌, ◌<◌, length, ap, arith, subst, sym, IfOk, option_and_then}
use Rattle.std.proofs.Common.{option_map, slice_get}
use Rattle.aeth_base.specs.declared.ids.Unit.{Unit as GroupUnit}
use Rattle.aeth_alloc.specs.{Channels.Design, Holds.IsReservedOf, Trials.refusal_in}
use Rattle.aeth_alloc.specs.{Trials.trial_of, Tries.trial_over, Turns.State, Turns.after_turn}
use Rattle.aeth_alloc.proofs.NextUnitLemmas.{next-waits}
use Rattle.aeth_alloc.proofs.TryLemmas.{noted-some, refusal-is, refusal-listed}
use Rattle.aeth_alloc.proofs.TurnLemmas.{state-after}
use Rattle.aeth_alloc.proofs.turns.State.noted_turn.Goals.{After-refusal, in-None, in-Some}
use Rattle.aeth_alloc.proofs.turns.State.noted_turn.Given as given
use Rattle.aeth_alloc.proofs.turns.State.noted_turn.Goals as goal

-- What stands at the place that was past the last refusal is the refusal of the turn.
told : (g : given.Over) (c : After-refusal g)
    → c.refusal.result ≡ refusal_in c.args.design.now c.args.turn c.args.self.now
told g c =
    let state : State = c.args.self.now in
    let count : c.len-refusals.result ≡ length state.refused = omega (
      arith,
      c.len-refusals.ensures,
      c.self.inside.refused.ok,
      ap (λ (s : State). length s.refused) c.self.view_is,
    ) in
    c.refusal.ensures
    ∙ ap (λ (s : State). slice_get s.refused c.len-refusals.result) c.in_ok-turn.ensures
    ∙ ap (slice_get (after_turn c.args.design.now c.args.turn state).refused) count
    ∙ refusal-listed c.args.design.now c.args.turn state

-- The unit waited, and so is of a connection of the application.
pub refused_try-requires-clause-unit : goal.refused_try-requires-clause-unit
refused_try-requires-clause-unit g c =
    let state : State = c.args.self.now in
    let at = sym (told g (goal.at.refused_try-requires-clause-unit g c).After-refusal) ∙ c.in-Some.is in
    let is = refusal-is c.args.design.now c.args.turn state c.in-Some.refused at in
    let waits = next-waits state.units state.reserved.seats.places c.in-Some.refused.unit is.next in
    subst (λ (u : GroupUnit). u.conn.0 < length c.args.design.now.app.connections) waits.unit_is
    (c.requires.units waits.keys waits.listed)

-- What is reserved after the turn is of the design.
pub refused_try-requires-clause-reserved : goal.refused_try-requires-clause-reserved
refused_try-requires-clause-reserved g c =
    subst (λ (s : State). IsReservedOf c.args.design.now s.reserved)
    (sym (c.self-2.view_is ∙ c.in_ok-turn.ensures))
    (state-after c.args.design.now c.args.turn c.args.self.now c.requires).reserved

-- What a refusal leaves is what was there before.
pub returns-clause-trial : goal.returns-clause-trial
returns-clause-trial g c =
    let design : Design = c.args.design.now in
    let turn = c.args.turn in
    let state : State = c.args.self.now in
    let new : State = c.turn.new.self in
    let its = told g (goal.at.returns-clause-trial g c).After-refusal in
    elim c.match-refusal.branch [
      | in-None w ↦ rw w.result-is
          (sym (ap (option_and_then (trial_of design state.reserved)) (sym its ∙ w.in-None.is)))
      | in-Some w ↦ rw w.result-is
          (noted-some design turn state new w.in-Some.refused w.refused_try.result
          c.in_ok-turn.ensures (sym its ∙ w.in-Some.is)
          (subst (λ (s : State). IfOk w.refused_try.result (λ one.
          option_map (trial_over s.reserved.book.grants) one
          ≡ trial_of design s.reserved w.in-Some.refused)) c.self-2.view_is
          w.refused_try.ensures.trial))
    ]

use Rattle.std.proofs.Common.{◌∙◌, ◌+◌, ap, subst, sym}
use Rattle.aeth_alloc.specs.{Allocation.first_state, Channels.Design, Holds.IsDesign}
use Rattle.aeth_alloc.specs.{Holds.IsStateOf, Turns.after_turn}
use Rattle.aeth_alloc.proofs.TurnLemmas.{after_turns-next, after_turns-none, state-turns}
use Rattle.aeth_alloc.proofs.allocation.last_state.Goals as goal

-- No turn was taken.
pub loop-turn-init : goal.loop-turn-init
loop-turn-init g c =
    c.in_ok-state.ensures
    ∙ ap (λ (d : Design). first_state d c.args.groups.now) c.design.view_is
    ∙ sym (after_turns-none c.args.design.now c.args.groups.now)

-- The state is one of the design.
pub turn-requires : goal.turn-requires
turn-requires g c =
    let design : Design = c.args.design.now in
    let is : IsDesign design c.design.inside.far.now =
    subst (λ (d : Design). IsDesign d c.design.inside.far.now) c.design.view_is c.design.invariant in
    subst (IsStateOf design) (sym c.loop-turn.invariant)
    (state-turns design c.args.groups.now c.loop-turn.turn is.chip is.app is.of c.requires)

-- One turn more was taken.
pub loop-turn-preserved : goal.loop-turn-preserved
loop-turn-preserved g c =
    c.in_ok-turn.ensures
    ∙ ap (after_turn c.args.design.now (c.loop-turn.turn + 1)) c.loop-turn.invariant
    ∙ sym (after_turns-next c.args.design.now c.args.groups.now c.loop-turn.turn)

use Rattle.std.proofs.Common.{inl, inr}
use Rattle.aeth_components.proofs.MarkLemmas.{AreMarked-read}
use Rattle.aeth_components.proofs.phases.rest.Goals.{then-channel_state-via-else-channel_state+then-channel_state-eq0}
use Rattle.aeth_components.proofs.phases.rest.Goals.{then-channel_state-via-then-channel_state}
use Rattle.aeth_components.specs.Busy.{TakesNothing}
use Rattle.aeth_components.proofs.phases.rest.Goals as goal

-- The receiver takes nothing.
pub returns-then-channel_state : goal.returns-then-channel_state
returns-then-channel_state c =
    AreMarked-read TakesNothing c.args.taking.now c.unmark.new.self c.args.channel_states.now
    c.args.number _
    c.requires.number (elim c.then-channel_state.branch [
      | then-channel_state-via-then-channel_state w ↦ inl w.if-channel_state.true
      | then-channel_state-via-else-channel_state+then-channel_state-eq0 w ↦
          inr w.if-channel_state-eq0.true
    ]) c.unmark.ensures.room c.unmark.ensures.away c.requires.marked

use Rattle.std.proofs.Common.{[], ◌+◌, ◌∙◌, ap, inl, inr, List, sym, take, ◌==◌, take_all}
use Rattle.std.specs.List.{list_any}
use Rattle.aeth_components.proofs.MarkingActiveLemmas.{MarksActive-more, MarksActive-none}
use Rattle.aeth_components.proofs.MarkingActiveLemmas.{MarksActive-same, among-more}
use Rattle.aeth_components.specs.{Events.event_part, Enqueuing.HasEvent, declared.event.Event.Event}
use Rattle.aeth_components.proofs.enqueuing.Enqueuing.mark_active_for.Goals as goal

-- No event yet.
pub loop-event-init : goal.loop-event-init
loop-event-init c = MarksActive-none (HasEvent []) c.args.self.now c.requires (λ n is. cc is)

pub mark_active-requires : goal.mark_active-requires
mark_active-requires c = c.loop-event.invariant.places

-- One event more.
pub loop-event-preserved : goal.loop-event-preserved
loop-event-preserved c =
    let events = c.args.events.now in
    let place = c.loop-event.event-index in
    MarksActive-more (HasEvent (take (place + 1) events)) (HasEvent (take place events))
    c.part.result
    c.args.self.now c.loop-event.self c.mark_active.new.self c.loop-event.invariant
    c.mark_active.ensures
    (λ n is. elim (among-more event_part events place _ n c.loop-event-test.true is) [
      | inl before ↦ inl before
      | inr same ↦ inr (same ∙ sym c.part.ensures)
    ])

-- All events.
pub returns : goal.returns
returns c =
    let events = c.args.events.now in
    let place = c.loop-event.event-index in
    MarksActive-same (HasEvent events) (HasEvent (take place events)) c.args.self.now
    c.loop-event.self
    (λ n is. ap (λ (some : List Event). list_any (λ event. event_part event == n) some)
    (take_all place events c.loop-event-test.false) ∙ is) c.loop-event.invariant

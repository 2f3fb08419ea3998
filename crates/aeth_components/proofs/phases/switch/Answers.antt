use Rattle.std.proofs.Common.{◌≡◌, ◌∙◌, ap, arith, length, map, sym, take}
use Rattle.std.proofs.lemmas.List.{length-map}
use Rattle.aeth_components.proofs.InjectingLemmas.{AreInjecting-happened, HasPlaces-event}
use Rattle.aeth_components.proofs.PartLemmas.{Suits-read, wirings-switched, happened-set}
use Rattle.aeth_components.proofs.PartLemmas.{happened-there, switched-more}
use Rattle.aeth_components.specs.Wirings.{wiring_of}
use Rattle.aeth_components.proofs.phases.switch.Goals as goal

-- The event suits its component, whose wiring is as before the first event.
pub meet-requires : goal.meet-requires
meet-requires c =
    let events = take c.loop-event.event-index c.args.events.now in
    Suits-read _ c.args.parts.now c.loop-event.parts c.part.result c.index-parts-part.result
    (ap (map wiring_of) c.loop-event.invariant.parts ∙ wirings-switched events c.args.parts.now)
    (c.requires.events c.loop-event.event-index _ c.loop-event-test.true) c.part.ensures

-- There is a place for it.
pub note-requires : goal.note-requires
note-requires c =
    let count = length-map c.args.parts.now wiring_of in
    let size : length c.loop-event.parts ≡ length c.args.parts.now = c.loop-event.auto.parts in
    HasPlaces-event c.loop-event.parts c.loop-event.injecting
    (c.requires.events c.loop-event.event-index _ c.loop-event-test.true)
    (count ∙ sym size) c.loop-event.invariant.injecting

-- One event more is done, and noted.
pub loop-event-preserved : goal.loop-event-preserved
loop-event-preserved c =
    let events = take c.loop-event.event-index c.args.events.now in
    let doable = c.requires.events c.loop-event.event-index _ c.loop-event-test.true in
    let part = doable.part in
    let count = length-map c.args.parts.now wiring_of in
    let size : length c.loop-event.parts ≡ length c.args.parts.now = c.loop-event.auto.parts in
    let done = happened-set _ c.args.parts.now c.loop-event.parts c.part.result
    c.index-parts-part.result c.meet.new.part
    (ap (map wiring_of) c.loop-event.invariant.parts ∙ wirings-switched events c.args.parts.now)
    c.part.ensures doable c.meet.ensures in
    record {
      parts = switched-more c.args.events.now c.args.parts.now c.loop-event.parts
          c.loop-event.event-index _ c.part.result c.index-parts-part.result c.meet.new.part
          c.loop-event-test.true c.loop-event.invariant.parts c.part.ensures doable c.meet.ensures;
      injecting = rw done (AreInjecting-happened _ c.loop-event.parts c.meet.new.part
          c.loop-event.injecting c.note.new.self c.note.ensures c.loop-event.invariant.injecting
          (happened-there _ c.args.parts.now c.loop-event.parts c.part.result
          c.index-parts-part.result c.meet.new.part
          (ap (map wiring_of) c.loop-event.invariant.parts
          ∙ wirings-switched events c.args.parts.now) c.part.ensures doable c.meet.ensures)
          (omega (arith, part, count, size)));
    }

-- The wirings stay.
pub returns-clause-wirings : goal.returns-clause-wirings
returns-clause-wirings c =
    ap (map wiring_of) c.loop-event.invariant.parts
    ∙ wirings-switched (take c.loop-event.event-index c.args.events.now) c.args.parts.now

use Rattle.std.proofs.Common.{◌≡◌, ◌∙◌, ap, arith, length, refl, Some, sym}
use Rattle.std.proofs.lemmas.Option.{slice_get-get_or}
use Rattle.aeth_components.proofs.MarkingActiveLemmas.{AreMarkedActive-first, AreMarkedActive-more}
use Rattle.aeth_components.proofs.MarkingActiveLemmas.{MarksActive-all}
use Rattle.aeth_components.proofs.enqueuing.Enqueuing.mark_active.Goals as goal

-- Nobody waits before the first place at which somebody does.
pub places-init : goal.places-init
places-init c = record {
  marked_active = AreMarkedActive-first c.place_of-first.result c.next-place.result c.args.self.now
      c.next-place.ensures.none;
  from = c.next-place.ensures.from;
  to = c.next-place.ensures.end;
}

-- Who waits at the next place is marked.
pub places-preserved : goal.places-preserved
places-preserved c =
    let done = c.places.invariant in
    let next = c.next-place-in-places.ensures in
    let from = done.from in
    let after = next.from in
    let size = ap (λ numbers. length numbers.items) done.marked_active.numbers ∙ c.requires.size in
    let test = c.places-test.true in
    let first = c.place_of-first.ensures.place in
    record {
      marked_active =
          AreMarkedActive-more c.place_of-first.result c.places.place c.next-place-in-places.result
          c.args.self.now c.places.self _ c.index-number.result.now done.marked_active from
          (omega (arith, after))
          (slice_get-get_or c.places.self.numbers.items c.places.place c.index-number.result.now
          (omega (arith, size, test, first))
          ∙ ap (λ n. Some n) (sym c.index-number.ensures))
          c.mark.ensures.room c.unmark.ensures.room refl c.mark.ensures.here c.mark.ensures.away
          c.unmark.ensures.away next.none;
      from = omega (arith, from, after);
      to = next.end;
    }

-- All places of the interface are passed.
pub returns : goal.returns
returns c =
    let done = c.places.invariant in
    let first = c.place_of-first.ensures.place in
    let over = c.places-test.false in
    MarksActive-all c.args.interface c.place_of-first.result c.places.place c.args.self.now
    c.places.self
    (λ end is.
    let same : end.ni.0 ≡ c.args.interface = is in
    (omega (arith, first, same), omega (arith, first, same, over))) c.requires done.marked_active

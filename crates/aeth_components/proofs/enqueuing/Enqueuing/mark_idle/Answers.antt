use Rattle.std.proofs.Common.{◌∙◌, ap, arith, inl, inr, refl, Some, sym, ne_eqb}
use Rattle.std.proofs.lemmas.Option.{slice_get-get_or}
use Rattle.aeth_base.{specs.Marks.bit_of, proofs.MarkedLemmas.is_marked-zero}
use Rattle.aeth_components.proofs.MarkingActiveLemmas.{MarksIdle-waits}
use Rattle.aeth_components.proofs.enqueuing.Enqueuing.mark_idle.Goals.{then-is_own-via-then-is_own}
use Rattle.aeth_components.proofs.enqueuing.Enqueuing.mark_idle.Goals.{then-is_own-via-else-is_own+then-not-has}
use Rattle.aeth_components.proofs.enqueuing.Enqueuing.mark_idle.Goals as goal

-- The channel waits at a place that is free, or its own.
pub returns-then-is_own : goal.returns-then-is_own
returns-then-is_own c =
    let place = c.place_of-place.result in
    let below = c.place_of-place.ensures.below in
    let size = c.requires.places.size in
    MarksIdle-waits c.args.cycle c.args.number place c.args.channel_state.now c.args.self.now _
    c.requires.places
    c.place_of-place.ensures.place below (sym c.is_open.ensures ∙ c.if-is_open.true)
    c.requires.number c.unmark-then-is_own.ensures.room c.mark.ensures.room
    c.unmark-then-is_own.ensures.away c.mark.ensures.here c.mark.ensures.away refl
    (elim c.then-is_own.branch [
      | then-is_own-via-then-is_own w ↦
          inr (slice_get-get_or c.args.self.now.numbers.items place c.index.result.now
          (omega (arith, size, below)) ∙ ap (λ n. Some n) (sym c.index.ensures ∙ w.if-is_own.true))
      | then-is_own-via-else-is_own+then-not-has w ↦
          let waiting = c.args.self.now.waiting in
          inl (is_marked-zero waiting place
          (ne_eqb (bit_of waiting place) 1 (λ one. cc (w.has.ensures.1 one))))
    ])

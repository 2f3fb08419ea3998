use Rattle.std.proofs.Common.{◌∙◌, ◌++◌, ◌∷◌, [], Some, None, ap, sym, append-nil}
use Rattle.aeth_group.specs.declared.grant.SeatLine.{SeatLine}
use Rattle.aeth_seats.specs.Places.{Place}
use Rattle.aeth_plan.proofs.SeatedCores.{lines_from-more}
use Rattle.aeth_plan.proofs.making.seated_cores.Goals.{in-Some+in_ok-push, in_default}
use Rattle.aeth_plan.proofs.making.seated_cores.Goals as goal

-- One more core.
pub loop-core-preserved : goal.loop-core-preserved
loop-core-preserved c =
    let n = c.loop-core.core in
    let places = c.args.seats.now.places in
    elim c.match-seat.branch [
      | in-Some+in_ok-push w ↦
          let seat : Place = (w.in-Some.ni, w.in-Some.seat) in
          let line : SeatLine = record { core = record { 0 = n }; ni = seat.0; seat = seat.1 } in
          let more = lines_from-more places n (Some seat) (sym c.seat.ensures ∙ w.in-Some.is) in
          ap (λ (v : _). v.items) w.lines-is ∙ w.in_ok-push.ensures.items
          ∙ ap (λ lines. lines ++ line ∷ []) c.loop-core.invariant ∙ sym more
      | in_default w ↦
          let more = lines_from-more places n None (sym c.seat.ensures ∙ w.in_default.is) in
          ap (λ (v : _). v.items) w.lines-is ∙ c.loop-core.invariant ∙ sym (append-nil _)
          ∙ sym more
    ]

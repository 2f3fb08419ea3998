use Rattle.std.proofs.Common.{◌≡◌, ◌∙◌, ◌++◌, ◌∷◌, [], Bool, ℕ, sym, ap, arith}
use Rattle.aeth_seats.specs.{Places.has_free, Seats.SeatsData, Seats.interfaces}
use Rattle.aeth_seats.proofs.SeatLemmas.{interfaces-fails, interfaces-passes}
use Rattle.aeth_seats.proofs.seats.Seats.with_free.Goals.{then-has_free+in_ok-push, else-has_free}
use Rattle.aeth_seats.proofs.seats.Seats.with_free.Goals as goal

-- One more interface.
pub loop-ni-preserved : goal.loop-ni-preserved
loop-ni-preserved c =
    let n = c.loop-ni.ni in
    let test : ℕ → Bool = has_free c.args.self.now.places in
    let is : test n ≡ has_free c.self.inside.table.places n =
    ap (λ (s : SeatsData). has_free s.places n) (sym c.self.view_is) in
    elim c.if-has_free.branch [
      | then-has_free+in_ok-push w ↦
          ap (λ (v : _). v.items) w.nis-is ∙ w.in_ok-push.ensures.items
          ∙ ap (λ (ns : _). ns ++ record { 0 = n } ∷ []) c.loop-ni.invariant
          ∙ sym (interfaces-passes n test (is ∙ sym c.has_free.ensures ∙ w.if-has_free.true))
      | else-has_free w ↦
          ap (λ (v : _). v.items) w.nis-is ∙ c.loop-ni.invariant
          ∙ sym (interfaces-fails n test (is ∙ sym c.has_free.ensures ∙ w.if-has_free.false))
    ]

-- All interfaces were seen.
pub returns : goal.returns
returns c =
    let end = c.loop-ni.auto.ni-end in
    let end' = c.loop-ni-test.false in
    let nis = c.nis-ni-end.ensures.nis in
    let on = ap (λ (s : SeatsData). s.nis) c.self.view_is in
    c.loop-ni.invariant
    ∙ ap (λ n. interfaces n (has_free c.args.self.now.places)) (omega arith)

use Rattle.std.proofs.Common.{◌≡◌, ◌∙◌, ◌++◌, ◌∷◌, [], Bool, ℕ, sym, ap, arith, eq-eqb, ne_eqb}
use Rattle.aeth_seats.specs.Seats.{is_crowded, SeatsData, interfaces}
use Rattle.aeth_seats.proofs.SeatLemmas.{interfaces-fails, interfaces-passes}
use Rattle.aeth_seats.proofs.seats.Seats.with_one_free.Goals.{then-free_count-eq1+in_ok-push}
use Rattle.aeth_seats.proofs.seats.Seats.with_one_free.Goals.{else-free_count-eq1}
use Rattle.aeth_seats.proofs.seats.Seats.with_one_free.Goals as goal

-- One more interface.
pub loop-ni-preserved : goal.loop-ni-preserved
loop-ni-preserved c =
    let n = c.loop-ni.ni in
    let test : ℕ → Bool = is_crowded c.args.self.now.places in
    let is : test n ≡ is_crowded c.self.inside.table.places n =
    ap (λ (s : SeatsData). is_crowded s.places n) (sym c.self.view_is) in
    elim c.if-free_count-eq1.branch [
      | then-free_count-eq1+in_ok-push w ↦
          ap (λ (v : _). v.items) w.nis-is ∙ w.in_ok-push.ensures.items
          ∙ ap (λ (ns : _). ns ++ record { 0 = n } ∷ []) c.loop-ni.invariant
          ∙ sym (interfaces-passes n test (is ∙ eq-eqb _ _ (sym c.free_count.ensures ∙ w.if-free_count-eq1.true)))
      | else-free_count-eq1 w ↦
          ap (λ (v : _). v.items) w.nis-is ∙ c.loop-ni.invariant
          ∙ sym (interfaces-fails n test (is ∙ ne_eqb _ _ (λ one. w.if-free_count-eq1.false (c.free_count.ensures ∙ one))))
    ]

-- All interfaces were seen.
pub returns : goal.returns
returns c =
    let end = c.loop-ni.auto.ni-end in
    let end' = c.loop-ni-test.false in
    let nis = c.nis-ni-end.ensures.nis in
    let on = ap (λ (s : SeatsData). s.nis) c.self.view_is in
    c.loop-ni.invariant
    ∙ ap (λ n. interfaces n (is_crowded c.args.self.now.places)) (omega arith)

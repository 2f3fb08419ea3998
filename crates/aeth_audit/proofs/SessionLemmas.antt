-- Of sessions that go in their order, the last that has gone is the one that may be open.
use Rattle.std.proofs.Common.{◌≡◌, ◌∙◌, ◌<◌, ◌≤◌, ◌-◌, ℕ, true, false, List, Some, slice_get, sym}
use Rattle.std.proofs.Common.{ap, subst, inl, inr, arith, eq-eqb, eqb-true, le-leb, leb-true, ◌==◌}
use Rattle.std.proofs.Common.{◌&&◌, ◌↔◌, IsTrue, nat_le}
use Rattle.std.proofs.lemmas.Bool.{and_from, and_parts, cases_lt, false≢true}
use Rattle.std.proofs.lemmas.Option.{get_or_from_slice_get, same_Some, slice_get_within}
use Rattle.std.specs.List.Sorted.{IsPartitionPoint}
use Rattle.aeth_base.proofs.Members.{Contains-slice_get, slice_get-Contains}
use Rattle.aeth_report.specs.{Sessions.MayInject, declared.session.Session.Session}
use Rattle.aeth_audit.specs.OpenSessions.{HasOpen, IsLastAlone}
use Rattle.aeth_audit.specs.Reservations.{may_inject}
use Rattle.aeth_audit.proofs.ReservationLemmas.{is-may, may-is}

module _ (sessions : List Session) (group u gone : ℕ)
    (point : IsPartitionPoint (λ session. nat_le session.go u ≡ true)
    (λ session. nat_le session.go u ≡ false) sessions gone) where
  -- One that goes stands before the point.
  before : (k : ℕ) (session : Session) → slice_get sessions k ≡ Some session → session.go ≤ u
      → k < gone
  before k session at goes = elim (cases_lt k gone) [
    | inl less ↦ less
    | inr past ↦
        let not_gone = subst (λ (x : Session). nat_le x.go u ≡ false)
        (get_or_from_slice_get sessions k session session at)
        (point.1 k session past (slice_get_within sessions k session at)) in
        absurd (false≢true (sym not_gone ∙ le-leb session.go u goes))
  ]

  -- Where none has gone, none is open.
  pub none-open : gone ≡ 0 → HasOpen sessions group u → ⊥
  none-open none open_one =
      let (k, at) = slice_get-Contains sessions open_one.session open_one.has in
      let less = before k open_one.session at open_one.may.goes in
      absurd (omega arith)

  -- What is open is the last that has gone.
  pub last-open : (last : Session) → 1 ≤ gone → slice_get sessions (gone - 1) ≡ Some last
      → IsLastAlone sessions u → HasOpen sessions group u
      → (last.group.0 ≡ group) × MayInject last u
  last-open last some at alone open_one =
      let session = open_one.session in
      let (k, at_k) = slice_get-Contains sessions session open_one.has in
      let less = before k session at_k open_one.may.goes in
      let goes = leb-true last.go u (subst (λ (x : Session). nat_le x.go u ≡ true)
      (get_or_from_slice_get sessions (gone - 1) last last at)
      (point.0 (gone - 1) last (omega arith) (omega arith))) in
      elim (cases_lt k (gone - 1)) [
        | inl earlier ↦ absurd (alone k (gone - 1) session last at_k at earlier goes open_one.may)
        | inr past ↦
            let place : k ≡ gone - 1 = omega arith in
            let same : session ≡ last =
            same_Some session last (sym at_k ∙ ap (slice_get sessions) place ∙ at) in (
              sym (ap (λ (x : Session). x.group.0) same) ∙ open_one.group_is,
              subst (λ (x : Session). MayInject x u) same open_one.may,
            )
      ]

  -- So the test of the last that has gone decides.
  pub open-is : (last : Session) → 1 ≤ gone → slice_get sessions (gone - 1) ≡ Some last
      → IsLastAlone sessions u
      → IsTrue (last.group.0 == group && may_inject last u) ↔ HasOpen sessions group u
  open-is last some at alone = (
    λ passes.
        let both = and_parts (last.group.0 == group) (may_inject last u) passes in
        record {
          session = last;
          has = Contains-slice_get sessions (gone - 1) last at;
          group_is = eqb-true last.group.0 group both.0;
          may = may-is last u both.1;
        },
    λ open_one.
        let is = last-open last some at alone open_one in
        and_from (last.group.0 == group) (may_inject last u) (eq-eqb last.group.0 group is.0)
        (is-may last u is.1),
  )

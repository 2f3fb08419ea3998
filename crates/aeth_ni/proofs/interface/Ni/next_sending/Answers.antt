use Rattle.std.proofs.Common.{◌≡◌, ◌<◌, ◌∙◌, ℕ, Option, ap, arith, length, subst, sym}
use Rattle.aeth_ni.specs.{Component.emitted_by, Interface.InterfaceState}
use Rattle.aeth_ni.proofs.RestingLemmas.{queue_at_cycle-round}
use Rattle.aeth_ni.proofs.interface.Ni.next_sending.Goals as goal

-- A cycle of which the slot comes round again sends nothing either.
pub returns-clause-mute : goal.returns-clause-mute
returns-clause-mute c = λ cycle after below.
    let ni = c.args.self.now in
    let some : 0 < length ni.entries =
    subst (λ (ni : InterfaceState). 0 < length ni.entries) c.self.view_is
    c.self.invariant.some_slot in
    let slots : length c.self.inside.entries.items ≡ length ni.entries =
    ap (λ (ni : InterfaceState). length ni.entries) c.self.view_is in
    let round = queue_at_cycle-round ni.entries c.args.from cycle some after in
    ap (λ (entry : Option ℕ). emitted_by entry ni.queues) (sym round.4)
    ∙ c.loop-cycle.invariant round.0 round.1
    (omega (
      arith,
      round.2,
      round.3,
      slots,
      c.self.inside.entries.ok.0,
      c.len.ensures,
      c.min-span.ensures,
      c.loop-cycle-test.false,
    ))

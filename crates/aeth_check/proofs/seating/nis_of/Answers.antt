use Rattle.std.proofs.Common.{◌≡◌, ◌∙◌, All, List, None, Option, length, refl, sym, ap, subst}
use Rattle.std.proofs.Common.{arith}
use Rattle.aeth_base.{proofs.Lists.written_back, specs.declared.ids.NiId.NiId}
use Rattle.aeth_check.{specs.Seats.AreSeatedAt, proofs.SeatLaws.none_seated}
use Rattle.aeth_check.proofs.seating.nis_of.Goals as goal

-- No core has an interface yet.
pub put_nis-requires : goal.put_nis-requires
put_nis-requires c =
    none_seated _ c.deref_mut.result.now refl
    (subst (λ (nis : List (Option NiId)). All (λ (ni : Option NiId). ni ≡ None) nis)
    (sym c.deref_mut.ensures.value) c.in_ok-nis.ensures.none)

-- The table was written.
pub returns : goal.returns
returns c =
    let size : length c.deref_mut.result.now ≡ c.args.cores =
    ap (λ (nis : List (Option NiId)). length nis) c.deref_mut.ensures.value
    ∙ c.in_ok-nis.ensures.size in
    subst (λ (nis : List (Option NiId)). AreSeatedAt c.args.seats.now c.args.cores nis)
    (sym (written_back c.in_ok-nis.nis.items c.put_nis.new.nis c.in_ok-nis.nis.len
    (omega arith)
    (omega (arith, c.put_nis.ensures.size, size, c.in_ok-nis.ensures.size))))
    (subst (λ n. AreSeatedAt c.args.seats.now n c.put_nis.new.nis) size c.put_nis.ensures)

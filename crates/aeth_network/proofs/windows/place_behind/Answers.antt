use Rattle.std.proofs.Common.{◌≡◌, ◌+◌, arith, inl, inr, slice_get, sym, ap, ◌∙◌}
use Rattle.std.proofs.lemmas.Bool.{cases_lt}
use Rattle.aeth_network.proofs.WindowLemmas.{over-later}
use Rattle.aeth_network.proofs.windows.place_behind.Goals as goal

-- Those before the first place are.
pub windows-init : goal.windows-init
windows-init c =
    over-later c.args.from c.args.time (c.args.time + 1) c.args.windows.now (omega arith) c.requires

-- One more is.
pub windows-preserved : goal.windows-preserved
windows-preserved c =
    let windows = c.args.windows.now in
    let here = c.is_over.ensures.over c.windows-test.true in
    record {
      over = λ number t window less at since. elim (cases_lt number c.windows.place) [
        | inl before ↦ c.windows.invariant.over number t window before at since
        | inr last ↦
            let same : number ≡ c.windows.place = omega arith in
            here t window (ap (slice_get windows) (sym same) ∙ at) (omega arith)
      ];
    }

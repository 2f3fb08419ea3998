use Rattle.std.proofs.Common.{◌≡◌, ◌∙◌, ℕ, ◌+◌, length, refl, subst, arith}
use Rattle.std.proofs.lemmas.Option.{slice_get_read}
use Rattle.aeth_audit.specs.Places.{Adds, IsOfGrants}
use Rattle.aeth_audit.proofs.CellLemmas.{adds-both, adds-same}
use Rattle.aeth_audit.proofs.PlaceLemmas.{are_places, of_grants-more}
use Rattle.aeth_audit.proofs.places.put_all.Goals as goal

-- One more grant is put in.
pub loop-number-preserved : goal.loop-number-preserved
loop-number-preserved c =
    let chip = c.args.chip.now in
    let grants = c.args.grants.now in
    let grant = c.index-grants-number.result in
    let k = c.loop-number.number in
    let at = slice_get_read grants (length grants) k grant refl c.loop-number-test.true
    c.index-grants-number.is in
    let so_far = c.loop-number.invariant in
    let old = c.args.cells.now in
    let new = c.put_grant.new.cells in
    record {
      size = c.put_grant.ensures.size ∙ so_far.size;
      adds = adds-same _ (IsOfGrants chip grants (k + 1)) old new
          (adds-both _ _ old c.loop-number.cells new so_far.adds c.in_ok-put_grant.ensures.adds)
          (of_grants-more chip grants k grant at);
    }

-- All grants were put in.
pub returns-clause-places : goal.returns-clause-places
returns-clause-places c =
    let chip = c.args.chip.now in
    let grants = c.args.grants.now in
    let end : c.loop-number.number ≡ length grants = omega arith in
    are_places chip grants c.args.cells.now c.loop-number.cells c.requires.empty
    (subst (λ (n : ℕ). Adds (IsOfGrants chip grants n) c.args.cells.now c.loop-number.cells) end
    c.loop-number.invariant.adds)

use Rattle.std.proofs.Common.{◌≡◌, ◌∙◌, ℕ, ◌++◌, List, drop, length, take, ap, subst, sym, arith}
use Rattle.std.proofs.Math.Seq.{take-append_seam}
use Rattle.std.specs.declared.{alloc.Global.Global, vec.Vec.Vec}
use Rattle.aeth_audit.specs.{Places.ArePlaces, declared.places.Place.Place}
use Rattle.aeth_audit.proofs.places.Places.of.Goals as goal

-- The places were put into all cells.
pub returns-clause-places : goal.returns-clause-places
returns-clause-places c =
    let cells = c.in_ok-cells.cells in
    let new = c.put_all.new.cells in
    let rest = drop (length new) cells.items in
    let long : cells.len ≡ length new = omega arith in
    let same : take cells.len (new ++ rest) ≡ new =
    ap (λ (n : ℕ). take n (new ++ rest)) long ∙ take-append_seam new rest in
    subst (λ (all : List (Vec Place Global)). ArePlaces c.args.chip.now c.args.grants.now all)
    (sym same) c.in_ok-put_all.ensures.places

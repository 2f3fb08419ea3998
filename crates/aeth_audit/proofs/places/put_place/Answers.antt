use Rattle.std.proofs.Common.{◌≡◌, ◌∙◌, ℕ, ◌+◌, refl, subst, sym, arith}
use Rattle.std.proofs.lemmas.Bool.{false≢true}
use Rattle.aeth_audit.specs.Places.{Adds, IsInCell}
use Rattle.aeth_audit.proofs.CellLemmas.{adds-both, adds-none, adds-same, pushed-adds}
use Rattle.aeth_audit.proofs.PlaceLemmas.{in_cell-has, in_cell-none, in_cell-other}
use Rattle.aeth_audit.proofs.places.put_place.Goals.{else-has, then-has+in_ok-push_at}
use Rattle.aeth_audit.proofs.places.put_place.Goals as goal

-- No slot is put in yet.
pub loop-slot-init : goal.loop-slot-init
loop-slot-init c = record {
  size = refl;
  adds = adds-none (IsInCell c.args.first c.args.slots.now.slots 0 c.args.place) c.args.cells.now
      (in_cell-none c.args.first c.args.slots.now.slots c.args.place);
}

-- One more slot is put in, where the set has it.
pub loop-slot-preserved : goal.loop-slot-preserved
loop-slot-preserved c =
    let first = c.args.first in
    let slots = c.args.slots.now.slots in
    let this = c.args.place in
    let k = c.loop-slot.slot in
    let old = c.args.cells.now in
    let so_far = c.loop-slot.invariant in
    elim c.if-has.branch [
      | then-has+in_ok-push_at w ↦ rw w.cells-is (record {
        size = w.push_at.ensures.size ∙ so_far.size;
        adds = adds-same _ (IsInCell first slots (k + 1) this) old w.push_at.new.cells
            (adds-both _ _ old c.loop-slot.cells w.push_at.new.cells so_far.adds
            (pushed-adds (first + k) this c.loop-slot.cells w.push_at.new.cells
            w.in_ok-push_at.ensures.cells))
            (in_cell-has first slots this k (c.has.ensures.0 w.if-has.true));
      })
      | else-has w ↦ rw w.cells-is (record {
        size = so_far.size;
        adds = adds-same _ (IsInCell first slots (k + 1) this) old c.loop-slot.cells so_far.adds
            (in_cell-other first slots this k
            (λ has. false≢true (sym w.if-has.false ∙ c.has.ensures.1 has)));
      })
    ]

-- All slots were looked at.
pub returns-clause-adds : goal.returns-clause-adds
returns-clause-adds c =
    let end : c.loop-slot.slot ≡ c.args.slots.now.size = omega arith in
    subst (λ (n : ℕ). Adds (IsInCell c.args.first c.args.slots.now.slots n c.args.place)
    c.args.cells.now c.loop-slot.cells) end c.loop-slot.invariant.adds

use Rattle.std.proofs.Common.{◌∙◌, ◌<◌, length, slice_index_or, subst, sym, All}
use Rattle.std.proofs.lemmas.List.Elements.{All-map}
use Rattle.aeth_clocked.specs.Wires.{AreLinks}
use Rattle.aeth_router.specs.{Part.after_of, Part.inputs_of, PartAgreement.inputs_of-after}
use Rattle.aeth_router.specs.{declared.part.Part.Part}
use Rattle.aeth_callers.proofs.clocked.step.Goals as goal

-- A component keeps its inputs when it drives, and no wire is added.
pub latch_all-requires-clause-links : goal.latch_all-requires-clause-links
latch_all-requires-clause-links c =
    let has : Part → Type 0 = λ part. AreLinks (inputs_of part) (length c.drive_all.new.wires) in
    subst (All has) (sym c.drive_all.ensures.parts)
    (All-map has (λ part. after_of part c.args.cycle) c.args.parts.now (λ k d at link is.
    subst (λ n. link < n) (sym c.drive_all.ensures.wires.links)
    (c.requires.inputs k d at link
    (sym (inputs_of-after (slice_index_or c.args.parts.now k d) c.args.cycle link) ∙ is))))

use Rattle.std.proofs.Common.{◌∙◌, ◌++◌, ◌∷◌, [], append_assoc, refl}
use Rattle.aeth_document.specs.Arrays.{texts_in}
use Rattle.aeth_app.proofs.PartLemmas.{length-named_marks, named_marks-none}
use Rattle.aeth_app.proofs.parts.named_marks.Goals as goal

-- No text is seen yet.
pub loop-text-init : goal.loop-text-init
loop-text-init c =
    let none = c.in_ok-marks.ensures.items_if_clones_equal (λ y same. same) in
    record {
      seen = [];
      all = rw c.into_iter-text-iterator.ensures.into_iter_gives refl;
      marked = rw c.len.ensures at none ∙ named_marks-none c.args.names.now;
    }

-- There is a mark for each name.
pub mark-requires-clause-size : goal.mark-requires-clause-size
mark-requires-clause-size c =
    rw c.loop-text.invariant.marked
    (length-named_marks c.args.names.now c.loop-text.invariant.seen)

-- One text more is seen.
pub loop-text-preserved : goal.loop-text-preserved
loop-text-preserved c =
    let seen = c.loop-text.invariant.seen in
    let text = c.in-Some.text.now in
    record {
      seen = seen ++ text ∷ [];
      all = rw (append_assoc seen (text ∷ []) (texts_in c.next.new.self))
          (rw c.in-Some.ensures.steps at c.loop-text.invariant.all);
      marked = c.mark.ensures seen c.loop-text.invariant.marked;
    }

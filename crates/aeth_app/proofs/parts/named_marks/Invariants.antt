use Rattle.std.proofs.Common.{◌≡◌, ◌++◌, ℕ, List}
use Rattle.aeth_document.specs.Arrays.{texts_in}
use Rattle.aeth_app.specs.Parts.{named_marks}
use Rattle.aeth_app.proofs.parts.named_marks.Given as goal

-- Some texts were seen, and the others are left.
abbrev pub invariant-loop-text : goal.invariant-loop-text
invariant-loop-text l = record {
  seen : List (List ℕ);
  all : seen ++ texts_in l.text-iterator ≡ texts_in l.fn.texts;
  marked : l.marks.items ≡ named_marks l.names seen;
}

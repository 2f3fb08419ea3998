use Rattle.std.proofs.Common.{◌≡◌, ◌++◌, drop, map}
use Rattle.aeth_explain.specs.{Certificate.cuts_of, CutsText.blocks_lines, CutsText.line_of}
use Rattle.aeth_group.specs.Members.{groups_of}
use Rattle.aeth_text.specs.Spelling.{text_of_lines}
use Rattle.aeth_explain_commands.specs.Explain.{AreBehind}
use Rattle.aeth_explain_commands.proofs.explain.explanation.Given as goal

-- The blocks of the tries that are left are still to be printed.
abbrev pub invariant-loop-i : goal.invariant-loop-i
invariant-loop-i l =
    let cuts = cuts_of l.design.chip (groups_of l.design.app) in
    record {
      text : l.text.items ++ text_of_lines (blocks_lines l.design.app
          (map line_of (drop l.i l.refusals.tries)) (map cuts (drop l.i l.refusals.tries)))
          ≡ l.initial.text.items ++ text_of_lines (blocks_lines l.design.app
          (map line_of l.refusals.tries) (map cuts l.refusals.tries));
      tables : AreBehind l.design l.refusals.tries l.i l.tables;
    }

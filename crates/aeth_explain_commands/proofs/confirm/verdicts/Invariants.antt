use Rattle.std.proofs.Common.{◌≡◌, drop}
use Rattle.aeth_explain_commands.specs.Explain.{AreBehind, verdicts_job}
use Rattle.aeth_explain_commands.proofs.confirm.verdicts.Given as goal

-- What is left comes to what all comes to.
abbrev pub invariant-loop-i : goal.invariant-loop-i
invariant-loop-i l = record {
  job : verdicts_job l.design l.line (drop l.i l.refusals.tries) (drop l.i l.blocks)
      ≡ verdicts_job l.design 2 l.refusals.tries l.blocks;
  tables : AreBehind l.design l.refusals.tries l.i l.tables;
}

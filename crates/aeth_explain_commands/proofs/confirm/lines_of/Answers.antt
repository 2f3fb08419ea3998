use Rattle.std.proofs.Common.{◌∙◌, ◌++◌, ◌∷◌, [], List, ap, sym}
use Rattle.aeth_explain.specs.declared.try_line.TryLine.{TryLine}
use Rattle.aeth_explain_commands.proofs.ExplainLemmas.{lines-more}
use Rattle.aeth_explain_commands.proofs.confirm.lines_of.Goals as goal

-- One line more.
pub loop-i-preserved : goal.loop-i-preserved
loop-i-preserved c =
    c.in_ok-push.ensures.items
    ∙ ap (λ (ls : List TryLine). ls ++ record {
      unit = c.refusal-side.result.unit;
      side = c.refusal-side.result.side;
      turn = c.refusal-side.result.turn;
    } ∷ []) c.loop-i.invariant
    ∙ sym (lines-more c.args.tries.now c.loop-i.i c.refusal-side.result c.refusal-side.ensures)

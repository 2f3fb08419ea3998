use Rattle.std.proofs.Common.{◌∙◌, ◌++◌, List, ap, arith, map, refl, codes}
use Rattle.aeth_explain.specs.{Certificate.cuts_of, CutsText.cuts_text, CutsText.line_of}
use Rattle.aeth_group.specs.Members.{groups_of}
use Rattle.aeth_paths.specs.Trials.{TrialData}
use Rattle.aeth_text.specs.Spelling.{ended_line}
use Rattle.aeth_explain_commands.proofs.ExplainLemmas.{first-tables, text-more, text-whole}
use Rattle.aeth_explain_commands.proofs.explain.explanation.Goals as goal

-- Nothing was printed, and the tables have no grants.
pub loop-i-init : goal.loop-i-init
loop-i-init c = record {
  text = refl;
  tables = first-tables c.args.design.now c.args.refusals.now.tries _ c.in_ok-tables.ensures.count
      (rw c.requires.groups at c.in_ok-tables.ensures.tables);
}

-- One block more.
pub loop-i-preserved : goal.loop-i-preserved
loop-i-preserved c =
    let tries = c.args.refusals.now.tries in
    let app = c.args.design.now.app in
    let cuts = cuts_of c.args.design.now.chip (groups_of app) in
    record {
      text = text-more app cuts tries c.loop-i.i c.in_ok-trial.trial c.loop-i.text.items
          c.push_certificate.new.text.items c.in_ok-trial.ensures.trial
          c.in_ok-push_certificate.ensures
          ∙ c.loop-i.invariant.text;
      tables = c.in_ok-trial.ensures.behind;
    }

-- All blocks, and the end.
pub returns : goal.returns
returns c =
    let tries = c.args.refusals.now.tries in
    let app = c.args.design.now.app in
    let cuts = cuts_of c.args.design.now.chip (groups_of app) in
    text-whole app cuts tries c.loop-i.i c.push_head.new.out.items c.loop-i.text.items
    c.push_end.new.out.items
    (c.in_ok-push_head.ensures.ok ∙ ap (λ t. t ++ ended_line (codes "explain 1")) c.new-text.ensures.items)
    c.loop-i.invariant.text (omega (arith, c.loop-i-test.false, c.len-i-end.ensures))
    c.in_ok-push_end.ensures.ok
    ∙ ap (λ (ts : List TrialData). cuts_text app (map line_of ts) (map cuts ts)) c.requires.tries

use Rattle.std.proofs.Common.{◌∙◌, sym, arith}
use Rattle.aeth_audit.specs.{Judged.design_for, declared.row.LinkRow.LinkRow}
use Rattle.aeth_audit.proofs.RowLemmas.{first-here, first-later, first-none}
use Rattle.aeth_audit.proofs.judge.Judge.first_fault.Goals as goal

-- No row.
abbrev none : LinkRow
none = record {
  cycle = 0;
  link = record { 0 = 0 };
  flit = record { header = 0; first = 0; second = 0 };
}

-- A row that breaks no rule is passed over.
pub loop-row-preserved : goal.loop-row-preserved
loop-row-preserved c = record {
  number = omega arith;
  fault = λ app switches of.
      let judge = c.args.self.now in
      first-later (design_for app judge) judge.timeline.now judge.cycles judge.rows.now
      c.loop-row.number c.loop-row.row-index none c.loop-row-test.true
      (sym c.in_default.is ∙ c.rule_of.ensures app switches of)
      ∙ c.loop-row.invariant.fault app switches of;
}

-- The first that breaks one is the fault.
pub returns-in-Some : goal.returns-in-Some
returns-in-Some c = λ app switches of.
    let judge = c.args.self.now in
    first-here (design_for app judge) judge.timeline.now judge.cycles judge.rows.now
    c.loop-row.number c.loop-row.row-index none c.in-Some.rule c.loop-row-test.true
    (sym c.in-Some.is ∙ c.rule_of.ensures app switches of)
    ∙ c.loop-row.invariant.fault app switches of

-- No row breaks one.
pub returns : goal.returns
returns c = λ app switches of.
    let judge = c.args.self.now in
    first-none (design_for app judge) judge.timeline.now judge.cycles judge.rows.now
    c.loop-row.number c.loop-row.row-index c.loop-row-test.false
    ∙ c.loop-row.invariant.fault app switches of

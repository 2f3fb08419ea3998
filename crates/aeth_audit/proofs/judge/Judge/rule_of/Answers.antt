use Rattle.std.proofs.Common.{◌∙◌}
use Rattle.aeth_audit.proofs.JudgeLemmas.{rule-found, rule-none}
use Rattle.aeth_audit.proofs.judge.Judge.rule_of.Goals as goal

-- The link isn't reserved.
pub returns-in-None : goal.returns-in-None
returns-in-None c = λ app switches of.
    rule-none app switches c.args.self.now of c.args.row.now c.in-None.ensures.none

-- It is, at this place.
pub returns-in-Some : goal.returns-in-Some
returns-in-Some c = λ app switches of.
    let found = c.in-Some.ensures.some in
    c.rule_at.ensures found.grant found.is_grant app switches of
    ∙ rule-found app switches c.args.self.now of c.args.row.now c.in-Some.place found

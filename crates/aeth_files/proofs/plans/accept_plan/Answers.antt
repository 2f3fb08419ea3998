use Rattle.std.proofs.Common.{◌∙◌, refl, sym}
use Rattle.aeth_answers.proofs.{FileLemmas.IsAnswer-not_granted, TaskLemmas.IsAfter-same}
use Rattle.aeth_plan.proofs.DesignLaws.{design_of}
use Rattle.aeth_files.proofs.plans.accept_plan.Goals as goal

-- The plan is accepted, and what comes next is left.
pub returns-in-Accepted-clause-judges : goal.returns-in-Accepted-clause-judges
returns-in-Accepted-clause-judges c =
    let is = rw c.requires.groups at (sym c.in_ok-check.ensures.verdict ∙ c.in-Accepted.is) in
    λ now. record {
      after = IsAfter-same now;
      faultless = λ name. refl;
      judges = λ next new answer answers. rw is answers;
    }

-- It is accepted for the chip and the application.
pub returns-in-Accepted-clause-design : goal.returns-in-Accepted-clause-design
returns-in-Accepted-clause-design c =
    design_of c.args.design.now.chip c.args.design.now.app c.args.planned.now.groups
    c.args.planned.now.plan c.slots-chip_slots.ensures.chip c.slots-app_slots.ensures.app
    c.requires.groups c.requires.plan (c.in_ok-check.ensures.accepted.0 c.in-Accepted.is)

-- A unit lacks a grant for a side.
pub returns-in_ok-missing-in-Missing-clause-judges : goal.returns-in_ok-missing-in-Missing-clause-judges
returns-in_ok-missing-in-Missing-clause-judges c =
    let is = rw c.requires.groups at (sym c.in_ok-check.ensures.verdict ∙ c.in-Missing.is) in
    λ now. record {
      after = IsAfter-same now;
      faultless = tt;
      judges = λ next. rw is (IsAnswer-not_granted now _ _ c.in_ok-missing-in-Missing.ensures);
    }

-- The plan breaks a rule in its lines.
pub returns-in_ok-broken-in-Broken-clause-judges : goal.returns-in_ok-broken-in-Broken-clause-judges
returns-in_ok-broken-in-Broken-clause-judges c =
    let is = rw c.requires.groups at (sym c.in_ok-check.ensures.verdict ∙ c.in-Broken.is) in
    λ now. record {
      after = IsAfter-same now;
      faultless = tt;
      judges = λ next. rw is (IsAnswer-not_granted now _ _ c.in_ok-broken-in-Broken.ensures);
    }

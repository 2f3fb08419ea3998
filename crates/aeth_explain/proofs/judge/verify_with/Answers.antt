use Rattle.std.proofs.Common.{◌≡◌, ◌∙◌, ◌↔◌, subst, sym}
use Rattle.aeth_explain.specs.Cuts.{IsCertificate}
use Rattle.aeth_explain.specs.declared.verdict.CutVerdict.{CutVerdict, TheVariants.Complete}
use Rattle.aeth_explain.proofs.LeastLemmas.{least-named}
use Rattle.aeth_explain.proofs.VerdictLemmas.{first-reordered, verdict-all, verdict-complete}
use Rattle.aeth_explain.proofs.VerdictLemmas.{verdict-no, verdict-open}
use Rattle.aeth_explain.proofs.judge.verify_with.Goals as goal

-- A list is no cut.
pub returns-in-Some-clause-gives : goal.returns-in-Some-clause-gives
returns-in-Some-clause-gives c =
    verdict-no c.args.judge.now.chip c.args.judge.now.groups c.args.judge.now.trial c.args.cuts.now c.in-Some.place
    (sym c.first_no_cut.ensures.place ∙ c.in-Some.is)

pub returns-in-Some-clause-complete : goal.returns-in-Some-clause-complete
returns-in-Some-clause-complete c =
    let chip = c.args.judge.now.chip in
    let gives = verdict-no chip c.args.judge.now.groups c.args.judge.now.trial c.args.cuts.now c.in-Some.place
    (sym c.first_no_cut.ensures.place ∙ c.in-Some.is) in
    subst (λ (v : CutVerdict). (v ≡ Complete)
    ↔ IsCertificate chip c.args.judge.now.groups c.args.judge.now.trial c.args.cuts.now) (sym gives)
    (verdict-complete chip c.args.judge.now.groups c.args.judge.now.trial c.chip-chip.ensures.is_chip
    c.args.cuts.now)

pub returns-in-Some-clause-least : goal.returns-in-Some-clause-least
returns-in-Some-clause-least c =
    least-named c.args.judge.now.chip c.args.judge.now.groups c.args.judge.now.trial c.chip-chip.ensures.is_chip
    c.args.cuts.now _
    (verdict-no c.args.judge.now.chip c.args.judge.now.groups c.args.judge.now.trial c.args.cuts.now c.in-Some.place
    (sym c.first_no_cut.ensures.place ∙ c.in-Some.is))

-- All are cuts, and no path is open.
pub returns-in-None-clause-gives : goal.returns-in-None-clause-gives
returns-in-None-clause-gives c =
    verdict-all c.args.judge.now.chip c.args.judge.now.groups c.args.judge.now.trial c.args.cuts.now
    (sym c.first_no_cut.ensures.place ∙ c.in_default.is)
    (sym (first-reordered _ c.args.judge.now.chip _ c.args.judge.now.trial c.args.cuts.now _ _
    c.chip-chip.ensures.chip c.trial.ensures.trial c.in_ok-index.ensures.same c.in_ok-first_open.ensures)
    ∙ c.in-None.is)

pub returns-in-None-clause-complete : goal.returns-in-None-clause-complete
returns-in-None-clause-complete c =
    let chip = c.args.judge.now.chip in
    let gives = verdict-all chip c.args.judge.now.groups c.args.judge.now.trial c.args.cuts.now
    (sym c.first_no_cut.ensures.place ∙ c.in_default.is)
    (sym (first-reordered _ c.args.judge.now.chip _ c.args.judge.now.trial c.args.cuts.now _ _
    c.chip-chip.ensures.chip c.trial.ensures.trial c.in_ok-index.ensures.same c.in_ok-first_open.ensures)
    ∙ c.in-None.is) in
    subst (λ (v : CutVerdict). (v ≡ Complete)
    ↔ IsCertificate chip c.args.judge.now.groups c.args.judge.now.trial c.args.cuts.now) (sym gives)
    (verdict-complete chip c.args.judge.now.groups c.args.judge.now.trial c.chip-chip.ensures.is_chip
    c.args.cuts.now)

pub returns-in-None-clause-least : goal.returns-in-None-clause-least
returns-in-None-clause-least c =
    least-named c.args.judge.now.chip c.args.judge.now.groups c.args.judge.now.trial c.chip-chip.ensures.is_chip
    c.args.cuts.now _
    (verdict-all c.args.judge.now.chip c.args.judge.now.groups c.args.judge.now.trial c.args.cuts.now
    (sym c.first_no_cut.ensures.place ∙ c.in_default.is)
    (sym (first-reordered _ c.args.judge.now.chip _ c.args.judge.now.trial c.args.cuts.now _ _
    c.chip-chip.ensures.chip c.trial.ensures.trial c.in_ok-index.ensures.same c.in_ok-first_open.ensures)
    ∙ c.in-None.is))

-- All are cuts, and a path is open.
pub returns-clause-gives : goal.returns-clause-gives
returns-clause-gives c =
    verdict-open c.args.judge.now.chip c.args.judge.now.groups c.args.judge.now.trial c.args.cuts.now c.in-Some-2.path
    (sym c.first_no_cut.ensures.place ∙ c.in_default.is)
    (sym (first-reordered _ c.args.judge.now.chip _ c.args.judge.now.trial c.args.cuts.now _ _
    c.chip-chip.ensures.chip c.trial.ensures.trial c.in_ok-index.ensures.same c.in_ok-first_open.ensures)
    ∙ c.in-Some-2.is)

pub returns-clause-complete : goal.returns-clause-complete
returns-clause-complete c =
    let chip = c.args.judge.now.chip in
    let gives = verdict-open chip c.args.judge.now.groups c.args.judge.now.trial c.args.cuts.now
    c.in-Some-2.path
    (sym c.first_no_cut.ensures.place ∙ c.in_default.is)
    (sym (first-reordered _ c.args.judge.now.chip _ c.args.judge.now.trial c.args.cuts.now _ _
    c.chip-chip.ensures.chip c.trial.ensures.trial c.in_ok-index.ensures.same c.in_ok-first_open.ensures)
    ∙ c.in-Some-2.is) in
    subst (λ (v : CutVerdict). (v ≡ Complete)
    ↔ IsCertificate chip c.args.judge.now.groups c.args.judge.now.trial c.args.cuts.now) (sym gives)
    (verdict-complete chip c.args.judge.now.groups c.args.judge.now.trial c.chip-chip.ensures.is_chip
    c.args.cuts.now)

pub returns-clause-least : goal.returns-clause-least
returns-clause-least c =
    least-named c.args.judge.now.chip c.args.judge.now.groups c.args.judge.now.trial c.chip-chip.ensures.is_chip
    c.args.cuts.now _
    (verdict-open c.args.judge.now.chip c.args.judge.now.groups c.args.judge.now.trial c.args.cuts.now c.in-Some-2.path
    (sym c.first_no_cut.ensures.place ∙ c.in_default.is)
    (sym (first-reordered _ c.args.judge.now.chip _ c.args.judge.now.trial c.args.cuts.now _ _
    c.chip-chip.ensures.chip c.trial.ensures.trial c.in_ok-index.ensures.same c.in_ok-first_open.ensures)
    ∙ c.in-Some-2.is))

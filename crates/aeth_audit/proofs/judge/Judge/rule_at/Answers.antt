use Rattle.std.proofs.Common.{◌≡◌, ◌∙◌, Bool, Option, ℕ, Some, None, cond, not, ap, sym}
use Rattle.std.proofs.lemmas.Option.{same_Some}
use Rattle.aeth_group.specs.declared.grant.Grant.{Grant}
use Rattle.aeth_audit.specs.{Audit.is_of_channel, Audit.rule_at, Judged.design_for}
use Rattle.aeth_audit.specs.{Judged.reservation_of, Limits.broken_off, Limits.foreign}
use Rattle.aeth_audit.proofs.judge.Judge.rule_at.Goals as goal

-- The two tests decide.
pub returns : goal.returns
returns c = λ grant at app switches of.
    let judge = c.args.self.now in
    let row = c.args.row.now in
    let place = c.args.place.now.place in
    let own = c.grant_of-grant.result.now in
    let design = design_for app judge in
    let same : grant ≡ own = same_Some grant own (sym at ∙ c.grant_of-grant.ensures) in
    let decided : Bool → Bool → Option ℕ = λ of joined.
    cond (not of) (Some foreign) (cond (not joined) (Some broken_off) None) in
    c.rule_by.ensures
    ∙ ap (λ (b : Bool). decided b c.is_joined.result) (c.is_of_channel.ensures app switches of)
    ∙ ap (λ (b : Bool). decided (is_of_channel design (reservation_of own place) row.flit) b)
    (c.is_joined.ensures app switches of)
    ∙ ap (λ (one : Grant). rule_at design judge.cycles judge.rows.now row
    (Some (reservation_of one place))) (sym same)

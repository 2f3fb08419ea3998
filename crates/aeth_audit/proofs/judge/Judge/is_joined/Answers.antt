use Rattle.std.proofs.Common.{◌∙◌, List, ◌&&◌, ap, sym}
use Rattle.aeth_base.specs.declared.ids.LinkId.{LinkId}
use Rattle.aeth_audit.{specs.Audit.has_after, specs.Audit.has_before, proofs.JudgeLemmas.own-path}
use Rattle.aeth_audit.proofs.judge.Judge.is_joined.Goals as goal

-- The rows and their numbers are those that rows are judged with.
pub is_joined-requires-clause-log : goal.is_joined-requires-clause-log
is_joined-requires-clause-log c = record {
  rise = c.requires.judge.rows;
  few = c.requires.judge.few;
  starts = c.requires.judge.starts;
}

-- The path is that of the reservation.
pub returns : goal.returns
returns c = λ app switches of.
    let judge = c.args.self.now in
    let place = c.args.place.now in
    let links = judge.chip.now.links in
    let path = own-path app switches judge of place.grant place.place c.args.grant.now
    c.requires.is_grant in
    c.is_joined.ensures ∙ ap (λ (path : List LinkId).
    has_before links judge.rows.now path place.place c.args.row.now
    && has_after links judge.rows.now judge.cycles path place.place c.args.row.now) (sym path)

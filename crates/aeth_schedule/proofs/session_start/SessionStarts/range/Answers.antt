use Rattle.std.proofs.Common.{◌≡◌, ◌∙◌, List, ap, sym, slice_range}
use Rattle.aeth_schedule.specs.ByLine.{session_start_at}
use Rattle.aeth_schedule.specs.declared.session_start.SessionStart.{SessionStart}
use Rattle.aeth_schedule.proofs.Ranges.{range-map}
use Rattle.aeth_schedule.proofs.session_start.SessionStarts.range.Goals as goal

-- They are sessions of the same lines.
pub returns : goal.returns
returns c =
    let inside = c.self.inside in
    sym (range-map (session_start_at inside.lines.now) inside.list.now c.args.from c.args.to)
    ∙ ap (λ (all : List SessionStart). slice_range all c.args.from c.args.to) c.self.view_is

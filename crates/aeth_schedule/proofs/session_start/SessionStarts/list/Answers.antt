use Rattle.std.proofs.{Common.◌∙◌, Common.ap, Common.map, Common.sym, lemmas.Simd.map-map}
use Rattle.aeth_schedule.specs.ByLine.{session_start_at}
use Rattle.aeth_schedule.specs.declared.session_start.SessionStart.{SessionStart}
use Rattle.aeth_schedule.proofs.session_start.SessionStarts.list.Goals as goal

-- Each goes in its own cycle.
pub returns : goal.returns
returns c =
    let inside = c.self.inside in
    sym (map-map (λ (one : SessionStart). one.channel_state.go) (session_start_at inside.lines.now)
    inside.list.now)
    ∙ ap (map (λ (one : SessionStart). one.channel_state.go)) c.self.view_is

use Rattle.std.proofs.Common.{◌∙◌, ap, arith, map, refl}
use Rattle.aeth_schedule.specs.declared.session_start.SessionStart.{SessionStart}
use Rattle.aeth_schedule.specs.declared.session_start.SessionStartByLine.{SessionStartByLine}
use Rattle.aeth_stimuli.specs.Stimuli.{Take}
use Rattle.aeth_network.proofs.MappedRows.{passed-keyed, rises-keyed}
use Rattle.aeth_network.proofs.QuietPlaces.{quiet-sooner}
use Rattle.aeth_network.proofs.given.Given.calm_until.Goals as goal

-- Sessions go in the cycles of their list.
pub quiet_until-until-requires : goal.quiet_until-until-requires
quiet_until-until-requires c =
    rises-keyed (λ (one : SessionStartByLine). one.go)
    (λ (one : SessionStart). one.channel_state.go) c.list.result.now
    c.args.self.now.schedule.session_starts
    (c.list.ensures ∙ ap (map (λ (one : SessionStart). one.channel_state.go))
    c.session_starts.ensures)
    c.requires.session_starts

-- The cycle is not behind that of any of the three.
pub returns-clause-session_starts : goal.returns-clause-session_starts
returns-clause-session_starts c =
    let takes = c.quiet_until-until-2.ensures.most in
    let enters = c.unentered_until.ensures.most in
    let go = λ (one : SessionStartByLine). one.go in
    let early = quiet-sooner go c.quiet_until-until.result c.unentered_until.result
    c.args.session_start c.list.result.now c.list.result.now refl (omega arith)
    c.quiet_until-until.ensures.quiet in
    let same = passed-keyed go (λ (one : SessionStart). one.channel_state.go)
    c.unentered_until.result
    c.list.result.now c.args.self.now.schedule.session_starts (c.list.ensures
    ∙ ap (map (λ (one : SessionStart). one.channel_state.go)) c.session_starts.ensures) in
    omega (arith, early, same)

pub returns-clause-takes : goal.returns-clause-takes
returns-clause-takes c =
    let enters = c.unentered_until.ensures.most in
    quiet-sooner (λ (one : Take). one.cycle) _ _ _ c.deref.result.now _ c.deref.ensures.value
    (omega arith) c.quiet_until-until-2.ensures.quiet

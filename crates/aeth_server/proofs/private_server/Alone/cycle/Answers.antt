use Rattle.std.proofs.Common.{◌+◌, ◌-◌, ◌≤◌, ap, arith}
use Rattle.aeth_base.specs.Limits.{max_path_delay}
use Rattle.aeth_server.specs.Limits.{max_session_words}
use Rattle.aeth_server.proofs.LastCounts.{entry-most, shifted-most}
use Rattle.aeth_server.proofs.private_server.Alone.cycle.Goals as goal

-- All counts stay within the words of a run.
pub invariant_of-self : goal.invariant_of-self
invariant_of-self c =
    let run = c.self.invariant.1 in
    let few : c.self.inside.arrived + c.args.words ≤ max_session_words =
    omega (arith, ap (λ s. s.arrived) c.self.view_is, c.requires.few) in
    let sent = entry-most max_session_words c.self.inside.sent 0 run.most_sent in
    let credited = entry-most max_session_words c.self.inside.credited 0 run.most_credited in
    let landed = entry-most max_session_words c.self.inside.sent (c.self.inside.shape.links - 1)
    run.most_sent in
    let words = c.going-words.ensures.within in
    let credits = c.going-credits.ensures.within in (
      c.self.invariant.0,
      record {
        most_buffer = run.most_buffer;
        most_arrived = few;
        most_taken =
            omega (arith, run.most_taken, landed, c.min.ensures, c.saturating_sub-2.ensures);
        most_sent = shifted-most _ _ (max_path_delay - 1) _ _ run.most_sent c.shifted-self-inside.ensures
            (omega (arith, few, sent, words, c.min-waiting.ensures, c.saturating_sub.ensures));
        most_credited = shifted-most _ _ (max_path_delay - 1) _ _ run.most_credited c.shifted-self-inside-2.ensures
            (omega (arith, run.most_taken, credited, credits, c.saturating_sub-owed.ensures));
      },
    )

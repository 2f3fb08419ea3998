use Rattle.std.proofs.Common.{◌≡◌, ◌<◌, ℕ, List, get_or, true}
use Rattle.aeth_base.specs.declared.ids.LinkId.{LinkId}
use Rattle.aeth_explain.specs.Cuts.{is_cut}
use Rattle.aeth_explain.proofs.try_judge.TryJudge.first_no_cut.Given as goal

-- All so far are cuts.
abbrev pub invariant-loop-i : goal.invariant-loop-i
invariant-loop-i l = (k : ℕ) (d : List LinkId) → k < l.i
    → is_cut l.self.chip l.self.groups l.self.trial (get_or l.cuts k d) ≡ true

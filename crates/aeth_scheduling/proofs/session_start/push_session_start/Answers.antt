use Rattle.std.proofs.Common.{arith}
use Rattle.aeth_scheduling.proofs.session_start.push_session_start.Goals as goal

-- There aren't so many words.
pub overflow_add-start : goal.overflow_add-start
overflow_add-start c =
    let start = c.start.ensures.most in
    let before = c.before-before_it.ensures.most in
    omega arith

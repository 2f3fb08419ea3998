use Rattle.std.proofs.Common.{All, take, IsTrue}
use Rattle.aeth_group.specs.Members.{is_kept}
use Rattle.aeth_scheduling.proofs.closing.stays.Given as goal

-- It is kept between the first and each so far.
abbrev pub invariant-loop-u : goal.invariant-loop-u
invariant-loop-u l =
    All (λ u. IsTrue (is_kept l.groups l.first.0 u.0 l.conn.0)) (take l.u-index l.entered)

use Rattle.std.proofs.Common.{append_assoc}
use Rattle.aeth_design_commands.proofs.allocate.push_refusal.Goals as goal

-- The words, one after the other.
pub returns : goal.returns
returns c =
    rw (
      c.in_ok-push.ensures.items,
      c.in_ok-push_count.ensures.ok,
      c.in_ok-push_side_of.ensures.ok,
      c.in_ok-extend_from_slice.ensures.items,
    ) (simp append_assoc)

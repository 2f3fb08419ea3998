use Rattle.std.proofs.Common.{append_assoc}
use Rattle.aeth_demo.proofs.mesh.push_link.Goals as goal

-- The pieces, one after the other.
pub returns : goal.returns
returns c =
    rw (
      c.in_ok-push_text-3.ensures,
      c.in_ok-push_labelled-2.ensures,
      c.in_ok-push_text-2.ensures,
      c.in_ok-push_labelled.ensures,
      c.in_ok-push_text.ensures,
    ) (simp append_assoc)

use Rattle.std.proofs.Common.{append_assoc}
use Rattle.aeth_demo.proofs.streams.push_connection.Goals as goal

-- The pieces, one after the other.
pub returns : goal.returns
returns c =
    rw (
      c.in_ok-push_text.ensures,
      c.in_ok-push_labelled-4.ensures,
      c.in_ok-push_labelled-3.ensures,
      c.in_ok-push_labelled-2.ensures,
      c.in_ok-push_labelled.ensures,
    ) (simp append_assoc)

use Rattle.std.proofs.{Common.◌≤◌, Common.arith, lemmas.List.Elements.All-replicate}
use Rattle.aeth_base.specs.Limits.{max_path_delay}
use Rattle.aeth_server.specs.Limits.{max_session_words}
use Rattle.aeth_server.proofs.private_server.Alone.new.Goals as goal

-- All counts are 0.
pub invariant_of-result : goal.invariant_of-result
invariant_of-result c =
    let none = All-replicate (λ n. n ≤ max_session_words) max_path_delay 0 (omega arith) in (
      c.requires.shape,
      record {
        most_buffer = c.requires.buffer;
        most_arrived = omega arith;
        most_taken = omega arith;
        most_sent = none;
        most_credited = none;
      },
    )

use Rattle.std.proofs.lemmas.Bool.{OnTrue_at}
use Rattle.aeth_base.proofs.TestLemmas.{true_from_IsTrue}
use Rattle.aeth_explain.proofs.open_paths.with_link.Goals as goal

-- There is room for it.
pub returns : goal.returns
returns c =
    OnTrue_at (true_from_IsTrue c.push.result (c.push.ensures.room.1 c.requires)) c.push.ensures.pushed

use Rattle.std.proofs.Common.{◌≡◌, ◌∙◌, suc, ◌+◌, ap, arith, subst}
use Rattle.aeth_server.specs.PrivateServer.{taken}
use Rattle.aeth_invariant.specs.RoutedSessions.{Owns, server_at}
use Rattle.aeth_invariant.proofs.Whole.{step}
use Rattle.aeth_invariant.proofs.laws.words_are_taken.Goals as goal

-- What has landed and wasn't taken is there.
pub returns : goal.returns
returns c sessions ok t old new wires at cycle number known own =
    let next : t + 1 ≡ suc t = omega arith in
    ap (λ n. taken (server_at sessions (sessions.opposite number)) n) next
    ∙ (step sessions ok t old new wires at cycle).takes number known
    (subst (λ n. Owns sessions number n) next own)

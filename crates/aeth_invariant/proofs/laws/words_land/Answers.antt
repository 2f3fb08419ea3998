use Rattle.std.proofs.Common.{◌≡◌, ◌∙◌, ℕ, suc, ◌+◌, ◌-◌, sym, ap, arith, subst}
use Rattle.aeth_server.specs.PrivateServer.{landed}
use Rattle.aeth_invariant.specs.Carried.{words_from}
use Rattle.aeth_invariant.specs.RoutedSessions.{Owns, flow_at, server_at}
use Rattle.aeth_invariant.proofs.Landing.{lands}
use Rattle.aeth_invariant.proofs.laws.words_land.Goals as goal

-- A flit at the end of its path was injected a path delay before.
pub returns : goal.returns
returns c sessions ok t wires exact number known own =
    let next : t + 1 ≡ suc t = omega arith in
    let then : suc (suc t) ≡ t + 2 = omega arith in
    let server = server_at sessions number in
    let values = (flow_at sessions number).values in
    (lands sessions ok t wires exact number known
    (subst (λ n. Owns sessions number n) next own)).words
    ∙ ap (λ (n : ℕ). words_from values (landed server n)
    (landed server (suc (suc t)) - landed server n))
    (sym next)
    ∙ ap (λ (n : ℕ). words_from values (landed server (t + 1))
    (landed server n - landed server (t + 1)))
    then

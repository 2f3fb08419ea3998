-- Before its session goes a private server is idle, and after its session nothing changes.
use Rattle.std.proofs.Common.{◌&&◌, ℕ, ◌+◌, ◌≤◌, ◌≡◌, ◌∙◌, Bool, true, false, cond, ltb, leb, List}
use Rattle.std.proofs.Common.{[], ◌∷◌, refl, arith, filter, nat_le, nat_lt, le-ltb, leb-true}
use Rattle.aeth_base.proofs.Sequences.{rests}
use Rattle.aeth_server.specs.FinishTimes.{arrivals_before}
use Rattle.aeth_server.specs.Shape.{HasPaths}
use Rattle.aeth_server.specs.PrivateServer.{PrivateServer, arrived, pull_at, sent, landed, taken}
use Rattle.aeth_server.specs.PrivateServer.{credited}
use Rattle.aeth_server.specs.CountLaws.{IsIdle, IsClosed}
use Rattle.aeth_server.proofs.PrivateServerLemmas.{words_ready, credits_ready, sent-next}
use Rattle.aeth_server.proofs.PrivateServerLemmas.{taken-next, credited-next, in-order}

module _ (server : PrivateServer) (paths : HasPaths server.shape) where
  -- no word is accepted before the session goes
  abbrev accepts : ℕ → Bool
  accepts a = nat_le server.go a && nat_lt a server.until

  nothing-accepted : (t : ℕ) → t ≤ server.go → (offers : List ℕ)
      → arrivals_before (filter accepts offers) t ≡ 0
  nothing-accepted t early [] = refl
  nothing-accepted t early (a ∷ offers) =
      let rest = nothing-accepted t early offers in
      let late : leb server.go a ≡ true → arrivals_before (a ∷ filter accepts offers) t ≡ 0 = λ is.
      let after = leb-true server.go a is in
      rw (le-ltb a t (omega arith)) rest in
      let split : (v w : Bool) → leb server.go a ≡ v
      → arrivals_before (cond (v && w) (a ∷ filter accepts offers) (filter accepts offers)) t ≡ 0 =
      elim [
        | false ↦ λ w is. rest
        | true ↦ elim [ true ↦ λ is. late is | false ↦ λ is. rest ]
      ] in
      split (leb server.go a) (ltb a server.until) refl

  -- so nothing is done before
  pub idle-before : (t : ℕ) → t ≤ server.go → IsIdle server t
  idle-before t early =
      let ordered = in-order server paths t in
      let none : arrived server t ≡ 0 = nothing-accepted t early server.offers in
      let sent_none : sent server t ≡ 0 = omega (arith, ordered.sends, none) in
      let landed_none : landed server t ≡ 0 = omega (arith, ordered.lands, sent_none) in
      let taken_none : taken server t ≡ 0 = omega (arith, ordered.takes, landed_none) in
      let credited_none : credited server t ≡ 0 = omega (arith, ordered.credits, taken_none) in
      record {
        arrived = none;
        sent = sent_none;
        landed = landed_none;
        taken = taken_none;
        credited = credited_none;
        returned = omega (arith, ordered.returns, credited_none);
      }

  -- what may not be sent isn't
  cond-shut : (may slot : Bool) (before n : ℕ) → may ≡ false
      → before + cond (may && slot) n 0 ≡ before
  cond-shut may slot before n shut = rw shut (omega arith)

  -- so nothing is done after the session
  pub is-closed : (t : ℕ) → IsClosed server t
  is-closed t = record {
    sent = rests (sent server) server.stop t (λ u after.
        sent-next server paths u ∙ cond-shut _ _ (sent server u) (words_ready server paths u) (le-ltb u server.stop after));
    credited = rests (credited server) server.stop t (λ u after.
        credited-next server paths u
        ∙ cond-shut _ _ (credited server u) (credits_ready server paths u) (le-ltb u server.stop after));
    taken = rests (taken server) server.finish t (λ u after.
        let pulls : pull_at server u ≡ 0 = rw (le-ltb u server.finish after) refl in
        omega (arith, taken-next server paths u, pulls));
  }

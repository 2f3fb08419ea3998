-- The counts of a session at its finish are those at the end of the run.
use Rattle.std.proofs.Common.{◌≡◌, ◌≤◌, ◌<◌, ◌∙◌, ◌↔◌, ℕ, ◌+◌, ◌-◌, sym, ap, inl, inr, arith}
use Rattle.std.proofs.Common.{IsTrue, nat_lt, lt-ltb, ltb-true}
use Rattle.std.proofs.lemmas.Bool.{cases_lt}
use Rattle.aeth_server.specs.PrivateServer.{PrivateServer, landed, taken}
use Rattle.aeth_server.specs.Shape.{HasPaths}
use Rattle.aeth_server.proofs.SessionEnds.{is-closed}
use Rattle.aeth_report.specs.RunLog.{counted_to}

module _ (server : PrivateServer) (paths : HasPaths server.shape) (cycles : ℕ) where
  -- Nothing is sent behind the stop, so nothing lands behind the finish.
  pub landed-final : server.stop + server.shape.path_delay ≤ server.finish
      → landed server (counted_to cycles server) ≡ landed server cycles
  landed-final lands = elim (cases_lt cycles server.finish) [
    | inl early ↦ ap (λ t. landed server t) (omega arith)
    | inr late ↦
        let delay = server.shape.path_delay in
        let least : counted_to cycles server ≡ server.finish = omega arith in
        ap (λ t. landed server t) least
        ∙ (is-closed server paths (server.finish - delay)).sent (omega arith)
        ∙ sym ((is-closed server paths (cycles - delay)).sent (omega arith))
  ]

  -- Nor is anything taken.
  pub taken-final : taken server (counted_to cycles server) ≡ taken server cycles
  taken-final = elim (cases_lt cycles server.finish) [
    | inl early ↦ ap (λ t. taken server t) (omega arith)
    | inr late ↦
        let least : counted_to cycles server ≡ server.finish = omega arith in
        ap (λ t. taken server t) least ∙ sym ((is-closed server paths cycles).taken late)
  ]

-- A test of two numbers.
pub is_below : (n m : ℕ) → IsTrue (nat_lt n m) ↔ (n < m)
is_below n m = (ltb-true n m, lt-ltb n m)

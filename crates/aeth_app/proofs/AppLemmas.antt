-- Laws of applications.
use Rattle.std.proofs.Common.{◌≡◌, ◌<◌, ℕ, true, length, inl, inr, arith, slice_get, IsSomeAnd}
use Rattle.std.proofs.Common.{IsTrue}
use Rattle.std.proofs.lemmas.Option.{slice_get_cases}
use Rattle.aeth_base.{proofs.Lists.count_by-before, specs.declared.ids.CoreId.CoreId}
use Rattle.aeth_app.specs.App.{AppData, IsApp, is_end, position_of}
use Rattle.aeth_app.specs.Limits.{max_core_connections}

-- The position of a connection at one of its ends is below the most connections of a core.
pub position_of-few : (app : AppData) (core : CoreId) (i : ℕ) → IsApp app
    → IsSomeAnd (slice_get app.connections i) (λ c. IsTrue (is_end core c))
    → (i < length app.connections)
    × (position_of app.connections core i < max_core_connections)
position_of-few app core i is_app ends =
    elim ((slice_get_cases app.connections i).1) [
      | inl found ↦
          let here : is_end core found.0 ≡ true = rw found.2 at ends in
          let before =
          count_by-before (is_end core) app.connections i found.0 found.2 here in
          let busy = is_app.busy core in
          (found.1, omega arith)
      | inr past ↦ absurd (rw past.1 at ends)
    ]

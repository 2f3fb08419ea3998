-- Networks of accepted inputs behind a stretch of cycles that leave them.
use Rattle.std.proofs.Common.{◌≡◌, ◌≤◌, ◌<◌, ◌∙◌, ◌+◌, ℕ, zero, suc, ap, arith, sym}
use Rattle.aeth_accepted.specs.Inputs.{Inputs}
use Rattle.aeth_running.proofs.Played.{played-next}
use Rattle.aeth_running.specs.{Network.NetworkState, Network.first_network, Network.played}
use Rattle.aeth_running.specs.{Network.ready_in, Network.stepped, Still.IsStill, Still.passed_over}
use Rattle.aeth_running.specs.{Quiet.brought_over, Quiet.rested, Routing.Routing}

-- A cycle that leaves the components as they are ready for it.
over-ready : (all : NetworkState) → (stepped all).components ≡ ready_in all
    → stepped all ≡ brought_over all
unfolding stepped
over-ready all rests = λ i. record (brought_over all) { components = rests i }

module _ (inputs : Inputs) (routing : Routing) where
  pub brings-over : (t : ℕ) → (played (t + 1) (first_network inputs routing)).components
      ≡ ready_in (played t (first_network inputs routing))
      → played (t + 1) (first_network inputs routing) ≡ brought_over (played t (first_network inputs routing))
  brings-over t rests =
      let all = played t (first_network inputs routing) in
      let next = played-next (first_network inputs routing) t in
      next ∙ over-ready all
      (ap (λ (one : NetworkState). one.components) (sym next) ∙ rests)

  -- So many later ones.
  pub rests-over : ((t : ℕ) → t < inputs.cycles → 0 < t → IsStill (played t (first_network inputs routing))
      → played (t + 1) (first_network inputs routing) ≡ passed_over (played t (first_network inputs routing)))
      → (t k : ℕ) → t + k ≤ inputs.cycles → 0 < t
      → ((j : ℕ) → j < k → IsStill (played (t + j) (first_network inputs routing)))
      → played (t + k) (first_network inputs routing) ≡ rested k (played t (first_network inputs routing))
  unfolding rested
  rests-over over t zero within late still =
      let same : t + zero ≡ t = omega arith in
      ap (λ n. played n (first_network inputs routing)) same
  rests-over over t (suc k) within late still =
      let next : t + suc k ≡ (t + k) + 1 = omega arith in
      ap (λ n. played n (first_network inputs routing)) next
      ∙ over (t + k) (omega arith) (omega arith) (still k (omega arith))
      ∙ ap passed_over (rests-over over t k (omega arith) late (λ j less. still j (omega arith)))

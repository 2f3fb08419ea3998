-- What a chain promises: a word that is due by a cycle of the run has landed on the last channel by then,
-- while the receivers of all channels keep their delays.
--
--   IsDueInChain, HasLandedBy      a word is due by a cycle; there is its landing by then
--   AreDueWordsLanded      the promise, of a run of some legs
-- This project's own.
use Rattle.std.proofs.Common.{ℕ, ◌*◌, ◌-◌, ◌<◌, ◌≤◌, ◌≡◌, All, List, Some, length, slice_get}
use Rattle.aeth_server.specs.{Landing.KeepsDelay, PrivateServer.PrivateServer}
use Rattle.aeth_trace.specs.declared.{receivers.PullRow.PullRow, words.WordRow.WordRow}
use Rattle.aeth_report.specs.declared.log.Landing.{Landing}
use Rattle.aeth_chain.specs.Chain.{Leg, chain_rate}
use Rattle.aeth_chain.specs.ChainRun.{chain_log, chain_time, first_offers, servers_along}
use Rattle.aeth_chain.specs.declared.passing.Offer.{Offer}

-- The i-th word of a chain is due by cycle t of a run, and the receivers of its channels, with these
-- servers, keep their delays up to then.
pub record IsDueInChain (legs : List Leg) (first : List Offer) (servers : List PrivateServer)
    (cycles i t : ℕ) : Type 0 where
  pub least : 1 ≤ i
  pub most : i ≤ length first
  pub due : chain_time legs first i ≤ chain_rate legs * t
  pub within : t < cycles
  pub keeps : All (λ server. KeepsDelay server t) servers

-- There is a landing of the i-th word by cycle t.
pub record HasLandedBy (landings : List Landing) (i t : ℕ) : Type 0 where
  pub row : Landing
  pub at : slice_get landings (i - 1) ≡ Some row
  pub lands : row.landed ≤ t

-- In a run of these legs each word that is due by a cycle has landed on the last channel by then.
abbrev pub AreDueWordsLanded : List Leg → List WordRow → List PullRow → ℕ → Type 0
AreDueWordsLanded legs words pulls cycles = (i t : ℕ)
    → (let first = first_offers words cycles legs in
    IsDueInChain legs first (servers_along pulls cycles first legs) cycles i t)
    → HasLandedBy (chain_log legs words pulls cycles).landings i t

-- The bound of a whole chain.
use Rattle.std.proofs.Common.{ℕ, ◌+◌, ◌-◌, ◌*◌, ◌<◌, ◌≤◌, ◌≡◌, ◌∙◌, suc, List, [], ◌∷◌, Some}
use Rattle.std.proofs.Common.{length, map, ap, refl, arith, All}
use Rattle.std.proofs.lemmas.List.Elements.{All-head, All-tail}
use Rattle.std.proofs.lemmas.List.FromFn.{get_or-map-range_with_len, length-map-range_with_len}
use Rattle.std.proofs.lemmas.Option.{slice_get-get_or}
use Rattle.std.specs.{Int.div_ceil, List.range_with_len}
use Rattle.aeth_server.specs.{FinishTimes.finish_time, Landing.KeepsDelay, Landing.landing_cycle}
use Rattle.aeth_server.specs.{PrivateServer.PrivateServer, PrivateServer.landed, Shape.IsGranted}
use Rattle.aeth_server.specs.{Shape.channel_latency, WordCycles.IsOpenFor}
use Rattle.aeth_server.proofs.WordCycles.{landed-by, lands-more}
use Rattle.aeth_trace.specs.declared.receivers.PullRow.{PullRow}
use Rattle.aeth_report.specs.declared.log.Landing.{Landing}
use Rattle.aeth_chain.specs.Chain.{Leg, chain_rate, latency_along, passing_latency}
use Rattle.aeth_chain.specs.ChainBounds.{HasLandedBy, IsDueInChain}
use Rattle.aeth_chain.specs.ChainRun.{cycles_of, landing_on, landings_along, passed_on, runs_along}
use Rattle.aeth_chain.specs.ChainRun.{server_on, servers_along}
use Rattle.aeth_chain.specs.Lanes.{AreOffers}
use Rattle.aeth_chain.specs.declared.passing.Offer.{Offer}
use Rattle.aeth_chain.proofs.FinishLemmas.{finish-later, whole-cycle}
use Rattle.aeth_chain.proofs.LegLemmas.{IsLandedWhile, first-lands, leg-lands}
use Rattle.aeth_chain.proofs.OfferLemmas.{opens, passed-offers}

-- A leg is granted what it asks for, in a table of this size.
pub record IsLegOf (size : ℕ) (leg : Leg) : Type 0 where
  pub granted : IsGranted leg.shape
  pub size_is : leg.shape.size ≡ size

-- The rate of a chain is no more than that of its first leg.
rate-first : (leg : Leg) (legs : List Leg) → chain_rate (leg ∷ legs) ≤ leg.shape.rate
rate-first leg [] = omega arith
rate-first leg (next ∷ legs) = omega arith

-- It is some rate.
pub rate-some : (size : ℕ) (leg : Leg) (legs : List Leg) → All (IsLegOf size) (leg ∷ legs)
    → 1 ≤ chain_rate (leg ∷ legs)
rate-some size leg [] are = (All-head (IsLegOf size) leg [] are).granted.least_rate
rate-some size leg (next ∷ legs) are =
    let here = (All-head (IsLegOf size) leg (next ∷ legs) are).granted.least_rate in
    let rest = rate-some size next legs (All-tail (IsLegOf size) leg (next ∷ legs) are) in
    omega (arith, here, rest)

-- Its latency is no less than that of its first leg.
latency-first : (rate : ℕ) (leg : Leg) (legs : List Leg)
    → channel_latency leg.shape ≤ latency_along rate (leg ∷ legs)
latency-first rate leg [] = omega arith
latency-first rate leg (next ∷ legs) = omega arith

-- A word that has landed by a cycle of the run has its row by then.
landed-logged : (server : PrivateServer) (cycles : ℕ) → IsOpenFor server cycles
    → (row : ℕ → Landing) → ((k : ℕ) → (row k).landed ≡ landing_cycle server cycles (k + 1))
    → (i t : ℕ) → 1 ≤ i → i ≤ landed server (t + 1) → t < cycles
    → HasLandedBy (map row (range_with_len 0 (landed server cycles))) i t
landed-logged server cycles runs row tells i t some there within =
    let more = lands-more server cycles runs (t + 1) cycles (omega (arith, within)) in
    let size = length-map-range_with_len row 0 (landed server cycles) in
    let place : i - 1 + 1 ≡ i = omega (arith, some) in
    let same = ap (landing_cycle server cycles) place in
    let by = landed-by server cycles runs i t some there in
    let told = tells (i - 1) in
    record {
      row = row (i - 1);
      at = slice_get-get_or (map row (range_with_len 0 (landed server cycles))) (i - 1) (row 0)
          (omega (arith, some, there, more, size))
          ∙ ap Some (get_or-map-range_with_len row 0 (landed server cycles) (i - 1) (i - 1) (row 0)
          (omega (arith, some, there, more)) (omega arith));
      lands = omega (arith, told, same, by);
    }

-- ---- the legs behind the first
-- what their times are later by
abbrev step : ℕ → Leg → Leg → ℕ
step rate leg next = passing_latency rate leg + channel_latency next.shape

-- A share of the table covers a word.
step-covers : (rate delay work wait share size : ℕ) → size ≤ rate * share
    → rate * (delay + work + 1 + wait) + size ≤ rate * (delay + work + 1 + share + wait)
step-covers rate delay work wait share size covers = omega (arith, covers)

module _ (pulls : List PullRow) (cycles rate size words : ℕ) (some : 1 ≤ rate) (all : List Leg)
    (first : List Offer) where
  abbrev logged : Leg → List Leg → List Offer → List Landing
  logged leg legs offers = landings_along cycles all first (runs_along pulls cycles offers (leg ∷ legs))

  legs-land : (legs : List Leg) (leg : Leg) (offers : List Offer) → AreOffers cycles offers
      → All (IsLegOf size) (leg ∷ legs) → rate ≤ chain_rate (leg ∷ legs) → (time : ℕ → ℕ)
      (Fair : ℕ → Type 0) → ((k : ℕ) → time k + size ≤ time (suc k))
      → IsLandedWhile (server_on pulls cycles leg offers) rate words cycles time Fair
      → (i t : ℕ) → 1 ≤ i → i ≤ words
      → time i + rate * (latency_along rate (leg ∷ legs) - channel_latency leg.shape) ≤ rate * t
      → t < cycles → Fair t
      → All (λ server. KeepsDelay server t) (servers_along pulls cycles offers (leg ∷ legs))
      → HasLandedBy (logged leg legs offers) i t
  legs-land [] leg offers are legs_are fits time Fair up before i t one most late within fair keep =
      let granted = (All-head (IsLegOf size) leg [] legs_are).granted in
      let none : channel_latency leg.shape - channel_latency leg.shape ≡ 0 = omega arith in
      let product = ap (λ n. rate * n) none in
      let there = before.lands i t one most (omega (arith, late, product)) within fair in
      landed-logged (server_on pulls cycles leg offers) cycles
      (opens pulls cycles leg offers are granted.paths)
      (landing_on cycles all first
      (record { offers = offers; server = server_on pulls cycles leg offers })) (λ k. refl) i t one
      there within
  legs-land (next ∷ legs) leg offers are legs_are fits time Fair up before i t one most late within
      fair keep =
      let here = All-head (IsLegOf size) leg (next ∷ legs) legs_are in
      let rest = All-tail (IsLegOf size) leg (next ∷ legs) legs_are in
      let there = All-head (IsLegOf size) next legs rest in
      let keeps = All-tail (λ server. KeepsDelay server t) (server_on pulls cycles leg offers)
      (servers_along pulls cycles (passed_on pulls cycles leg offers) (next ∷ legs)) keep in
      let own = All-head (λ server. KeepsDelay server t)
      (server_on pulls cycles next (passed_on pulls cycles leg offers))
      (servers_along pulls cycles
      (passed_on pulls cycles next (passed_on pulls cycles leg offers)) legs) keeps in
      let share = (whole-cycle leg.shape.size rate some).0 in
      let same_size = here.size_is in
      let covers = step-covers rate leg.shape.receiver_delay leg.work
      (channel_latency next.shape) (div_ceil leg.shape.size rate) size
      (omega (arith, share, same_size)) in
      let few = rate-first next legs in
      let longer = latency-first rate next legs in
      let sum : latency_along rate (leg ∷ next ∷ legs) - channel_latency leg.shape
      ≡ step rate leg next
      + (latency_along rate (next ∷ legs) - channel_latency next.shape) =
      omega (arith, longer) in
      let product = ap (λ n. rate * n) sum in
      let lands = leg-lands pulls cycles rate size some leg next offers are here.granted
      there.granted there.size_is (omega (arith, fits, few)) words time Fair up before
      (λ k. time k + rate * step rate leg next) (λ k. omega (arith, covers)) in
      legs-land legs next (passed_on pulls cycles leg offers)
      (passed-offers pulls cycles leg offers are here.granted.paths) rest
      (omega (arith, fits)) (λ k. time k + rate * step rate leg next)
      (λ t. KeepsDelay (server_on pulls cycles next (passed_on pulls cycles leg offers)) t × Fair t)
      (λ k. omega (arith, up k)) lands i t one most (omega (arith, late, product)) within
      (own, fair) keeps

-- ---- the chain
-- A word that is due by a cycle of the run has landed on the last channel by then, while the receivers of
-- all channels keep their delays.
pub chain-lands : (pulls : List PullRow) (cycles size : ℕ) (leg : Leg) (legs : List Leg)
    (first : List Offer) → AreOffers cycles first → All (IsLegOf size) (leg ∷ legs) → (i t : ℕ)
    → IsDueInChain (leg ∷ legs) first (servers_along pulls cycles first (leg ∷ legs)) cycles i t
    → HasLandedBy (landings_along cycles (leg ∷ legs) first
    (runs_along pulls cycles first (leg ∷ legs))) i t
chain-lands pulls cycles size leg legs first are legs_are i t is =
    let here = All-head (IsLegOf size) leg legs legs_are in
    let some = rate-some size leg legs legs_are in
    let wait : ℕ = channel_latency leg.shape in
    let rate : ℕ = chain_rate (leg ∷ legs) in
    let own = All-head (λ server. KeepsDelay server t) (server_on pulls cycles leg first)
    (servers_along pulls cycles (passed_on pulls cycles leg first) legs) is.keeps in
    let longer = latency-first (chain_rate (leg ∷ legs)) leg legs in
    let more : ℕ = latency_along (chain_rate (leg ∷ legs)) (leg ∷ legs)
    - channel_latency leg.shape in
    let whole : channel_latency leg.shape
    + (latency_along (chain_rate (leg ∷ legs)) (leg ∷ legs) - channel_latency leg.shape)
    ≡ latency_along (chain_rate (leg ∷ legs)) (leg ∷ legs) = omega (arith, longer) in
    let shift = finish-later size (chain_rate (leg ∷ legs)) (channel_latency leg.shape)
    (latency_along (chain_rate (leg ∷ legs)) (leg ∷ legs) - channel_latency leg.shape)
    (cycles_of first) i is.least in
    let same = ap (λ n. finish_time size (chain_rate (leg ∷ legs)) n (cycles_of first) i) whole in
    let sizes = ap (λ n. finish_time n (chain_rate (leg ∷ legs))
    (latency_along (chain_rate (leg ∷ legs)) (leg ∷ legs)) (cycles_of first) i) here.size_is in
    let due = is.due in
    legs-land pulls cycles (chain_rate (leg ∷ legs)) size (length first) some (leg ∷ legs) first legs
    leg first are legs_are (omega arith)
    (finish_time size (chain_rate (leg ∷ legs)) (channel_latency leg.shape) (cycles_of first))
    (KeepsDelay (server_on pulls cycles leg first)) (λ k. omega arith)
    (first-lands pulls cycles (chain_rate (leg ∷ legs)) size some leg first are here.granted
    here.size_is (rate-first leg legs)) i t is.least is.most
    (omega (arith, shift, same, sizes, due)) is.within own is.keeps

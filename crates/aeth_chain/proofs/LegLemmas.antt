-- A leg of a chain keeps its part of the bound, and hands it on to the next.
use Rattle.std.proofs.Common.{ℕ, ◌+◌, ◌-◌, ◌*◌, ◌<◌, ◌≤◌, ◌≡◌, ◌∙◌, suc, get_or, length, ap, arith}
use Rattle.std.proofs.Common.{List}
use Rattle.std.proofs.Math.Nat.{mul-le-mul_left, le_of_mul-le-mul_left}
use Rattle.std.proofs.lemmas.List.{length-map}
use Rattle.std.specs.Int.{div_ceil}
use Rattle.aeth_server.specs.{FinishTimes.finish_time, Landing.KeepsDelay, Landing.due_time}
use Rattle.aeth_server.specs.{PrivateServer.PrivateServer, PrivateServer.landed, Shape.IsGranted}
use Rattle.aeth_server.specs.{Shape.channel_latency, WordCycles.taking_cycle}
use Rattle.aeth_server.proofs.{CreditLoop.landed-due, WordCycles.landed-few, WordCycles.taken-by}
use Rattle.aeth_trace.specs.declared.receivers.PullRow.{PullRow}
use Rattle.aeth_chain.specs.{Chain.Leg, ChainRun.cycles_of, ChainRun.passed_on, ChainRun.server_on}
use Rattle.aeth_chain.specs.{Lanes.AreOffers, declared.passing.Offer.Offer}
use Rattle.aeth_chain.proofs.FinishLemmas.{chain-finish, time-rises, whole-cycle}
use Rattle.aeth_chain.proofs.OfferLemmas.{accepted-is, cycles-passed, kept-first, opens}
use Rattle.aeth_chain.proofs.OfferLemmas.{passed-offers, passing, passing-at, passing-length}
use Rattle.aeth_chain.proofs.OfferLemmas.{passing-order}

-- Within a run each of the first so many words has landed in each cycle that its time has passed, which is
-- given as a rate times the cycle, while something holds by which the receiver keeps its delay.
pub record IsLandedWhile (server : PrivateServer) (rate words cycles : ℕ) (time : ℕ → ℕ)
    (Fair : ℕ → Type 0) : Type 0 where
  pub lands : (i t : ℕ) → 1 ≤ i → i ≤ words → time i ≤ rate * t → t < cycles → Fair t
      → i ≤ landed server (t + 1)
  pub keeps : (t : ℕ) → Fair t → KeepsDelay server t
  pub earlier : (s t : ℕ) → s ≤ t → Fair t → Fair s

-- A delay that is kept up to a cycle is kept up to each before.
keeps-earlier : (server : PrivateServer) (s t : ℕ) → s ≤ t → KeepsDelay server t
    → KeepsDelay server s
keeps-earlier server s t up keeps =
    record { takes = λ u within. keeps.takes u (omega (arith, up, within)) }

-- The word behind the first k is passed on, by a cycle.
record IsPassedBy (pulls : List PullRow) (cycles : ℕ) (leg : Leg) (offers : List Offer) (k u : ℕ)
    : Type 0 where
  within : k < length (passed_on pulls cycles leg offers)
  by : get_or (cycles_of (passed_on pulls cycles leg offers)) k 0 ≤ u

module _ (pulls : List PullRow) (cycles rate size : ℕ) (some : 1 ≤ rate) (leg : Leg)
    (offers : List Offer) (are : AreOffers cycles offers) (granted : IsGranted leg.shape) where
  abbrev server : PrivateServer
  server = server_on pulls cycles leg offers

  -- words that are due by a cycle, at the leg's own rate and latency, have landed by then
  lands-due : (same_size : leg.shape.size ≡ size) (fits : rate ≤ leg.shape.rate) (time : ℕ → ℕ)
      (i t : ℕ) → ((k : ℕ) → time k + size ≤ time (suc k))
      → ((k : ℕ) → k < i → rate * (get_or (cycles_of offers) k 0 + channel_latency leg.shape) + size
      ≤ time (suc k))
      → 1 ≤ i → i ≤ length offers → time i ≤ rate * t → t < cycles → KeepsDelay server t
      → i ≤ landed server (t + 1)
  lands-due same_size fits time i t up come one most late within keeps =
      let finish = chain-finish size rate leg.shape.rate (channel_latency leg.shape)
      (cycles_of offers) time i fits up come i (omega arith) in
      let product : leg.shape.rate * time i ≤ leg.shape.rate * (rate * t) =
      mul-le-mul_left leg.shape.rate late in
      let swapped : leg.shape.rate * (rate * t) ≡ rate * (leg.shape.rate * t) = omega arith in
      let both : rate * finish_time size leg.shape.rate (channel_latency leg.shape)
      (cycles_of offers) i ≤ rate * (leg.shape.rate * t) =
      omega (arith, finish, product, swapped) in
      let due : finish_time size leg.shape.rate (channel_latency leg.shape) (cycles_of offers) i
      ≤ leg.shape.rate * t = le_of_mul-le-mul_left both some in
      let all = accepted-is pulls cycles leg offers are in
      let same : due_time server i ≡ finish_time size leg.shape.rate (channel_latency leg.shape)
      (cycles_of offers) i =
      ap (λ xs. finish_time leg.shape.size leg.shape.rate (channel_latency leg.shape) xs i) all
      ∙ ap (λ n. finish_time n leg.shape.rate (channel_latency leg.shape) (cycles_of offers) i)
      same_size in
      let count = ap length all ∙ length-map offers (λ (offer : Offer). offer.cycle) in
      landed-due server granted are.order (omega arith) i t (record {
        least = one;
        most = omega (arith, count, most);
        due = omega (arith, due, same);
        in_time = omega (arith, within);
        keeps = keeps;
      })

  -- ---- the first leg
  -- its words land in their time at a rate that is no more than its own
  pub first-lands : leg.shape.size ≡ size → rate ≤ leg.shape.rate
      → IsLandedWhile server rate (length offers) cycles
      (finish_time size rate (channel_latency leg.shape) (cycles_of offers)) (KeepsDelay server)
  first-lands same_size fits = record {
    lands = λ i t one most late within keeps.
        lands-due same_size fits
        (finish_time size rate (channel_latency leg.shape) (cycles_of offers)) i t
        (λ k. omega arith) (λ k low. omega arith) one most late within keeps;
    keeps = λ t keeps. keeps;
    earlier = λ s t up keeps. keeps-earlier server s t up keeps;
  }

  -- ---- one leg further
  module _ (words : ℕ) (time : ℕ → ℕ) (Fair : ℕ → Type 0)
      (before : IsLandedWhile server rate words cycles time Fair) where
    -- a word whose time has passed for long enough is passed on, and in time
    word-passed : (wait k t : ℕ) → k < words
        → time (suc k) + rate * (leg.shape.receiver_delay + leg.work + 1 + wait) ≤ rate * t
        → t < cycles → Fair t
        → IsPassedBy pulls cycles leg offers k
        (div_ceil (time (suc k)) rate + leg.shape.receiver_delay + leg.work)
    word-passed wait k t low late within fair =
        let whole = whole-cycle (time (suc k)) rate some in
        let sum : rate * (div_ceil (time (suc k)) rate + leg.shape.receiver_delay + leg.work
        + wait) ≤ rate * t = omega (arith, late, whole.1) in
        let soon : div_ceil (time (suc k)) rate + leg.shape.receiver_delay + leg.work + wait ≤ t =
        le_of_mul-le-mul_left sum some in
        let landed_by = before.lands (suc k) (div_ceil (time (suc k)) rate) (omega arith) low
        whole.0 (omega arith)
        (before.earlier (div_ceil (time (suc k)) rate) t (omega arith) fair) in
        let kept = (before.keeps t fair).takes (div_ceil (time (suc k)) rate) (omega arith) in
        let by = taken-by server cycles (opens pulls cycles leg offers are granted.paths) (suc k)
        (div_ceil (time (suc k)) rate + leg.shape.receiver_delay) (omega arith)
        (omega (arith, landed_by, kept)) in
        let number : k + 1 ≡ suc k = omega arith in
        let named = ap (λ n. taking_cycle server cycles n) number in
        let all = ap length (accepted-is pulls cycles leg offers are)
        ∙ length-map offers (λ (offer : Offer). offer.cycle) in
        let enough = landed-few server granted.paths (div_ceil (time (suc k)) rate + 1) in
        let here : k < length offers = omega (arith, landed_by, enough, all) in
        let at = passing-at pulls cycles leg offers are k here in
        let n = passing-length pulls cycles leg offers are in
        let is = kept-first cycles (passing pulls cycles leg offers are) k
        (passing-order pulls cycles leg offers are granted.paths) (omega (arith, n, here))
        (omega (arith, at, by, named)) in
        let passed = cycles-passed pulls cycles leg offers are in
        let count = length-map (passed_on pulls cycles leg offers)
        (λ (offer : Offer). offer.cycle) in
        let sizes = ap length passed in
        let places = ap (λ xs. get_or xs k 0) passed in
        record {
          within = omega (arith, is.within, sizes, count);
          by = let same = is.same in omega (arith, same, places, at, by, named);
        }

-- ---- the next leg
module _ (pulls : List PullRow) (cycles rate size : ℕ) (some : 1 ≤ rate) (leg next : Leg)
    (offers : List Offer) (are : AreOffers cycles offers) (granted : IsGranted leg.shape)
    (next_granted : IsGranted next.shape) (same_size : next.shape.size ≡ size)
    (fits : rate ≤ next.shape.rate) (words : ℕ) (time : ℕ → ℕ) (Fair : ℕ → Type 0)
    (up : (k : ℕ) → time k + size ≤ time (suc k))
    (before : IsLandedWhile (server_on pulls cycles leg offers) rate words cycles time Fair) where
  abbrev passed : List Offer
  passed = passed_on pulls cycles leg offers

  abbrev behind : PrivateServer
  behind = server_on pulls cycles next passed

  abbrev gap : ℕ
  gap = leg.shape.receiver_delay + leg.work + 1 + channel_latency next.shape

  -- on it words land in times that are later by the gap and a word's share
  pub leg-lands : (later : ℕ → ℕ) → ((k : ℕ) → time k + rate * gap + size ≤ later k)
      → IsLandedWhile behind rate words cycles later (λ t. KeepsDelay behind t × Fair t)
  leg-lands later wide = record {
    lands = λ i t one most late within fair.
        let span = wide i in
        let known : (k : ℕ) → k < i → IsPassedBy pulls cycles leg offers k
        (div_ceil (time (suc k)) rate + leg.shape.receiver_delay + leg.work) = λ k low.
        let whole : suc k + (i - suc k) ≡ i = omega (arith, low) in
        let same = ap time whole in
        let rises = time-rises time size up (suc k) (i - suc k) in
        word-passed pulls cycles rate size some leg offers are granted words time Fair before
        (channel_latency next.shape) k t (omega (arith, low, most))
        (omega (arith, rises, same, span, late)) within fair.1 in
        let come : (k : ℕ) → k < i
        → rate * (get_or (cycles_of passed) k 0 + channel_latency next.shape) + size
        ≤ time (suc k) + rate * gap + size = λ k low.
        let by = (known k low).by in
        let whole = whole-cycle (time (suc k)) rate some in
        let sum : get_or (cycles_of passed) k 0 + channel_latency next.shape
        ≤ div_ceil (time (suc k)) rate + leg.shape.receiver_delay + leg.work
        + channel_latency next.shape = omega (arith, by) in
        let product : rate * (get_or (cycles_of passed) k 0 + channel_latency next.shape)
        ≤ rate * (div_ceil (time (suc k)) rate + leg.shape.receiver_delay + leg.work
        + channel_latency next.shape) = mul-le-mul_left rate sum in
        omega (arith, product, whole.1) in
        let last = (known (i - 1) (omega (arith, one))).within in
        lands-due pulls cycles rate size some next passed
        (passed-offers pulls cycles leg offers are granted.paths) next_granted same_size fits
        (λ k. time k + rate * gap + size) i t (λ k. omega (arith, up k)) come one
        (omega (arith, last, one)) (omega (arith, span, late)) within fair.0;
    keeps = λ t fair. fair.0;
    earlier = λ s t less fair. (keeps-earlier behind s t less fair.0, before.earlier s t less fair.1);
  }

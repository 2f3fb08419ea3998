-- Offers of a run: a private server accepts all of them, and what a core passes on are offers too.
use Rattle.std.proofs.Common.{◌&&◌, ◌<◌, ◌≤◌, ◌≡◌, ◌∙◌, ◌+◌, ℕ, List, [], ◌∷◌, filter, length, map}
use Rattle.std.proofs.Common.{Bool, true, get_or, refl, sym, ap, zero, suc, arith, All, nat_le}
use Rattle.std.proofs.Common.{nat_lt, le-leb, lt-ltb, ltb-true}
use Rattle.std.proofs.lemmas.List.Elements.{All-head, All-tail, All-weaker, filter_passes}
use Rattle.std.proofs.lemmas.List.FromFn.{get_or-map-range_with_len, length-map-range_with_len}
use Rattle.std.proofs.lemmas.List.Kept.{IsNonDecreasingBy-filter}
use Rattle.std.proofs.lemmas.List.Sorted.{IsNonDecreasingBy-from_default}
use Rattle.std.proofs.lemmas.List.Sums.{length-filter, count_by-le-length}
use Rattle.std.proofs.lemmas.Simd.{map-map}
use Rattle.std.specs.List.{range_with_len, Sorted.IsNonDecreasing}
use Rattle.aeth_base.proofs.{Filters.filter-map, Lists.IsNonDecreasing-tail}
use Rattle.aeth_server.specs.{PrivateServer.PrivateServer, PrivateServer.accepted, Shape.HasPaths}
use Rattle.aeth_server.specs.{WordCycles.IsOpenFor, WordCycles.taking_cycle}
use Rattle.aeth_server.proofs.WordCycles.{taking-rises}
use Rattle.aeth_trace.specs.declared.receivers.PullRow.{PullRow}
use Rattle.aeth_chain.specs.{Chain.Leg, ChainRun.cycles_of, ChainRun.offer_behind}
use Rattle.aeth_chain.specs.{ChainRun.passed_on, ChainRun.server_on, Lanes.AreOffers}
use Rattle.aeth_chain.specs.{declared.passing.Offer.Offer}

-- Cycles below the end of a session that goes from 0 on are accepted by it.
accepted-all : (end : ℕ) (offers : List Offer) → All (λ offer. offer.cycle < end) offers
    → filter (λ a. nat_le 0 a && nat_lt a end) (cycles_of offers) ≡ cycles_of offers
accepted-all end [] within = refl
accepted-all end (offer ∷ offers) within =
    let here = All-head (λ (offer : Offer). offer.cycle < end) offer offers within in
    let rest = accepted-all end offers
    (All-tail (λ (offer : Offer). offer.cycle < end) offer offers within) in
    rw (le-leb 0 offer.cycle (omega arith), lt-ltb offer.cycle end here)
    (ap (λ ys. offer.cycle ∷ ys) rest)

-- Of numbers that never fall, those below a bound keep their places.
pub record IsKept (bound : ℕ) (xs : List ℕ) (k : ℕ) : Type 0 where
  pub within : k < length (filter (λ a. nat_lt a bound) xs)
  pub same : get_or (filter (λ a. nat_lt a bound) xs) k 0 ≡ get_or xs k 0

pub kept-first : (bound : ℕ) (xs : List ℕ) (k : ℕ) → IsNonDecreasing xs → k < length xs
    → get_or xs k 0 < bound → IsKept bound xs k
kept-first bound [] k order within low = absurd (omega arith)
kept-first bound (x ∷ xs) k order within low =
    let least = order 0 k 0 (omega arith) within in
    let here = lt-ltb x bound (omega (arith, least, low)) in
    let cases : (k : ℕ) → k < length (x ∷ xs) → get_or (x ∷ xs) k 0 < bound
    → IsKept bound (x ∷ xs) k = elim [
      | zero ↦ λ within low. record { within = rw here (omega arith); same = rw here refl }
      | suc j ↦ λ within low.
          let rest = kept-first bound xs j (IsNonDecreasing-tail x xs order) (omega arith) low in
          record { within = rw here (omega (arith, rest.within)); same = rw here rest.same }
    ] in
    cases k within low

module _ (pulls : List PullRow) (cycles : ℕ) (leg : Leg) (offers : List Offer)
    (are : AreOffers cycles offers) where
  abbrev server : PrivateServer
  server = server_on pulls cycles leg offers

  -- the session accepts all offers of the run
  pub accepted-is : accepted server ≡ cycles_of offers
  accepted-is = accepted-all cycles offers are.within

  -- the server sends throughout the run
  pub opens : HasPaths leg.shape → IsOpenFor server cycles
  opens paths = record {
    paths = paths;
    sends = omega arith;
    order = rw accepted-is are.order;
  }

  -- ---- what is passed on
  -- when each word would be offered on the next channel
  abbrev pub passing : List ℕ
  passing = map (λ k. taking_cycle server cycles (k + 1) + leg.work)
      (range_with_len 0 (length offers))

  pub passing-at : (k : ℕ) → k < length offers
      → get_or passing k 0 ≡ taking_cycle server cycles (k + 1) + leg.work
  passing-at k low =
      get_or-map-range_with_len (λ k. taking_cycle server cycles (k + 1) + leg.work) 0
      (length offers) k k 0 low (omega arith)

  pub passing-length : length passing ≡ length offers
  passing-length =
      length-map-range_with_len (λ k. taking_cycle server cycles (k + 1) + leg.work) 0
      (length offers)

  pub passing-order : HasPaths leg.shape → IsNonDecreasing passing
  passing-order paths = IsNonDecreasingBy-from_default (λ x. x) passing 0 (λ i j up low.
      let n = passing-length in
      let one = passing-at i (omega (arith, n)) in
      let other = passing-at j (omega (arith, n)) in
      let rises = taking-rises server cycles (opens paths) (i + 1) (j + 1) (omega arith)
      (omega arith) in
      omega (arith, one, other, rises))

  -- what is offered within the run has these cycles
  pub cycles-passed : cycles_of (passed_on pulls cycles leg offers)
      ≡ filter (λ a. nat_lt a cycles) passing
  cycles-passed =
      let all = map (offer_behind pulls cycles leg offers) (range_with_len 0 (length offers)) in
      sym (filter-map (λ a. nat_lt a cycles) (λ (offer : Offer). offer.cycle)
      (map (offer_behind pulls cycles leg offers) (range_with_len 0 (length offers))))
      ∙ ap (filter (λ a. nat_lt a cycles))
      (map-map (λ (offer : Offer). offer.cycle) (offer_behind pulls cycles leg offers)
      (range_with_len 0 (length offers)))

  -- and no more is offered than was before
  pub passed-few : length (passed_on pulls cycles leg offers) ≤ length offers
  passed-few =
      let test : Offer → Bool = λ offer. nat_lt offer.cycle cycles in
      let all = map (offer_behind pulls cycles leg offers) (range_with_len 0 (length offers)) in
      let same = length-filter (λ (offer : Offer). nat_lt offer.cycle cycles)
      (map (offer_behind pulls cycles leg offers) (range_with_len 0 (length offers))) in
      let few = count_by-le-length (λ (offer : Offer). nat_lt offer.cycle cycles)
      (map (offer_behind pulls cycles leg offers) (range_with_len 0 (length offers))) in
      let n = length-map-range_with_len (offer_behind pulls cycles leg offers) 0
      (length offers) in
      omega (arith, same, few, n)

  -- so they are offers of the run
  pub passed-offers : HasPaths leg.shape → AreOffers cycles (passed_on pulls cycles leg offers)
  passed-offers paths = record {
    within = All-weaker (λ (offer : Offer). nat_lt offer.cycle cycles ≡ true)
        (λ offer. offer.cycle < cycles) (λ offer is. ltb-true offer.cycle cycles is)
        (passed_on pulls cycles leg offers)
        (filter_passes (λ (offer : Offer). nat_lt offer.cycle cycles)
        (map (offer_behind pulls cycles leg offers) (range_with_len 0 (length offers))));
    order = rw cycles-passed
        (IsNonDecreasingBy-filter (λ a. a) (λ a. nat_lt a cycles) passing (passing-order paths));
    few = let few = passed-few in let all = are.few in omega (arith, few, all);
  }

-- The cycle in which a word of a lane is sent, and its credit, from those of the words before it.
use Rattle.std.proofs.Common.{ℕ, ◌+◌, ◌-◌, ◌*◌, ◌<◌, ◌≤◌, ◌≡◌, ◌∙◌, ◌++◌, List, [], ◌∷◌, length}
use Rattle.std.proofs.Common.{map, Bool, cond, filter, max, min, get_or, ap, sym, inl, inr, refl}
use Rattle.std.proofs.Common.{arith, slice_index, le-leb, lt-ltb}
use Rattle.std.proofs.lemmas.Bool.{cases_lt, lt-leb, Decides.nat_tests}
use Rattle.std.proofs.lemmas.List.{get_or-map, get_or_past, length-map}
use Rattle.std.proofs.lemmas.List.FromFn.{get_or-map-range_with_len, length-map-range_with_len}
use Rattle.std.proofs.lemmas.List.FromFn.{filter_of_map_range_with_len_more}
use Rattle.std.proofs.lemmas.List.FromFn.{map-range_with_len_more}
use Rattle.std.specs.{List.range_with_len, Ordering.nat_cmp, Ordering.ord_min}
use Rattle.aeth_base.specs.Limits.{credits_per_flit, max_cycles, words_per_flit, max_path_delay}
use Rattle.aeth_server.specs.ChannelShape.{IsShapeInRange, shape_of}
use Rattle.aeth_server.specs.PrivateServer.{PrivateServer, accepted, pull_at as server_pull}
use Rattle.aeth_server.specs.Shape.{HasPaths}
use Rattle.aeth_server.specs.declared.shape.ChannelShape.{ChannelShape}
use Rattle.aeth_server.specs.WordCycles.{IsCreditReady, IsOpenFor, IsReadyToGo, crediting_cycle}
use Rattle.aeth_server.specs.WordCycles.{sending_cycle, taking_cycle}
use Rattle.aeth_server.proofs.WordCycles.{credited-reached, sent-reached, taken-reached}
use Rattle.aeth_trace.specs.Receivers.{pull_at}
use Rattle.aeth_chain.specs.{ChainRun.cycles_of, Lanes.IsLane, Lanes.after, Lanes.crediting_cycles}
use Rattle.aeth_chain.specs.{Lanes.leg_in, Lanes.sending_cycles, Lanes.server_in}
use Rattle.aeth_chain.specs.{declared.lane.Lane.Lane, declared.passing.Offer.Offer}
use Rattle.aeth_chain.proofs.OfferLemmas.{accepted-is, opens}

module _ (cycle : ℕ → ℕ) (place back delay : ℕ) where
  abbrev before : List ℕ
  before = map (λ k. cycle (k + 1)) (range_with_len 0 place)

  -- there is such a word
  after-is : 1 ≤ back → back ≤ place
      → after before place back delay ≡ cycle (place + 1 - back) + delay
  after-is some many =
      let at = get_or-map-range_with_len (λ k. cycle (k + 1)) 0 place (place - back)
      (place - back) 0 (omega arith) (omega arith) in
      let number : place - back + 1 ≡ place + 1 - back = omega arith in
      let same = at ∙ ap cycle number in
      rw (le-leb back place many) (omega (arith, same))

  -- all before are at most a number, and so is what comes after one of them
  pub before-most : (most : ℕ) → ((i : ℕ) → cycle (i + 1) ≤ most) → (i : ℕ)
      → slice_index before i ≤ most
  before-most most low i = elim (cases_lt i place) [
    | inl within ↦
        let at = get_or-map-range_with_len (λ k. cycle (k + 1)) 0 place i i 0 within
        (omega arith) in
        omega (arith, at, low i)
    | inr past ↦
        let size = length-map-range_with_len (λ k. cycle (k + 1)) 0 place in
        let none = get_or_past before i 0 (omega (arith, size, past)) in
        omega (arith, none)
  ]

  -- there is none
  after-none : place < back → after before place back delay ≡ 0
  after-none few = rw (lt-leb back place few) refl

-- The lesser of two numbers, as `min` in code answers it.
pub ord_min-nat : (a b : ℕ) → ord_min nat_cmp a b ≡ min a b
ord_min-nat a b = grind (arith, nat_tests)

-- There are as many cycles as words.
pub cycles-count : (cycle : ℕ → ℕ) (list : List ℕ) (place : ℕ)
    → list ≡ map (λ k. cycle (k + 1)) (range_with_len 0 place) → length list ≡ place
cycles-count cycle list place same =
    ap length same ∙ length-map-range_with_len (λ k. cycle (k + 1)) 0 place

-- Each stands at its place.
pub cycles-at : (cycle : ℕ → ℕ) (list : List ℕ) (count : ℕ)
    → list ≡ map (λ k. cycle (k + 1)) (range_with_len 0 count) → (place : ℕ) → place < count
    → slice_index list place ≡ cycle (place + 1)
cycles-at cycle list count same place within =
    ap (λ xs. slice_index xs place) same
    ∙ get_or-map-range_with_len (λ k. cycle (k + 1)) 0 count place place 0 within (omega arith)

-- One more image.
pub map-more : {X : Type 0} (f : ℕ → X) (old new : List X) (place : ℕ) (x : X)
    → old ≡ map f (range_with_len 0 place) → x ≡ f place → new ≡ old ++ x ∷ []
    → new ≡ map f (range_with_len 0 (place + 1))
map-more f old new place x same is pushed =
    pushed ∙ ap (λ xs. xs ++ x ∷ []) same
    ∙ ap (λ y. map f (range_with_len 0 place) ++ y ∷ []) is
    ∙ sym (map-range_with_len_more f 0 place place (omega arith))

-- One more of what passes a test.
pub kept-more : {X : Type 0} (test : X → Bool) (f : ℕ → X) (old new : List X) (place : ℕ) (x : X)
    → old ≡ filter test (map f (range_with_len 0 place)) → x ≡ f place
    → new ≡ old ++ cond (test x) (x ∷ []) []
    → new ≡ filter test (map f (range_with_len 0 (place + 1)))
kept-more test f old new place x same is pushed =
    pushed ∙ ap (λ xs. xs ++ cond (test x) (x ∷ []) []) same
    ∙ ap (λ y. filter test (map f (range_with_len 0 place)) ++ cond (test y) (y ∷ []) []) is
    ∙ sym (filter_of_map_range_with_len_more test f 0 place place (omega arith))

-- There is room behind them for a path's delay.
pub cycles-room : (cycle : ℕ → ℕ) (list : List ℕ) (place cycles delay : ℕ)
    → list ≡ map (λ k. cycle (k + 1)) (range_with_len 0 place)
    → ((i : ℕ) → cycle (i + 1) ≤ cycles) → cycles ≤ max_cycles → delay ≤ max_path_delay
    → (i : ℕ) → slice_index list i + delay ≤ 2 * max_cycles
cycles-room cycle list place cycles delay same low most short i =
    let here = before-most cycle place 0 0 cycles low i in
    let at = ap (λ xs. slice_index xs i) same in
    omega (arith, here, at, most, short)

-- What comes after a cycle is bounded as the cycles are.
pub after-most : (list : List ℕ) (place back delay most : ℕ)
    → ((i : ℕ) → slice_index list i + delay ≤ most) → after list place back delay ≤ most
after-most list place back delay most low = elim (cases_lt place back) [
  | inl few ↦ rw (lt-leb back place few) (omega arith)
  | inr many ↦ rw (le-leb back place many) (low (place - back))
]

-- No path of a shape in its range is without delay.
pub shape-paths : (shape : ChannelShape) → IsShapeInRange shape → HasPaths (shape_of shape)
shape-paths shape is = record {
  path = let some = is.least_links in omega arith;
  back_path = let some = is.least_back in omega arith;
}

module _ (lane : Lane) (is : IsLane lane) where
  -- the server of a lane sends throughout the run
  pub lane-opens : IsOpenFor (server_in lane) lane.cycles
  lane-opens = opens lane.receivers.now lane.cycles (leg_in lane) lane.offers.now is.offers
      (shape-paths lane.shape is.shape)

  -- it accepts what is offered
  pub lane-accepts : accepted (server_in lane) ≡ cycles_of lane.offers.now
  lane-accepts = accepted-is lane.receivers.now lane.cycles (leg_in lane) lane.offers.now is.offers

  pub lane-count : length (accepted (server_in lane)) ≡ length lane.offers.now
  lane-count = ap length lane-accepts
      ∙ length-map lane.offers.now (λ (offer : Offer). offer.cycle)

  pub lane-arrival : (place : ℕ) (none : Offer) → place < length lane.offers.now
      → slice_index (accepted (server_in lane)) place ≡ (get_or lane.offers.now place none).cycle
  lane-arrival place none within =
      ap (λ xs. slice_index xs place) lane-accepts
      ∙ get_or-map (λ (offer : Offer). offer.cycle) lane.offers.now place none 0 within

  pub lane-early : (place : ℕ) → place < length lane.offers.now
      → slice_index (accepted (server_in lane)) place < lane.cycles
  lane-early place within =
      let at = lane-arrival place (record { cycle = 0; value = 0 }) within in
      let low = is.offers.within place (record { cycle = 0; value = 0 }) within in
      omega (arith, at, low)

  -- no cycle of a word lies behind the run
  pub sending-most : (i : ℕ) → sending_cycle (server_in lane) lane.cycles (i + 1) ≤ lane.cycles
  sending-most i = (sent-reached (server_in lane) lane.cycles lane-opens (i + 1) (omega arith)).within

  pub crediting-most : (i : ℕ)
      → crediting_cycle (server_in lane) lane.cycles (i + 1) ≤ lane.cycles
  crediting-most i =
      (credited-reached (server_in lane) lane.cycles lane-opens (i + 1) (omega arith)).within

  pub taking-most : (i : ℕ) → taking_cycle (server_in lane) lane.cycles (i + 1) ≤ lane.cycles
  taking-most i = (taken-reached (server_in lane) lane.cycles lane-opens (i + 1) (omega arith)).within

  -- the receiver takes what its rows say
  pub lane-pull : (t : ℕ) → t < lane.cycles
      → server_pull (server_in lane) t ≡ pull_at lane.receivers.now lane.item.channel t
  lane-pull t low = rw (lt-ltb t (lane.cycles + max_path_delay) (omega (arith, low))) refl

module _ (server : PrivateServer) (cycles i : ℕ) where
  abbrev returned : ℕ
  returned = after (crediting_cycles server cycles i) i server.buffer
      server.shape.back_path_delay

  abbrev apart : ℕ
  apart = after (sending_cycles server cycles i) i words_per_flit 1

  -- a word can be sent from the greatest of the three on
  pub ready-to-go : (m : ℕ) → 1 ≤ server.buffer → i < length (accepted server)
      → m ≡ max (max (slice_index (accepted server) i) returned) apart
      → IsReadyToGo server cycles i m
  ready-to-go m some known is =
      let arrival : ℕ = slice_index (accepted server) i in
      let credit = after-is (crediting_cycle server cycles) i server.buffer
      server.shape.back_path_delay some in
      let flit = after-is (sending_cycle server cycles) i words_per_flit 1 (omega arith) in
      let no_credit = after-none (crediting_cycle server cycles) i server.buffer
      server.shape.back_path_delay in
      let no_flit = after-none (sending_cycle server cycles) i words_per_flit 1 in
      record {
        known = known;
        arrival = omega (arith, is);
        credit = λ many. omega (arith, is, credit many);
        flit = λ many. omega (arith, is, flit many);
        since = elim (cases_lt (max (slice_index (accepted server) i) returned) apart) [
          | inl last ↦ elim (cases_lt i words_per_flit) [
            | inl few ↦ absurd (omega (arith, last, no_flit few))
            | inr many ↦ inr (inr (many, omega (arith, is, last, flit many)))
          ]
          | inr others ↦ elim (cases_lt (slice_index (accepted server) i) returned) [
            | inl later ↦ elim (cases_lt i server.buffer) [
              | inl few ↦ absurd (omega (arith, later, no_credit few))
              | inr many ↦ inr (inl (many, omega (arith, is, others, later, credit many)))
            ]
            | inr sooner ↦ inl (omega (arith, is, others, sooner))
          ]
        ];
      }

  abbrev credited_apart : ℕ
  credited_apart = after (crediting_cycles server cycles i) i credits_per_flit 1

  -- its credit from the greater of the two on
  pub credit-ready : (m : ℕ) → m ≡ max credited_apart (taking_cycle server cycles (i + 1) + 1)
      → IsCreditReady server cycles i m
  credit-ready m is =
      let flit = after-is (crediting_cycle server cycles) i credits_per_flit 1 (omega arith) in
      let no_flit = after-none (crediting_cycle server cycles) i credits_per_flit 1 in
      record {
        taking = omega (arith, is);
        flit = λ many. omega (arith, is, flit many);
        since = elim (cases_lt (taking_cycle server cycles (i + 1) + 1) credited_apart) [
          | inl last ↦ elim (cases_lt i credits_per_flit) [
            | inl few ↦ absurd (omega (arith, last, no_flit few))
            | inr many ↦ inr (many, omega (arith, is, last, flit many))
          ]
          | inr taken ↦ inl (omega (arith, is, taken))
        ];
      }

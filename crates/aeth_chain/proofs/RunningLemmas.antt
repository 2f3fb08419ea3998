-- A running chain: its time from word to word, which stays small.
use Rattle.std.proofs.Common.{ℕ, ◌+◌, ◌*◌, ◌<◌, ◌≤◌, ◌≡◌, ◌∙◌, List, [], ◌∷◌, length, max, get_or}
use Rattle.std.proofs.Common.{ap, refl, sym, suc, arith, All, slice_index}
use Rattle.std.proofs.Math.Nat.{mul-le-mul}
use Rattle.std.proofs.lemmas.List.{get_or-map, length-map}
use Rattle.std.proofs.lemmas.List.Elements.{All-cons, All-head, All-nil, All-tail}
use Rattle.aeth_base.specs.Limits.{max_cycles, max_slots, words_per_flit}
use Rattle.aeth_server.specs.{FinishTimes.finish_time, ChannelShape.shape_of}
use Rattle.aeth_server.specs.{declared.shape.ChannelShape.ChannelShape}
use Rattle.aeth_chain.specs.{Chain.IsChain, Chain.legs_of, Chain.size_of, ChainRun.chain_time}
use Rattle.aeth_chain.specs.{ChainRun.cycles_of, Lanes.IsRunning, Lanes.legs_in}
use Rattle.aeth_chain.specs.{Limits.max_chain_items, Limits.max_leg_latency}
use Rattle.aeth_chain.specs.{declared.item.ChainItem.ChainItem, declared.passing.Offer.Offer}
use Rattle.aeth_chain.specs.{declared.run.Running.Running}
use Rattle.aeth_chain.proofs.FinishLemmas.{finish-most}

-- The size of a chain is that of its first shape.
pub size-first : (items : List ChainItem) (shapes : List ChannelShape) (none : ChannelShape)
    → IsChain items shapes
    → size_of (legs_of items shapes) ≡ (shape_of (get_or shapes 0 none)).size
size-first [] shapes none is = absurd (let some = is.some in omega arith)
size-first (item ∷ items) [] none is = absurd (let beside = is.beside in omega arith)
size-first (item ∷ items) (shape ∷ shapes) none is = refl

-- Offers before a cycle have cycles before it.
early-cycles : (end : ℕ) (offers : List Offer) → All (λ (offer : Offer). offer.cycle < end) offers
    → All (λ a. a < end) (cycles_of offers)
early-cycles end [] are = All-nil (λ a. a < end)
early-cycles end (offer ∷ offers) are =
    All-cons (λ a. a < end) offer.cycle (cycles_of offers)
    (All-head (λ (offer : Offer). offer.cycle < end) offer offers are)
    (early-cycles end offers
    (All-tail (λ (offer : Offer). offer.cycle < end) offer offers are))

-- A busy period is begun, and a word follows, before the greatest time.
abbrev pub most_start : ℕ
most_start = words_per_flit * max_slots * (max_cycles + max_leg_latency * max_chain_items)

module _ (running : Running) (is : IsRunning running) (place : ℕ)
    (within : place < length running.first.now) where
  -- the start of a busy period is small
  pub start-most : (offered : ℕ) → offered ≤ max_cycles
      → running.bound.rate * (offered + running.bound.latency) ≤ most_start
  start-most offered early =
      let latency = is.latency in
      let sum : offered + running.bound.latency
      ≤ max_cycles + max_leg_latency * max_chain_items = omega (arith, early, latency) in
      mul-le-mul is.most_rate sum

  -- so is each time of the chain
  pub time-most : size_of (legs_in running) ≤ max_slots
      → chain_time (legs_in running) running.first.now place ≤ most_start + max_slots * place
  time-most small =
      let count = length-map running.first.now (λ (offer : Offer). offer.cycle) in
      let most = finish-most (size_of (legs_in running)) running.bound.rate
      running.bound.latency running.cycles (cycles_of running.first.now)
      (early-cycles running.cycles running.first.now is.first.within) place
      (omega (arith, count, within)) in
      let start = start-most running.cycles is.cycles in
      let share : size_of (legs_in running) * place ≤ max_slots * place =
      mul-le-mul small (omega arith) in
      let same = ap (λ bound. finish_time (size_of (legs_in running)) bound.rate bound.latency
      (cycles_of running.first.now) place) is.bound in
      omega (arith, most, start, share, same)

  -- one more word
  pub time-next : (none : Offer) (finish : ℕ)
      → finish ≡ chain_time (legs_in running) running.first.now place
      → max (running.bound.rate * ((get_or running.first.now place none).cycle
      + running.bound.latency)) finish + size_of (legs_in running)
      ≡ chain_time (legs_in running) running.first.now (place + 1)
  time-next none finish same =
      let next : place + 1 ≡ suc place = omega arith in
      let at = get_or-map (λ (offer : Offer). offer.cycle) running.first.now place none 0 within in
      ap (λ n. max (running.bound.rate * (n + running.bound.latency)) finish
      + size_of (legs_in running)) (sym at)
      ∙ ap (λ n. max (running.bound.rate * (slice_index (cycles_of running.first.now) place
      + running.bound.latency)) n + size_of (legs_in running)) same
      ∙ ap (λ bound. max (bound.rate * (slice_index (cycles_of running.first.now) place
      + bound.latency)) (chain_time (legs_in running) running.first.now place)
      + size_of (legs_in running)) is.bound
      ∙ ap (chain_time (legs_in running) running.first.now) (sym next)

-- Chains: channels each of which but the last ends at a core that works on each word for some cycles and
-- then offers it on the next; and the rate and the latency of the whole.
--
--   Leg, legs_of      a channel of a chain with its shape, and all of them
--   IsChain, AreDistinct      what is asked of a chain
--   chain_rate, latency_along      the least rate, and the latency at a rate
--   bound_of, size_of      both, and the table size
-- Latency-rate servers one after the other: after Stiliadis and Varma (1998). The delay of receivers, the
-- work and whole cycles: this project's own.
use Rattle.std.proofs.Common.{ℕ, ◌+◌, ◌-◌, ◌<◌, ◌≤◌, ◌≡◌, All, List, [], ◌∷◌, Some, length, min}
use Rattle.std.proofs.Common.{slice_get}
use Rattle.std.specs.Int.{div_ceil}
use Rattle.aeth_base.specs.declared.ids.Channel.{Channel}
use Rattle.aeth_server.specs.{ChannelShape.IsShapeInRange, ChannelShape.shape_of, Shape.Shape}
use Rattle.aeth_server.specs.{Shape.channel_latency, declared.shape.ChannelShape.ChannelShape}
use Rattle.aeth_chain.specs.Limits.{max_chain_items, max_work}
use Rattle.aeth_chain.specs.declared.{bound.ChainBound.ChainBound, item.ChainItem.ChainItem}

-- A channel of a chain: which it is, its shape, and how long the core at its end works on each word.
pub record Leg : Type 0 where
  pub channel : Channel
  pub shape : Shape
  pub work : ℕ

-- An item with the shape of its channel.
abbrev pub leg_of : ChainItem → ChannelShape → Leg
leg_of item shape = record { channel = item.channel; shape = shape_of shape; work = item.work }

-- Items with the shapes of their channels.
abbrev pub legs_of : List ChainItem → List ChannelShape → List Leg
legs_of (item ∷ items) (shape ∷ shapes) = leg_of item shape ∷ legs_of items shapes
legs_of _ _ = []

-- Items and shapes that are a chain: 1 to 16 of them, with shapes in their ranges, of one table size;
-- a core at the end of each but the last works for 1 to 4,096 cycles, and behind the last there is none.
pub record IsChain (items : List ChainItem) (shapes : List ChannelShape) : Type 0 where
  pub some : 1 ≤ length items
  pub few : length items ≤ max_chain_items
  pub beside : length shapes ≡ length items
  pub ranges : All IsShapeInRange shapes
  pub one_size : (i j : ℕ) (a b : ChannelShape) → slice_get shapes i ≡ Some a
      → slice_get shapes j ≡ Some b → a.slots.size ≡ b.slots.size
  pub works : (i : ℕ) (item : ChainItem) → slice_get items i ≡ Some item → i + 1 < length items
      → (1 ≤ item.work) × (item.work ≤ max_work)
  pub last : (item : ChainItem) → slice_get items (length items - 1) ≡ Some item → item.work ≡ 0

-- No channel stands in two items.
abbrev pub AreDistinct : List ChainItem → Type 0
AreDistinct items = (i j : ℕ) (a b : ChainItem) → slice_get items i ≡ Some a
    → slice_get items j ≡ Some b → a.channel ≡ b.channel → i ≡ j

-- The rate of a chain: the least of its channels.
abbrev pub chain_rate : List Leg → ℕ
chain_rate [] = 0
chain_rate (leg ∷ []) = leg.shape.rate
chain_rate (leg ∷ next ∷ legs) = min leg.shape.rate (chain_rate (next ∷ legs))

-- From the offer on a channel to that on the next, beyond the landing, at a rate: the receiver's delay,
-- the work, a cycle since words are due at whole cycles, and a word's share of the table.
abbrev pub passing_latency : ℕ → Leg → ℕ
passing_latency rate leg = leg.shape.receiver_delay + leg.work + 1 + div_ceil leg.shape.size rate

-- From the offer of a word on the first channel to its landing on the last, at a rate.
abbrev pub latency_along : ℕ → List Leg → ℕ
latency_along rate [] = 0
latency_along rate (leg ∷ []) = channel_latency leg.shape
latency_along rate (leg ∷ next ∷ legs) =
    channel_latency leg.shape + passing_latency rate leg + latency_along rate (next ∷ legs)

-- The rate of a chain, and its latency at that.
abbrev pub bound_of : List Leg → ChainBound
bound_of legs = record { rate = chain_rate legs; latency = latency_along (chain_rate legs) legs }

-- The table size of a chain, which all its channels have.
abbrev pub size_of : List Leg → ℕ
size_of [] = 0
size_of (leg ∷ legs) = leg.shape.size

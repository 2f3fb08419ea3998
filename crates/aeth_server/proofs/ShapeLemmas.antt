-- What a channel's shape gives.
use Rattle.std.proofs.Common.{◌*◌, ◌+◌, ◌-◌, ◌<◌, ◌≡◌, ◌≤◌, ap, arith, subst, sym, ℕ}
use Rattle.std.proofs.Math.Nat.{mul-le-mul}
use Rattle.std.specs.Int.{div_ceil}
use Rattle.aeth_base.specs.Limits.{credits_per_flit, max_path_delay, max_receiver_delay, max_slots}
use Rattle.aeth_base.specs.Limits.{words_per_flit}
use Rattle.aeth_base.proofs.Division.{le-div_ceil, div_ceil-le}
use Rattle.aeth_slots.specs.SlotSet.{Ascends, IsSlotSet}
use Rattle.aeth_server.specs.declared.shape.ChannelShape.{ChannelShape}
use Rattle.aeth_server.specs.ChannelShape.{IsShapeInRange, shape_of}
use Rattle.aeth_server.specs.Shape.{Shape, IsGranted, payload_latency, credit_latency, round_trip}
use Rattle.aeth_server.specs.Shape.{buffer_of}
use Rattle.aeth_server.proofs.SlotCycleLemmas.{slots-most}
use Rattle.aeth_server.proofs.ServiceLemmas.{IsBounded, latency-bounded, some-size}

-- The slots serve the words.
pub payload-bounded : (shape : Shape) → IsGranted shape
    → IsBounded shape.size shape.slots words_per_flit shape.rate (payload_latency shape)
payload-bounded shape is =
    latency-bounded shape.size shape.slots words_per_flit shape.rate is.ascends (omega arith)
    is.least_rate is.capacity

-- The opposite slots serve the credits.
pub credits-bounded : (shape : Shape) → IsGranted shape
    → IsBounded shape.size shape.back_slots credits_per_flit shape.rate (credit_latency shape)
credits-bounded shape is =
    latency-bounded shape.size shape.back_slots credits_per_flit shape.rate is.back_ascends
    (omega arith) is.least_rate is.back_capacity

-- The table has a slot.
pub granted-size : (shape : Shape) → IsGranted shape → 0 < shape.size
granted-size shape is =
    some-size shape.size shape.slots words_per_flit shape.rate (payload_latency shape)
    (payload-bounded shape is)

-- A buffer holds the words of a round trip, and two more.
pub buffer-room : (shape : Shape) (buffer : ℕ) → 0 < shape.size → buffer_of shape ≤ buffer
    → shape.rate * round_trip shape + 2 * shape.size ≤ buffer * shape.size
buffer-room shape buffer some enough =
    let round = le-div_ceil (shape.rate * round_trip shape) shape.size (buffer - 2) some
    (omega (arith, enough)) in
    let whole : (buffer - 2) + 2 ≡ buffer = omega (arith, enough) in
    let words = ap (λ n. n * shape.size) whole in
    omega (arith, round, words)

-- A round trip takes at most two tables, two paths, the longest delay of a receiver and a cycle.
abbrev pub max_round_trip : ℕ
max_round_trip = 2 * (max_slots + max_path_delay) + max_receiver_delay + 1

-- A buffer is no more than the words of so many full cycles, and two more.
pub buffer-most : (rate size round words : ℕ) → words ≡ div_ceil (rate * round) size → 0 < size
    → rate ≤ words_per_flit * size → round ≤ max_round_trip
    → words ≤ words_per_flit * max_round_trip
buffer-most rate size round words is some few near =
    let product : rate * round ≤ words_per_flit * size * max_round_trip = mul-le-mul few near in
    let all : rate * round ≤ size * (words_per_flit * max_round_trip) = omega (arith, product) in
    omega (arith, is, div_ceil-le (rate * round) size (words_per_flit * max_round_trip) some all)

-- A rate is at most that of a whole table.
pub need-most : (shape : ChannelShape) → IsSlotSet shape.slots → IsShapeInRange shape
    → shape.need ≤ shape.slots.size
need-most shape set is =
    let few = slots-most shape.slots.size shape.slots.slots set.ascends in
    omega (arith, few, is.capacity)

-- A shape in its range, of slot sets, is granted what it asks for.
pub shape-granted : (shape : ChannelShape) → IsSlotSet shape.slots → IsSlotSet shape.back
    → IsShapeInRange shape → IsGranted (shape_of shape)
shape-granted shape own back is = record {
  paths = record {
    path = let some = is.least_links in omega arith;
    back_path = let some = is.least_back in omega arith;
  };
  least_rate = let some = is.least_need in omega arith;
  ascends = own.ascends;
  capacity = let few = is.capacity in omega arith;
  back_ascends = subst (λ n. Ascends 0 n shape.back.slots) (sym is.same_size) back.ascends;
  back_capacity = is.back_capacity;
}

-- What a server has sent, from what arrived.
use Rattle.std.proofs.Common.{ℕ, ◌+◌, ◌-◌, ◌*◌, ◌/◌, ◌%◌, ◌<◌, ◌≤◌, ◌≡◌, ◌∙◌, zero, suc, Bool, true}
use Rattle.std.proofs.Common.{false, List, length, min, sym, refl, ap, inl, inr, arith}
use Rattle.std.proofs.lemmas.Bool.{cases_lt, cases_eq}
use Rattle.std.proofs.Math.Nat.{mod-eq_of_lt, add-mod_right, mul-le-mul_left, mul-le-mul_right}
use Rattle.std.proofs.Math.Nat.{lt_of_mul-lt-mul_left}
use Rattle.aeth_slots.specs.SlotSet.{Ascends}
use Rattle.aeth_server.specs.SlotCycles.{is_slot, slots_within, nth_slot}
use Rattle.aeth_server.specs.Latency.{BoundsService, latency_of}
use Rattle.aeth_server.specs.SlotServer.{served, ServesInFull}
use Rattle.aeth_server.proofs.LatencyLemmas.{latency_of-enough}
use Rattle.aeth_server.proofs.SlotCycleLemmas.{slots_within-slot, slots_within-other}
use Rattle.aeth_server.proofs.SlotCycleLemmas.{slots_within-more, slots_within-same}
use Rattle.aeth_server.proofs.SlotCycleLemmas.{slots_within-add, slots_within-turn, slots-most}
use Rattle.aeth_server.proofs.SlotCycleLemmas.{nth_slot-reached}

module _ (size : ℕ) (slots : List ℕ) (cap : ℕ) (arrived : ℕ → ℕ) where
  abbrev sent : ℕ → ℕ
  sent t = served size slots cap arrived t

  -- ---- from cycle to cycle
  -- in a slot as many as wait go, up to cap
  pub served-slot : (t : ℕ) → is_slot size slots t ≡ true
      → sent (suc t) ≡ sent t + min cap (arrived (suc t) - sent t)
  served-slot t is = rw is refl

  -- in another cycle nothing goes
  pub served-other : (t : ℕ) → is_slot size slots t ≡ false → sent (suc t) ≡ sent t
  served-other t is = rw is (omega arith)

  -- what is sent never falls
  pub served-next : (t : ℕ) → sent t ≤ sent (suc t)
  served-next t = omega arith

  -- ---- the service lemma
  -- From some cycle up to t each slot was served in full, and nothing waited before it.
  pub serves-in-full : arrived 0 ≡ 0 → (t : ℕ) → ServesInFull size slots cap arrived t
  serves-in-full none zero =
      record { start = 0; cycles = 0; ends = refl; in_full = omega (arith, none) }
  serves-in-full none (suc t) =
      let before = serves-in-full none t in
      let longer : before.start + suc before.cycles ≡ suc t = omega (arith, before.ends) in
      let here = ap (is_slot size slots) before.ends in
      let split : (v : Bool) → is_slot size slots t ≡ v
      → ServesInFull size slots cap arrived (suc t) = elim [
        | false ↦ λ is.
            let rests = served-other t is in
            let count = slots_within-other size slots before.start before.cycles (here ∙ is) in
            let words = ap (λ n. cap * n) count in
            record {
              start = before.start;
              cycles = suc before.cycles;
              ends = longer;
              in_full = omega (arith, before.in_full, rests, words);
            }
        | true ↦ λ is.
            let sends = served-slot t is in
            let count = slots_within-slot size slots before.start before.cycles (here ∙ is) in
            let words = ap (λ n. cap * n) count in
            elim (cases_lt (arrived (suc t)) (sent t + cap)) [
              | inl all ↦
                  record {
                    start = suc t;
                    cycles = 0;
                    ends = omega arith;
                    in_full = omega (arith, sends);
                  }
              | inr more ↦
                  record {
                    start = before.start;
                    cycles = suc before.cycles;
                    ends = longer;
                    in_full = omega (arith, before.in_full, sends, words);
                  }
            ]
      ] in split (is_slot size slots t) refl

-- ---- a latency that bounds the service, for every cycle and every number of slots
-- what the law of a server stands on.
pub record IsBounded (size : ℕ) (slots : List ℕ) (cap rate theta : ℕ) : Type 0 where
  pub ascends : Ascends 0 size slots
  pub least_cap : 1 ≤ cap
  pub least_rate : 1 ≤ rate
  pub capacity : rate ≤ cap * length slots
  pub bounds : BoundsService size slots cap rate theta

-- The latency of slots that can carry a rate.
pub latency-bounded : (size : ℕ) (slots : List ℕ) (cap rate : ℕ) → Ascends 0 size slots → 1 ≤ cap
    → 1 ≤ rate → rate ≤ cap * length slots
    → IsBounded size slots cap rate (latency_of size slots cap rate)
latency-bounded size slots cap rate ascends some some_rate fits = record {
  ascends = ascends;
  least_cap = some;
  least_rate = some_rate;
  capacity = fits;
  bounds = latency_of-enough size slots cap rate some_rate;
}

-- The slot after k others comes in time.
pub record ComesInTime (size : ℕ) (slots : List ℕ) (cap rate theta s k : ℕ) : Type 0 where
  pub wait : ℕ
  pub reached : k + 1 ≤ slots_within size slots s (wait + 1)
  pub early : rate * wait ≤ rate * theta + (cap * k + 1) * size

module _ (size : ℕ) (slots : List ℕ) (cap rate theta : ℕ)
    (is : IsBounded size slots cap rate theta) where
  -- a rate needs slots
  pub some-slots : 0 < length slots
  some-slots = elim (cases_eq (length slots) 0) [
    | inl none ↦
        let nothing = ap (λ n. cap * n) none in
        absurd (omega (arith, nothing, is.least_rate, is.capacity))
    | inr some ↦ omega arith
  ]

  -- and a table with slots has a cycle
  pub some-size : 0 < size
  some-size = omega (arith, slots-most size slots is.ascends, some-slots)

  abbrev within : ℕ → ℕ → ℕ
  within s n = slots_within size slots s n

  first-turn : (s k : ℕ) → k < length slots → ComesInTime size slots cap rate theta s k
  first-turn s k few =
      let some = some-size in
      let start : s % size < size = omega arith in
      let least : 1 ≤ k + 1 = omega arith in
      let most : k + 1 ≤ length slots = omega arith in
      let found = nth_slot-reached size slots is.ascends (s % size) (k + 1) least most in
      let holds = is.bounds.holds (s % size) (k + 1) start least most in
      let before : (k + 1) - 1 ≡ k = omega arith in
      let turned = slots_within-same size slots (s % size) s
      ((nth_slot size slots (s % size) (k + 1) - s % size) + 1) (mod-eq_of_lt start) in
      record {
        wait = nth_slot size slots (s % size) (k + 1) - s % size;
        reached = omega (arith, found.reached, turned);
        early = rw before at holds;
      }

  -- each further turn brings all slots once more, for which the rate is low enough
  later-turns : (turns s k : ℕ) → k < turns → ComesInTime size slots cap rate theta s k
  later-turns zero s k few = absurd (omega arith)
  later-turns (suc turns) s k few =
      elim (cases_lt k (length slots)) [
        | inl low ↦ first-turn s k low
        | inr high ↦
            let some = some-slots in
            let rest = later-turns turns s (k - length slots) (omega arith) in
            let split = slots_within-add size slots s size (rest.wait + 1) in
            let same = add-mod_right s size in
            let turned = slots_within-same size slots (s + size) s (rest.wait + 1) same in
            let turn = slots_within-turn size slots is.ascends s in
            let order : size + (rest.wait + 1) ≡ (rest.wait + size) + 1 = omega arith in
            let whole = ap (within s) order in
            let wide : rate * size ≤ cap * length slots * size =
            mul-le-mul_right size is.capacity in
            let number : (k - length slots) + length slots ≡ k = omega arith in
            let words = ap (λ n. (cap * n + 1) * size) number in
            record {
              wait = rest.wait + size;
              reached = omega (arith, rest.reached, split, whole, turned, turn);
              early = omega (arith, rest.early, wide, words);
            }
      ]

  -- so the bound holds for every cycle and every number of slots
  pub comes-in-time : (s k : ℕ) → ComesInTime size slots cap rate theta s k
  comes-in-time s k = later-turns (suc k) s k (omega arith)

  -- in n cycles from s on, that end after time / rate, m words can go
  words-go : (s n m time : ℕ) → 1 ≤ m → rate * (s + theta) + m * size ≤ time → time < rate * (s + n)
      → m ≤ cap * within s n
  words-go s n m time some fits late =
      let wide = is.least_cap in
      let parts : cap * ((m - 1) / cap) + (m - 1) % cap ≡ m - 1 = omega arith in
      let rest : (m - 1) % cap < cap = omega arith in
      let last = comes-in-time s ((m - 1) / cap) in
      let few : cap * ((m - 1) / cap) + 1 ≤ m = omega arith in
      let share : (cap * ((m - 1) / cap) + 1) * size ≤ m * size = mul-le-mul_right size few in
      let soon : rate * (s + last.wait) < rate * (s + n) = omega (arith, last.early, share) in
      let below : s + last.wait < s + n = lt_of_mul-lt-mul_left rate soon in
      let more = slots_within-more size slots s (last.wait + 1) n (omega (arith, below)) in
      let count : (m - 1) / cap + 1 ≤ within s n = omega (arith, last.reached, more) in
      let enough : cap * ((m - 1) / cap + 1) ≤ cap * within s n = mul-le-mul_left cap count in
      omega (arith, enough)

  -- A word is sent before cycle t, where t is after time / rate, and the time leaves room for the
  -- word and those before it, from whatever cycle they wait.
  pub served-by : (arrived : ℕ → ℕ) → arrived 0 ≡ 0 → (t i time : ℕ) → time < rate * t
      → ((s : ℕ) → s ≤ t → arrived s < i → rate * (s + theta) + (i - arrived s) * size ≤ time)
      → i ≤ served size slots cap arrived t
  served-by arrived none t i time late leaves =
      let full = serves-in-full size slots cap arrived none t in
      elim (cases_lt (arrived full.start) i) [
        | inr gone ↦ omega (arith, full.in_full)
        | inl waits ↦
            let whole = ap (λ n. rate * n) (sym full.ends) in
            let room = leaves full.start (omega (arith, full.ends)) waits in
            let some : 1 ≤ i - arrived full.start = omega arith in
            let end : time < rate * (full.start + full.cycles) = omega (arith, whole) in
            let go = words-go full.start full.cycles (i - arrived full.start) time some room end in
            omega (arith, go, full.in_full)
      ]

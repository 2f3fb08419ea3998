-- The walk over the slots of two tables that finds the latency: how far the slots are behind the
-- rate, from whatever cycle on a server is busy.
use Rattle.std.proofs.Common.{ℕ, zero, suc, ◌+◌, ◌-◌, ◌*◌, ◌<◌, ◌≤◌, ◌≡◌, ◌∙◌, true, false, max}
use Rattle.std.proofs.Common.{◌%◌, List, length, Contains, refl, sym, ap, subst, inl, inr, arith}
use Rattle.std.proofs.Math.Nat.{mul-le-mul, mul-le-mul_left, mul-le-mul_right}
use Rattle.std.proofs.lemmas.Bool.{cases_eq, cases_lt}
use Rattle.std.specs.Int.{div_ceil}
use Rattle.aeth_base.proofs.Division.{div_ceil-le, le-div_ceil}
use Rattle.aeth_base.proofs.ExtremeLemmas.{true_and_false}
use Rattle.aeth_base.specs.Limits.{credits_per_flit, max_slots}
use Rattle.aeth_slots.specs.SlotSet.{Ascends, IsNextSlot}
use Rattle.aeth_slots.proofs.Ascending.{Ascends-bounds}
use Rattle.aeth_server.specs.SlotCycles.{is_slot, nth_slot, slots_within}
use Rattle.aeth_server.specs.Latency.{BoundsService, latency_of}
use Rattle.aeth_server.proofs.LatencyLemmas.{latency_of-enough, latency_of-least, latency_of-within}
use Rattle.aeth_server.proofs.ServiceLemmas.{IsBounded, comes-in-time}
use Rattle.aeth_server.proofs.SlotCycleLemmas.{slots-most, slots_within-more, slots_within-other}
use Rattle.aeth_server.proofs.SlotCycleLemmas.{slots_within-slot}
use Rattle.aeth_server.proofs.SlotWalk.{nth_slot-waits, slot-reached, slots-passed}

-- How far the slots are behind the rate at the end of a stretch: the most, from some cycle on.
pub record IsBehind (size : ℕ) (slots : List ℕ) (cap rate t behind : ℕ) : Type 0 where
  pub most : (s n : ℕ) → s + n ≡ t → rate * n ≤ behind + cap * slots_within size slots s n * size
  pub start : ℕ
  pub cycles : ℕ
  pub ends : start + cycles ≡ t
  pub some : behind + cap * slots_within size slots start cycles * size ≤ rate * cycles

-- How late the slots of a stretch come: as late as with every latency that bounds the service.
pub record IsLate (size : ℕ) (slots : List ℕ) (cap rate t late : ℕ) : Type 0 where
  pub most : (s n : ℕ) → s + n < t → is_slot size slots (s + n) ≡ true
      → rate * n ≤ late + (cap * slots_within size slots s n + 1) * size
  pub least : (theta : ℕ) → BoundsService size slots cap rate theta → late ≤ rate * theta

-- The walk so far.
pub record Walked (size : ℕ) (slots : List ℕ) (cap rate t behind late : ℕ) : Type 0 where
  pub behind_is : IsBehind size slots cap rate t behind
  pub late_is : IsLate size slots cap rate t late

-- What a rate asks of its slots.
pub record Carries (size : ℕ) (slots : List ℕ) (cap rate : ℕ) : Type 0 where
  pub ascends : Ascends 0 size slots
  pub least_cap : 1 ≤ cap
  pub least_rate : 1 ≤ rate
  pub capacity : rate ≤ cap * length slots

-- What is found, with all that holds of it.
pub record IsLatency (size : ℕ) (slots : List ℕ) (cap rate theta : ℕ) : Type 0 where
  pub gives : theta ≡ latency_of size slots cap rate
  pub enough : BoundsService size slots cap rate theta
  pub least : (other : ℕ) → BoundsService size slots cap rate other → theta ≤ other
  pub within : theta ≤ size

module _ (size : ℕ) (slots : List ℕ) (cap rate : ℕ) where
  abbrev within : ℕ → ℕ → ℕ
  within s n = slots_within size slots s n

  abbrev WalkedTo : ℕ → ℕ → ℕ → Type 0
  WalkedTo t behind late = Walked size slots cap rate t behind late

  -- Before the first cycle.
  pub walk-start : WalkedTo 0 0 0
  walk-start = record {
    behind_is = record {
      most = λ s n ends.
          let none : n ≡ 0 = omega arith in
          let same = ap (λ m. rate * m) none in
          omega (arith, same);
      start = 0;
      cycles = 0;
      ends = refl;
      some = omega arith;
    };
    late_is = record { most = λ s n before is. absurd (omega arith); least = λ theta bounds. omega arith };
  }

  -- A cycle without a slot.
  other-most : (t behind : ℕ) → IsBehind size slots cap rate t behind
      → is_slot size slots t ≡ false → (s n : ℕ) → s + n ≡ suc t
      → rate * n ≤ behind + rate + cap * within s n * size
  other-most t behind so_far none s zero ends = omega arith
  other-most t behind so_far none s (suc n) ends =
      let here : s + n ≡ t = omega arith in
      let rests = slots_within-other size slots s n (ap (is_slot size slots) here ∙ none) in
      let words = ap (λ k. cap * k * size) rests in
      omega (arith, so_far.most s n here, words)

  pub walk-other : (t behind late : ℕ) → WalkedTo t behind late → is_slot size slots t ≡ false
      → WalkedTo (suc t) (behind + rate) late
  walk-other t behind late walked none =
      let so_far = walked.behind_is in
      let rests = slots_within-other size slots so_far.start so_far.cycles
      (ap (is_slot size slots) so_far.ends ∙ none) in
      let words = ap (λ k. cap * k * size) rests in
      record {
        behind_is = record {
          most = other-most t behind so_far none;
          start = so_far.start;
          cycles = suc so_far.cycles;
          ends = omega (arith, so_far.ends);
          some = omega (arith, so_far.some, words);
        };
        late_is = record {
          most = λ s n before is. elim (cases_eq (s + n) t) [
            | inl here ↦
                absurd (true_and_false _ is (ap (is_slot size slots) here ∙ none))
            | inr sooner ↦ walked.late_is.most s n (omega arith) is
          ];
          least = walked.late_is.least;
        };
      }

  -- So many cycles without one.
  pub walk-others : (n t behind late : ℕ) → WalkedTo t behind late
      → ((u : ℕ) → t ≤ u → u < t + n → is_slot size slots u ≡ false)
      → WalkedTo (t + n) (behind + rate * n) late
  walk-others zero t behind late walked none =
      let end : t + 0 ≡ t = omega arith in
      let same : behind + rate * 0 ≡ behind = omega arith in
      rw (end, same) walked
  walk-others (suc n) t behind late walked none =
      let so_far = walk-others n t behind late walked (λ u from to. none u from (omega arith)) in
      let next = walk-other (t + n) (behind + rate * n) late so_far
      (none (t + n) (omega arith) (omega arith)) in
      let end : t + suc n ≡ suc (t + n) = omega arith in
      let more : behind + rate * suc n ≡ behind + rate * n + rate = omega arith in
      rw (end, more) next

  module _ (carries : Carries size slots cap rate) where
    -- With a latency that bounds the service each slot comes in time, from every cycle on.
    in-time : (theta s n : ℕ) → BoundsService size slots cap rate theta
        → rate * n ≤ rate * theta + (cap * within s n + 1) * size
    in-time theta s n bounds =
        let bounded : IsBounded size slots cap rate theta = record {
          ascends = carries.ascends;
          least_cap = carries.least_cap;
          least_rate = carries.least_rate;
          capacity = carries.capacity;
          bounds = bounds;
        } in
        let found = comes-in-time size slots cap rate theta bounded s (within s n) in
        elim (cases_lt found.wait n) [
          | inl sooner ↦
              let more = slots_within-more size slots s (found.wait + 1) n (omega arith) in
              absurd (omega (arith, found.reached, more))
          | inr later ↦
              let near = mul-le-mul_left rate later in
              omega (arith, near, found.early)
        ]

    -- A cycle with a slot.
    slot-most : (t behind : ℕ) → IsBehind size slots cap rate t behind
        → is_slot size slots t ≡ true → (s n : ℕ) → s + n ≡ suc t
        → rate * n ≤ (behind + rate) - cap * size + cap * within s n * size
    slot-most t behind so_far is s zero ends = omega arith
    slot-most t behind so_far is s (suc n) ends =
        let here : s + n ≡ t = omega arith in
        let hit = slots_within-slot size slots s n (ap (is_slot size slots) here ∙ is) in
        let words = ap (λ k. cap * k * size) hit in
        omega (arith, so_far.most s n here, words)

    slot-behind : (t behind : ℕ) → IsBehind size slots cap rate t behind
        → is_slot size slots t ≡ true
        → IsBehind size slots cap rate (suc t) ((behind + rate) - cap * size)
    slot-behind t behind so_far is = elim (cases_lt (behind + rate) (cap * size)) [
      | inl caught_up ↦ record {
        most = slot-most t behind so_far is;
        start = suc t;
        cycles = 0;
        ends = omega arith;
        some = omega arith;
      }
      | inr more ↦
          let hit = slots_within-slot size slots so_far.start so_far.cycles
          (ap (is_slot size slots) so_far.ends ∙ is) in
          let words = ap (λ k. cap * k * size) hit in
          record {
            most = slot-most t behind so_far is;
            start = so_far.start;
            cycles = suc so_far.cycles;
            ends = omega (arith, so_far.ends);
            some = omega (arith, so_far.some, words);
          }
    ]

    pub walk-slot : (t behind late : ℕ) → WalkedTo t behind late → is_slot size slots t ≡ true
        → WalkedTo (suc t) ((behind + rate) - cap * size) (max late (behind - size))
    walk-slot t behind late walked is =
        let so_far = walked.behind_is in
        record {
          behind_is = slot-behind t behind so_far is;
          late_is = record {
            most = λ s n before is_one. elim (cases_eq (s + n) t) [
              | inl here ↦ omega (arith, so_far.most s n here)
              | inr sooner ↦
                  let before_it = walked.late_is.most s n (omega arith) is_one in
                  omega (arith, before_it)
            ];
            least = λ theta bounds.
                let soon = in-time theta so_far.start so_far.cycles bounds in
                let sooner = walked.late_is.least theta bounds in
                omega (arith, so_far.some, soon, sooner);
          };
        }

    -- On to the next slot of the table.
    pub walk-to-slot : (t here slot behind late end next_behind next_late : ℕ)
        → WalkedTo t behind late → here ≡ t % size → IsNextSlot slots here slot
        → end ≡ t + (slot - here + 1)
        → next_behind ≡ (behind + rate * (slot - here) + rate) - cap * size
        → next_late ≡ max late (behind + rate * (slot - here) - size)
        → WalkedTo end next_behind next_late
    walk-to-slot t here slot behind late end next_behind next_late walked is next end_is behind_is
        late_is =
        let bounds = Ascends-bounds 0 size slots carries.ascends slot next.member in
        let n = slot - here in
        let on : here + n ≡ slot = omega (arith, next.after) in
        let passed = slots-passed size slots t here n is (omega (arith, on, bounds.1))
        (λ other has from. omega (arith, next.least other has from, on)) in
        let before = walk-others n t behind late walked passed in
        let has = subst (λ (x : ℕ). Contains slots x) (sym on) next.member in
        let reached = slot-reached size slots t here n is (omega (arith, on, bounds.1)) has in
        let end_here : end ≡ suc (t + n) = omega (arith, end_is) in
        rw (end_here, behind_is, late_is) (walk-slot (t + n) (behind + rate * n) late before reached)

    -- On to the end of the table.
    pub walk-to-end : (t here behind late : ℕ) → WalkedTo t behind late → here ≡ t % size
        → here < size → ((slot : ℕ) → Contains slots slot → slot < here)
        → WalkedTo (t + (size - here)) (behind + rate * (size - here)) late
    walk-to-end t here behind late walked is low none =
        walk-others (size - here) t behind late walked
        (slots-passed size slots t here (size - here) is (omega arith)
        (λ slot has from. absurd (omega (arith, none slot has))))

    -- Each slot from a cycle of the first table on lies in the two.
    walks-enough : (t behind late theta : ℕ) → WalkedTo t behind late → 2 * size ≤ t
        → theta ≡ div_ceil late rate → BoundsService size slots cap rate theta
    walks-enough t behind late theta walked whole is = record {
      holds = λ s q start least most.
          let found = nth_slot-waits size slots carries.ascends s q least most in
          let wait = nth_slot size slots s q - s in
          let comes = walked.late_is.most s wait (omega (arith, found.soon)) found.slot in
          let few : slots_within size slots s wait ≤ q - 1 = omega (arith, found.fewer) in
          let words : cap * slots_within size slots s wait * size ≤ cap * (q - 1) * size =
          mul-le-mul_right size (mul-le-mul_left cap few) in
          let round = le-div_ceil late rate theta carries.least_rate (omega arith) in
          omega (arith, comes, words, round);
    }

    -- The walk over two tables finds the latency.
    pub walks-find : (t behind late theta : ℕ) → WalkedTo t behind late → 2 * size ≤ t
        → theta ≡ div_ceil late rate → IsLatency size slots cap rate theta
    walks-find t behind late theta walked whole is =
        let some = carries.least_rate in
        let enough = walks-enough t behind late theta walked whole is in
        let least : (other : ℕ) → BoundsService size slots cap rate other → theta ≤ other =
        λ other bounds.
        let round = div_ceil-le late rate other some (walked.late_is.least other bounds) in
        omega (arith, round, is) in
        let other_most = latency_of-least size slots cap rate some theta enough in
        let other_least = least (latency_of size slots cap rate)
        (latency_of-enough size slots cap rate some) in
        let within = latency_of-within size slots cap rate some carries.ascends in
        record {
          gives = omega (arith, other_most, other_least);
          enough = enough;
          least = least;
          within = omega (arith, other_least, within);
        }

    -- It stays behind by no more than the rate of all its cycles.
    behind-most : (t behind late : ℕ) → WalkedTo t behind late → behind ≤ rate * t
    behind-most t behind late walked =
        let so_far = walked.behind_is in
        let near : so_far.cycles ≤ t = omega (arith, so_far.ends) in
        let most = mul-le-mul_left rate near in
        omega (arith, so_far.some, most)

    -- So the numbers of the walk fit.
    pub walk-fits : (t behind late n : ℕ) → WalkedTo t behind late → t ≤ 2 * size → n ≤ size
        → size ≤ max_slots → cap ≤ credits_per_flit
        → behind + rate * n + rate ≤ credits_per_flit * max_slots * (3 * max_slots + 1)
    walk-fits t behind late n walked most_t most_n most_size most_cap =
        let few : length slots ≤ max_slots =
        omega (arith, slots-most size slots carries.ascends) in
        let carried : cap * length slots ≤ credits_per_flit * max_slots = mul-le-mul most_cap few in
        let most_rate : rate ≤ credits_per_flit * max_slots = omega (arith, carries.capacity) in
        let near_t : t ≤ 2 * max_slots = omega arith in
        let near_n : n ≤ max_slots = omega arith in
        let so_far : rate * t ≤ credits_per_flit * max_slots * (2 * max_slots) =
        mul-le-mul most_rate near_t in
        let further : rate * n ≤ credits_per_flit * max_slots * max_slots =
        mul-le-mul most_rate near_n in
        omega (arith, behind-most t behind late walked, so_far, further)

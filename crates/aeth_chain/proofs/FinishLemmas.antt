-- Finish times at another rate and at a longer latency, and whole cycles.
use Rattle.std.proofs.Common.{ℕ, ◌+◌, ◌*◌, ◌<◌, ◌≤◌, ◌≡◌, zero, suc, List, get_or, max, sym, ap}
use Rattle.std.proofs.Common.{subst, inl, inr, arith, All, length}
use Rattle.std.proofs.Math.Nat.{mul-le-mul_left, mul-le-mul_right}
use Rattle.std.proofs.lemmas.{Bool.cases_lt, Grind.div_ceil_times}
use Rattle.std.specs.Int.{div_ceil}
use Rattle.aeth_server.specs.FinishTimes.{finish_time}

-- A word that begins a busy period, at two rates.
share-most : (rate own start size time : ℕ) → rate ≤ own → rate * start + size ≤ time
    → rate * (own * start + size) ≤ own * time
share-most rate own start size time few by =
    let whole : own * (rate * start + size) ≤ own * time = mul-le-mul_left own by in
    let share : rate * size ≤ own * size = mul-le-mul_right size few in
    omega (arith, whole, share)

-- One that is done behind another.
share-next : (rate own before size time next : ℕ) → rate ≤ own → rate * before ≤ own * time
    → time + size ≤ next → rate * (before + size) ≤ own * next
share-next rate own before size time next few by up =
    let whole : own * (time + size) ≤ own * next = mul-le-mul_left own up in
    let share : rate * size ≤ own * size = mul-le-mul_right size few in
    omega (arith, by, whole, share)

-- Words that arrive in time are done in time by a server of no lesser rate.
pub chain-finish : (size rate own wait : ℕ) (arrivals : List ℕ) (time : ℕ → ℕ) (n : ℕ)
    → rate ≤ own → ((k : ℕ) → time k + size ≤ time (suc k))
    → ((k : ℕ) → k < n → rate * (get_or arrivals k 0 + wait) + size ≤ time (suc k))
    → (k : ℕ) → k ≤ n → rate * finish_time size own wait arrivals k ≤ own * time k
chain-finish size rate own wait arrivals time n few up come zero low =
    let none : rate * 0 ≡ 0 = omega arith in omega (arith, none)
chain-finish size rate own wait arrivals time n few up come (suc k) low =
    let start : ℕ = get_or arrivals k 0 + wait in
    let before : ℕ = finish_time size own wait arrivals k in
    let earlier = chain-finish size rate own wait arrivals time n few up come k (omega arith) in
    let begins = share-most rate own (get_or arrivals k 0 + wait) size (time (suc k)) few
    (come k (omega arith)) in
    let follows = share-next rate own (finish_time size own wait arrivals k) size (time k)
    (time (suc k)) few earlier (up k) in
    max-either (λ m. rate * (m + size) ≤ own * time (suc k))
    (own * (get_or arrivals k 0 + wait)) (finish_time size own wait arrivals k) begins follows
  where
    max-either : (P : ℕ → Type 0) (a b : ℕ) → P a → P b → P (max a b)
    max-either P a b one other = elim (cases_lt b a) [
      | inl less ↦ let same : max a b ≡ a = omega arith in subst P (sym same) one
      | inr more ↦ let same : max a b ≡ b = omega arith in subst P (sym same) other
    ]

-- A longer latency makes each word later by it.
pub finish-later : (size rate latency more : ℕ) (xs : List ℕ) (i : ℕ) → 1 ≤ i
    → finish_time size rate latency xs i + rate * more
    ≤ finish_time size rate (latency + more) xs i
finish-later size rate latency more xs zero some = absurd (omega arith)
finish-later size rate latency more xs (suc zero) some = omega arith
finish-later size rate latency more xs (suc (suc i)) some =
    omega (arith, finish-later size rate latency more xs (suc i) (omega arith))

-- Times that leave room for a word never fall.
pub time-rises : (time : ℕ → ℕ) (size : ℕ) → ((k : ℕ) → time k + size ≤ time (suc k))
    → (k n : ℕ) → time k ≤ time (k + n)
time-rises time size up k zero =
    let same : k + 0 ≡ k = omega arith in
    let times = ap time same in
    omega (arith, times)
time-rises time size up k (suc n) =
    let next : k + suc n ≡ suc (k + n) = omega arith in
    let times = ap time next in
    omega (arith, times, up (k + n), time-rises time size up k n)

-- A quotient that is rounded up is less than one too many.
pub whole-cycle : (time rate : ℕ) → 0 < rate
    → (time ≤ rate * div_ceil time rate) × (rate * div_ceil time rate < time + rate)
whole-cycle time rate some =
    let times = div_ceil_times time rate some in (omega (arith, times.0), omega (arith, times.1))

-- Finish times of words that arrive before a cycle are bounded.
pub finish-most : (size rate latency end : ℕ) (arrivals : List ℕ) → All (λ a. a < end) arrivals
    → (i : ℕ) → i ≤ length arrivals
    → finish_time size rate latency arrivals i ≤ rate * (end + latency) + size * i
finish-most size rate latency end arrivals early zero within = omega arith
finish-most size rate latency end arrivals early (suc i) within =
    let before = finish-most size rate latency end arrivals early i (omega arith) in
    let here = early i 0 (omega arith) in
    let start : get_or arrivals i 0 + latency ≤ end + latency = omega (arith, here) in
    let product : rate * (get_or arrivals i 0 + latency) ≤ rate * (end + latency) =
    mul-le-mul_left rate start in
    omega (arith, before, product)

-- What a slot server keeps: its words' finish times, and the service of a busy period.
use Rattle.std.proofs.Common.{ℕ, ◌+◌, ◌-◌, ◌*◌, ◌/◌, ◌<◌, ◌≤◌, ◌≡◌, zero, suc, length, min, ap, inl}
use Rattle.std.proofs.Common.{inr, arith}
use Rattle.std.proofs.Math.Nat.{mul-div-le, lt-mul-div-succ, mul-le-mul_left, mul-le-mul_right}
use Rattle.std.proofs.Math.Nat.{le_of_mul-le-mul_left}
use Rattle.std.proofs.lemmas.Bool.{cases_eq}
use Rattle.aeth_base.proofs.Sequences.{first-reached, never-falls}
use Rattle.aeth_server.specs.FinishTimes.{arrivals_before}
use Rattle.aeth_server.specs.SlotServer.{SlotServer, KeepsRate, IsSentBy, IsBusyPeriod, SendsInTurn}
use Rattle.aeth_server.specs.SlotServer.{ServesAtRate, sent_by, own_latency, own_finish}
use Rattle.aeth_server.specs.SlotServer.{arrival_after, steady_from}
use Rattle.aeth_server.proofs.ServiceLemmas.{IsBounded, latency-bounded, served-by, served-next}
use Rattle.aeth_server.proofs.ServiceLemmas.{some-size}
use Rattle.aeth_server.proofs.FinishTimeLemmas.{arrivals_before-none, finish-leaves}

module _ (server : SlotServer) (keeps : KeepsRate server) where
  abbrev rate : ℕ
  rate = server.rate

  abbrev finish : ℕ → ℕ
  finish i = own_finish server i

  abbrev sent : ℕ → ℕ
  sent t = sent_by server t

  bounded : IsBounded server.size server.slots server.cap server.rate (own_latency server)
  bounded =
      latency-bounded server.size server.slots server.cap server.rate keeps.ascends keeps.least_cap
      keeps.least_rate keeps.capacity

  -- a word that waits finishes late enough
  leaves : (s i : ℕ) → i ≤ length server.arrivals → arrivals_before server.arrivals s < i
      → rate * (s + own_latency server) + (i - arrivals_before server.arrivals s) * server.size
      ≤ finish i
  leaves = finish-leaves server.size rate (own_latency server) server.arrivals keeps.order

  -- what is sent never falls
  sent-more : (s t : ℕ) → s ≤ t → sent s ≤ sent t
  sent-more = never-falls sent
      (served-next server.size server.slots server.cap (arrivals_before server.arrivals))

  -- a word is sent by every time that is no earlier than its finish time
  sent-by : (i time : ℕ) → 1 ≤ i → i ≤ length server.arrivals → finish i ≤ time
      → IsSentBy server i time
  sent-by i time some most late =
      let none = arrivals_before-none server.arrivals in
      let whole = mul-div-le time rate in
      let past = lt-mul-div-succ time keeps.least_rate in
      let gone = served-by server.size server.slots server.cap rate (own_latency server) bounded
      (arrivals_before server.arrivals) none (time / rate + 1) i time past
      (λ s before waits. omega (arith, leaves s i most waits, late)) in
      let reached = first-reached sent i (time / rate) (omega arith) gone in
      let early : rate * reached.cycle ≤ rate * (time / rate) = mul-le-mul_left rate reached.by in
      record {
        cycle = reached.cycle;
        before = reached.before;
        after = reached.after;
        early = omega (arith, early, whole);
      }

  -- by its finish time for one
  pub sent-in-time : (i : ℕ) → 1 ≤ i → i ≤ length server.arrivals → IsSentBy server i (finish i)
  sent-in-time i some most = sent-by i (finish i) some most (omega arith)

  -- ---- busy periods
  module _ (i n : ℕ) (busy : IsBusyPeriod server i n) where
    -- the time by which the k-th word of the period is sent
    abbrev turn : ℕ → ℕ
    turn k = rate * steady_from server i + k * server.size

    -- it is no earlier than the finish time
    finish-in-turn : (k : ℕ) → k ≤ n → finish (i + k) ≤ turn k
    finish-in-turn zero few =
        let none : i + 0 ≡ i = omega arith in
        let same = ap finish none in
        omega (arith, same, busy.begins)
    finish-in-turn (suc k) few =
        let next : i + suc k ≡ suc (i + k) = omega arith in
        let same = ap finish next in
        let rest = finish-in-turn k (omega arith) in
        let later : arrival_after server i ≤ arrival_after server (i + k) =
        keeps.order i (i + k) 0 (omega arith) (omega (arith, busy.within)) in
        let since : (arrival_after server (i + k) - arrival_after server i) + arrival_after server i
        ≡ arrival_after server (i + k) = omega (arith, later) in
        let time = ap (λ m. rate * m) since in
        omega (arith, same, rest, time, busy.keeps_up k (omega arith))

    -- a word of the period is sent by its turn
    sent-by-turn : (k : ℕ) → 1 ≤ i + k → k ≤ n → IsSentBy server (i + k) (turn k)
    sent-by-turn k some few =
        let most : i + k ≤ length server.arrivals = omega (arith, busy.within) in
        sent-by (i + k) (turn k) some most (finish-in-turn k few)

    -- as the law says it
    pub sent-in-turn : (k : ℕ) → 1 ≤ k → k ≤ n → SendsInTurn server i k
    sent-in-turn k some few = sent-by-turn k (omega arith) few

    -- the words whose turn has come were sent
    sent-at : (t k : ℕ) → k ≤ n → turn k ≤ rate * t → i + k ≤ sent (t + 1)
    sent-at t k few late = elim (cases_eq (i + k) 0) [
      | inl none ↦ omega (arith, none)
      | inr some ↦
          let by = sent-by-turn k (omega arith) few in
          let past : rate * by.cycle ≤ rate * t = omega (arith, by.early, late) in
          let before : by.cycle ≤ t = le_of_mul-le-mul_left past keeps.least_rate in
          omega (arith, by.after, sent-more (by.cycle + 1) (t + 1) (omega arith))
    ]

    -- so the period has the service of a latency-rate server
    pub serves-at-rate : (t : ℕ) → ServesAtRate server i n t
    serves-at-rate t late =
        let since : (t - steady_from server i) + steady_from server i ≡ t = omega (arith, late) in
        let time = ap (λ m. rate * m) since in
        let some =
        some-size server.size server.slots server.cap rate (own_latency server) bounded in
        let whole = mul-div-le (rate * (t - steady_from server i)) server.size in
        let few : min n (rate * (t - steady_from server i) / server.size)
        ≤ rate * (t - steady_from server i) / server.size = omega arith in
        let share = mul-le-mul_right server.size few in
        sent-at t (min n (rate * (t - steady_from server i) / server.size)) (omega arith)
        (omega (arith, time, share, whole))

-- The bound of a private server. Words go in slots, as far as the credits allow that have returned;
-- credits go in the opposite slots for the words that were taken before.
use Rattle.std.proofs.Common.{◌&&◌, Bool, ℕ, ◌+◌, ◌-◌, ◌*◌, ◌/◌, ◌<◌, ◌≤◌, ◌≡◌, zero, suc, length}
use Rattle.std.proofs.Common.{ap, inl, inr, arith, nat_le, nat_lt}
use Rattle.std.proofs.Math.Nat.{mul-le-mul_left, mul-le-mul_right, lt_of_mul-lt-mul_left}
use Rattle.std.proofs.Math.Nat.{le_of_mul-le-mul_left, mul-div-le, lt-mul-div-succ}
use Rattle.std.proofs.Math.Nat.{div-le_of_le-mul}
use Rattle.std.proofs.lemmas.{Nat.le-div, Bool.cases_lt, Bool.cases_eq}
use Rattle.std.proofs.lemmas.{List.Kept.IsNonDecreasingBy-filter}
use Rattle.std.specs.List.Sorted.{IsNonDecreasing}
use Rattle.aeth_base.specs.Limits.{credits_per_flit, words_per_flit}
use Rattle.aeth_base.proofs.Sequences.{first-reached}
use Rattle.aeth_server.specs.Shape.{IsGranted, payload_latency, credit_latency, buffer_of}
use Rattle.aeth_server.specs.PrivateServer.{PrivateServer, accepted, arrived, landed, taken}
use Rattle.aeth_server.specs.PrivateServer.{returned}
use Rattle.aeth_server.specs.Landing.{due_time, KeepsDelay, LandsBy, IsDue}
use Rattle.aeth_server.proofs.ServiceLemmas.{served-by}
use Rattle.aeth_server.proofs.FinishTimeLemmas.{arrivals_before-none, one-share, finish-leaves}
use Rattle.aeth_server.proofs.FinishTimeLemmas.{finish-shares}
use Rattle.aeth_server.proofs.ShapeLemmas.{payload-bounded, credits-bounded, granted-size}
use Rattle.aeth_server.proofs.ShapeLemmas.{buffer-room}
use Rattle.aeth_server.proofs.PrivateServerLemmas.{counts-none, sent-more, taken-more}
use Rattle.aeth_server.proofs.PrivateServerParts.{sendable, sent-served, credited-served}

-- The words that the session accepts come in their order.
pub accepted-order : (server : PrivateServer) → IsNonDecreasing server.offers
    → IsNonDecreasing (accepted server)
accepted-order server order =
    let accepts : ℕ → Bool = λ a. nat_le server.go a && nat_lt a server.until in
    IsNonDecreasingBy-filter (λ a. a) accepts server.offers order

-- ---- the bound
module _ (server : PrivateServer) (granted : IsGranted server.shape)
    (order : IsNonDecreasing server.offers) (enough : buffer_of server.shape ≤ server.buffer) where
  abbrev size : ℕ
  size = server.shape.size

  abbrev rate : ℕ
  rate = server.shape.rate

  -- the delays of the round trip: the latency of the slots, the path, the receiver, the latency of
  -- the opposite slots, the path back
  abbrev wait : ℕ
  wait = payload_latency server.shape

  abbrev out : ℕ
  out = server.shape.path_delay

  abbrev delay : ℕ
  delay = server.shape.receiver_delay

  abbrev back_wait : ℕ
  back_wait = credit_latency server.shape

  abbrev home : ℕ
  home = server.shape.back_path_delay

  abbrev due : ℕ → ℕ
  due i = due_time server i

  some-rate : 0 < rate
  some-rate = granted.least_rate

  some-size : 0 < size
  some-size = granted-size server.shape granted

  -- the buffer holds a round trip, and two words more
  room : rate * (wait + out + delay + 1 + back_wait + home) + 2 * size ≤ server.buffer * size
  room = buffer-room server.shape server.buffer some-size enough

  some-buffer : 0 < server.buffer
  some-buffer = elim (cases_eq server.buffer 0) [
    | inl none ↦
        let nothing = ap (λ n. n * size) none in
        absurd (omega (arith, nothing, room, some-size))
    | inr some ↦ omega arith
  ]

  -- later words have their share of the table
  due-share : (j k : ℕ) → j ≤ k → due j + (k - j) * size ≤ due k
  due-share j k up =
      let whole : j + (k - j) ≡ k = omega arith in
      let same = ap due whole in
      let shares = finish-shares size rate (wait + out) (accepted server) j (k - j) in
      omega (arith, shares, same)

  -- each of the first k words is taken within the delay after it is due
  abbrev TakenBy : ℕ → Type 0
  TakenBy k = (j : ℕ) → 1 ≤ j → j ≤ k → j ≤ taken server (due j / rate + delay + 1)

  -- a credit that waits in cycle r has room for those before it, from its word's due time on
  credit-leaves : (k r : ℕ) → TakenBy k → taken server (r - 1) < k
      → rate * (r + back_wait) + (k - taken server (r - 1)) * size
      ≤ due k + rate * (delay + 1 + back_wait) + size
  credit-leaves k r by low =
      let has = by (taken server (r - 1) + 1) (omega arith) (omega arith) in
      let near : r ≤ due (taken server (r - 1) + 1) / rate + delay + 1 =
      elim (cases_lt (r - 1) (due (taken server (r - 1) + 1) / rate + delay + 1)) [
        | inl before ↦ omega arith
        | inr after ↦
            let grown = taken-more server granted.paths
            (due (taken server (r - 1) + 1) / rate + delay + 1) (r - 1) after in
            absurd (omega (arith, has, grown))
      ] in
      let early : rate * r ≤ rate * (due (taken server (r - 1) + 1) / rate + delay + 1) =
      mul-le-mul_left rate near in
      let whole = mul-div-le (due (taken server (r - 1) + 1)) rate in
      let share = due-share (taken server (r - 1) + 1) k (omega arith) in
      let next : k - taken server (r - 1) ≡ (k - (taken server (r - 1) + 1)) + 1 = omega arith in
      let one = one-share (k - taken server (r - 1)) (k - (taken server (r - 1) + 1)) size next in
      omega (arith, early, whole, share, one)

  -- where credit k hasn't returned by cycle s, little more than a round trip has passed since
  -- word k was due
  credit-back : (k s : ℕ) → TakenBy k → s ≤ server.stop → returned server s < k
      → rate * s ≤ due k + rate * (delay + 1 + back_wait + home) + size
  credit-back k s by early low =
      elim (cases_lt (due k + rate * (delay + 1 + back_wait + home) + size) (rate * s)) [
        | inr soon ↦ soon
        | inl late ↦
            let far : rate * home < rate * s = omega arith in
            let past : home < s = lt_of_mul-lt-mul_left rate far in
            let whole : (s - home) + home ≡ s = omega arith in
            let time = ap (λ n. rate * n) whole in
            let none = (counts-none server).taken in
            let gone = served-by size server.shape.back_slots credits_per_flit rate back_wait
            (credits-bounded server.shape granted) (λ u. taken server (u - 1)) none (s - home) k
            (due k + rate * (delay + 1 + back_wait) + size) (omega (arith, time))
            (λ r before less. credit-leaves k r by less) in
            absurd (omega (arith, gone, credited-served server granted (s - home) (omega arith)))
      ]

  -- the words for which a credit has been there by cycle s
  abbrev allowed : ℕ → ℕ
  allowed s = server.buffer + returned server s

  -- a word that waits for a credit in cycle s has room for those before it
  buffer-leaves : (i s : ℕ) → s ≤ server.stop → allowed s < i → TakenBy (returned server s + 1)
      → rate * (s + wait) + (i - allowed s) * size + rate * out ≤ due i
  buffer-leaves i s early low by =
      let back = credit-back (returned server s + 1) s by early (omega arith) in
      let ahead : returned server s + 1 ≤ i = omega arith in
      let share = due-share (returned server s + 1) i ahead in
      let parts : i - (returned server s + 1) ≡ server.buffer + (i - (allowed s + 1)) =
      omega arith in
      let words = ap (λ n. n * size) parts in
      let next : i - allowed s ≡ (i - (allowed s + 1)) + 1 = omega arith in
      let one = one-share (i - allowed s) (i - (allowed s + 1)) size next in
      omega (arith, back, share, words, one, room)

  -- up to cycle t, the words below a number have landed by their due times
  abbrev LandBelow : ℕ → ℕ → Type 0
  LandBelow t top = (j : ℕ) → j < top → 1 ≤ j → j ≤ length (accepted server) → due j ≤ rate * t
      → j ≤ landed server (due j / rate + 1)

  -- so the words whose credits a word waits for were taken within the delay
  credits-taken : (t i s : ℕ) → KeepsDelay server t → LandBelow t i → i ≤ length (accepted server)
      → due i ≤ rate * t → allowed s < i → TakenBy (returned server s + 1)
  credits-taken t i s keeps land most late low j least upto =
      let ahead : server.buffer ≤ i - j = omega arith in
      let gap : server.buffer * size ≤ (i - j) * size = mul-le-mul_right size ahead in
      let later = due-share j i (omega arith) in
      let before : j < i = omega (arith, some-buffer) in
      let lands = land j before least (omega arith) (omega (arith, later)) in
      let whole = mul-div-le (due j) rate in
      let soon : rate * (due j / rate + delay) ≤ rate * t =
      omega (arith, whole, later, gap, room) in
      let by = keeps.takes (due j / rate) (le_of_mul-le-mul_left soon some-rate) in
      omega (arith, lands, by)

  -- whatever a word waits for in cycle s, its arrival or a credit, it has room
  word-leaves : (t i s : ℕ) → KeepsDelay server t → LandBelow t i → i ≤ length (accepted server)
      → due i ≤ rate * t → s ≤ server.stop → sendable server granted s < i
      → rate * (s + wait) + (i - sendable server granted s) * size + rate * out ≤ due i
  word-leaves t i s keeps land most late early waits =
      elim (cases_lt (allowed s) (arrived server s)) [
        | inr words ↦
            let all : sendable server granted s ≡ arrived server s = omega arith in
            let share = ap (λ n. (i - n) * size) all in
            let ordered = accepted-order server order in
            let leaves =
            finish-leaves size rate (wait + out) (accepted server) ordered s i most (omega arith) in
            omega (arith, share, leaves)
        | inl short ↦
            let all : sendable server granted s ≡ allowed s = omega arith in
            let share = ap (λ n. (i - n) * size) all in
            let low : allowed s < i = omega arith in
            let by = credits-taken t i s keeps land most late low in
            omega (arith, share, buffer-leaves i s early low by)
      ]

  -- the bound, for the words below a number
  land-below : (t : ℕ) → t < server.stop + out → KeepsDelay server t → (top : ℕ) → LandBelow t top
  land-below t early keeps zero i less some most late = absurd (omega arith)
  land-below t early keeps (suc top) i less some most late =
      let land : LandBelow t i = λ j before. land-below t early keeps top j (omega arith) in
      let none = arrivals_before-none (accepted server) in
      let first = word-leaves t i 0 keeps land most late (omega arith) (omega (arith, none)) in
      let past = lt-mul-div-succ (due i) some-rate in
      let after = le-div out (due i) rate some-rate (omega (arith, first)) in
      let before = div-le_of_le-mul rate late in
      let parts : (due i / rate + 1 - out) + out ≡ due i / rate + 1 = omega (arith, after) in
      let time = ap (λ n. rate * n) parts in
      let stops : due i / rate + 1 - out ≤ server.stop = omega (arith, before) in
      let gone = served-by size server.shape.slots words_per_flit rate wait
      (payload-bounded server.shape granted) (sendable server granted) (omega (arith, none))
      (due i / rate + 1 - out) i (due i - rate * out) (omega (arith, time, past, first))
      (λ s soon waits.
      omega (arith, word-leaves t i s keeps land most late (omega arith) waits)) in
      omega (arith, gone, sent-served server granted (due i / rate + 1 - out) stops)

  -- A word lands by its due time, while the receiver keeps its delay.
  pub lands-by : (i t : ℕ) → IsDue server i t → LandsBy server i (due i)
  lands-by i t is =
      let lands =
      land-below t is.in_time is.keeps (suc i) i (omega arith) is.least is.most is.due in
      let none_yet : landed server 0 < i = omega (arith, (counts-none server).landed, is.least) in
      let reached = first-reached (landed server) i (due i / rate) none_yet lands in
      let whole = mul-div-le (due i) rate in
      let early : rate * reached.cycle ≤ rate * (due i / rate) = mul-le-mul_left rate reached.by in
      record {
        cycle = reached.cycle;
        lands = record { before = reached.before; after = reached.after };
        early = omega (arith, early, whole);
      }

  -- so it has landed by each cycle by which it is due
  pub landed-due : (i t : ℕ) → IsDue server i t → i ≤ landed server (t + 1)
  landed-due i t is =
      let by = lands-by i t is in
      let early : rate * by.cycle ≤ rate * t = omega (arith, by.early, is.due) in
      let before : by.cycle ≤ t = le_of_mul-le-mul_left early some-rate in
      let grown = sent-more server granted.paths (by.cycle + 1 - out) (t + 1 - out)
      (omega arith) in
      omega (arith, by.lands.after, grown)

-- When a word is sent, lands, is taken and credited, from the words before it.
use Rattle.std.proofs.Common.{ℕ, ◌+◌, ◌-◌, ◌<◌, ◌≤◌, ◌≡◌, zero, suc, min, subst, refl, ap, length}
use Rattle.std.proofs.Common.{get_or, inl, inr, arith, nat_lt}
use Rattle.std.proofs.lemmas.{Bool.cases_lt, List.Sums.length-filter, List.Sums.count_by-le-length}
use Rattle.aeth_base.specs.Limits.{credits_per_flit, words_per_flit}
use Rattle.aeth_server.specs.Landing.{landing_cycle}
use Rattle.aeth_server.specs.PrivateServer.{PrivateServer, accepted, credited, landed, pull_at}
use Rattle.aeth_server.specs.PrivateServer.{returned, sent, taken}
use Rattle.aeth_server.specs.Shape.{HasPaths}
use Rattle.aeth_server.specs.SlotCycles.{IsNextCycle, is_slot}
use Rattle.aeth_server.specs.WordCycles.{IsCreditReady, IsOpenFor, IsReachedIn, IsReadyToGo}
use Rattle.aeth_server.specs.WordCycles.{IsTakingFrom, crediting_cycle, sending_cycle, taking_cycle}
use Rattle.aeth_server.proofs.FinishTimeLemmas.{arrivals_before-more, arrived-after, arrived-before}
use Rattle.aeth_server.proofs.PrivateServerLemmas.{counts-none, credited-more, credited-next}
use Rattle.aeth_server.proofs.PrivateServerLemmas.{credits_ready, fits-flit, has-room, in-order}
use Rattle.aeth_server.proofs.PrivateServerLemmas.{sent-more, sent-next, taken-more, taken-next}
use Rattle.aeth_server.proofs.PrivateServerLemmas.{words_ready}
use Rattle.aeth_server.proofs.ReachedCycles.{goes-first, reached-by, reached-has, reached-is}
use Rattle.aeth_server.proofs.ReachedCycles.{reached-rises}

module _ (server : PrivateServer) (cycles : ℕ) (runs : IsOpenFor server cycles) where
  abbrev paths : HasPaths server.shape
  paths = runs.paths

  abbrev out : ℕ
  out = server.shape.path_delay

  abbrev home : ℕ
  home = server.shape.back_path_delay

  -- ---- words are sent
  pub sent-reached : (i : ℕ) → 1 ≤ i
      → IsReachedIn (sent server) cycles i (sending_cycle server cycles i)
  sent-reached i some = reached-has (sent server) cycles (sent-more server paths) i
      (let none = (counts-none server).sent in omega (arith, none))

  pub credited-reached : (i : ℕ) → 1 ≤ i
      → IsReachedIn (credited server) cycles i (crediting_cycle server cycles i)
  credited-reached i some = reached-has (credited server) cycles (credited-more server paths) i
      (let none = (counts-none server).credited in omega (arith, none))

  not-sent : (i m : ℕ) → IsReadyToGo server cycles i m → (v : ℕ) → v < m
      → sent server (suc v) ≤ i
  not-sent i m is v low =
      let inside = in-order server paths (suc v) in
      elim is.since [
        | inl arrival ↦
            let few = arrived-before (accepted server) (suc v) i runs.order is.known (omega arith) in
            omega (arith, few, inside.sends)
        | inr rest ↦ elim rest [
          | inl credit ↦
              let at = credited-reached (i + 1 - server.buffer) (omega (arith, credit.0)) in
              let up = credited-more server paths (suc v - home)
              (crediting_cycle server cycles (i + 1 - server.buffer)) (omega (arith, credit.1)) in
              omega (arith, inside.allowed, up, at.before, credit.0)
          | inr flit ↦
              let at = sent-reached (i + 1 - words_per_flit) (omega (arith, flit.0)) in
              let c = sending_cycle server cycles (i + 1 - words_per_flit) in
              let up = sent-more server paths (suc v) (c + 1) (omega (arith, flit.1)) in
              let most = (fits-flit server paths c).words in
              omega (arith, up, most, at.before, flit.0)
        ]
      ]

  may-go : (i m : ℕ) → IsReadyToGo server cycles i m → (v : ℕ) → m ≤ v → v < cycles
      → i + 1 ≤ sent server v + words_ready server paths v
  may-go i m is v late low =
      let next : v + 1 ≡ suc v = omega arith in
      let came = arrived-after (accepted server) i runs.order is.known in
      let more = arrivals_before-more (accepted server) (get_or (accepted server) i 0 + 1) (suc v)
      (omega (arith, is.arrival)) in
      let credit : i + 1 ≤ server.buffer + returned server (suc v) =
      elim (cases_lt i server.buffer) [
        | inl few ↦ omega arith
        | inr many ↦
            let c = crediting_cycle server cycles (i + 1 - server.buffer) in
            let by = is.credit many in
            let at = (credited-reached (i + 1 - server.buffer) (omega arith)).after
            (omega (arith, by)) in
            let up = credited-more server paths (c + 1) (suc v - home) (omega (arith, by)) in
            omega (arith, at, up)
      ] in
      let room : i ≤ sent server v + 1 =
      elim (cases_lt i words_per_flit) [
        | inl few ↦ omega arith
        | inr many ↦
            let c = sending_cycle server cycles (i + 1 - words_per_flit) in
            let by = is.flit many in
            let at = (sent-reached (i + 1 - words_per_flit) (omega arith)).after
            (omega (arith, by)) in
            let up = sent-more server paths (c + 1) v (omega (arith, by)) in
            omega (arith, at, up)
      ] in
      omega (arith, came, more, credit, room)

  -- So it is sent in the first slot from then on, if that comes within the cycles.
  pub word-sent : (i m u : ℕ) → IsReadyToGo server cycles i m
      → IsNextCycle server.shape.size server.shape.slots m u
      → sending_cycle server cycles (i + 1) ≡ min u cycles
  word-sent i m u is next =
      reached-is (sent server) cycles (sent-more server paths) (i + 1) (min u cycles)
      (goes-first (sent server) (is_slot server.shape.size server.shape.slots)
      (words_ready server paths) server.stop cycles runs.sends (counts-none server).sent
      (sent-next server paths) i m u (not-sent i m is) (may-go i m is)
      next.late next.none next.here)

  -- ---- words land
  -- what has landed by a cycle stays so
  pub lands-more : (s t : ℕ) → s ≤ t → landed server s ≤ landed server t
  lands-more s t up = sent-more server paths (s - out) (t - out) (omega (arith, up))

  pub landed-reached : (i : ℕ) → 1 ≤ i
      → IsReachedIn (landed server) cycles i (landing_cycle server cycles i)
  landed-reached i some = reached-has (landed server) cycles lands-more i
      (let none = (counts-none server).landed in omega (arith, none))

  -- A word lands a path delay after it is sent, if that comes within the cycles.
  pub word-landed : (i : ℕ) → 1 ≤ i
      → landing_cycle server cycles i ≡ min (sending_cycle server cycles i + out) cycles
  word-landed i some =
      let c = sending_cycle server cycles i in
      let at = sent-reached i some in
      reached-is (landed server) cycles lands-more i (min (c + out) cycles) (record {
        within = omega arith;
        before =
            let up = sent-more server paths (min (c + out) cycles - out) c (omega arith) in
            omega (arith, up, at.before);
        after = λ low.
            let sent_at = at.after (omega (arith, low)) in
            let here : min (c + out) cycles + 1 - out ≡ c + 1 = omega (arith, low) in
            let same = ap (sent server) here in
            omega (arith, sent_at, same);
      })

  -- what has landed by the end of a cycle landed no later
  pub landed-by : (i u : ℕ) → 1 ≤ i → i ≤ landed server (u + 1)
      → landing_cycle server cycles i ≤ u
  landed-by i u some there = reached-by (landed server) cycles lands-more i u
      (let none = (counts-none server).landed in omega (arith, none)) there

  -- ---- credits are sent
  pub taken-reached : (i : ℕ) → 1 ≤ i
      → IsReachedIn (taken server) cycles i (taking_cycle server cycles i)
  taken-reached i some = reached-has (taken server) cycles (taken-more server paths) i
      (let none = (counts-none server).taken in omega (arith, none))

  not-credited : (i m : ℕ) → IsCreditReady server cycles i m → (v : ℕ) → v < m
      → credited server (suc v) ≤ i
  not-credited i m is v low =
      let next : v + 1 ≡ suc v = omega arith in
      let same = ap (credited server) next in
      elim is.since [
        | inl taking ↦
            let c = taking_cycle server cycles (i + 1) in
            let at = taken-reached (i + 1) (omega arith) in
            let before = (has-room server paths v).credits in
            let up = taken-more server paths v c (omega (arith, taking)) in
            omega (arith, before, same, up, at.before)
        | inr flit ↦
            let c = crediting_cycle server cycles (i + 1 - credits_per_flit) in
            let at = credited-reached (i + 1 - credits_per_flit) (omega (arith, flit.0)) in
            let up = credited-more server paths (suc v) (c + 1) (omega (arith, flit.1)) in
            let most = (fits-flit server paths c).credits in
            omega (arith, up, most, at.before, flit.0)
      ]

  may-credit : (i m : ℕ) → IsCreditReady server cycles i m → (v : ℕ) → m ≤ v → v < cycles
      → i + 1 ≤ credited server v + credits_ready server paths v
  may-credit i m is v late low =
      let c = taking_cycle server cycles (i + 1) in
      let at = (taken-reached (i + 1) (omega arith)).after (omega (arith, is.taking)) in
      let up = taken-more server paths (c + 1) v (omega (arith, is.taking)) in
      let room : i + 1 ≤ credited server v + credits_per_flit =
      elim (cases_lt i credits_per_flit) [
        | inl few ↦ omega arith
        | inr many ↦
            let d = crediting_cycle server cycles (i + 1 - credits_per_flit) in
            let by = is.flit many in
            let gone = (credited-reached (i + 1 - credits_per_flit) (omega arith)).after
            (omega (arith, by)) in
            let more = credited-more server paths (d + 1) v (omega (arith, by)) in
            omega (arith, gone, more)
      ] in
      omega (arith, at, up, room)

  -- So it is sent in the first opposite slot from then on, if that comes within the cycles.
  pub word-credited : (i m u : ℕ) → IsCreditReady server cycles i m
      → IsNextCycle server.shape.size server.shape.back_slots m u
      → crediting_cycle server cycles (i + 1) ≡ min u cycles
  word-credited i m u is next =
      reached-is (credited server) cycles (credited-more server paths) (i + 1) (min u cycles)
      (goes-first (credited server) (is_slot server.shape.size server.shape.back_slots)
      (credits_ready server paths) server.stop cycles runs.sends (counts-none server).credited
      (credited-next server paths) i m u (not-credited i m is) (may-credit i m is)
      next.late next.none next.here)

  -- ---- words are taken
  -- where the receiver takes enough, word i is taken in it
  pub word-taken : (i t had : ℕ) → IsTakingFrom server i t had → t < cycles
      → i < had + pull_at server t → taking_cycle server cycles (i + 1) ≡ t
  word-taken i t had is low enough =
      let next : t + 1 ≡ suc t = omega arith in
      let same = ap (taken server) next in
      let lands = ap (landed server) next in
      let there = is.landed in
      let was = is.before in
      let takes = taken-next server paths t in
      reached-is (taken server) cycles (taken-more server paths) (i + 1) t (record {
        within = omega arith;
        before = omega (arith, was, is.low);
        after = λ within. omega (arith, takes, same, lands, there, was, enough);
      })

  -- else it takes all that it may, and word i waits for the next cycle
  pub taking-next : (i t had : ℕ) → IsTakingFrom server i t had
      → had + pull_at server t ≤ i → IsTakingFrom server i (t + 1) (had + pull_at server t)
  taking-next i t had is few =
      let next : t + 1 ≡ suc t = omega arith in
      let same = ap (taken server) next in
      let lands = ap (landed server) next in
      let there = is.landed in
      let was = is.before in
      let takes = taken-next server paths t in
      let more = sent-more server paths (t + 1 - out) (t + 1 + 1 - out) (omega arith) in
      record {
        before = omega (arith, takes, same, lands, there, was, few);
        low = few;
        landed = omega (arith, there, more);
      }

  -- while it takes nothing word i waits
  pub taking-later : (i t had n : ℕ) → IsTakingFrom server i t had
      → ((v : ℕ) → t ≤ v → v < t + n → pull_at server v ≡ 0)
      → IsTakingFrom server i (t + n) had
  taking-later i t had zero is none =
      let same : t ≡ t + 0 = omega arith in
      subst (λ s. IsTakingFrom server i s had) same is
  taking-later i t had (suc n) is none =
      let rest = taking-later i t had n is (λ v from low. none v from (omega arith)) in
      let still = none (t + n) (omega arith) (omega arith) in
      let low = is.low in
      let next = taking-next i (t + n) had rest (omega (arith, low, still)) in
      let was = next.before in
      let there = next.landed in
      let last : t + n + 1 ≡ t + suc n = omega arith in
      subst (λ s. IsTakingFrom server i s had) last
      (record { before = omega (arith, was, still); low = low; landed = there })

  -- a word that has landed by the end of a cycle, before which no word behind it was taken, is waited
  -- for in it
  pub taking-stays : (i t : ℕ) → taken server t ≤ i → landing_cycle server cycles (i + 1) ≤ t
      → t < cycles → IsTakingFrom server i t (taken server t)
  taking-stays i t low by within =
      let lands = (landed-reached (i + 1) (omega arith)).after (omega arith) in
      let up = lands-more (landing_cycle server cycles (i + 1) + 1) (t + 1) (omega arith) in
      record { before = refl; low = low; landed = omega (arith, lands, up) }

  -- a word that lands after all words before it are taken is waited for from its landing on
  pub taking-lands : (i t : ℕ) → landing_cycle server cycles (i + 1) ≡ t → t < cycles
      → (1 ≤ i → taking_cycle server cycles i < t) → IsTakingFrom server i t i
  taking-lands i t lands low past =
      let at = landed-reached (i + 1) (omega arith) in
      let before : landed server t ≤ i =
      (let was = at.before in let same = ap (landed server) lands in omega (arith, was, same)) in
      let inside = (in-order server paths t).takes in
      let all : i ≤ taken server t = elim (cases_lt 0 i) [
        | inr nothing ↦ omega arith
        | inl some ↦
            let c = taking_cycle server cycles i in
            let done = past some in
            let is = (taken-reached i some).after (omega (arith, done, low)) in
            let up = taken-more server paths (c + 1) t (omega (arith, done)) in
            omega (arith, is, up)
      ] in
      let is = taking-stays i t (omega (arith, before, inside)) (omega (arith, lands)) low in
      record {
        before = omega (arith, before, inside, all);
        low = omega arith;
        landed = is.landed;
      }

  -- a word that is waited for when the cycles are over isn't taken in them
  pub taking-over : (i had : ℕ) → IsTakingFrom server i cycles had
      → taking_cycle server cycles (i + 1) ≡ cycles
  taking-over i had is =
      let was = is.before in
      reached-is (taken server) cycles (taken-more server paths) (i + 1) cycles (record {
        within = omega arith;
        before = omega (arith, was, is.low);
        after = λ within. absurd (omega arith);
      })

  -- nor is one that doesn't land in them
  pub taking-never : (i : ℕ) → landing_cycle server cycles (i + 1) ≡ cycles
      → taking_cycle server cycles (i + 1) ≡ cycles
  taking-never i never =
      let before = (landed-reached (i + 1) (omega arith)).before in
      let same = ap (landed server) never in
      let inside = (in-order server paths cycles).takes in
      reached-is (taken server) cycles (taken-more server paths) (i + 1) cycles (record {
        within = omega arith;
        before = omega (arith, before, same, inside);
        after = λ within. absurd (omega arith);
      })

  -- what is taken by the end of a cycle has no later taking cycle
  pub taken-by : (i u : ℕ) → 1 ≤ i → i ≤ taken server (u + 1) → taking_cycle server cycles i ≤ u
  taken-by i u some there = reached-by (taken server) cycles (taken-more server paths) i u
      (let none = (counts-none server).taken in omega (arith, none)) there

  -- later words aren't taken earlier
  pub taking-rises : (i j : ℕ) → 1 ≤ i → i ≤ j
      → taking_cycle server cycles i ≤ taking_cycle server cycles j
  taking-rises i j some up = reached-rises (taken server) cycles (taken-more server paths) i j
      (let none = (counts-none server).taken in omega (arith, none)) up

-- No more words land than are accepted.
pub landed-few : (server : PrivateServer) → HasPaths server.shape → (t : ℕ)
    → landed server t ≤ length (accepted server)
landed-few server paths t =
    let inside = in-order server paths t in
    let count = length-filter (λ a. nat_lt a t) (accepted server) in
    let few = count_by-le-length (λ a. nat_lt a t) (accepted server) in
    omega (arith, inside.lands, inside.sends, count, few)

-- The landing cycle and the due cycle of a word.
use Rattle.std.proofs.Common.{◌↔◌, leb, ℕ, ◌+◌, ◌*◌, ◌<◌, ◌≤◌, ◌≡◌, zero, suc, true, false, refl}
use Rattle.std.proofs.Common.{ap, inl, inr, arith, List, slice_index, le-leb, leb-true}
use Rattle.std.proofs.Math.Nat.{le_of_mul-le-mul_left}
use Rattle.std.proofs.lemmas.Bool.{cases_lt}
use Rattle.aeth_server.specs.{FinishTimes.due_cycle, PrivateServer.PrivateServer}
use Rattle.aeth_server.specs.{PrivateServer.landed, Progress.after_word, Progress.progress_of}
use Rattle.aeth_server.specs.{Landing.LandsAt, Landing.landing_cycle}
use Rattle.aeth_server.proofs.PrivateServerLemmas.{counts-none}
use Rattle.aeth_base.proofs.ExtremeLemmas.{true_and_false, least_below-passes, least_below-first}
use Rattle.aeth_base.proofs.Division.{div_ceil-le, le-div_ceil}

-- Nothing has landed before the first cycle.
landed-none : (server : PrivateServer) → landed server 0 ≡ 0
landed-none server =
    (counts-none server).landed

-- The least cycle by whose end a word has landed is one in which it lands.
landing-cycle-is : (server : PrivateServer) (i cycle : ℕ) → 1 ≤ i
    → leb i (landed server (cycle + 1)) ≡ true
    → ((u : ℕ) → u < cycle → leb i (landed server (u + 1)) ≡ false) → LandsAt server i cycle
landing-cycle-is server i zero some there none =
    record { before = omega (arith, landed-none server); after = leb-true _ _ there }
landing-cycle-is server i (suc before) some there none =
    let next : before + 1 ≡ suc before = omega arith in
    let same = ap (landed server) next in
    let late = none before (omega arith) in
    record {
      before = elim (cases_lt (landed server (suc before)) i) [
        | inl below ↦ below
        | inr above ↦
            let passes = le-leb i (landed server (before + 1)) (omega (arith, same)) in
            absurd (true_and_false _ passes late)
      ];
      after = leb-true _ _ there;
    }

-- A word that has landed landed in its landing cycle.
pub landing_cycle-lands : (server : PrivateServer) (t i : ℕ) → 1 ≤ i → i ≤ landed server t
    → LandsAt server i (landing_cycle server t i)
landing_cycle-lands server zero i some there = absurd (omega (arith, landed-none server))
landing_cycle-lands server (suc t) i some there =
    let next : suc t ≡ t + 1 = omega arith in
    let same = ap (landed server) next in
    let last = le-leb i (landed server (t + 1)) (omega (arith, same)) in
    let found =
    least_below-passes (λ u. leb i (landed server (u + 1))) (suc t) t (omega arith) last in
    landing-cycle-is server i (landing_cycle server (suc t) i) some found.passes
    (least_below-first (λ u. leb i (landed server (u + 1))) (suc t))

-- ---- due cycles
-- a due cycle has come exactly where its finish time has passed.
pub due-passed : (rate finish t : ℕ) → 1 ≤ rate → (due_cycle rate finish ≤ t) ↔ (finish ≤ rate * t)
due-passed rate finish t some =
    (le-div_ceil finish rate t some, div_ceil-le finish rate t some)

-- What was done by the finish time was done by the due cycle.
pub due-in-time : (rate finish t : ℕ) → 1 ≤ rate → rate * t ≤ finish → t ≤ due_cycle rate finish
due-in-time rate finish t some early =
    let come : finish ≤ rate * due_cycle rate finish =
    (due-passed rate finish (due_cycle rate finish) some).0 (omega arith) in
    let late : rate * t ≤ rate * due_cycle rate finish = omega (arith, early, come) in
    le_of_mul-le-mul_left late some

-- One more word.
pub progress-next : (size rate latency : ℕ) (arrivals : List ℕ) (i : ℕ)
    → progress_of size rate latency arrivals (i + 1)
    ≡ after_word (progress_of size rate latency arrivals i) (slice_index arrivals i)
progress-next size rate latency arrivals i =
    let next : i + 1 ≡ suc i = omega arith in
    rw next refl

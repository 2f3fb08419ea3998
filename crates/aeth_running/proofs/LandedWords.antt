-- The words of a private server that have landed, by the cycles that were noted for them.
use Rattle.std.proofs.Common.{◌≡◌, ◌≤◌, ◌<◌, ◌∙◌, ℕ, zero, suc, ◌+◌, ◌-◌, Bool, true, false, List}
use Rattle.std.proofs.Common.{[], ◌∷◌, Some, drop, min, slice_get, take, refl, sym, ap, inl, inr}
use Rattle.std.proofs.Common.{arith, count_by, nat_lt, le-ltb, lt-ltb}
use Rattle.std.proofs.lemmas.{Bool.cases_lt, Option.same_Some}
use Rattle.aeth_base.proofs.Lists.{count_by-no, count_by-yes}
use Rattle.aeth_server.specs.{Landing.LandsAt, Landing.landing_cycle, PrivateServer.PrivateServer}
use Rattle.aeth_server.specs.{PrivateServer.landed, Shape.HasPaths}
use Rattle.aeth_server.proofs.{LandingLemmas.landing_cycle-lands, PrivateServerLemmas.has-grown}
use Rattle.aeth_server.proofs.{SessionEnds.idle-before, SessionEnds.is-closed}
use Rattle.aeth_report.proofs.LogRows.{lands-before, lands-once}

-- What stands behind some first items.
pub slice_get-drop : {X : Type 0} (n : ℕ) (xs : List X) (i : ℕ)
    → slice_get (drop n xs) i ≡ slice_get xs (n + i)
slice_get-drop zero xs i = let same : i ≡ 0 + i = omega arith in ap (slice_get xs) same
slice_get-drop (suc n) [] i = refl
slice_get-drop (suc n) (x ∷ xs) i =
    let next : suc n + i ≡ suc (n + i) = omega arith in
    slice_get-drop n xs i ∙ ap (slice_get (x ∷ xs)) (sym next)

-- Where of the first n items the first m pass a test, and no other, m do.
record Splits {X : Type 0} (test : X → Bool) (m : ℕ) (xs : List X) (i : ℕ) : Type 0 where
  pub item : X
  pub at : slice_get xs i ≡ Some item
  pub early : i < m → test item ≡ true
  pub late : m ≤ i → test item ≡ false

count-first : {X : Type 0} (test : X → Bool) (n m : ℕ) (xs : List X) → m ≤ n
    → ((i : ℕ) → i < n → Splits test m xs i) → count_by test (take n xs) ≡ m
count-first test zero m xs few all = omega arith
count-first test (suc n) m [] few all =
    let first = all 0 (omega arith) in let none = first.at in absurd (cc none)
count-first test (suc n) zero (x ∷ xs) few all =
    let first = all 0 (omega arith) in
    let same : x ≡ first.item = same_Some x first.item first.at in
    count_by-no test x (take n xs) (ap test same ∙ first.late (omega arith))
    ∙ count-first test n 0 xs (omega arith) (λ i within.
    let next = all (suc i) (omega arith) in
    record {
      item = next.item;
      at = next.at;
      early = λ below. absurd (omega arith);
      late = λ above. next.late (omega arith);
    })
count-first test (suc n) (suc m) (x ∷ xs) few all =
    let first = all 0 (omega arith) in
    let same : x ≡ first.item = same_Some x first.item first.at in
    count_by-yes test x (take n xs) (ap test same ∙ first.early (omega arith))
    ∙ ap suc (count-first test n m xs (omega arith) (λ i within.
    let next = all (suc i) (omega arith) in
    record {
      item = next.item;
      at = next.at;
      early = λ below. next.early (omega arith);
      late = λ above. next.late (omega arith);
    }))

module _ (server : PrivateServer) (paths : HasPaths server.shape)
    (drained : server.stop + server.shape.path_delay ≤ server.finish) (cycles first : ℕ)
    (landings : List ℕ)
    (noted : (i u : ℕ) → server.go ≤ u → u < server.finish → u < cycles
    → landed server (u + 1) ≤ i → i < landed server (u + 2)
    → slice_get landings (first + i) ≡ Some (u + 1)) where
  -- The cycles of the session that a log counts, and how many words have landed once the last cycle
  -- has latched.
  abbrev counted : ℕ
  counted = min server.finish cycles

  abbrev latched : ℕ
  latched = landed server (min cycles server.finish + 1)

  -- Nothing lands before the session has gone for a cycle.
  none-lands : (p : ℕ) → p ≤ server.go → landed server (p + 1) ≡ 0
  none-lands p early =
      let path = paths.path in
      (idle-before server paths (p + 1 - server.shape.path_delay) (omega arith)).sent

  -- What the last cycle latches lands in the next, or nothing does at the finish.
  final : server.finish < cycles → latched ≡ landed server counted
  final over =
      let delay = server.shape.path_delay in
      let f = server.finish in
      let end : min cycles f + 1 ≡ f + 1 = omega arith in
      let least : min f cycles ≡ f = omega arith in
      ap (landed server) end
      ∙ (is-closed server paths (f + 1 - delay)).sent (omega arith)
      ∙ sym ((is-closed server paths (f - delay)).sent (omega arith))
      ∙ ap (landed server) (sym least)

  -- For each word that was latched the cycle was noted in which it lands.
  record IsNoted (i : ℕ) : Type 0 where
    pub cycle : ℕ
    pub lands : LandsAt server (i + 1) cycle
    pub at : slice_get landings (first + i) ≡ Some cycle

  is-noted : (i : ℕ) → i < latched → IsNoted i
  is-noted i within =
      let last = min cycles server.finish + 1 in
      let p = landing_cycle server last (i + 1) in
      let lands = landing_cycle-lands server last (i + 1) (omega arith) (omega arith) in
      let below = lands-before server paths cycles [] (i + 1) p last lands (omega arith) in
      let before = lands.before in
      let after = lands.after in
      let goes : server.go < p = elim (cases_lt server.go p) [
        | inl later ↦ later
        | inr early ↦ let none = none-lands p early in absurd (omega arith)
      ] in
      let u = p - 1 in
      let next : u + 1 ≡ p = omega arith in
      let behind : u + 2 ≡ p + 1 = omega arith in
      let there = ap (landed server) next in
      let then = ap (landed server) behind in
      record {
        cycle = p;
        lands = lands;
        at = noted i u (omega arith) (omega arith) (omega arith) (omega arith) (omega arith)
            ∙ ap (λ n. Some n) next;
      }

  -- So many words have landed below the end of the run.
  pub landed-count : count_by (λ at. nat_lt at cycles) (take latched (drop first landings))
      ≡ landed server counted
  landed-count =
      let grown = (has-grown server paths counted (min cycles server.finish + 1) (omega arith)).landed in
      count-first (λ at. nat_lt at cycles) latched (landed server counted) (drop first landings)
      (omega arith) (λ i within.
      let one = is-noted i within in
      let lands = one.lands in
      let after = lands.after in
      record {
        item = one.cycle;
        at = slice_get-drop first landings i ∙ one.at;
        early = λ below.
            let early = lands-before server paths cycles [] (i + 1) one.cycle counted lands (omega arith) in
            lt-ltb one.cycle cycles (omega arith);
        late = λ above. elim (cases_lt one.cycle cycles) [
          | inr late ↦ le-ltb one.cycle cycles late
          | inl less ↦ elim (cases_lt server.finish cycles) [
            | inl over ↦ let same = final over in absurd (omega arith)
            | inr running ↦
                let more = (has-grown server paths (one.cycle + 1) counted (omega arith)).landed in
                absurd (omega arith)
          ]
        ];
      })

  -- And each of them in the cycle that a log says.
  pub landed-at : (k : ℕ) → k < landed server counted
      → slice_get landings (first + k) ≡ Some (landing_cycle server counted (k + 1))
  landed-at k within =
      let grown = (has-grown server paths counted (min cycles server.finish + 1) (omega arith)).landed in
      let one = is-noted k (omega arith) in
      let lands = landing_cycle-lands server counted (k + 1) (omega arith) (omega arith) in
      one.at ∙ ap (λ n. Some n) (lands-once server paths cycles [] (k + 1) one.cycle
      (landing_cycle server counted (k + 1)) one.lands lands)

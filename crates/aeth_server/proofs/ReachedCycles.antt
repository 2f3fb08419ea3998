-- The cycle in which a count comes to a number: that it is one, and which it is of a count that grows
-- in slots.
use Rattle.std.proofs.Common.{◌&&◌, ℕ, ◌+◌, ◌<◌, ◌≤◌, ◌≡◌, ◌∙◌, zero, suc, Bool, true, false, cond}
use Rattle.std.proofs.Common.{ltb, leb, min, refl, ap, inl, inr, arith, lt-ltb, le-leb, leb-true}
use Rattle.std.proofs.lemmas.Bool.{cases_lt, false_from_ne_true}
use Rattle.aeth_base.specs.Extremes.{least_below}
use Rattle.aeth_base.proofs.ExtremeLemmas.{least_below-first, least_below-is, true_and_false}
use Rattle.aeth_server.specs.WordCycles.{IsReachedIn, reached_in}

-- ---- the cycle of a count
-- where no number below the bound passes, the least is the bound.
least_below-none : (test : ℕ → Bool) (bound : ℕ) → ((k : ℕ) → k < bound → test k ≡ false)
    → least_below test bound ≡ bound
least_below-none test zero none = refl
least_below-none test (suc n) none =
    rw (none 0 (omega arith))
    (ap suc (least_below-none (λ k. test (suc k)) n (λ k low. none (suc k) (omega arith))))

-- The least is no more than the bound, and passes where it is below.
record IsLeast (test : ℕ → Bool) (bound : ℕ) : Type 0 where
  within : least_below test bound ≤ bound
  passes : least_below test bound < bound → test (least_below test bound) ≡ true

least_below-either : (test : ℕ → Bool) (bound : ℕ) → IsLeast test bound
least_below-either test zero =
    record { within = omega arith; passes = λ low. absurd (omega arith) }
least_below-either test (suc n) =
    let split : (v : Bool) → test 0 ≡ v → IsLeast test (suc n) = elim [
      | true ↦ λ is. record { within = rw is (omega arith); passes = rw is (λ low. is) }
      | false ↦ λ is.
          let rest = least_below-either (λ k. test (suc k)) n in
          record {
            within = rw is (omega (arith, rest.within));
            passes = rw is (λ low. rest.passes (omega arith));
          }
    ] in
    split (test 0) refl

module _ (count : ℕ → ℕ) (cycles : ℕ) (rises : (s t : ℕ) → s ≤ t → count s ≤ count t) where
  -- what is below i at u, and has it behind u, unless all cycles are over, is reached in u
  pub reached-is : (i u : ℕ) → IsReachedIn count cycles i u → reached_in count cycles i ≡ u
  reached-is i u is =
      let early : (j : ℕ) → j < u → leb i (count (j + 1)) ≡ false = λ j low.
      false_from_ne_true _ (λ there.
      omega (arith, leb-true i (count (j + 1)) there, rises (j + 1) u (omega arith), is.before)) in
      elim (cases_lt u cycles) [
        | inl low ↦ least_below-is (λ k. leb i (count (k + 1))) cycles u low
            (le-leb i (count (u + 1)) (is.after low)) early
        | inr over ↦
            let end : cycles ≡ u = omega (arith, is.within) in
            least_below-none (λ k. leb i (count (k + 1))) cycles
            (λ k low. early k (omega (arith, low, end))) ∙ end
      ]

  -- and the cycle is one
  pub reached-has : (i : ℕ) → count 0 < i → IsReachedIn count cycles i (reached_in count cycles i)
  reached-has i low =
      let test : ℕ → Bool = λ u. leb i (count (u + 1)) in
      let least = least_below-either test cycles in
      let cases : (u : ℕ) → least_below test cycles ≡ u → count u < i = elim [
        | zero ↦ λ is. low
        | suc v ↦ λ is.
            let fails = least_below-first test cycles v (omega (arith, is)) in
            let next : v + 1 ≡ suc v = omega arith in
            let same = ap count next in
            elim (cases_lt (count (suc v)) i) [
              | inl below ↦ below
              | inr above ↦
                  let passes = le-leb i (count (v + 1)) (omega (arith, above, same)) in
                  absurd (true_and_false _ passes fails)
            ]
      ] in
      record {
        within = least.within;
        before = cases (least_below test cycles) refl;
        after = λ within. leb-true i (count (least_below test cycles + 1)) (least.passes within);
      }

  -- what a count has come to by the end of a cycle it reached by then
  pub reached-by : (i u : ℕ) → count 0 < i → i ≤ count (u + 1) → reached_in count cycles i ≤ u
  reached-by i u low there = elim (cases_lt u (reached_in count cycles i)) [
    | inr by ↦ by
    | inl late ↦
        let before = (reached-has i low).before in
        let up = rises (u + 1) (reached_in count cycles i) (omega arith) in
        absurd (omega (arith, before, up, there))
  ]

  -- more is reached no earlier
  pub reached-rises : (i j : ℕ) → count 0 < i → i ≤ j
      → reached_in count cycles i ≤ reached_in count cycles j
  reached-rises i j low up =
      let one = reached-has i low in
      let other = reached-has j (omega arith) in
      elim (cases_lt (reached_in count cycles j) (reached_in count cycles i)) [
        | inr right ↦ right
        | inl wrong ↦
            let has = other.after (omega (arith, one.within, wrong)) in
            let by = reached-by i (reached_in count cycles j) low (omega (arith, has)) in
            absurd (omega (arith, by, wrong))
      ]

-- ---- what goes in slots
module _ (count : ℕ → ℕ) (slot : ℕ → Bool) (ready : ℕ → ℕ) (stop cycles : ℕ)
    (open_to : cycles ≤ stop) (first : count 0 ≡ 0)
    (step : (t : ℕ) → count (suc t) ≡ count t + cond (ltb t stop && slot t) (ready t) 0) where
  -- where it doesn't go before cycle m, and no slot comes from m on, it hasn't gone
  stays : (i m u : ℕ) → ((v : ℕ) → v < m → count (suc v) ≤ i)
      → ((v : ℕ) → m ≤ v → v < u → slot v ≡ false) → (w : ℕ) → w ≤ u → count w ≤ i
  stays i m u blocked none zero low = omega (arith, first)
  stays i m u blocked none (suc w) low = elim (cases_lt w m) [
    | inl before ↦ blocked w before
    | inr behind ↦
        let rest = stays i m u blocked none w (omega arith) in
        let shut = none w behind (omega arith) in
        let cases : (v : Bool) → cond (v && false) (ready w) 0 ≡ 0 = elim [
          | true ↦ refl
          | false ↦ refl
        ] in
        let same : count (suc w) ≡ count w + 0 =
        step w ∙ ap (λ b. count w + cond (ltb w stop && b) (ready w) 0) shut
        ∙ ap (λ n. count w + n) (cases (ltb w stop)) in
        omega (arith, rest, same)
  ]

  -- the thing behind the first i goes in the first slot from cycle m on, where it can't go before m and
  -- can from then on
  pub goes-first : (i m u : ℕ) → ((v : ℕ) → v < m → count (suc v) ≤ i)
      → ((v : ℕ) → m ≤ v → v < cycles → i + 1 ≤ count v + ready v)
      → m ≤ u → ((v : ℕ) → m ≤ v → v < u → slot v ≡ false) → slot u ≡ true
      → IsReachedIn count cycles (i + 1) (min u cycles)
  goes-first i m u blocked free late none is = record {
    within = omega arith;
    before =
        let rest = stays i m u blocked none (min u cycles) (omega arith) in
        omega (arith, rest);
    after = λ within.
        let here : min u cycles ≡ u = omega arith in
        let goes = free u late (omega arith) in
        let may = lt-ltb u stop (omega (arith, open_to)) in
        let next : u + 1 ≡ suc u = omega arith in
        let same : count (suc u) ≡ count u + ready u =
        step u ∙ ap (λ b. count u + cond (b && slot u) (ready u) 0) may
        ∙ ap (λ b. count u + cond b (ready u) 0) is in
        let all : count (min u cycles + 1) ≡ count (suc u) =
        ap (λ n. count (n + 1)) here ∙ ap count next in
        omega (arith, goes, same, all);
  }

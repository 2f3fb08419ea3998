-- Laws of the numbers of rows before each cycle.
use Rattle.std.proofs.Common.{◌≡◌, ◌∙◌, ◌+◌, ◌<◌, ◌≤◌, ℕ, true, false, List, length, slice_get}
use Rattle.std.proofs.Common.{get_or, Some, sym, ap, subst, inl, inr, arith, nat_lt, ◌==◌, ◌||◌}
use Rattle.std.proofs.Common.{◌&&◌}
use Rattle.std.proofs.lemmas.Bool.{cases_Bool, cases_lt, Decides.nat_tests}
use Rattle.std.proofs.lemmas.List.{get_or_default}
use Rattle.std.specs.List.{AllWithin, Sorted.IsPartitionPoint}
use Rattle.aeth_text.specs.Order.{Rises}
use Rattle.aeth_audit.specs.{LinkLog.is_before, LinkLog.is_later, Starts.AreStarts, Starts.IsStart}
use Rattle.aeth_audit.specs.{Starts.PutsUntil, declared.row.LinkRow.LinkRow}
use Rattle.aeth_audit.proofs.SearchLemmas.{before-first, cycles-rise}

-- The cycles up to that of the last of the first rows have their numbers.
pub record AreFirstStarts (rows : List LinkRow) (done : ℕ) (starts : List ℕ) : Type 0 where
  pub each : (cycle count : ℕ) → slice_get starts cycle ≡ Some count → IsStart rows cycle count
  pub last : AllWithin (λ row. row.cycle < length starts) rows 0 done

-- With one more row.
pub starts-more : (rows : List LinkRow) (done : ℕ) (default : LinkRow) (old new : List ℕ)
    → Rises is_later rows → done < length rows → AreFirstStarts rows done old
    → PutsUntil (get_or rows done default).cycle done old new
    → AreFirstStarts rows (done + 1) new
starts-more rows done default old new rises within are puts = record {
  each = λ cycle count at. elim (puts.only cycle count at) [
    | inl early ↦ are.each cycle count early
    | inr (same, past, until) ↦
        subst (λ (n : ℕ). IsStart rows cycle n) (sym same) (record {
          within = omega arith;
          point = (
            (λ k d least less. let low = are.last k d least less in omega (arith, low, past)),
            (λ k d past below.
                let rise = cycles-rise rows rises done k d past below in
                let here = ap (λ (row : LinkRow). row.cycle)
                (get_or_default rows done d default within) in
                omega (arith, rise, here, until)),
          );
        })
  ];
  last = λ k d least less. elim (cases_lt k done) [
    | inl early ↦
        let low = are.last k d least early in
        let longer = puts.longer in
        omega (arith, low, longer)
    | inr past ↦
        let same : k ≡ done = omega (arith, less, past) in
        let here = ap (λ (row : LinkRow). row.cycle)
        (ap (λ (n : ℕ). get_or rows n d) same ∙ get_or_default rows done d default within) in
        let until = puts.until in
        omega (arith, here, until)
  ];
}

-- All rows are done.
pub starts-all : (rows : List LinkRow) (done : ℕ) (starts : List ℕ) → length rows ≤ done
    → AreFirstStarts rows done starts → AreStarts rows starts
starts-all rows done starts past are = record {
  each = are.each;
  last = λ cycle behind. record {
    within = omega arith;
    point = (
      (λ k d least less.
          let low = are.last k d least (omega (arith, less, past)) in omega (arith, low, behind)),
      (λ k d most below. absurd (omega (arith, most, below))),
    );
  };
}

before-cycle : (a k t l : ℕ) → a < t → (nat_lt a t || (a == t && nat_lt k l)) ≡ true
before-cycle a k t l less = grind (arith, nat_tests)

before-link : (a k t l : ℕ) → a ≡ t → k < l → (nat_lt a t || (a == t && nat_lt k l)) ≡ true
before-link a k t l same less = grind (arith, nat_tests)

not-before : (a k t l : ℕ) → t ≤ a → l ≤ k → (nat_lt a t || (a == t && nat_lt k l)) ≡ false
not-before a k t l past most = grind (arith, nat_tests)

behind-cycle : (a k t l : ℕ) → t < a → (nat_lt a t || (a == t && nat_lt k l)) ≡ false
behind-cycle a k t l past = grind (arith, nat_tests)

-- What a search by halves keeps: the rows below `low` come before a link in a cycle, those from
-- `high` on don't, and those between are of the cycle.
pub record AreHalves (rows : List LinkRow) (t l low high : ℕ) : Type 0 where
  pub within : high ≤ length rows
  pub before : AllWithin (λ row. is_before t l row ≡ true) rows 0 low
  pub behind : AllWithin (λ row. is_before t l row ≡ false) rows high (length rows)
  pub cycle : AllWithin (λ row. row.cycle ≡ t) rows low high

-- It begins with the rows of the cycle.
pub halves-of : (rows : List LinkRow) (t l low high : ℕ) → IsStart rows t low
    → IsStart rows (t + 1) high → AreHalves rows t l low high
halves-of rows t l low high first next = record {
  within = next.within;
  before = λ k d least less.
      let row = get_or rows k d in
      before-cycle row.cycle row.link.0 t l (first.point.0 k d least less);
  behind = λ k d past below.
      let row = get_or rows k d in
      let late = next.point.1 k d past below in
      behind-cycle row.cycle row.link.0 t l (omega (arith, late));
  cycle = λ k d past less.
      let most = next.within in
      let late = first.point.1 k d past (omega (arith, less, most)) in
      let soon = next.point.0 k d (omega arith) less in
      omega (arith, late, soon);
}

module _ (rows : List LinkRow) (rises : Rises is_later rows) (t l low high middle : ℕ)
    (default : LinkRow) (are : AreHalves rows t l low high) (past : low ≤ middle)
    (less : middle < high) where
  below : middle < length rows
  below = let most = are.within in omega (arith, most, less)

  -- The row in the middle comes before the link.
  pub halves-before : (get_or rows middle default).link.0 < l
      → AreHalves rows t l (middle + 1) high
  halves-before early = record {
    within = are.within;
    before = λ k d least soon.
        before-first rows rises t l k middle d (omega (arith, soon)) below
        (let row = get_or rows middle d in
        let here = ap (λ (row : LinkRow). row.link.0)
        (get_or_default rows middle d default below) in
        before-link row.cycle row.link.0 t l (are.cycle middle d past less)
        (omega (arith, early, here)));
    behind = are.behind;
    cycle = λ k d late soon. are.cycle k d (omega (arith, late, past)) soon;
  }

  -- Or it doesn't.
  pub halves-behind : l ≤ (get_or rows middle default).link.0 → AreHalves rows t l low middle
  halves-behind most = record {
    within = omega (arith, below);
    before = are.before;
    behind = λ k d late soon. elim (cases_Bool (is_before t l (get_or rows k d))) [
      | inr later ↦ later
      | inl early ↦
          let first = before-first rows rises t l middle k d late soon early in
          let row = get_or rows middle d in
          let here = ap (λ (row : LinkRow). row.link.0)
          (get_or_default rows middle d default below) in
          let own = are.cycle middle d past less in
          let not = not-before row.cycle row.link.0 t l (omega (arith, own))
          (omega (arith, most, here)) in
          absurd (cc (sym first ∙ not))
    ];
    cycle = λ k d late soon. are.cycle k d late (omega (arith, soon, less));
  }

-- At the end the halves meet.
pub halves-met : (rows : List LinkRow) (t l low high : ℕ) → AreHalves rows t l low high
    → high ≤ low → IsPartitionPoint (λ row. is_before t l row ≡ true)
    (λ row. is_before t l row ≡ false) rows low
halves-met rows t l low high are met = (
  are.before,
  λ k d past below. are.behind k d (omega (arith, past, met)) below,
)

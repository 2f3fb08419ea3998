-- Lists whose first items pass a test and whose others fail, and rows that rise, searched by
-- halves.
use Rattle.std.proofs.Common.{◌≡◌, ◌∙◌, ◌<◌, ◌≤◌, ℕ, zero, suc, Bool, true, false, cond, List, []}
use Rattle.std.proofs.Common.{◌∷◌, length, take, filter, slice_get, get_or, Some, None, refl, sym}
use Rattle.std.proofs.Common.{ap, subst, inl, inr, arith, nat_lt, ◌&&◌, ◌||◌, ◌==◌}
use Rattle.std.proofs.lemmas.Bool.{cases_Bool, cases_lt, Decides.nat_tests}
use Rattle.std.proofs.lemmas.Option.{get_or_from_slice_get, same_Some, slice_get_within}
use Rattle.std.specs.List.Sorted.{IsNonDecreasingBy, IsPartitionPoint, IsPartitionedBy}
use Rattle.aeth_text.specs.Order.{Rises, RisesAfter}
use Rattle.aeth_tables.proofs.FindLaws.{find-at, find-none}
use Rattle.aeth_audit.specs.{Audit.row_on, LinkLog.is_before, LinkLog.is_later}
use Rattle.aeth_audit.specs.{declared.row.LinkRow.LinkRow}

module _ {X : Type 0} (test : X → Bool) where
  -- Where the first items pass and the others fail, a filter keeps the first ones.
  pub filter-point : (xs : List X) (n : ℕ) → n ≤ length xs
      → ((k : ℕ) (x : X) → k < n → slice_get xs k ≡ Some x → test x ≡ true)
      → ((k : ℕ) (x : X) → n ≤ k → slice_get xs k ≡ Some x → test x ≡ false)
      → filter test xs ≡ take n xs
  filter-point [] zero within passes fails = refl
  filter-point [] (suc n) within passes fails = absurd (omega arith)
  filter-point (x ∷ xs) zero within passes fails =
      ap (λ (b : Bool). cond b (x ∷ filter test xs) (filter test xs)) (fails 0 x (omega arith) refl)
      ∙ filter-point xs zero (omega arith) (λ k z less. absurd (omega arith))
      (λ k z le. fails (suc k) z (omega arith))
  filter-point (x ∷ xs) (suc n) within passes fails =
      ap (λ (b : Bool). cond b (x ∷ filter test xs) (filter test xs))
      (passes 0 x (omega arith) refl)
      ∙ ap (λ (ys : List X). x ∷ ys) (filter-point xs n (omega arith)
      (λ k z less. passes (suc k) z (omega arith)) (λ k z le. fails (suc k) z (omega arith)))

-- ---- Rows that rise

chain-numbers : (a k b m t l : ℕ) → (nat_lt a b || (a == b && nat_lt k m)) ≡ true
    → (nat_lt b t || (b == t && nat_lt m l)) ≡ true → (nat_lt a t || (a == t && nat_lt k l)) ≡ true
chain-numbers a k b m t l one two = grind (arith, nat_tests)

-- A row before one that comes before a link in a cycle does too.
before-chain : (a b : LinkRow) (t l : ℕ) → is_later a b ≡ true → is_before t l b ≡ true
    → is_before t l a ≡ true
before-chain a b t l = chain-numbers a.cycle a.link.0 b.cycle b.link.0 t l

later-chain : (a b c : LinkRow) → is_later a b ≡ true → is_later b c ≡ true → is_later a c ≡ true
later-chain a b c = before-chain a b c.cycle c.link.0

-- A row that comes before isn't on the link in the cycle.
before-other : (a k t l : ℕ) → (nat_lt a t || (a == t && nat_lt k l)) ≡ true
    → (a == t && k == l) ≡ false
before-other a k t l before = grind (arith, nat_tests)

-- Nor is one after a row that doesn't come before.
after-other : (a k b m t l : ℕ) → (nat_lt a t || (a == t && nat_lt k l)) ≡ false
    → (nat_lt a b || (a == b && nat_lt k m)) ≡ true → (b == t && m == l) ≡ false
after-other a k b m t l behind later = grind (arith, nat_tests)

after-all : (last : LinkRow) (rows : List LinkRow) → RisesAfter is_later last rows → (k : ℕ)
    (d : LinkRow) → k < length rows → is_later last (get_or rows k d) ≡ true
after-all last [] rising k d within = absurd (omega arith)
after-all last (row ∷ rows) rising zero d within = rising.0
after-all last (row ∷ rows) rising (suc k) d within =
    later-chain last row (get_or rows k d) rising.0 (after-all row rows rising.1 k d (omega arith))

rises-rest : (row : LinkRow) (rows : List LinkRow) → RisesAfter is_later row rows
    → Rises is_later rows
rises-rest row [] rising = tt
rises-rest row (next ∷ rows) rising = rising.1

-- Each row comes before each later one.
rising-pairs : (rows : List LinkRow) → Rises is_later rows → (i j : ℕ) (d : LinkRow) → i < j
    → j < length rows → is_later (get_or rows i d) (get_or rows j d) ≡ true
rising-pairs [] rising i j d below within = absurd (omega arith)
rising-pairs (row ∷ rows) rising i zero d below within = absurd (omega arith)
rising-pairs (row ∷ rows) rising zero (suc j) d below within =
    after-all row rows rising j d (omega arith)
rising-pairs (row ∷ rows) rising (suc i) (suc j) d below within =
    rising-pairs rows (rises-rest row rows rising) i j d (omega arith) (omega arith)

module _ (rows : List LinkRow) (rises : Rises is_later rows) (t l : ℕ) where
  pairs : (i j : ℕ) (a b : LinkRow) → i < j → slice_get rows i ≡ Some a → slice_get rows j ≡ Some b
      → is_later a b ≡ true
  pairs i j a b less at_i at_j =
      let one = get_or_from_slice_get rows i a a at_i in
      let two = get_or_from_slice_get rows j b a at_j in
      sym (ap (λ (x : LinkRow). is_later x (get_or rows j a)) one
      ∙ ap (λ (x : LinkRow). is_later a x) two)
      ∙ rising-pairs rows rises i j a less (slice_get_within rows j b at_j)

  -- Those before a link in a cycle are the first ones.
  pub before-first : IsPartitionedBy (is_before t l) rows
  before-first i j d le within before = elim (cases_lt i j) [
    | inl less ↦ before-chain (get_or rows i d) (get_or rows j d) t l
        (rising-pairs rows rises i j d less within) before
    | inr past ↦
        let same : j ≡ i = omega arith in
        subst (λ (k : ℕ). is_before t l (get_or rows k d) ≡ true) same before
  ]

  module _ (n : ℕ) (point : IsPartitionPoint (λ row. is_before t l row ≡ true)
      (λ row. is_before t l row ≡ false) rows n) where
    ahead-fails : (k : ℕ) (row : LinkRow) → k < n → slice_get rows k ≡ Some row
        → (row.cycle == t && row.link.0 == l) ≡ false
    ahead-fails k row less at =
        before-other row.cycle row.link.0 t l
        (subst (λ (x : LinkRow). is_before t l x ≡ true) (get_or_from_slice_get rows k row row at)
        (point.0 k row (omega arith) less))

    -- The row there is the one, or none is.
    pub row-found : (row : LinkRow) → slice_get rows n ≡ Some row
        → row_on rows t l ≡ cond (row.cycle == t && row.link.0 == l) (Some row) None
    row-found row at =
        let behind = subst (λ (x : LinkRow). is_before t l x ≡ false)
        (get_or_from_slice_get rows n row row at)
        (point.1 n row (omega arith) (slice_get_within rows n row at)) in
        elim (cases_Bool (row.cycle == t && row.link.0 == l)) [
          | inl on ↦ find-at (λ (x : LinkRow). x.cycle == t && x.link.0 == l) rows n row ahead-fails
              at on ∙ sym (ap (λ (b : Bool). cond b (Some row) None) on)
          | inr off ↦ find-none (λ (x : LinkRow). x.cycle == t && x.link.0 == l) rows
              (λ k other at_k. elim (cases_lt k n) [
                | inl less ↦ ahead-fails k other less at_k
                | inr past ↦ elim (cases_lt n k) [
                  | inl more ↦ after-other row.cycle row.link.0 other.cycle other.link.0 t l behind
                      (pairs n k row other more at at_k)
                  | inr equal ↦
                      let place : n ≡ k = omega arith in
                      let same : row ≡ other =
                      same_Some row other (sym at ∙ ap (slice_get rows) place ∙ at_k) in
                      ap (λ (x : LinkRow). x.cycle == t && x.link.0 == l) (sym same) ∙ off
                ]
              ])
              ∙ sym (ap (λ (b : Bool). cond b (Some row) None) off)
        ]

    -- Where none stands there, none is.
    pub row-past : length rows ≤ n → row_on rows t l ≡ None
    row-past past = find-none (λ (x : LinkRow). x.cycle == t && x.link.0 == l) rows
        (λ k other at_k. ahead-fails k other
        (let within = slice_get_within rows k other at_k in omega arith) at_k)

-- ---- Rows before an end

later-cycle : (a k b m : ℕ) → (nat_lt a b || (a == b && nat_lt k m)) ≡ true → a ≤ b
later-cycle a k b m later = grind (arith, nat_tests)

-- Cycles don't fall.
pub cycles-rise : (rows : List LinkRow) → Rises is_later rows
    → IsNonDecreasingBy (λ row. row.cycle) rows
cycles-rise rows rises i j d le within = elim (cases_lt i j) [
  | inl less ↦
      let one = get_or rows i d in
      let two = get_or rows j d in
      later-cycle one.cycle one.link.0 two.cycle two.link.0 (rising-pairs rows rises i j d less within)
  | inr past ↦
      let same : j ≡ i = omega arith in
      let cycles : (get_or rows j d).cycle ≡ (get_or rows i d).cycle =
      ap (λ (k : ℕ). (get_or rows k d).cycle) same in
      omega arith
]

after-take : (last : LinkRow) (n : ℕ) (rows : List LinkRow) → RisesAfter is_later last rows
    → RisesAfter is_later last (take n rows)
after-take last zero rows rising = tt
after-take last (suc n) [] rising = tt
after-take last (suc n) (row ∷ rows) rising = (rising.0, after-take row n rows rising.1)

-- The first rows rise.
pub rises-take : (n : ℕ) (rows : List LinkRow) → Rises is_later rows → Rises is_later (take n rows)
rises-take zero rows rising = tt
rises-take (suc n) [] rising = tt
rises-take (suc n) (row ∷ rows) rising = after-take row n rows rising

-- Those before an end are the first ones.
pub before-end : (rows : List LinkRow) (cycles n : ℕ) → n ≤ length rows
    → IsPartitionPoint (λ row. nat_lt row.cycle cycles ≡ true)
    (λ row. nat_lt row.cycle cycles ≡ false) rows n
    → filter (λ row. nat_lt row.cycle cycles) rows ≡ take n rows
before-end rows cycles n within point =
    let test = λ (row : LinkRow). nat_lt row.cycle cycles in
    filter-point test rows n within
    (λ k row less at. subst (λ (x : LinkRow). test x ≡ true)
    (get_or_from_slice_get rows k row row at) (point.0 k row (omega arith) less))
    (λ k row past at. subst (λ (x : LinkRow). test x ≡ false)
    (get_or_from_slice_get rows k row row at)
    (point.1 k row past (slice_get_within rows k row at)))

-- Rows in the order of routers: those of one stand side by side.
use Rattle.std.proofs.Common.{◌≡◌, ◌≤◌, ◌<◌, ◌∙◌, ◌==◌, ◌-◌, ◌+◌, ℕ, zero, suc, All, Bool, List, []}
use Rattle.std.proofs.Common.{◌∷◌, ap, arith, cond, drop, filter, fold, get_or, inl, inr, length}
use Rattle.std.proofs.Common.{refl, subst, sym, take, true, false, nat_le, nat_lt, Some}
use Rattle.std.proofs.Common.{get_or-take, length-drop, length-take, take_all}
use Rattle.std.proofs.lemmas.Bool.{cases_Bool, Decides.nat_tests}
use Rattle.std.proofs.lemmas.List.{get_or_default, take_more, Sorted.IsNonDecreasingBy-push}
use Rattle.std.specs.List.{AllWithin, Sorted.IsNonDecreasingBy, Sorted.IsPartitionPoint}
use Rattle.aeth_base.specs.declared.ids.RouterId.{RouterId}
use Rattle.aeth_router.specs.Rows.{is_for, with_row, with_table, without_entries}
use Rattle.aeth_router.specs.TableRouter.{TableRouterState, with_entry}
use Rattle.aeth_router.specs.declared.router_row.RouterRow.{RouterRow}

module _ {X : Type 0} (test : X → Bool) where
  -- A filter keeps none of those that fail at the front.
  filter-behind : (xs : List X) (n : ℕ) → AllWithin (λ x. test x ≡ false) xs 0 n
      → filter test (drop n xs) ≡ filter test xs
  filter-behind xs zero fails = refl
  filter-behind [] (suc n) fails = refl
  filter-behind (x ∷ xs) (suc n) fails =
      filter-behind xs n (λ k d low high. fails (suc k) d (omega arith) (omega arith))
      ∙ sym (ap (λ (b : Bool). cond b (x ∷ filter test xs) (filter test xs))
      (fails 0 x (omega arith) (omega arith)))

  -- Where the first ones pass and the others fail, it keeps the first ones.
  filter-front : (xs : List X) (n : ℕ) → AllWithin (λ x. test x ≡ true) xs 0 n
      → AllWithin (λ x. test x ≡ false) xs n (length xs) → filter test xs ≡ take n xs
  filter-front [] zero passes fails = refl
  filter-front [] (suc n) passes fails = refl
  filter-front (x ∷ xs) zero passes fails =
      ap (λ (b : Bool). cond b (x ∷ filter test xs) (filter test xs))
      (fails 0 x (omega arith) (omega arith))
      ∙ filter-front xs zero (λ k d low high. absurd (omega arith))
      (λ k d low high. fails (suc k) d (omega arith) (omega arith))
  filter-front (x ∷ xs) (suc n) passes fails =
      ap (λ (b : Bool). cond b (x ∷ filter test xs) (filter test xs))
      (passes 0 x (omega arith) (omega arith))
      ∙ ap (λ (ys : List X). x ∷ ys) (filter-front xs n
      (λ k d low high. passes (suc k) d (omega arith) (omega arith))
      (λ k d low high. fails (suc k) d (omega arith) (omega arith)))

-- The rows from a place on, up to the end, are those behind it.
pub rows-behind : (rows : List RouterRow) (n : ℕ) → take (length rows - n) (drop n rows) ≡ drop n rows
rows-behind rows n = take_all (length rows - n) (drop n rows) (omega (arith, length-drop n rows))

-- A number below another is another one.
before-other : (m n : ℕ) → nat_lt m n ≡ true → (m == n) ≡ false
before-other m n before = grind (arith, nat_tests)

-- So is one behind it.
behind-other : (m n : ℕ) → nat_le m n ≡ false → (m == n) ≡ false
behind-other m n behind = grind (arith, nat_tests)

-- One that is neither is the same.
between-same : (m n : ℕ) → n ≤ m → nat_le m n ≡ true → (m == n) ≡ true
between-same m n least most = grind (arith, nat_tests)

not-before : (m n : ℕ) → nat_lt m n ≡ false → n ≤ m
not-before m n not = grind (arith, nat_tests)

-- One row more, of no router before that of the last, is in order.
pub order-more : (rows : List RouterRow) (k last : ℕ) (d : RouterRow) → k < length rows
    → IsNonDecreasingBy (λ row. row.router.0) (take k rows)
    → ((e : RouterRow) → 0 < k → (get_or rows (k - 1) e).router.0 ≡ last)
    → last ≤ (get_or rows k d).router.0
    → IsNonDecreasingBy (λ row. row.router.0) (take (k + 1) rows)
order-more rows k last d within order ends most =
    let count = length-take k rows in
    subst (λ (list : List RouterRow). IsNonDecreasingBy (λ row. row.router.0) list)
    (sym (take_more rows k d within))
    (IsNonDecreasingBy-push (λ (row : RouterRow). row.router.0) (take k rows) (get_or rows k d) order
    (λ e some.
    let here : length (take k rows) - 1 ≡ k - 1 = omega (arith, count, within) in
    let own = get_or-take k rows (k - 1) e (omega (arith, count, within, some)) in
    let is = ends e (omega (arith, count, within, some)) in
    rw (here, own, is) most))

-- What stands at a place is the same by each default.
pub same-place : (rows : List RouterRow) (k : ℕ) (d e : RouterRow) → k < length rows
    → (get_or rows (k + 1 - 1) d).router.0 ≡ (get_or rows k e).router.0
same-place rows k d e within =
    let here : k + 1 - 1 ≡ k = omega arith in
    rw here (ap (λ (row : RouterRow). row.router.0) (get_or_default rows k d e within))

module _ (router : RouterId) where
  -- The rows behind those of routers before one have all of its own.
  pub own-behind : (rows : List RouterRow) (n : ℕ)
      → AllWithin (λ row. nat_lt row.router.0 router.0 ≡ true) rows 0 n
      → filter (is_for router) (drop n rows) ≡ filter (is_for router) rows
  own-behind rows n before =
      filter-behind (is_for router) rows n
      (λ k d low high. before-other (get_or rows k d).router.0 router.0 (before k d low high))

  -- They are of no router before it.
  pub least-behind : (rows : List RouterRow) (n : ℕ)
      → AllWithin (λ row. nat_lt row.router.0 router.0 ≡ false) rows n (length rows)
      → All (λ row. router.0 ≤ row.router.0) (drop n rows)
  least-behind rows zero behind =
      λ k d within. not-before (get_or rows k d).router.0 router.0 (behind k d (omega arith) within)
  least-behind [] (suc n) behind = λ k d within. absurd (omega arith)
  least-behind (row ∷ rows) (suc n) behind =
      least-behind rows n (λ k d low high. behind (suc k) d (omega arith) (omega arith))

  -- Of such rows its own are the first ones.
  pub own-first : (rows : List RouterRow) (n : ℕ) → All (λ row. router.0 ≤ row.router.0) rows
      → n ≤ length rows → IsPartitionPoint (λ row. nat_le row.router.0 router.0 ≡ true)
      (λ row. nat_le row.router.0 router.0 ≡ false) rows n
      → take n rows ≡ filter (is_for router) rows
  own-first rows n least within point =
      sym (filter-front (is_for router) rows n
      (λ k d low high. between-same (get_or rows k d).router.0 router.0 (least k d (omega arith))
      (point.0 k d low high))
      (λ k d low high. behind-other (get_or rows k d).router.0 router.0 (point.1 k d low high)))

-- Only its own rows enter the table of a router.
fold-own : (rows : List RouterRow) (router : TableRouterState)
    → fold with_row router (filter (is_for router.number) rows) ≡ fold with_row router rows
fold-own [] router = refl
fold-own (row ∷ rows) router =
    elim (cases_Bool (is_for router.number row)) [
      | inl own ↦
          let own_rows = filter (is_for router.number) rows in
          let now = with_entry row.port row.slot (Some row.from) router in
          let is : with_row router row ≡ now = rw own refl in
          ap (λ (b : Bool). fold with_row router (cond b (row ∷ own_rows) own_rows)) own
          ∙ ap (λ (one : TableRouterState). fold with_row one own_rows) is
          ∙ fold-own rows now
          ∙ sym (ap (λ (one : TableRouterState). fold with_row one rows) is)
      | inr foreign ↦ rw foreign (fold-own rows router)
    ]

pub with_table-own : (rows : List RouterRow) (router : TableRouterState)
    → with_table (filter (is_for router.number) rows) router ≡ with_table rows router
with_table-own rows router = fold-own rows (without_entries router)

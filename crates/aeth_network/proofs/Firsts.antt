-- First cycles of stretches, and rows of which none is of a cycle.
use Rattle.std.proofs.Common.{◌≡◌, ◌≤◌, ◌<◌, ◌⊎◌, ◌+◌, ◌-◌, ◌==◌, ◌++◌, ◌∙◌, ℕ, List, [], ◌∷◌, ap}
use Rattle.std.proofs.Common.{arith, drop, drop-drop, filter, fold, get_or, inl, inr, length, refl}
use Rattle.std.proofs.Common.{sym, take, take-add, slice_range, eq-eqb, eqb-true}
use Rattle.std.proofs.lemmas.{Bool.cases_lt, List.Sums.fold-append, Option.get_or_from_slice_get}
use Rattle.std.proofs.lemmas.{Option.slice_get-get_or, Option.slice_get_within}
use Rattle.std.specs.List.Sorted.{IsNonDecreasingBy}
use Rattle.aeth_base.proofs.Members.{Contains-slice_get, slice_get-Contains}
use Rattle.aeth_running.proofs.StillRows.{kept-none, none-kept}
use Rattle.aeth_components.specs.First.{IsFirst}
use Rattle.aeth_network.specs.Behind.{passed}
use Rattle.aeth_network.proofs.KnownFirsts.{first-of, known-both, known-none, known-of}
use Rattle.aeth_network.proofs.Passed.{passed-at, passed-of}

-- The first cycle in which one of two things holds, where the second is looked for below the first.
pub first-either : {P Q : ℕ → Type 0} {from to middle cycle : ℕ} → IsFirst P from to middle
    → IsFirst Q from middle cycle → IsFirst (λ t. P t ⊎ Q t) from to cycle
first-either one other =
    first-of (known-both (λ t has. has) (known-of (λ t. inl) one) (known-of (λ t. inr) other))

-- A list that isn't one of some items has none.
pub not-empty : {X : Type 0} (xs : List X) → ((xs ≡ [] → ⊥) → ⊥) → xs ≡ []
not-empty [] never = refl
not-empty (x ∷ xs) never = absurd (never (λ is. cc is))

-- Rows between two places, and between the second and a third.
pub slice-append : {X : Type 0} (xs : List X) (a b c : ℕ) → a ≤ b → b ≤ c
    → slice_range xs a b ++ slice_range xs b c ≡ slice_range xs a c
slice-append {X} xs a b c first last =
    let whole : (b - a) + (c - b) ≡ c - a = omega arith in
    let place : a + (b - a) ≡ b = omega arith in
    sym (ap (λ n. take n (drop a xs)) (sym whole) ∙ take-add (b - a) (c - b) (drop a xs)
    ∙ ap (λ (rest : List X). take (b - a) (drop a xs) ++ take (c - b) rest)
    (drop-drop (b - a) a xs ∙ ap (λ n. drop n xs) place))

pub fold-slices : {X Y : Type 0} (f : Y → X → Y) (y : Y) (xs : List X) (a b c : ℕ) → a ≤ b → b ≤ c
    → fold f (fold f y (slice_range xs a b)) (slice_range xs b c) ≡ fold f y (slice_range xs a c)
fold-slices f y xs a b c first last =
    sym (fold-append f y (slice_range xs a b) (slice_range xs b c))
    ∙ ap (fold f y) (slice-append xs a b c first last)

-- The next row's cycle, from the place behind those before a cycle.
module _ {X : Type 0} (key : X → ℕ) (rows : List X) (rises : IsNonDecreasingBy key rows)
    (time to place : ℕ) (le : time ≤ to) (is : place ≡ passed key time rows) where
  abbrev HasRow : ℕ → Type 0
  HasRow t = filter (λ one. key one == t) rows ≡ [] → ⊥

  -- No row is of an earlier cycle.
  none-before : (limit t : ℕ) → ((d : X) → place < length rows → limit ≤ key (get_or rows place d))
      → time ≤ t → t < limit → filter (λ one. key one == t) rows ≡ []
  none-before limit t next since less = none-kept (λ (one : X). key one == t) rows (λ row has now.
      let of = eqb-true (key row) t now in
      let (k, at) = slice_get-Contains rows row has in
      let within = slice_get_within rows k row at in
      elim (cases_lt k place) [
        | inl before ↦
            let behind = (passed-of key time rows k row rises at).1 (omega arith) in
            absurd (omega arith)
        | inr behind ↦
            let own = ap key (get_or_from_slice_get rows k row row at) in
            let order = rises place k row behind within in
            let first = next row (omega arith) in
            absurd (omega arith)
      ])

  pub row-none : ((d : X) → place < length rows → to ≤ key (get_or rows place d))
      → IsFirst HasRow time to to
  row-none next = first-of (known-none le (λ t since less has.
      has (none-before to t next since less)))

  pub row-late : (d : X) (cycle : ℕ) → cycle ≡ key (get_or rows place d) → place < length rows
      → to ≤ cycle → IsFirst HasRow time to to
  row-late d cycle own within late = row-none (λ e inside.
      let same = ap key (get_or_from_slice_get rows place (get_or rows place d) e
      (slice_get-get_or rows place d within)) in
      omega arith)

  pub row-first : (d : X) (cycle : ℕ) → cycle ≡ key (get_or rows place d) → place < length rows
      → cycle < to → IsFirst HasRow time to cycle
  row-first d cycle own within early =
      let row = get_or rows place d in
      let at = slice_get-get_or rows place d within in
      let late : time ≤ key row = elim (cases_lt (key row) time) [
        | inl low ↦
            let before = (passed-at key time rows place d rises within).0 low in
            absurd (omega arith)
        | inr high ↦ high
      ] in
      record {
        least = omega arith;
        most = omega arith;
        before = λ t since less has. has (none-before cycle t (λ e inside.
            let same = ap key (get_or_from_slice_get rows place row e at) in
            omega arith) since less);
        holds = λ less none. kept-none (λ (one : X). key one == cycle) rows none row
            (Contains-slice_get rows place row at) (eq-eqb (key row) cycle (sym own));
      }

-- Laws of marked lists: one more place, and one mark less.
use Rattle.std.proofs.Common.{◌≡◌, ◌≢◌, ◌<◌, ◌∙◌, ◌+◌, ◌++◌, ℕ, zero, suc, Bool, true, false, cond}
use Rattle.std.proofs.Common.{List, [], ◌∷◌, Contains, Some, refl, sym, ap, subst, inl, inr, arith}
use Rattle.std.proofs.Common.{filter, length, get_or, map, not, set, slice_get, take, append-nil}
use Rattle.std.proofs.lemmas.{Bool.cases_Bool, Option.same_Some}
use Rattle.std.specs.List.{items_where_true}
use Rattle.aeth_order.specs.{declared.keys.UnitKeys.UnitKeys, Units.UnitsData}
use Rattle.aeth_app.specs.App.{is_marked}
use Rattle.aeth_base.proofs.Members.{Contains-nil, Contains-here, Contains-there, Contains-cases}

-- The marked ones up to a place, with the one there where it is marked.
pub marked-more : {X : Type 0} (marks : List Bool) (xs : List X) (i : ℕ) (d : Bool) (e : X)
    → i < length marks → i < length xs
    → items_where_true (take (i + 1) marks) (take (i + 1) xs)
    ≡ items_where_true (take i marks) (take i xs)
    ++ cond (get_or marks i d) (get_or xs i e ∷ []) []
marked-more [] xs i d e low low' = absurd (omega arith)
marked-more (b ∷ marks) [] i d e low low' = absurd (omega arith)
marked-more (true ∷ marks) (x ∷ xs) zero d e low low' = refl
marked-more (false ∷ marks) (x ∷ xs) zero d e low low' = refl
marked-more (true ∷ marks) (x ∷ xs) (suc i) d e low low' =
    let next : suc i + 1 ≡ suc (i + 1) = omega arith in
    rw next (ap (λ ys. x ∷ ys) (marked-more marks xs i d e (omega arith) (omega arith)))
marked-more (false ∷ marks) (x ∷ xs) (suc i) d e low low' =
    let next : suc i + 1 ≡ suc (i + 1) = omega arith in
    rw next (marked-more marks xs i d e (omega arith) (omega arith))

-- A marked one stands at a marked place.
pub record StandsAt {X : Type 0} (marks : List Bool) (xs : List X) (a : X) : Type 0 where
  pub place : ℕ
  pub is : slice_get xs place ≡ Some a
  pub marked : is_marked marks place ≡ true

stands-behind : {X : Type 0} (b : Bool) (marks : List Bool) (x : X) (xs : List X) (a : X)
    → StandsAt marks xs a → StandsAt (b ∷ marks) (x ∷ xs) a
stands-behind b marks x xs a at =
    record { place = suc at.place; is = at.is; marked = at.marked }

pub marked-at : {X : Type 0} (marks : List Bool) (xs : List X) (a : X)
    → Contains (items_where_true marks xs) a → StandsAt marks xs a
marked-at [] xs a has = Contains-nil has
marked-at (b ∷ marks) [] a has = Contains-nil has
marked-at (true ∷ marks) (x ∷ xs) a has =
    elim (Contains-cases x (items_where_true marks xs) a has) [
      | inl here ↦ record { place = 0; is = ap Some here; marked = refl }
      | inr later ↦ stands-behind true marks x xs a (marked-at marks xs a later)
    ]
marked-at (false ∷ marks) (x ∷ xs) a has =
    stands-behind false marks x xs a (marked-at marks xs a has)

-- What stands at a marked place is a marked one.
pub at-marked : {X : Type 0} (marks : List Bool) (xs : List X) (place : ℕ) (a : X)
    → slice_get xs place ≡ Some a → is_marked marks place ≡ true
    → Contains (items_where_true marks xs) a
at-marked [] xs place a is marked = cc marked
at-marked (b ∷ marks) [] place a is marked = cc is
at-marked (true ∷ marks) (x ∷ xs) zero a is marked =
    subst (Contains (x ∷ items_where_true marks xs)) (same_Some x a is)
    (Contains-here x (items_where_true marks xs))
at-marked (false ∷ marks) (x ∷ xs) zero a is marked = cc marked
at-marked (true ∷ marks) (x ∷ xs) (suc place) a is marked =
    Contains-there x (items_where_true marks xs) a (at-marked marks xs place a is marked)
at-marked (false ∷ marks) (x ∷ xs) (suc place) a is marked = at-marked marks xs place a is marked

-- Where no one is meant, none is taken out.
pub marked-none : {X : Type 0} (test : X → Bool) (marks : List Bool) (xs : List X)
    → ((q : ℕ) (x : X) → slice_get xs q ≡ Some x → test x ≡ false)
    → filter (λ x. not (test x)) (items_where_true marks xs) ≡ items_where_true marks xs
marked-none test [] xs out = refl
marked-none test (b ∷ marks) [] out = refl
marked-none test (true ∷ marks) (x ∷ xs) out =
    let rest = marked-none test marks xs (λ q y at. out (suc q) y at) in
    rw (out 0 x refl) (ap (λ ys. x ∷ ys) rest)
marked-none test (false ∷ marks) (x ∷ xs) out = marked-none test marks xs (λ q y at. out (suc q) y at)

-- A mark was cleared: the one at its place is taken out.
pub marked-cleared : {X : Type 0} (test : X → Bool) (marks : List Bool) (xs : List X) (p : ℕ)
    → ((x : X) → slice_get xs p ≡ Some x → test x ≡ true)
    → ((q : ℕ) (x : X) → q ≢ p → slice_get xs q ≡ Some x → test x ≡ false)
    → items_where_true (set marks p false) xs
    ≡ filter (λ x. not (test x)) (items_where_true marks xs)
marked-cleared test [] xs p hit miss = refl
marked-cleared test (b ∷ marks) [] zero hit miss = refl
marked-cleared test (b ∷ marks) [] (suc p) hit miss = refl
marked-cleared test (true ∷ marks) (x ∷ xs) zero hit miss =
    let rest = marked-none test marks xs (λ q y at.
    miss (suc q) y (λ wrong. absurd (omega arith)) at) in
    rw (hit x refl) (sym rest)
marked-cleared test (false ∷ marks) (x ∷ xs) zero hit miss =
    sym (marked-none test marks xs (λ q y at.
    miss (suc q) y (λ wrong. absurd (omega arith)) at))
marked-cleared test (true ∷ marks) (x ∷ xs) (suc p) hit miss =
    let rest = marked-cleared test marks xs p hit (λ q y apart at.
    miss (suc q) y (λ same. apart (omega arith)) at) in
    rw (miss 0 x (λ wrong. absurd (omega arith)) refl) (ap (λ ys. x ∷ ys) rest)
marked-cleared test (false ∷ marks) (x ∷ xs) (suc p) hit miss =
    marked-cleared test marks xs p hit (λ q y apart at.
    miss (suc q) y (λ same. apart (omega arith)) at)

-- Marks and items of one list.
pub marked-map : {X Y : Type 0} (mark : X → Bool) (item : X → Y) (xs : List X)
    → items_where_true (map mark xs) (map item xs) ≡ map item (filter mark xs)
marked-map mark item [] = refl
marked-map mark item (x ∷ xs) =
    elim (cases_Bool (mark x)) [
      | inl marked ↦ rw marked (ap (λ ys. item x ∷ ys) (marked-map mark item xs))
      | inr other ↦ rw other (marked-map mark item xs)
    ]

-- The same where the next one is marked, and where it isn't.
pub marked-yes : {X : Type 0} (marks : List Bool) (xs : List X) (i : ℕ) (d : Bool) (e : X)
    → i < length marks → i < length xs → get_or marks i d ≡ true
    → items_where_true (take i marks) (take i xs) ++ get_or xs i e ∷ []
    ≡ items_where_true (take (i + 1) marks) (take (i + 1) xs)
marked-yes marks xs i d e low low' is =
    ap (λ b. items_where_true (take i marks) (take i xs) ++ cond b (get_or xs i e ∷ []) [])
    (sym is)
    ∙ sym (marked-more marks xs i d e low low')

pub marked-no : {X : Type 0} (marks : List Bool) (xs : List X) (i : ℕ) (d : Bool) (e : X)
    → i < length marks → i < length xs → get_or marks i d ≡ false
    → items_where_true (take i marks) (take i xs)
    ≡ items_where_true (take (i + 1) marks) (take (i + 1) xs)
marked-no marks xs i d e low low' is =
    sym (append-nil (items_where_true (take i marks) (take i xs)))
    ∙ ap (λ b. items_where_true (take i marks) (take i xs) ++ cond b (get_or xs i e ∷ []) [])
    (sym is)
    ∙ sym (marked-more marks xs i d e low low')

-- Units, as a number of cores and the units that wait.
abbrev pub units_data : ℕ → List UnitKeys → UnitsData
units_data cores waiting = record { cores = cores; waiting = waiting }

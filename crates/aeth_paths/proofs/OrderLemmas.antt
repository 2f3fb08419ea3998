-- The order of paths, key by key and link by link.
use Rattle.std.proofs.Common.{◌≡◌, ◌≢◌, ◌∙◌, ◌+◌, ◌≤◌, ◌&&◌, ◌||◌, ◌++◌, ℕ, zero, suc, Bool, true}
use Rattle.std.proofs.Common.{false, cond, eqb, ltb, List, [], ◌∷◌, length, drop, map, Some}
use Rattle.std.proofs.Common.{slice_get, refl, ap, arith, sum_by, eq-eqb, le-ltb, ne_eqb}
use Rattle.std.proofs.lemmas.List.{drop_all, drop_more}
use Rattle.std.proofs.lemmas.Option.{get_or_from_slice_get, none-some, slice_get_within}
use Rattle.std.specs.Cmp.Lexicographic.{slice_cmp}
use Rattle.std.specs.Ordering.{is_lt, nat_cmp, ordering_then}
use Rattle.std.specs.declared.cmp.Ordering.{Ordering}
use Rattle.std.specs.declared.cmp.Ordering.TheVariants.{Equal, Greater, Less}
use Rattle.aeth_base.specs.declared.ids.LinkId.{LinkId}
use Rattle.aeth_paths.specs.{Search.Field, Search.is_better, Walk.is_before}

-- The numbers of links.
abbrev pub numbers : List LinkId → List ℕ
numbers path = map (λ (link : LinkId). link.0) path

-- A number and then the rest.
lt-then : (a b : ℕ) (o : Ordering)
    → is_lt (ordering_then (nat_cmp a b) o) ≡ (ltb a b || (eqb a b && is_lt o))
lt-then a b o =
    let go : (u v : Bool)
    → is_lt (ordering_then (cond u Less (cond v Equal Greater)) o) ≡ (u || (v && is_lt o)) =
    elim [ true ↦ λ v. refl | false ↦ elim [ true ↦ refl | false ↦ refl ] ] in
    go (ltb a b) (eqb a b)

-- The order of paths is that by their costs.
pub better-before : (f : Field) (path other : List LinkId)
    → is_better f path other ≡ is_before (sum_by f.cost path) path (sum_by f.cost other) other
better-before f path other =
    lt-then (sum_by f.cost path) (sum_by f.cost other) _
    ∙ ap (λ b. ltb (sum_by f.cost path) (sum_by f.cost other)
    || (eqb (sum_by f.cost path) (sum_by f.cost other) && b))
    (lt-then (length path) (length other) _)

-- Else the links do.
pub before-links : (cost : ℕ) (path : List LinkId) (its : ℕ) (other : List LinkId) → cost ≡ its
    → length path ≡ length other
    → is_lt (slice_cmp nat_cmp (numbers path) (numbers other)) ≡ is_before cost path its other
before-links cost path its other same equal =
    rw (
      le-ltb cost its (omega arith),
      eq-eqb cost its same,
      le-ltb (length path) (length other) (omega arith),
      eq-eqb (length path) (length other) equal,
    ) refl

-- What is left of a path at a place.
drop-link : (path : List LinkId) (place : ℕ) (link : LinkId) → slice_get path place ≡ Some link
    → numbers (drop place path) ≡ link.0 ∷ numbers (drop (place + 1) path)
drop-link path place link at =
    ap numbers (drop_more path place link (slice_get_within path place link at))
    ∙ ap (λ (l : LinkId). l.0 ∷ numbers (drop (place + 1) path))
    (get_or_from_slice_get path place link link at)

module _ (path other : List LinkId) (place : ℕ) (link its : LinkId)
    (at : slice_get path place ≡ Some link) (at' : slice_get other place ≡ Some its) where
  heads : slice_cmp nat_cmp (numbers (drop place path)) (numbers (drop place other))
      ≡ slice_cmp nat_cmp (link.0 ∷ numbers (drop (place + 1) path))
      (its.0 ∷ numbers (drop (place + 1) other))
  heads = ap (λ ls. slice_cmp nat_cmp ls (numbers (drop place other)))
      (drop-link path place link at)
      ∙ ap (slice_cmp nat_cmp (link.0 ∷ numbers (drop (place + 1) path)))
      (drop-link other place its at')

  -- Two links that differ decide.
  pub links-differ : link.0 ≢ its.0
      → is_lt (slice_cmp nat_cmp (numbers (drop place path)) (numbers (drop place other)))
      ≡ ltb link.0 its.0
  links-differ differ =
      let go : (a : Bool) → (a || false) ≡ a = elim [ true ↦ refl | false ↦ refl ] in
      ap is_lt heads ∙ lt-then link.0 its.0 _
      ∙ rw (ne_eqb link.0 its.0 differ) (go (ltb link.0 its.0))

  -- Two that are one don't.
  pub links-same : link.0 ≡ its.0
      → slice_cmp nat_cmp (numbers (drop place path)) (numbers (drop place other))
      ≡ slice_cmp nat_cmp (numbers (drop (place + 1) path)) (numbers (drop (place + 1) other))
  links-same same =
      heads ∙ rw (le-ltb link.0 its.0 (omega arith), eq-eqb link.0 its.0 same) refl

-- Behind the last links nothing comes before.
pub links-end : (path other : List LinkId) (place : ℕ) → length path ≤ place
    → length other ≤ place
    → is_lt (slice_cmp nat_cmp (numbers (drop place path)) (numbers (drop place other))) ≡ false
links-end path other place all all' =
    ap (λ (p : List LinkId). is_lt (slice_cmp nat_cmp (numbers p) (numbers (drop place other))))
    (drop_all place path all)
    ∙ ap (λ (p : List LinkId). is_lt (slice_cmp nat_cmp [] (numbers p))) (drop_all place other all')

-- A link of a list is one of each list that begins with it.
pub front-link : (path rest : List LinkId) (place : ℕ) (link : LinkId)
    → slice_get path place ≡ Some link → slice_get (path ++ rest) place ≡ Some link
front-link [] rest place link at = absurd (none-some link at)
front-link (first ∷ path) rest zero link at = at
front-link (first ∷ path) rest (suc place) link at = front-link path rest place link at

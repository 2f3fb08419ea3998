-- Laws of the first of a list, and of the three causes for which a list is given up.
use Rattle.std.proofs.Common.{◌≡◌, ◌⊎◌, ◌∙◌, ◌++◌, ℕ, Bool, true, false, cond, List, [], ◌∷◌}
use Rattle.std.proofs.Common.{length, Contains, Option, Some, None, sym, refl, ap, subst, inl, inr}
use Rattle.std.proofs.Common.{sum_by, map}
use Rattle.std.proofs.lemmas.{Bool.cond-true, Cmp.nat_cmp_total, Cmp.nat_list_cmp_total}
use Rattle.std.proofs.lemmas.{Cmp.on_total, Cmp.then_total, List.MinMax.ranks_by, Option.same_Some}
use Rattle.std.specs.{Ordering.is_lt, Cmp.IsStrictWeakOrder, Cmp.IsTotalOrder}
use Rattle.aeth_base.specs.declared.ids.LinkId.{LinkId}
use Rattle.aeth_base.proofs.Members.{Contains-nil, Contains-here, Contains-there, Contains-cases}
use Rattle.aeth_paths.specs.{Candidates.path_order, Pairs.NotBeaten, Search.Field, Search.better}
use Rattle.aeth_paths.specs.{Search.first_from, Search.is_better, Search.is_candidate, Search.keep}

-- Where the first and then the second list are gone over, their whole is.
pub first_from-append : (f : Field) (best : Option (List LinkId)) (xs ys : List (List LinkId))
    → first_from f best (xs ++ ys) ≡ first_from f (first_from f best xs) ys
first_from-append f best [] ys = refl
first_from-append f best (x ∷ xs) ys = first_from-append f (keep f best x) xs ys

-- Where no path of a list changes the best, the list doesn't.
pub first_from-stays : (f : Field) (best : Option (List LinkId)) (paths : List (List LinkId))
    → ((path : List LinkId) → Contains paths path → keep f best path ≡ best)
    → first_from f best paths ≡ best
first_from-stays f best [] none = refl
first_from-stays f best (path ∷ paths) none =
    ap (λ now. first_from f now paths) (none path (Contains-here path paths))
    ∙ first_from-stays f best paths (λ other has. none other (Contains-there path paths other has))

-- Paths compare.
pub path_total : (cost : LinkId → ℕ) → IsTotalOrder (path_order cost)
path_total cost =
    then_total (on_total (sum_by cost) nat_cmp_total)
    (then_total (on_total (λ (path : List LinkId). length path) nat_cmp_total)
    (on_total (map (λ (link : LinkId). link.0)) nat_list_cmp_total))

pub ranks : (cost : LinkId → ℕ)
    → IsStrictWeakOrder (λ path other. is_lt (path_order cost path other))
ranks cost = ranks_by (path_total cost) (λ (path : List LinkId). path)

-- No path comes before itself.
pub better-itself : (cost : LinkId → ℕ) (path : List LinkId)
    → is_lt (path_order cost path path) ≡ false
better-itself cost path =
    let go : (b : Bool) → is_lt (path_order cost path path) ≡ b
    → is_lt (path_order cost path path) ≡ false =
    elim [
      | true ↦ λ is. (ranks cost).one_way path path is
      | false ↦ λ is. is
    ]
    in go (is_lt (path_order cost path path)) refl

pub not_beaten-itself : (cost : LinkId → ℕ) (best : Option (List LinkId))
    → NotBeaten cost best best
not_beaten-itself cost None = tt
not_beaten-itself cost (Some best) = better-itself cost best

-- What doesn't come before what doesn't come before what is best doesn't come before this.
not_beaten-through : (cost : LinkId → ℕ) (path other : List LinkId) (now : Option (List LinkId))
    → is_lt (path_order cost path other) ≡ false → NotBeaten cost (Some other) now
    → NotBeaten cost (Some path) now
not_beaten-through cost path other None worse kept = kept
not_beaten-through cost path other (Some now) worse kept =
    (ranks cost).chain path other now worse kept

pub not_beaten-past : (cost : LinkId → ℕ) (old mid new : Option (List LinkId))
    → NotBeaten cost old mid → NotBeaten cost mid new → NotBeaten cost old new
not_beaten-past cost None mid new first second = tt
not_beaten-past cost (Some old) None new first second = absurd first
not_beaten-past cost (Some old) (Some mid) new first second =
    not_beaten-through cost old mid new first second

pub first_from-kept : (f : Field) (best : Option (List LinkId)) (paths : List (List LinkId))
    → NotBeaten f.cost best (first_from f best paths)
first_from-kept f None paths = tt
first_from-kept f (Some best) [] = better-itself f.cost best
first_from-kept f (Some best) (path ∷ paths) =
    let won : (v : Bool) → is_better f path best ≡ v
    → NotBeaten f.cost (Some best) (first_from f (cond v (Some path) (Some best)) paths) =
    elim [
      | true ↦ λ is. not_beaten-through f.cost best path (first_from f (Some path) paths)
          ((ranks f.cost).one_way path best is) (first_from-kept f (Some path) paths)
      | false ↦ λ is. first_from-kept f (Some best) paths
    ] in
    let go : (v : Bool) → NotBeaten f.cost (Some best)
    (first_from f (cond v (cond (is_better f path best) (Some path) (Some best)) (Some best))
    paths) =
    elim [
      | true ↦ won (is_better f path best) refl
      | false ↦ first_from-kept f (Some best) paths
    ]
    in go (is_candidate f path)

-- What comes back was best, or is a candidate of the list.
pub record IsFrom (f : Field) (best : Option (List LinkId)) (paths : List (List LinkId))
    (found : List LinkId) : Type 0 where
  pub was_or_is : (best ≡ Some found) ⊎ (Contains paths found × (is_candidate f found ≡ true))

keep-from : (f : Field) (best : Option (List LinkId)) (path : List LinkId)
    (paths : List (List LinkId)) (found : List LinkId) → keep f best path ≡ Some found
    → IsFrom f best (path ∷ paths) found
keep-from f best path paths found is =
    let new : path ≡ found → is_candidate f path ≡ true → IsFrom f best (path ∷ paths) found =
    λ same fits. record {
      was_or_is = inr (
        subst (Contains (path ∷ paths)) same (Contains-here path paths),
        ap (is_candidate f) (sym same) ∙ fits,
      );
    } in
    let some : (o : Option (List LinkId)) → best ≡ o → better f o path ≡ Some found
    → is_candidate f path ≡ true → IsFrom f best (path ∷ paths) found =
    elim [
      | None ↦ λ was gives fits. new (same_Some _ _ gives) fits
      | Some old ↦ λ was.
          let go : (v : Bool) → cond v (Some path) (Some old) ≡ Some found
          → is_candidate f path ≡ true → IsFrom f best (path ∷ paths) found =
          elim [
            | true ↦ λ gives fits. new (same_Some _ _ gives) fits
            | false ↦ λ gives fits. record { was_or_is = inl (was ∙ gives) }
          ]
          in go (is_better f path old)
    ] in
    let go : (v : Bool) → is_candidate f path ≡ v → cond v (better f best path) best ≡ Some found
    → IsFrom f best (path ∷ paths) found =
    elim [
      | true ↦ λ fits gives. some best refl gives fits
      | false ↦ λ fits gives. record { was_or_is = inl gives }
    ]
    in go (is_candidate f path) refl is

pub first_from-is : (f : Field) (best : Option (List LinkId)) (paths : List (List LinkId))
    (found : List LinkId) → first_from f best paths ≡ Some found → IsFrom f best paths found
first_from-is f best [] found is = record { was_or_is = inl is }
first_from-is f best (path ∷ paths) found is =
    elim (first_from-is f (keep f best path) paths found is).was_or_is [
      | inr later ↦ record {
        was_or_is = inr (Contains-there path paths found later.0, later.1);
      }
      | inl here ↦ keep-from f best path paths found here
    ]

-- No candidate of the list comes before what comes back.
pub first_from-least : (f : Field) (best : Option (List LinkId)) (paths : List (List LinkId))
    (path : List LinkId) → Contains paths path → is_candidate f path ≡ true
    → NotBeaten f.cost (Some path) (first_from f best paths)
first_from-least f best [] path has fits = Contains-nil has
first_from-least f best (first ∷ paths) path has fits = elim (Contains-cases first paths path has) [
  | inr later ↦ first_from-least f (keep f best first) paths path later fits
  | inl same ↦
      let here : (o : Option (List LinkId))
      → NotBeaten f.cost (Some first) (first_from f (better f o first) paths) =
      elim [
        | None ↦ first_from-kept f (Some first) paths
        | Some old ↦
            let go : (v : Bool) → is_better f first old ≡ v
            → NotBeaten f.cost (Some first) (first_from f (cond v (Some first) (Some old)) paths) =
            elim [
              | true ↦ λ is. first_from-kept f (Some first) paths
              | false ↦ λ is. not_beaten-through f.cost first old (first_from f (Some old) paths) is
                  (first_from-kept f (Some old) paths)
            ]
            in go (is_better f first old) refl
      ] in
      let kept : keep f best first ≡ better f best first =
      cond-true (is_candidate f first) (better f best first) best
      (ap (is_candidate f) same ∙ fits) in
      subst
      (λ (p : List LinkId). NotBeaten f.cost (Some p) (first_from f (keep f best first) paths)) same
      (subst (λ (o : Option (List LinkId)). NotBeaten f.cost (Some first) (first_from f o paths))
      (sym kept) (here best))
]

-- Places of lists that are made of others.
use Rattle.std.proofs.Common.{◌≡◌, ◌+◌, ◌∙◌, ℕ, zero, suc, List, [], ◌∷◌, Some, drop, length, take}
use Rattle.std.proofs.Common.{slice_get, refl, ap, arith, length-append}
use Rattle.std.proofs.lemmas.{List.Concat.flat_map-cons, Option.same_Some, Option.slice_get_within}
use Rattle.std.specs.List.{flat_map}
use Rattle.aeth_reconf.proofs.WriteCounts.{before, behind}

-- What an item of a list gives stands behind what those before it give.
pub flat_map-at : {X A : Type 0} (f : X → List A) (xs : List X) (k j : ℕ) (x : X) (y : A)
    → slice_get xs k ≡ Some x → slice_get (f x) j ≡ Some y
    → slice_get (flat_map f xs) (length (flat_map f (take k xs)) + j) ≡ Some y
flat_map-at f [] k j x y at gives = absurd (cc at)
flat_map-at {X} {A} f (first ∷ xs) zero j x y at gives =
    let same : first ≡ x = same_Some first x at in
    let here : slice_get (f first) j ≡ Some y =
    ap (λ (z : X). slice_get (f z) j) same ∙ gives in
    let start : length (flat_map f (take 0 (first ∷ xs))) + j ≡ j = omega arith in
    ap (slice_get (flat_map f (first ∷ xs))) start
    ∙ ap (λ (ys : List A). slice_get ys j) (flat_map-cons f first xs)
    ∙ before (f first) (flat_map f xs) j (slice_get_within (f first) j y here) ∙ here
flat_map-at {X} {A} f (first ∷ xs) (suc k) j x y at gives =
    let rest = flat_map-at f xs k j x y at gives in
    let ahead = flat_map f (take k xs) in
    let count : length (flat_map f (first ∷ take k xs)) ≡ length (f first) + length ahead =
    ap length (flat_map-cons f first (take k xs)) ∙ length-append (f first) ahead in
    let index : length (flat_map f (take (suc k) (first ∷ xs))) + j
    ≡ length (f first) + (length ahead + j) = omega (arith, count) in
    ap (slice_get (flat_map f (first ∷ xs))) index
    ∙ ap (λ (ys : List A). slice_get ys (length (f first) + (length ahead + j)))
    (flat_map-cons f first xs)
    ∙ behind (f first) (flat_map f xs) (length ahead + j) ∙ rest

-- Behind its first item a list has the others.
pub drop-one : {X : Type 0} (xs : List X) (k : ℕ)
    → slice_get (drop 1 xs) k ≡ slice_get xs (suc k)
drop-one [] k = refl
drop-one (x ∷ []) k = refl
drop-one (x ∷ y ∷ xs) k = refl

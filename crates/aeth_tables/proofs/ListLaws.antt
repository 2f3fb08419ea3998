-- Elements of lists, by their places and as they are contained.
use Rattle.std.proofs.Common.{◌≡◌, ◌∙◌, ◌<◌, ◌+◌, ◌++◌, ℕ, List, [], ◌∷◌, All, Contains, Some}
use Rattle.std.proofs.Common.{get_or, length, slice_get, take, ap, subst, sym, flat_map, append-nil}
use Rattle.std.proofs.lemmas.{Grind.flat_map-append, List.take_more, List.Concat.flat_map-cons}
use Rattle.std.proofs.lemmas.{List.Elements.All-from_recursion, Option.slice_get-get_or}
use Rattle.std.specs.List.{AllByRecursion}
pub use Rattle.aeth_base.proofs.Members.{Contains-slice_get as has_place}
pub use Rattle.aeth_base.proofs.Members.{slice_get-Contains as place_in}

-- What holds of the element at each place holds of all.
pub all_from_places : {X : Type 0} (P : X → Type 0) (xs : List X)
    → ((place : ℕ) (x : X) → slice_get xs place ≡ Some x → P x) → All P xs
all_from_places P xs each place default within =
    each place _ (slice_get-get_or xs place default within)

-- What holds of all elements holds of one that is contained.
pub all_has : {X : Type 0} (P : X → Type 0) (xs : List X) (x : X) → All P xs → Contains xs x → P x
all_has P xs x all (place, within, at) = subst P at (all place x within)

-- The same where it holds of all by recursion.
pub all_has_by : {X : Type 0} (P : X → Type 0) (xs : List X) (x : X) → AllByRecursion P xs
    → Contains xs x → P x
all_has_by P xs x all has = all_has P xs x (All-from_recursion P xs all) has

-- What is given of one item more.
pub flat_map-next : {X Y : Type 0} (f : X → List Y) (xs : List X) (i : ℕ) (x : X)
    (before after : List Y) → i < length xs → x ≡ get_or xs i x → before ≡ flat_map f (take i xs)
    → after ≡ before ++ f x → after ≡ flat_map f (take (i + 1) xs)
flat_map-next f xs i x before after within at so_far more =
    more ∙ ap (λ ys. ys ++ f x) so_far
    ∙ sym (ap (flat_map f) (take_more xs i x within ∙ ap (λ y. take i xs ++ y ∷ []) (sym at))
    ∙ flat_map-append f (take i xs) (x ∷ [])
    ∙ ap (λ ys. flat_map f (take i xs) ++ ys) (flat_map-cons f x [] ∙ append-nil (f x)))

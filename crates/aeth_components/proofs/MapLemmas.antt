-- Laws of changes that agree on the elements of a list.
use Rattle.std.proofs.Common.{ℕ, zero, suc, ◌≡◌, ◌≢◌, ◌∙◌, refl, ap, List, [], ◌∷◌, fold, map, set}
use Rattle.std.proofs.Common.{Some, slice_get}

-- Changes that agree on all elements.
pub map-agree : {X Y : Type 0} (change other : X → Y) (xs : List X)
    → ((i : ℕ) (x : X) → slice_get xs i ≡ Some x → change x ≡ other x)
    → map change xs ≡ map other xs
map-agree change other [] same = refl
map-agree change other (x ∷ xs) same =
    ap (λ (first : _). first ∷ map change xs) (same zero x refl)
    ∙ ap (λ (rest : List _). other x ∷ rest)
    (map-agree change other xs (λ i x at. same (suc i) x at))

-- On all but one.
pub map-apart : {X : Type 0} (change other : X → X) (xs : List X) (number : ℕ) (new : X)
    → ((x : X) → slice_get xs number ≡ Some x → change x ≡ new)
    → ((i : ℕ) (x : X) → slice_get xs i ≡ Some x → i ≢ number → change x ≡ other x)
    → map change xs ≡ set (map other xs) number new
map-apart change other [] number new here same = refl
map-apart change other (x ∷ xs) zero new here same =
    ap (λ (first : _). first ∷ map change xs) (here x refl)
    ∙ ap (λ (rest : List _). new ∷ rest)
    (map-agree change other xs (λ i x at. same (suc i) x at (λ is. cc is)))
map-apart change other (x ∷ xs) (suc number) new here same =
    ap (λ (first : _). first ∷ map change xs) (same zero x refl (λ is. cc is))
    ∙ ap (λ (rest : List _). other x ∷ rest)
    (map-apart change other xs number new here (λ i x at apart. same (suc i) x at (λ is. apart (cc is))))

-- Notes that agree on all elements.
pub fold-agree : {X Y : Type 0} (note other : Y → X → Y)
    → ((x : X) (notes : Y) → note notes x ≡ other notes x) → (xs : List X) (notes : Y)
    → fold note notes xs ≡ fold other notes xs
fold-agree note other same [] notes = refl
fold-agree note other same (x ∷ xs) notes =
    ap (λ (notes : _). fold note notes xs) (same x notes)
    ∙ fold-agree note other same xs (other notes x)

-- Sets of texts, as lists of what the texts show.
use Rattle.std.proofs.Common.{◌≡◌, ◌≤◌, ◌∙◌, ℕ, List, [], ◌∷◌, ◌++◌, Option, Some, None, inl, inr}
use Rattle.std.proofs.Common.{ap, length, map, refl, take, IsSome}
use Rattle.std.proofs.lemmas.{Bool.cases_Bool, List.map-append, List.take-append-le}
use Rattle.std.specs.{List.list_any, Str.bytes_eq}
use Rattle.aeth_base.proofs.Lists.{list_any-map}
use Rattle.indexmap.specs.IndexSet.{insert_key}

-- What a list shows of its elements, after one is put at its end where it is new.
pub map-insert_key : {X : Type 0} (f : X → List ℕ) (xs : List X) (x : X)
    → map f (insert_key (λ a b. bytes_eq (f a) (f b)) xs x)
    ≡ insert_key bytes_eq (map f xs) (f x)
map-insert_key f xs x =
    rw (list_any-map (bytes_eq (f x)) f xs)
    (elim (cases_Bool (list_any (λ y. bytes_eq (f x) (f y)) xs)) [
      | inl old ↦ rw old refl
      | inr new ↦ rw new (map-append f xs (x ∷ []))
    ])

-- The texts that a list begins with are still its first after one more is looked up, and put at its end where
-- it is new.
pub front_kept : {X : Type 0} (found : Option X) (count : ℕ) (front seen after : List (List ℕ))
    (text : List ℕ) → (found ≡ None → after ≡ seen ++ text ∷ []) → (IsSome found → after ≡ seen)
    → count ≤ length seen → take count seen ≡ front → take count after ≡ front
front_kept None count front seen after text new known within is =
    ap (take count) (new refl) ∙ take-append-le count seen (text ∷ []) within ∙ is
front_kept (Some x) count front seen after text new known within is =
    ap (take count) (known refl) ∙ is

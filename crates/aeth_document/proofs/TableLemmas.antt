-- A table's and an array's values, as lists.
use Rattle.std.proofs.Common.{◌≡◌, ◌∙◌, sym, Bool, Some, List, [], ◌∷◌, map, refl, ap}
use Rattle.std.proofs.lemmas.List.Folds.{list_all-map}
use Rattle.std.specs.List.{list_all}
use Rattle.toml.specs.{Data.Data, Data.as_array, View.view, View.items_view}
use Rattle.toml.specs.{declared.value.Value.Value}
use Rattle.aeth_document.specs.Keys.{listed, all_items}

pub listed-items_view : (vs : List Value) → listed (items_view vs) ≡ map view vs
listed-items_view [] = refl
listed-items_view (v ∷ vs) = ap (λ ds. view v ∷ ds) (listed-items_view vs)

pub all_items-view : (p : Data → Bool) (d : Data) (vs : List Value)
    → Some (items_view vs) ≡ as_array d → list_all (λ v. p (view v)) vs ≡ all_items p (as_array d)
all_items-view p d vs e = sym (list_all-map p view vs)
    ∙ ap (list_all p) (sym (listed-items_view vs)) ∙ ap (all_items p) e

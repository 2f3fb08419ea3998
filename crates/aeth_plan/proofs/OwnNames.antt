-- The names of a chip and of an application: they are names, and no two of a kind are one.
use Rattle.std.proofs.Common.{◌≡◌, ◌++◌, ℕ, true, List, [], ◌∷◌, map}
use Rattle.std.proofs.lemmas.List.Elements.{recursion_from_All}
use Rattle.std.specs.{List.AllByRecursion, List.IsDistinct, Str.bytes_eq}
use Rattle.aeth_base.specs.Name.{is_name}
use Rattle.aeth_chip.{specs.Chip.ChipData, specs.Chip.IsChip, proofs.NameLemmas.nis_apart}
use Rattle.aeth_app.specs.App.{AppData, IsApp}
use Rattle.aeth_plan.specs.Plan.{connection_names, core_names}

-- What holds of the names of every chip and application.
pub record HasNames (chip : ChipData) (app : AppData) : Type 0 where
  pub nis : AllByRecursion (λ name. is_name name ≡ true) chip.nis
  pub cores : AllByRecursion (λ name. is_name name ≡ true) (core_names app)
  pub connections : AllByRecursion (λ name. is_name name ≡ true) (connection_names app)
  pub apart_nis : IsDistinct bytes_eq chip.nis
  pub apart_cores : IsDistinct bytes_eq (core_names app)
  pub apart_connections : IsDistinct bytes_eq (connection_names app)

all_behind : {X : Type 0} (P : X → Type 0) (xs ys : List X) → AllByRecursion P (xs ++ ys)
    → AllByRecursion P ys
all_behind P [] ys all = all
all_behind P (x ∷ xs) ys all = all_behind P xs ys all.1

all_names : {X : Type 0} (name : X → List ℕ) (xs : List X)
    → AllByRecursion (λ x. is_name (name x) ≡ true) xs
    → AllByRecursion (λ n. is_name n ≡ true) (map name xs)
all_names name [] all = tt
all_names name (x ∷ xs) all = (all.0, all_names name xs all.1)

-- They hold of each.
pub names_hold : (chip : ChipData) (app : AppData) → IsChip chip → IsApp app → HasNames chip app
unfolding core_names
names_hold chip app is_chip is_app = record {
  nis = all_behind (λ name. is_name name ≡ true) chip.routers chip.nis
      (recursion_from_All _ _ is_chip.named);
  cores = all_names (λ core. core.name) app.cores (recursion_from_All _ _ is_app.named_cores);
  connections = all_names (λ connection. connection.name) app.connections
      (recursion_from_All _ _ is_app.named_connections);
  apart_nis = nis_apart chip is_chip;
  apart_cores = is_app.core_names;
  apart_connections = is_app.connection_names;
}

-- What holds of the application that tables tell where no rule is broken.
use Rattle.std.proofs.Common.{◌≡◌, ◌++◌, ◌∙◌, ◌*◌, ℕ, List, [], ◌∷◌, length, map, None, refl, sym}
use Rattle.std.proofs.Common.{subst, true, ◌≤◌, All, codes, flat_map}
use Rattle.std.proofs.lemmas.List.{length-map}
use Rattle.std.proofs.lemmas.List.Elements.{All-cons, All-contains, All-head, All-nil, All-tail}
use Rattle.std.specs.List.{filter_map}
use Rattle.toml.specs.Data.{Members}
use Rattle.aeth_base.specs.Name.{is_name}
use Rattle.aeth_chip.specs.Chip.{ChipData, IsChip}
use Rattle.aeth_document.specs.{Values.text_at, Values.text_if, Values.texts_at, Walks.first_broken}
use Rattle.aeth_document.proofs.WalkLemmas.{first_broken-after, first_broken-before}
use Rattle.aeth_document.proofs.WalkLemmas.{first_broken-head}
use Rattle.aeth_app.specs.{App.AreNames, App.IsApp, App.IsAppOf, App.IsConnection, App.IsUse}
use Rattle.aeth_app.specs.{AppFile.told_app, Demands.IsWithinDemands, Demands.above}
use Rattle.aeth_app.specs.{Limits.max_connections, Limits.max_cores, Limits.seats_per_ni}
use Rattle.aeth_app.specs.{Parts.connection_of, Parts.core_of, Parts.use_of, Ranges.IsInRange}
use Rattle.aeth_app.specs.{Ranges.IsNamed, Repeats.HasDistinctNames, Tables.connections_in}
use Rattle.aeth_app.specs.{Tables.cores_in, Tables.names_in, Tables.uses_in, Unknown.ends_in}
use Rattle.aeth_app.specs.{Unknown.unknown, Unknown.unknown_checks, Unknown.unknown_name}
use Rattle.aeth_app.proofs.DemandLemmas.{above-none, busy, joined, seated}
use Rattle.aeth_app.proofs.PartLemmas.{IsFixedBelow, cores_fixed, uses_marked}

-- Where no name is unknown, no end of a connection is.
ends_known : (nis : List (List ℕ)) (root : Members) → unknown_name nis root ≡ None
    → first_broken 0 (map (unknown (names_in (cores_in root)))
    (flat_map ends_in (connections_in root))) ≡ None
unfolding unknown_checks
ends_known nis root none =
    let interfaces = map (unknown nis) (filter_map (text_if (codes "ni")) (cores_in root)) in
    let ends = map (unknown (names_in (cores_in root))) (flat_map ends_in (connections_in root)) in
    let has = map (unknown (names_in (connections_in root)))
    (flat_map (texts_at (codes "connections")) (uses_in root)) in
    let smooth = map (unknown (names_in (uses_in root)))
    (flat_map (texts_at (codes "smooth")) (uses_in root)) in
    let to_has = first_broken-before 0 ((interfaces ++ ends) ++ has) smooth none in
    let to_ends = first_broken-before 0 (interfaces ++ ends) has to_has in
    first_broken-after 0 0 interfaces ends to_ends

-- The names of parts made from tables are the tables'.
names_kept : {X : Type 0} (name : X → List ℕ) (part_of : Members → X) (tables : List Members)
    → ((table : Members) → name (part_of table) ≡ text_at (codes "name") table)
    → map name (map part_of tables) ≡ names_in tables
names_kept name part_of [] same = refl
names_kept name part_of (table ∷ tables) same =
    let rest = names_kept name part_of tables same in
    rw (same table, rest) refl

-- Parts made from tables whose names are names have names.
parts_named : {X : Type 0} (name : X → List ℕ) (part_of : Members → X) (tables : List Members)
    → ((table : Members) → name (part_of table) ≡ text_at (codes "name") table)
    → All IsNamed tables → All (λ part. is_name (name part) ≡ true) (map part_of tables)
parts_named name part_of [] same named = All-nil (λ part. is_name (name part) ≡ true)
parts_named name part_of (table ∷ tables) same named =
    All-cons (λ part. is_name (name part) ≡ true) (part_of table) (map part_of tables)
    (rw (same table) (All-head IsNamed table tables named))
    (parts_named name part_of tables same (All-tail IsNamed table tables named))

-- The names of the tables are those of the application's parts.
pub are_names : (chip : ChipData) (root : Members)
    → AreNames (names_in (cores_in root)) (names_in (connections_in root)) (names_in (uses_in root))
    (told_app chip root).cores (told_app chip root).connections (told_app chip root).uses
unfolding told_app
are_names chip root =
    let cores = names_in (cores_in root) in
    let connections = names_in (connections_in root) in
    let uses = names_in (uses_in root) in
    record {
      core = sym (names_kept (λ core. core.name) (core_of chip.nis) (cores_in root)
          (λ table. refl));
      connection = sym (names_kept (λ connection. connection.name) (connection_of cores)
          (connections_in root) (λ table. refl));
      use_case = sym (names_kept (λ one. one.name) (use_of connections uses) (uses_in root)
          (λ table. refl));
    }

-- Tables whose numbers are in their ranges tell few cores.
pub told_cores-few : (chip : ChipData) (root : Members) → IsInRange root
    → length (told_app chip root).cores ≤ max_cores
unfolding told_app
told_cores-few chip root range = rw (length-map (cores_in root) (core_of chip.nis)) range.few_cores

-- And few connections.
pub told_connections-few : (chip : ChipData) (root : Members) → IsInRange root
    → length (told_app chip root).connections ≤ max_connections
unfolding told_app
told_connections-few chip root range =
    rw (length-map (connections_in root) (connection_of (names_in (cores_in root))))
    range.few_connections

-- The application of tables that break no rule is one.
pub is_app : (chip : ChipData) (root : Members) → IsChip chip → IsInRange root
    → HasDistinctNames root → unknown_name chip.nis root ≡ None
    → IsWithinDemands (length chip.nis) (told_app chip root).cores (told_app chip root).connections
    → IsApp (told_app chip root)
unfolding told_app
is_app chip root is_chip range apart known within =
    let cores = names_in (cores_in root) in
    let connections = names_in (connections_in root) in
    let uses = names_in (uses_in root) in
    let told_cores = map (core_of chip.nis) (cores_in root) in
    let told_connections = map (connection_of cores) (connections_in root) in
    let told_uses = map (use_of connections uses) (uses_in root) in
    let names = are_names chip root in
    let count_cores = length-map (cores_in root) (core_of chip.nis) in
    let count_connections = length-map (connections_in root) (connection_of cores) in
    let count_uses = length-map (uses_in root) (use_of connections uses) in
    let cores_named = length-map (cores_in root) (text_at (codes "name")) in
    let connections_named = length-map (connections_in root) (text_at (codes "name")) in
    let uses_named = length-map (uses_in root) (text_at (codes "name")) in
    let ends = ends_known chip.nis root known in
    let connected = subst (λ (n : ℕ). All (IsConnection n) told_connections)
    (cores_named ∙ sym count_cores)
    (joined cores told_cores 0 0 0 (connections_in root) ends range.wishes within.rates
    within.apart) in
    let for_connections = subst (λ (n : ℕ). All (IsUse n (length uses)) told_uses)
    (connections_named ∙ sym count_connections)
    (uses_marked connections uses (uses_in root)) in
    record {
      some_slots = is_chip.some_slots;
      slots = is_chip.slots;
      detour = range.detour;
      cores = rw count_cores range.few_cores;
      connections = rw count_connections range.few_connections;
      some_uses = rw count_uses range.some_uses;
      uses = rw count_uses range.few_uses;
      joined = connected;
      busy = busy (length told_cores) told_connections connected within.busy;
      marked = subst (λ (n : ℕ). All (IsUse (length told_connections) n) told_uses)
          (uses_named ∙ sym count_uses) for_connections;
      named_cores = parts_named (λ core. core.name) (core_of chip.nis) (cores_in root)
          (λ table. refl) range.named_cores;
      named_connections = parts_named (λ connection. connection.name) (connection_of cores)
          (connections_in root) (λ table. refl) range.named_connections;
      named_uses = parts_named (λ one. one.name) (use_of connections uses) (uses_in root)
          (λ table. refl) range.named_uses;
      core_names = rw (sym names.core) apart.core_names;
      connection_names = rw (sym names.connection) apart.connection_names;
      use_names = rw (sym names.use_case) apart.use_names;
    }

-- It is one for the chip with which it was read.
pub is_app_of : (chip : ChipData) (root : Members)
    → IsWithinDemands (length chip.nis) (told_app chip root).cores (told_app chip root).connections
    → IsAppOf chip (told_app chip root)
unfolding told_app
is_app_of chip root within =
    let are = cores_fixed chip.nis (cores_in root) in
    let told = map (core_of chip.nis) (cores_in root) in
    let most = seats_per_ni * length chip.nis in
    record {
      slots = refl;
      seats = above-none most (length told)
          (first_broken-head 0 (above most (length told)) [] within.seats);
      known = λ core ni has. All-contains (IsFixedBelow (length chip.nis)) told core are has ni;
      fixed = seated (length chip.nis) told are within.fixed;
    }

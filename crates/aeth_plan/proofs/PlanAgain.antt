-- The plan of a plan's text is the plan.
use Rattle.std.proofs.Common.{◌≡◌, ◌<◌, ◌≤◌, ℕ, true, List, [], ◌∷◌, length, map, Ok, refl, arith}
use Rattle.std.proofs.Common.{zero, suc, nat_le, eq-eqb, le-leb, lt-ltb}
use Rattle.std.proofs.lemmas.Bool.{and_from}
use Rattle.std.specs.List.{AllByRecursion}
use Rattle.aeth_base.specs.{Limits.max_path_links, Limits.min_path_links, Name.is_name}
use Rattle.aeth_base.specs.{declared.ids.LinkId.LinkId}
use Rattle.aeth_chip.specs.Chip.{ChipData, IsChip}
use Rattle.aeth_app.specs.{App.AppData, App.IsApp, Limits.seats_per_ni}
use Rattle.aeth_group.specs.Members.{GroupsData, IsGroups}
use Rattle.aeth_group.specs.declared.grant.{Grant.Grant, SeatLine.SeatLine}
use Rattle.aeth_plan.specs.Plan.{IsGrantOf, IsPlanOf, IsSeatOf, PlanData, connection_names}
use Rattle.aeth_plan.specs.Plan.{core_names, grant_before, name_at, seat_before}
use Rattle.aeth_plan.specs.PlanText.{grant_words, plan_in, plan_of, plan_text, plan_words}
use Rattle.aeth_plan.specs.PlanText.{seat_words}
use Rattle.aeth_plan.specs.Rules.{each, known_grant, known_seat}
use Rattle.aeth_plan.specs.Spelling.{IsGrantText, IsSeatText, IsText}
use Rattle.aeth_plan.specs.Layout.{first_grant_line, first_seat_line}
use Rattle.aeth_plan.proofs.{Places.ascends_below, Places.below_all, Places.at_most}
use Rattle.aeth_plan.proofs.{Places.each_again, Places.place_again, TextLaws.text_again}
use Rattle.aeth_plan.proofs.{StartLaws.are_ascending-of, OwnNames.HasNames, OwnNames.names_hold}
use Rattle.aeth_plan.proofs.{NameCounts.length-connection_names, NameCounts.length-core_names}
use Rattle.aeth_text.specs.{Fields.is_path, Limits.max_number}
use Rattle.aeth_text.proofs.OrderLaws.{none_misplaced}

named_at : (names : List (List ℕ)) (i : ℕ) → AllByRecursion (λ name. is_name name ≡ true) names
    → i < length names → is_name (name_at names i) ≡ true
named_at [] i named within = absurd (omega arith)
named_at (name ∷ names) zero named within = named.0
named_at (name ∷ names) (suc i) named within = named_at names i named.1 (omega arith)

seat_is_text : (chip : ChipData) (app : AppData) → HasNames chip app → (seat : SeatLine)
    → IsSeatOf chip app seat → IsSeatText (seat_words chip app seat)
seat_is_text chip app names seat of = record {
  core = named_at (core_names app) seat.core.0 names.cores
      (omega (arith, of.core, length-core_names app));
  ni = named_at chip.nis seat.ni.0 names.nis of.ni;
  seat = omega (arith, of.seat);
}

is_path-of : (path : List LinkId) → min_path_links ≤ length path
    → length path ≤ max_path_links → is_path path ≡ true
is_path-of path some few =
    and_from (nat_le min_path_links (length path)) (nat_le (length path) max_path_links)
    (le-leb min_path_links (length path) some) (le-leb (length path) max_path_links few)

grant_is_text : (chip : ChipData) (app : AppData) (groups : GroupsData) → IsChip chip
    → IsGroups groups → HasNames chip app → (grant : Grant) → IsGrantOf chip app groups grant
    → IsGrantText (grant_words app grant)
grant_is_text chip app groups is_chip is_groups names grant of =
    let few = is_groups.count in
    let few_links = is_chip.few_links in
    let few_slots = is_chip.slots in record {
      conn = named_at (connection_names app) grant.unit.conn.0 names.connections
          (omega (arith, of.conn, length-connection_names app));
      group = omega (arith, few, of.group);
      links = at_most (λ link. link.0) (length chip.links) max_number grant.path
          (omega (arith, few_links)) of.links;
      is_path = is_path-of grant.path of.some_links of.few_links;
      starts = at_most (λ start. start) chip.slots max_number grant.slots.slots
          (omega (arith, few_slots)) (ascends_below 0 chip.slots grant.slots.slots of.starts);
      ascending = are_ascending-of chip.slots grant.slots.slots of.some_starts of.starts;
    }

all_map : {X Y : Type 0} (f : X → Y) (P : X → Type 0) (Q : Y → Type 0) → ((x : X) → P x → Q (f x))
    → (xs : List X) → AllByRecursion P xs → AllByRecursion Q (map f xs)
all_map f P Q each [] has = tt
all_map f P Q each (x ∷ xs) has = (each x has.0, all_map f P Q each xs has.1)

pub all_weaker : {X : Type 0} (P Q : X → Type 0) → ((x : X) → P x → Q x) → (xs : List X)
    → AllByRecursion P xs → AllByRecursion Q xs
all_weaker P Q weaker [] has = tt
all_weaker P Q weaker (x ∷ xs) has = (weaker x has.0, all_weaker P Q weaker xs has.1)

seat_again : (chip : ChipData) (app : AppData) → HasNames chip app → (line : ℕ) (seat : SeatLine)
    → IsSeatOf chip app seat → known_seat chip app line (seat_words chip app seat) ≡ Ok seat
unfolding known_seat
seat_again chip app names line seat of =
    rw (
      place_again (core_names app) names.apart_cores seat.core.0
          (omega (arith, of.core, length-core_names app)),
      place_again chip.nis names.apart_nis seat.ni.0 of.ni,
      lt-ltb seat.seat seats_per_ni of.seat,
    ) refl

grant_again : (chip : ChipData) (app : AppData) (groups : GroupsData) → HasNames chip app
    → (line : ℕ) (grant : Grant) → IsGrantOf chip app groups grant
    → known_grant chip app groups line (grant_words app grant) ≡ Ok grant
unfolding known_grant
grant_again chip app groups names line grant of =
    rw (
      place_again (connection_names app) names.apart_connections grant.unit.conn.0
          (omega (arith, of.conn, length-connection_names app)),
      lt-ltb grant.unit.group.0 groups.count of.group,
      below_all (λ link. link.0) (length chip.links) grant.path of.links,
      below_all (λ start. start) chip.slots grant.slots.slots
          (ascends_below 0 chip.slots grant.slots.slots of.starts),
      ← of.size,
    ) refl

in_again : (chip : ChipData) (app : AppData) (groups : GroupsData) → HasNames chip app
    → (plan : PlanData) → IsPlanOf chip app groups plan
    → plan_in chip app groups (plan_words chip app plan) ≡ Ok plan
unfolding plan_in
in_again chip app groups names plan of =
    rw (
      eq-eqb plan.slots chip.slots of.slots,
      each_again (known_seat chip app) (seat_words chip app) (IsSeatOf chip app)
          (seat_again chip app names) first_seat_line plan.seats of.seats,
      each_again (known_grant chip app groups) (grant_words app) (IsGrantOf chip app groups)
          (grant_again chip app groups names)
          (first_grant_line (map (seat_words chip app) plan.seats))
          plan.grants of.grants,
      none_misplaced seat_before first_seat_line plan.seats of.in_order.seats,
      none_misplaced grant_before (first_grant_line (map (seat_words chip app) plan.seats))
          plan.grants
          of.in_order.grants,
    ) refl

-- The plan is read of its text, where it is one for the chip, the application and its groups.
pub plan_again : (chip : ChipData) (app : AppData) (groups : GroupsData) → IsChip chip
    → IsApp app → IsGroups groups → (plan : PlanData) → IsPlanOf chip app groups plan
    → plan_of chip app groups (plan_text chip app plan) ≡ Ok plan
unfolding plan_of plan_text
plan_again chip app groups is_chip is_app is_groups plan of =
    let names = names_hold chip app is_chip is_app in
    let few_slots = is_chip.slots in
    let has : IsText (plan_words chip app plan) = record {
      slots = omega (arith, few_slots, of.slots);
      seats = all_map (seat_words chip app) (IsSeatOf chip app) IsSeatText
          (seat_is_text chip app names) plan.seats of.seats;
      grants = all_map (grant_words app) (IsGrantOf chip app groups) IsGrantText
          (grant_is_text chip app groups is_chip is_groups names) plan.grants of.grants;
    } in
    rw (text_again (plan_words chip app plan) has) (in_again chip app groups names plan of)

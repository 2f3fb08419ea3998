-- What holds of a chip file's numbers and names where its first rules are kept.
use Rattle.std.proofs.Common.{◌≡◌, ◌≤◌, ◌++◌, ℕ, ℤ, pos, true, false, List, [], ◌∷◌, length, map}
use Rattle.std.proofs.Common.{All, None, refl, inl, inr, arith, codes, Ok}
use Rattle.std.proofs.lemmas.Bool.{cases_Bool}
use Rattle.std.proofs.lemmas.List.Elements.{All-append, All-from_recursion}
use Rattle.std.specs.{List.AllByRecursion, List.IsDistinct, Str.bytes_eq}
use Rattle.toml.specs.Data.{Members}
use Rattle.aeth_base.specs.{Limits.max_link_delay, Limits.max_slots, Name.is_name}
use Rattle.aeth_chip.specs.ChipFile.{delays, end_fields, is_in_range, keys_fit, link_fields}
use Rattle.aeth_chip.specs.ChipFile.{most_slots, names_differ, numbers, root_fields, wrong_keys}
use Rattle.aeth_chip.specs.Limits.{max_links, max_nis, max_routers}
use Rattle.aeth_chip.specs.Told.{allows_delays, delay_at, link_tables, nis_of, routers_of, slots_of}
use Rattle.aeth_chip.specs.Told.{HasDelay, version_of}
use Rattle.aeth_document.specs.{Keys.wrong_key, Values.integer_if, Walks.first_broken}
use Rattle.aeth_document.specs.{Walks.next_place, Walks.no_name, Walks.outside, Walks.size_of}
use Rattle.aeth_document.proofs.{ChainLemmas.judged-none, KeyLemmas.absent}
use Rattle.aeth_document.proofs.{WalkLemmas.distinct-from_walk, WalkLemmas.first_broken-after}
use Rattle.aeth_document.proofs.{WalkLemmas.first_broken-before, WalkLemmas.first_broken-none}
use Rattle.aeth_document.proofs.{WalkLemmas.first_broken-tail, WalkLemmas.names-from_walk}
use Rattle.aeth_document.proofs.{WalkLemmas.outside-size, WalkLemmas.outside-within}

-- No version has more slots than slot tables may have.
most_slots-within : (version : ℤ) → most_slots version ≤ max_slots
most_slots-within version =
    elim (cases_Bool (allows_delays version)) [
      | inl allowed ↦ rw allowed (omega arith)
      | inr not_allowed ↦ rw not_allowed (omega arith)
    ]

-- What holds where every number and every name is in its range.
pub record IsInRange (root : Members) : Type 0 where
  pub numbers : first_broken 1 (numbers root) ≡ None
  pub some_slots : 1 ≤ size_of (slots_of root)
  pub few_slots : size_of (slots_of root) ≤ max_slots
  pub some_routers : 1 ≤ length (routers_of root)
  pub few_routers : length (routers_of root) ≤ max_routers
  pub some_nis : 1 ≤ length (nis_of root)
  pub few_nis : length (nis_of root) ≤ max_nis
  pub few_links : length (link_tables root) ≤ max_links
  pub routers : first_broken 1 (map no_name (routers_of root)) ≡ None
  pub nis : first_broken 1 (map no_name (nis_of root)) ≡ None
  pub delays : first_broken 1 (delays root) ≡ None

pub in_range : (root : Members) → is_in_range root ≡ Ok tt → IsInRange root
unfolding is_in_range numbers
in_range root kept =
    let ns = numbers root in
    let rs = map no_name (routers_of root) in
    let is = map no_name (nis_of root) in
    let ds = delays root in
    let none = judged-none 3 (codes "OutOfRange") (first_broken 1 (ns ++ rs ++ is ++ ds)) tt kept in
    let names = first_broken-before 1 (ns ++ rs ++ is) ds none in
    let front = first_broken-before 1 (ns ++ rs) is names in
    let number_checks = first_broken-before 1 ns rs front in
    let checks = first_broken-none 1 ns number_checks in
    let most = most_slots (version_of root) in
    let slots = outside-size 1 most (slots_of root) checks.1.0 in
    let few = most_slots-within (version_of root) in
    let few_slots = slots.1 in
    let routers = outside-within 1 max_routers (length (routers_of root)) checks.1.1.0 in
    let nis = outside-within 1 max_nis (length (nis_of root)) checks.1.1.1.0 in
    let links = outside-within 0 max_links (length (link_tables root)) checks.1.1.1.1.0 in
    record {
      numbers = number_checks;
      some_slots = slots.0;
      few_slots = omega arith;
      some_routers = routers.0;
      few_routers = routers.1;
      some_nis = nis.0;
      few_nis = nis.1;
      few_links = links.1;
      routers = first_broken-after 1 1 ns rs front;
      nis = first_broken-after 1 1 (ns ++ rs) is names;
      delays = first_broken-after 1 1 (ns ++ rs ++ is) ds none;
    }

-- The names of routers and interfaces, where the rules of numbers and of names are kept.
pub names_are : (root : Members) → is_in_range root ≡ Ok tt
    → All (λ name. is_name name ≡ true) (routers_of root ++ nis_of root)
names_are root kept =
    let range = in_range root kept in
    All-append (λ name. is_name name ≡ true) (routers_of root) (nis_of root)
    (All-from_recursion _ (routers_of root) (names-from_walk 1 (routers_of root) range.routers))
    (All-from_recursion _ (nis_of root) (names-from_walk 1 (nis_of root) range.nis))

pub names_apart : (root : Members) → names_differ root ≡ Ok tt
    → IsDistinct bytes_eq (routers_of root ++ nis_of root)
unfolding names_differ
names_apart root kept =
    distinct-from_walk 0 (routers_of root ++ nis_of root)
    (judged-none 4 (codes "NameTwice") _ tt kept)

delays_given : (place : ℕ) (links : List Members)
    → first_broken place (map (λ link. outside 1 max_link_delay (delay_at link)) links) ≡ None
    → AllByRecursion HasDelay links
delays_given place [] none = tt
delays_given place (link ∷ links) none =
    let checks = first_broken-none place
    (map (λ table. outside 1 max_link_delay (delay_at table)) (link ∷ links)) none in
    let rest = first_broken-tail place (outside 1 max_link_delay (delay_at link))
    (map (λ table. outside 1 max_link_delay (delay_at table)) links) none in
    let here = outside-size 1 max_link_delay (delay_at link) checks.0 in
    (here, delays_given (next_place place) links rest)

-- A link's table without the key has delay 1.
delay_absent : (link : Members) → wrong_key end_fields link ≡ None → delay_at link ≡ pos 1
unfolding integer_if
delay_absent link none = rw (absent end_fields (codes "delay") (λ value. refl) link none) refl

delays_absent : (place : ℕ) (links : List Members)
    → first_broken place (map (wrong_key end_fields) links) ≡ None
    → AllByRecursion (λ link. delay_at link ≡ pos 1) links
delays_absent place [] none = tt
delays_absent place (link ∷ links) none =
    let checks = first_broken-none place (map (wrong_key end_fields) (link ∷ links)) none in
    let rest = first_broken-tail place (wrong_key end_fields link)
    (map (wrong_key end_fields) links) none in
    (delay_absent link checks.0, delays_absent (next_place place) links rest)

has_delay_1 : (links : List Members) → AllByRecursion (λ link. delay_at link ≡ pos 1) links
    → AllByRecursion HasDelay links
has_delay_1 [] all = tt
has_delay_1 (link ∷ links) all = (rw (all.0) (omega arith, omega arith), has_delay_1 links all.1)

-- In a version without delays each is 1.
pub delays_are_1 : (root : Members) → keys_fit root ≡ Ok tt
    → allows_delays (version_of root) ≡ false
    → AllByRecursion (λ link. delay_at link ≡ pos 1) (link_tables root)
unfolding keys_fit wrong_keys
delays_are_1 root kept not_allowed =
    let none = judged-none 2 (codes "WrongKey") _ tt kept in
    let keys = first_broken-tail 0 (wrong_key root_fields root)
    (map (wrong_key (link_fields (version_of root))) (link_tables root)) none in
    delays_absent 1 (link_tables root) (rw not_allowed at keys)

-- Where the rules of keys and of numbers are kept, every delay is in its range.
pub delays_are : (root : Members) → keys_fit root ≡ Ok tt → is_in_range root ≡ Ok tt
    → AllByRecursion HasDelay (link_tables root)
unfolding delays
delays_are root fit kept =
    elim (cases_Bool (allows_delays (version_of root))) [
      | inl allowed ↦
          delays_given 1 (link_tables root) (rw allowed at (in_range root kept).delays)
      | inr not_allowed ↦
          has_delay_1 (link_tables root) (delays_are_1 root fit not_allowed)
    ]

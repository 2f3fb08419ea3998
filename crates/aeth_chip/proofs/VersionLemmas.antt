-- A file of version 1 tells the same chip as one of version 2.
use Rattle.std.proofs.Common.{◌≡◌, ◌++◌, ℕ, ℤ, pos, negsuc, false, List, [], ◌∷◌, length, map}
use Rattle.std.proofs.Common.{Option, Some, None, refl, ap, arith, codes, option_and_then}
use Rattle.std.proofs.Common.{unwrap_or, Ok}
use Rattle.std.specs.List.{AllByRecursion}
use Rattle.toml.specs.Data.{Data, Members, as_integer, get_member, string, integer, float, boolean}
use Rattle.toml.specs.Data.{datetime, array, table, same_key}
use Rattle.aeth_base.specs.{Limits.max_link_delay, Limits.max_slots, declared.shown.Shown.Shown}
use Rattle.aeth_chip.specs.Chip.{ChipData}
use Rattle.aeth_chip.specs.ChipFile.{chip_in, chip_of, delays, end_fields, ends_are_known}
use Rattle.aeth_chip.specs.ChipFile.{is_in_range, keys_fit, link_fields, judged_links, names_differ}
use Rattle.aeth_chip.specs.ChipFile.{numbers, root_fields, wrong_keys}
use Rattle.aeth_chip.specs.Limits.{max_links, max_nis, max_routers, max_slots_of_version_1}
use Rattle.aeth_chip.specs.Told.{delay_at, link_tables, nis_of, routers_of, slots_of, told_chip}
use Rattle.aeth_chip.specs.Told.{version_of}
use Rattle.aeth_chip.specs.Versions.{in_version_2}
use Rattle.aeth_chip.proofs.{FileLemmas.kept_first, RangeLemmas.delays_are_1, RangeLemmas.in_range}
use Rattle.aeth_chip.proofs.{ValueLemmas.get_member-other, ValueLemmas.get_member-own}
use Rattle.aeth_chip.proofs.{ValueLemmas.wrong_key-absent, ValueLemmas.wrong_key-kept}
use Rattle.aeth_document.specs.{Document.document_of, Keys.wrong_key, Values.integer_at}
use Rattle.aeth_document.specs.{Values.items_at, Walks.first_broken, Walks.judged, Walks.next_place}
use Rattle.aeth_document.specs.{Walks.no_name, Walks.outside}
use Rattle.aeth_document.proofs.{ChainLemmas.judged-none, KeyLemmas.absent}
use Rattle.aeth_document.proofs.{WalkLemmas.first_broken-all, WalkLemmas.first_broken-head}
use Rattle.aeth_document.proofs.{WalkLemmas.first_broken-none, WalkLemmas.first_broken-tail}
use Rattle.aeth_document.specs.declared.keys.Kind.TheVariants as kind

-- ---- what the root tells

version_there : (found : Option Data)
    → unwrap_or (option_and_then as_integer found) (pos 0) ≡ pos 1
    → found ≡ Some (integer (pos 1))
version_there None is = absurd (cc is)
version_there (Some (string text)) is = absurd (cc is)
version_there (Some (integer number)) is = rw is refl
version_there (Some (float number)) is = absurd (cc is)
version_there (Some (boolean truth)) is = absurd (cc is)
version_there (Some (datetime date)) is = absurd (cc is)
version_there (Some (array items)) is = absurd (cc is)
version_there (Some (table _)) is = absurd (cc is)

-- The version stands at its key.
version_stands : (root : Members) → version_of root ≡ pos 1
    → get_member (codes "version") root ≡ Some (integer (pos 1))
unfolding integer_at
version_stands root is = version_there (get_member (codes "version") root) is

version_2 : (root : Members) → version_of root ≡ pos 1 → version_of (in_version_2 root) ≡ pos 2
unfolding integer_at
version_2 root is =
    rw (get_member-own (codes "version") (integer (pos 2)) (integer (pos 1)) root
    (version_stands root is)) refl

same_slots : (root : Members) → slots_of (in_version_2 root) ≡ slots_of root
unfolding integer_at
same_slots root =
    rw (get_member-other (codes "version") (codes "slots") (integer (pos 2)) root refl) refl

same_items : (root : Members) (key : List ℕ) → same_key key (codes "version") ≡ false
    → items_at key (in_version_2 root) ≡ items_at key root
unfolding items_at
same_items root key apart =
    rw (get_member-other (codes "version") key (integer (pos 2)) root apart) refl

same_routers : (root : Members) → routers_of (in_version_2 root) ≡ routers_of root
same_routers root = rw (same_items root (codes "routers") refl) refl

same_nis : (root : Members) → nis_of (in_version_2 root) ≡ nis_of root
same_nis root = rw (same_items root (codes "nis") refl) refl

same_links : (root : Members) → link_tables (in_version_2 root) ≡ link_tables root
same_links root = rw (same_items root (codes "link") refl) refl

-- ---- the rules

fit_links : (place : ℕ) (links : List Members)
    → first_broken place (map (wrong_key end_fields) links) ≡ None
    → first_broken place (map (wrong_key (link_fields (pos 2))) links) ≡ None
fit_links place [] none = refl
fit_links place (link ∷ links) none =
    let key = wrong_key end_fields link in
    let first = first_broken-head place key (map (wrong_key end_fields) links) none in
    let rest = fit_links (next_place place) links
    (first_broken-tail place key (map (wrong_key end_fields) links) none) in
    let no_delay = absent end_fields (codes "delay") (λ value. refl) link first in
    let same = wrong_key-absent (codes "delay") kind.OptionalInteger end_fields link refl
    no_delay in
    rw (same, first) rest

-- The keys fit in version 2.
keys_fit-version_2 : (root : Members) → version_of root ≡ pos 1 → keys_fit root ≡ Ok tt
    → keys_fit (in_version_2 root) ≡ Ok tt
unfolding keys_fit wrong_keys
keys_fit-version_2 root is kept =
    let none = judged-none 2 (codes "WrongKey") _ tt kept in
    let links = map (wrong_key (link_fields (version_of root))) (link_tables root) in
    let first = first_broken-head 0 (wrong_key root_fields root) links none in
    let rest = first_broken-tail 0 (wrong_key root_fields root) links none in
    let fit = fit_links (next_place 0) (link_tables root) (rw is at rest) in
    let same = wrong_key-kept (codes "version") (integer (pos 2)) (integer (pos 1)) root root_fields
    (version_stands root is) refl in
    rw (same, first, version_2 root is, same_links root, fit) refl

outside-more : (number : ℤ) → outside 1 max_slots_of_version_1 number ≡ None
    → outside 1 max_slots number ≡ None
outside-more (pos n) none = grind arith
outside-more (negsuc n) none = absurd (cc none)

all-append : {X : Type 0} (P : X → Type 0) (xs ys : List X) → AllByRecursion P xs
    → AllByRecursion P ys → AllByRecursion P (xs ++ ys)
all-append P [] ys first then = then
all-append P (x ∷ xs) ys first then = (first.0, all-append P xs ys first.1 then)

delays_fit : (links : List Members) → AllByRecursion (λ link. delay_at link ≡ pos 1) links
    → AllByRecursion (λ check. check ≡ None)
    (map (λ link. outside 1 max_link_delay (delay_at link)) links)
delays_fit [] all = tt
delays_fit (link ∷ links) all = (rw (all.0) refl, delays_fit links all.1)

-- The numbers and names are in the ranges of version 2.
is_in_range-version_2 : (root : Members) → version_of root ≡ pos 1 → keys_fit root ≡ Ok tt
    → is_in_range root ≡ Ok tt → is_in_range (in_version_2 root) ≡ Ok tt
unfolding is_in_range numbers delays
is_in_range-version_2 root is fit kept =
    let range = in_range root kept in
    let checks = first_broken-none 1 (numbers root) range.numbers in
    let IsNone : Option Shown → Type 0 = λ check. check ≡ None in
    let routers = map no_name (routers_of root) in
    let nis = map no_name (nis_of root) in
    let most : outside 1 max_slots_of_version_1 (slots_of root) ≡ None = rw is at checks.1.0 in
    let slots = outside-more (slots_of root) most in
    let ones = delays_are_1 root fit (rw is refl) in
    let tables = link_tables root in
    let ds = map (λ link. outside 1 max_link_delay (delay_at link)) tables in
    let names = all-append IsNone (routers ++ nis) ds
    (all-append IsNone routers nis (first_broken-none 1 routers range.routers)
    (first_broken-none 1 nis range.nis)) (delays_fit tables ones) in
    let new : List (Option Shown) = outside 1 2 (pos 2) ∷ outside 1 max_slots (slots_of root)
    ∷ outside 1 max_routers (pos (length (routers_of root)))
    ∷ outside 1 max_nis (pos (length (nis_of root))) ∷ outside 0 max_links (pos (length tables))
    ∷ (routers ++ nis ++ ds) in
    let all : AllByRecursion IsNone new =
    (refl, (slots, (checks.1.1.0, (checks.1.1.1.0, (checks.1.1.1.1.0, names))))) in
    rw (version_2 root is, same_slots root, same_routers root, same_nis root, same_links root)
    (ap (judged 3 (codes "OutOfRange")) (first_broken-all 1 new all))

-- ---- the chip

same_chip : (root : Members) → told_chip (in_version_2 root) ≡ told_chip root
same_chip root = rw (same_slots root, same_routers root, same_nis root, same_links root) refl

-- Where the root table of a file of version 1 tells a chip, it tells the same in version 2.
chip_in-version_2 : (root : Members) (chip : ChipData) → version_of root ≡ pos 1
    → chip_in root ≡ Ok chip → chip_in (in_version_2 root) ≡ Ok chip
unfolding chip_in judged_links names_differ ends_are_known
chip_in-version_2 root chip is told =
    let (fit, further) = kept_first (keys_fit root) _ chip told in
    let (range, rest) = kept_first (is_in_range root) _ chip further in
    rw (
      keys_fit-version_2 root is fit,
      is_in_range-version_2 root is fit range,
      same_chip root,
      same_routers root,
      same_nis root,
      same_links root,
    ) rest

-- The same of whole files.
pub chip_of-version_2 : (old new : List ℕ) (root : Members) (chip : ChipData)
    → document_of old ≡ Some root → document_of new ≡ Some (in_version_2 root)
    → version_of root ≡ pos 1 → chip_of old ≡ Ok chip → chip_of new ≡ Ok chip
unfolding chip_of
chip_of-version_2 old new root chip old_is new_is is told =
    rw new_is (chip_in-version_2 root chip is (rw old_is at told))

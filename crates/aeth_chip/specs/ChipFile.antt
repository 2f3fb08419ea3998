-- The rules of chip files, in the order in which they are judged, and the chip of a file.
--
-- A rule is a walk over checks. It is broken at the first check that shows a value: then its
-- number, its name, the place of the check in the walk and the value are told.
--   toml_of    rule 1
--   keys_fit, is_in_range, names_differ, ends_are_known    rules 2 to 5
--   ports_are_few, nis_are_single    rules 6 and 7
--   judged_links    the links of a root table, by rules 5 to 7
--   chip_in, chip_of    the chip of a root table, and of a file's bytes
-- This project's own.
use Rattle.std.proofs.Common.{ℕ, ◌+◌, ℤ, pos, codes, Bool, false, List, [], ◌∷◌, ◌++◌, map, length}
use Rattle.std.proofs.Common.{max, nat_le, ◌==◌, count_by, slice_get, Option, Some, None}
use Rattle.std.proofs.Common.{option_and_then, is_none, Result, Ok, Err, if◌then◌else◌}
use Rattle.std.specs.List.{range_with_len}
use Rattle.toml.specs.Data.{Members}
use Rattle.aeth_base.specs.{Faults.BrokenRule, Faults.broken_as, Limits.max_link_delay}
use Rattle.aeth_base.specs.{Limits.max_slots, Shown.shown_text, declared.ids.RouterId.RouterId}
use Rattle.aeth_base.specs.{declared.shown.Shown.Shown, declared.shown.Shown.TheVariants.Nothing}
use Rattle.aeth_base.specs.{declared.shown.Shown.TheVariants.Number}
use Rattle.aeth_chip.specs.Chip.{ChipData}
use Rattle.aeth_chip.specs.Limits.{max_links, max_nis, max_ports, max_routers}
use Rattle.aeth_chip.specs.Limits.{max_slots_of_version_1}
use Rattle.aeth_chip.specs.Nodes.{begins_at, ends_at, sends_on, receives_on, router_of}
use Rattle.aeth_chip.specs.Told.{allows_delays, delay_at, link_tables, nis_of, node_of, routers_of}
use Rattle.aeth_chip.specs.Told.{slots_of, told_chip, told_links, version_of}
use Rattle.aeth_chip.specs.declared.node.Link.{Link}
use Rattle.aeth_chip.specs.declared.node.Node.{Node, TheVariants.Router, TheVariants.Ni}
use Rattle.aeth_document.specs.{Chain.◌>>=◌, Document.document_of, Keys.Fields, Keys.wrong_key}
use Rattle.aeth_document.specs.{Values.text_at, Walks.first_broken, Walks.judged, Walks.no_name}
use Rattle.aeth_document.specs.{Walks.outside, Walks.repeats}
use Rattle.aeth_document.specs.declared.keys.Kind.TheVariants as kind

-- ---- rule 1

-- What bytes without a document are refused with.
abbrev pub bad_toml : BrokenRule
bad_toml = broken_as 1 (codes "BadToml") (record { place = 0; value = Nothing })

-- Rule 1, BadToml: the bytes are UTF-8 and TOML. The place is 0, and there is no value.
abbrev pub toml_of : Option Members → Result Members BrokenRule
toml_of None = Err bad_toml
toml_of (Some root) = Ok root

-- ---- rule 2

-- The root table's keys.
abbrev pub root_fields : Fields
root_fields =
    (codes "link", kind.Tables) ∷ (codes "nis", kind.Texts) ∷ (codes "routers", kind.Texts)
    ∷ (codes "slots", kind.Integer) ∷ (codes "version", kind.Integer) ∷ []

-- A link table's keys.
abbrev pub end_fields : Fields
end_fields = (codes "from", kind.Text) ∷ (codes "to", kind.Text) ∷ []

-- A link table's keys in a version: where it allows delays, a delay beside the ends.
abbrev pub link_fields : ℤ → Fields
link_fields version =
    if allows_delays version then (codes "delay", kind.OptionalInteger) ∷ end_fields else end_fields

-- The keys of the root, then those of each link.
unfoldable pub wrong_keys : Members → List (Option Shown)
wrong_keys root =
    wrong_key root_fields root
    ∷ map (wrong_key (link_fields (version_of root))) (link_tables root)

-- Rule 2, WrongKey: each table has the keys that it should have, and values of their types. The
-- root is place 0, and the links follow; the value is the least such key.
unfoldable pub keys_fit : Members → Result (Unit {0}) BrokenRule
keys_fit root = judged 2 (codes "WrongKey") (first_broken 0 (wrong_keys root))

-- ---- rule 3

-- The greatest slot table of a version.
abbrev pub most_slots : ℤ → ℕ
most_slots version = if allows_delays version then max_slots else max_slots_of_version_1

-- The version, the slots, and the numbers of routers, interfaces and links.
unfoldable pub numbers : Members → List (Option Shown)
numbers root =
    outside 1 2 (version_of root) ∷ outside 1 (most_slots (version_of root)) (slots_of root)
    ∷ outside 1 max_routers (pos (length (routers_of root)))
    ∷ outside 1 max_nis (pos (length (nis_of root)))
    ∷ outside 0 max_links (pos (length (link_tables root))) ∷ []

-- The delays of the links, where the version allows them.
unfoldable pub delays : Members → List (Option Shown)
delays root =
    if allows_delays (version_of root)
    then map (λ link. outside 1 max_link_delay (delay_at link)) (link_tables root) else []

-- Rule 3, OutOfRange: each number is in its range, and each text is a name. Places count from 1:
-- the five numbers, the routers, the interfaces, then the delays; the value is the number, or an
-- odd one for a text.
unfoldable pub is_in_range : Members → Result (Unit {0}) BrokenRule
is_in_range root = judged 3 (codes "OutOfRange") (first_broken 1
    (numbers root ++ map no_name (routers_of root) ++ map no_name (nis_of root) ++ delays root))

-- ---- rule 4

-- Rule 4, NameTwice: no text stands twice in the list of the routers and then the interfaces. The
-- place is that in this list, the value the name.
unfoldable pub names_differ : Members → Result (Unit {0}) BrokenRule
names_differ root =
    judged 4 (codes "NameTwice") (first_broken 0 (repeats [] (routers_of root ++ nis_of root)))

-- ---- rule 5

-- The first end of a link that names no node.
abbrev pub unknown_end : List (List ℕ) → List (List ℕ) → Members → Option Shown
unknown_end routers nis link =
    if is_none (node_of routers nis (text_at (codes "from") link))
    then Some (shown_text (text_at (codes "from") link))
    else if is_none (node_of routers nis (text_at (codes "to") link))
    then Some (shown_text (text_at (codes "to") link))
    else None

-- Rule 5, UnknownName: each link begins and ends at a router or an interface of the file. The place
-- is the link, the value the text.
unfoldable pub ends_are_known : Members → Result (Unit {0}) BrokenRule
ends_are_known root = judged 5 (codes "UnknownName") (first_broken 0
    (map (unknown_end (routers_of root) (nis_of root)) (link_tables root)))

-- ---- rule 6

-- The greater of a router's two numbers of links, where it is too great.
abbrev pub crowded : List Link → ℕ → Option Shown
crowded links router =
    let node : Node = Router (record { 0 = router }) in
    let ports = max (count_by (begins_at node) links) (count_by (ends_at node) links) in
    if nat_le ports max_ports then None else Some (Number ports)

-- Rule 6, TooManyPorts: each router sends on at most 8 links, and receives on at most 8. The place
-- is the router, the value the greater number.
unfoldable pub ports_are_few : ℕ → List Link → Result (Unit {0}) BrokenRule
ports_are_few routers links = judged 6 (codes "TooManyPorts")
    (first_broken 0 (map (crowded links) (range_with_len 0 routers)))

-- ---- rule 7

-- The number of a list that has just one.
abbrev pub lone : List ℕ → Option ℕ
lone [] = None
lone (number ∷ []) = Some number
lone (number ∷ next ∷ numbers) = None

-- The router at an end of the one link of a list of numbers of links.
abbrev pub router_at : (Link → Node) → List Link → List ℕ → Option RouterId
router_at end links numbers =
    option_and_then (λ link. router_of (end link))
    (option_and_then (λ number. slice_get links number) (lone numbers))

-- Two routers are there and are one.
abbrev pub same_router : Option RouterId → Option RouterId → Bool
same_router None router = false
same_router (Some r) None = false
same_router (Some r) (Some q) = r.0 == q.0

-- Whether a network interface has one link each way, with one router at the other ends.
abbrev pub is_single : List Link → ℕ → Bool
is_single links ni =
    let node : Node = Ni (record { 0 = ni }) in
    same_router (router_at (λ link. link.to) links (sends_on node links))
    (router_at (λ link. link.from) links (receives_on node links))

-- The name of a network interface that isn't joined to one router.
abbrev pub unjoined : List Link → ℕ → List ℕ → Option Shown
unjoined links ni name = if is_single links ni then None else Some (shown_text name)

-- For each network interface from this number on, its name where it isn't joined to one router.
abbrev pub not_single : List Link → ℕ → List (List ℕ) → List (Option Shown)
not_single links ni [] = []
not_single links ni (name ∷ names) = unjoined links ni name ∷ not_single links (ni + 1) names

-- Rule 7, NiNotSingle: each network interface sends on one link and receives on one, and one router
-- is at the other end of both. The place is the interface, the value its name.
unfoldable pub nis_are_single : List (List ℕ) → List Link → Result (Unit {0}) BrokenRule
nis_are_single nis links = judged 7 (codes "NiNotSingle") (first_broken 0 (not_single links 0 nis))

-- ---- the chip of a file

-- The links of a root table, or the first rule on them that the table breaks.
unfoldable pub judged_links : Members → Result (List Link) BrokenRule
judged_links root = do
  ends ← ends_are_known root
  ports ← ports_are_few (length (routers_of root)) (told_links root)
  single ← nis_are_single (nis_of root) (told_links root)
  Ok (told_links root)

-- The chip of a root table, or the first rule that the table breaks.
unfoldable pub chip_in : Members → Result ChipData BrokenRule
chip_in root = do
  keys ← keys_fit root
  range ← is_in_range root
  names ← names_differ root
  links ← judged_links root
  Ok (told_chip root)

-- The chip of a file's bytes, or the first rule that the file breaks.
unfoldable pub chip_of : List ℕ → Result ChipData BrokenRule
chip_of bytes = toml_of (document_of bytes) >>= chip_in

-- What a file tells, where its rules are kept: every chip that a file tells is one.
use Rattle.std.proofs.Common.{◌≡◌, ℕ, List, Option, Some, None, length, refl, subst, sym, Err, Ok}
use Rattle.std.proofs.Common.{Result}
use Rattle.toml.specs.Data.{Members}
use Rattle.aeth_base.specs.Faults.{BrokenRule}
use Rattle.aeth_document.specs.{Chain.◌>>=◌, Document.document_of, Walks.size_of}
use Rattle.aeth_chip.specs.{declared.node.Link.Link, Chip.ChipData, Chip.IsChip, ChipFile.chip_in}
use Rattle.aeth_chip.specs.{ChipFile.chip_of, ChipFile.ends_are_known, ChipFile.is_in_range}
use Rattle.aeth_chip.specs.{ChipFile.keys_fit, ChipFile.judged_links, ChipFile.names_differ}
use Rattle.aeth_chip.specs.{ChipFile.nis_are_single, ChipFile.ports_are_few, ChipFile.toml_of}
use Rattle.aeth_chip.specs.{ChipParts.chip_with, Told.nis_of, Told.routers_of, Told.slots_of}
use Rattle.aeth_chip.specs.{Told.told_chip, Told.told_links, declared.links.NodeNames.NodeNames}
use Rattle.aeth_chip.proofs.LinkLemmas.{told_is_chip}

-- A rule before others is kept where they come to a value, and so are the others.
pub kept_first : {X : Type 0} (rule : Result (Unit {0}) BrokenRule) (next : Result X BrokenRule)
    (value : X) → (rule >>= (λ kept. next)) ≡ Ok value → (rule ≡ Ok tt) × (next ≡ Ok value)
kept_first (Ok kept) next value is = (refl, is)
kept_first (Err broken) next value is = absurd (cc is)

-- The same where what is handed on has a value of its own.
kept_value : {A X : Type 0} (first : Result A BrokenRule) (next : Result X BrokenRule) (value : X)
    → (first >>= (λ given. next)) ≡ Ok value
    → (given : A) × (first ≡ Ok given) × (next ≡ Ok value)
kept_value (Ok given) next value is = (given, refl, is)
kept_value (Err broken) next value is = absurd (cc is)

-- The rules on links.
record KeepsLinkRules (root : Members) : Type 0 where
  ends : ends_are_known root ≡ Ok tt
  ports : ports_are_few (length (routers_of root)) (told_links root) ≡ Ok tt
  single : nis_are_single (nis_of root) (told_links root) ≡ Ok tt

-- Links that are told keep them, and are those of the tables.
judged_links-kept : (root : Members) (links : List Link) → judged_links root ≡ Ok links
    → KeepsLinkRules root × (told_links root ≡ links)
unfolding judged_links
judged_links-kept root links is =
    let (ends, few) = kept_first (ends_are_known root) _ links is in
    let (ports, joined) =
    kept_first (ports_are_few (length (routers_of root)) (told_links root)) _ links few in
    let (single, same) =
    kept_first (nis_are_single (nis_of root) (told_links root)) _ links joined in
    (record { ends = ends; ports = ports; single = single }, cc same)

pub judged-told : (root : Members) (links : List Link) → judged_links root ≡ Ok links
    → told_links root ≡ links
judged-told root links is = (judged_links-kept root links is).1

-- Names and links that are told make up the chip that is told.
pub parts_are : (root : Members) (slots : ℕ) (names : NodeNames) (links : List Link)
    → slots ≡ size_of (slots_of root) → names.routers ≡ routers_of root
    → names.nis ≡ nis_of root → judged_links root ≡ Ok links
    → chip_with slots names links ≡ told_chip root
parts_are root slots names links size routers nis told =
    let same = sym (judged_links-kept root links told).1 in
    λ i. record { slots = size i; routers = routers i; nis = nis i; links = same i }

-- Where the rules are kept, the chip of the root table is the one that it tells.
pub chip_in-told : (root : Members) (links : List Link) → keys_fit root ≡ Ok tt
    → is_in_range root ≡ Ok tt → names_differ root ≡ Ok tt → judged_links root ≡ Ok links
    → chip_in root ≡ Ok (told_chip root)
unfolding chip_in
chip_in-told root links keys range names told = rw (keys, range, names, told) refl

-- So it is a chip.
pub told-IsChip : (root : Members) (links : List Link) → keys_fit root ≡ Ok tt
    → is_in_range root ≡ Ok tt → names_differ root ≡ Ok tt → judged_links root ≡ Ok links
    → IsChip (told_chip root)
told-IsChip root links keys range names told =
    let kept = (judged_links-kept root links told).0 in
    told_is_chip root (record {
      keys = keys;
      range = range;
      names = names;
      ends = kept.ends;
      ports = kept.ports;
      single = kept.single;
    })

-- What a root table tells is a chip.
chip_in-kept : (root : Members) (chip : ChipData) → chip_in root ≡ Ok chip → IsChip chip
unfolding chip_in
chip_in-kept root chip is =
    let (keys, ranges) = kept_first (keys_fit root) _ chip is in
    let (range, differ) = kept_first (is_in_range root) _ chip ranges in
    let (names, known) = kept_first (names_differ root) _ chip differ in
    let (links, told, same) = kept_value (judged_links root) (Ok (told_chip root)) chip known in
    subst IsChip (cc same) (told-IsChip root links keys range names told)

of_document : (document : Option Members) (chip : ChipData)
    → (toml_of document >>= chip_in) ≡ Ok chip → IsChip chip
of_document None chip is = absurd (cc is)
of_document (Some root) chip is = chip_in-kept root chip is

-- What a file tells is a chip.
pub chip_of-kept : (bytes : List ℕ) (chip : ChipData) → chip_of bytes ≡ Ok chip → IsChip chip
unfolding chip_of
chip_of-kept bytes chip is = of_document (document_of bytes) chip is

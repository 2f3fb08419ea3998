use Rattle.std.proofs.Common.{◌∙◌, Ok, sym, ap, subst}
use Rattle.toml.specs.View.{table_view}
use Rattle.aeth_chip.specs.Chip.{IsChip}
use Rattle.aeth_chip.proofs.FileLemmas.{chip_in-told, parts_are, told-IsChip}
use Rattle.aeth_chip.proofs.RangeLemmas.{in_range}
use Rattle.aeth_chip.proofs.making.linked_chip.Goals as goal

-- The slots are few.
pub slots_of-requires : goal.slots_of-requires
slots_of-requires c = (in_range _ c.requires.range).few_slots

-- What keeps all rules is a chip.
pub chip_with-requires-clause-chip : goal.chip_with-requires-clause-chip
chip_with-requires-clause-chip c =
    let root = table_view c.args.root.now in
    let links = c.in_ok-its.its.links.items in
    let told = c.in_ok-its.ensures.gives in
    let are = parts_are root c.slots_of.result c.args.names links c.slots_of.ensures
    c.requires.routers c.requires.nis told in
    subst IsChip (sym are)
    (told-IsChip root links c.requires.keys c.requires.range c.requires.differ told)

-- It is the one that the file tells.
pub returns : goal.returns
returns c =
    let root = table_view c.args.root.now in
    let links = c.in_ok-its.its.links.items in
    let told = c.in_ok-its.ensures.gives in
    let are = parts_are root c.slots_of.result c.args.names links c.slots_of.ensures
    c.requires.routers c.requires.nis told in
    chip_in-told root links c.requires.keys c.requires.range c.requires.differ told
    ∙ ap Ok (sym (c.chip_with.ensures ∙ are))

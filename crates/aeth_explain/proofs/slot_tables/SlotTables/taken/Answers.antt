use Rattle.std.proofs.Common.{◌∙◌, List, ap, length, subst, sym, take, ℕ}
use Rattle.std.specs.List.{list_any}
use Rattle.aeth_slots.specs.SlotSet.{Slots}
use Rattle.aeth_group.specs.Tables.{IsTable}
use Rattle.aeth_explain.specs.SlotTables.{SlotTablesData, is_occupied}
use Rattle.aeth_explain.proofs.MaskLemmas.{rows-within, taken-rivals}
use Rattle.aeth_explain.proofs.slot_tables.SlotTables.taken.Goals as goal

-- The use cases have rows.
pub joined-requires-clause-rows : goal.joined-requires-clause-rows
joined-requires-clause-rows c =
    let masks : List Slots = c.deref.result.now in
    let rows = ap length c.deref.ensures.value
    ∙ ap (λ (t : SlotTablesData). length t.masks) c.self.view_is ∙ c.requires.1.rows in
    rw (c.deref-2.ensures.value ∙ c.in_ok-uses.ensures)
    (rows-within c.args.chip.now.links c.args.groups.now c.args.unit masks rows)

-- The tables have the slots of their grants.
pub joined-requires-clause-table : goal.joined-requires-clause-table
joined-requires-clause-table c =
    let chip = c.args.chip.now in
    let grants = take c.args.self.now.count c.requires.0 in (
      is_occupied chip.links c.args.groups.now grants,
      subst (IsTable chip.slots (length chip.links) (is_occupied chip.links c.args.groups.now grants))
          (sym (c.deref.ensures.value ∙ ap (λ (t : SlotTablesData). t.masks) c.self.view_is))
          c.requires.1.table,
    )

-- What the use cases of the unit have is taken.
pub returns-clause-table : goal.returns-clause-table
returns-clause-table c grants are =
    let chip = c.args.chip.now in
    let groups = c.args.groups.now in
    let first = take c.args.self.now.count grants in
    let masks : List Slots = c.in_ok-masks.masks.items in
    taken-rivals chip.links groups chip.slots c.args.unit first masks c.in_ok-masks.ensures.count
    (subst (λ (us : List ℕ). IsTable chip.slots (length chip.links)
    (λ (v l s : ℕ). list_any (λ u. is_occupied chip.links groups first u l s) us) masks)
    (c.deref-2.ensures.value ∙ c.in_ok-uses.ensures)
    (c.in_ok-masks.ensures.table (is_occupied chip.links groups first)
    (subst (IsTable chip.slots (length chip.links) (is_occupied chip.links groups first))
    (sym (c.deref.ensures.value ∙ ap (λ (t : SlotTablesData). t.masks) c.self.view_is)) are.table)))

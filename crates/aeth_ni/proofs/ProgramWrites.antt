-- What the writes of a program set and clear.
use Rattle.std.proofs.Common.{◌≡◌, ◌⊎◌, ℕ, sym, ap, subst, inl, inr, List, [], ◌∷◌, Contains, map}
use Rattle.std.proofs.lemmas.List.Elements.{Contains-append_left, Contains-append_cases}
use Rattle.std.specs.List.{flat_map}
use Rattle.aeth_base.proofs.Members.{Contains-there, Contains-cases, sole-Contains, Contains-map}
use Rattle.aeth_base.proofs.Members.{map-Contains, Contains-flat_map, flat_map-Contains}
use Rattle.aeth_ni.specs.declared.row.ChannelRow.{ChannelRow}
use Rattle.aeth_ni.specs.declared.write.Write.{Write}
use Rattle.aeth_ni.specs.declared.write.Write.TheVariants.{ClearSlot, ClearRoute, SetRoute, SetSlot}
use Rattle.aeth_ni.specs.Program.{Entry, closing_writes, entries_of_channel, opening_writes}
use Rattle.aeth_ni.specs.Switch.{IsSameSlot, entries_in}
use Rattle.aeth_ni.proofs.EntryWrites.{clear_of, set_of}

-- What a write names.
abbrev named : Write → Entry
named (ClearSlot ni slot) = record { ni = ni; slot = slot; queue = 0 }
named (ClearRoute ni queue) = record { ni = ni; slot = 0; queue = queue }
named (SetRoute ni queue route remote credits) = record { ni = ni; slot = 0; queue = queue }
named (SetSlot ni slot queue) = record { ni = ni; slot = slot; queue = queue }

-- A write of a channel that closes clears a slot of it, or its route.
closing-cases : (row : ChannelRow) (write : Write) → Contains (closing_writes row) write
    → ((slot : ℕ) × (ClearSlot row.ni slot ≡ write) × Contains row.slots.slots slot)
    ⊎ (ClearRoute row.ni row.queue ≡ write)
closing-cases row write has =
    elim (Contains-append_cases (map (λ slot. ClearSlot row.ni slot) row.slots.slots)
    (ClearRoute row.ni row.queue ∷ []) write has) [
      | inl clears ↦
          inl (map-Contains (λ slot. ClearSlot row.ni slot) row.slots.slots write clears)
      | inr last ↦ inr (sole-Contains (ClearRoute row.ni row.queue) write last)
    ]

-- A write of a channel that opens sets its route, or a slot of it.
opening-cases : (row : ChannelRow) (write : Write) → Contains (opening_writes row) write
    → (SetRoute row.ni row.queue row.route row.remote row.credits ≡ write)
    ⊎ ((slot : ℕ) × (SetSlot row.ni slot row.queue ≡ write) × Contains row.slots.slots slot)
opening-cases row write has =
    elim (Contains-cases (SetRoute row.ni row.queue row.route row.remote row.credits)
    (map (λ slot. SetSlot row.ni slot row.queue) row.slots.slots) write has) [
      | inl first ↦ inl first
      | inr sets ↦
          inr (map-Contains (λ slot. SetSlot row.ni slot row.queue) row.slots.slots write sets)
    ]

-- The entry of a slot of a channel.
pub Contains-entry : (rows : List ChannelRow) (row : ChannelRow) (slot : ℕ) → Contains rows row
    → Contains row.slots.slots slot
    → Contains (entries_in rows) (record { ni = row.ni; slot = slot; queue = row.queue })
Contains-entry rows row slot there here =
    Contains-flat_map entries_of_channel rows row _ there
    (Contains-map (λ slot. record { ni = row.ni; slot = slot; queue = row.queue })
    row.slots.slots slot here)

-- An entry is of a slot of one of the channels.
pub entry-slot : (rows : List ChannelRow) (entry : Entry) → Contains (entries_in rows) entry
    → (row : ChannelRow) × Contains rows row × ((slot : ℕ)
    × (record { ni = row.ni; slot = slot; queue = row.queue } ≡ entry)
    × Contains row.slots.slots slot)
entry-slot rows entry has =
    let found = flat_map-Contains entries_of_channel rows entry has in (
      found.0,
      found.1,
      map-Contains (λ slot. record { ni = found.0.ni; slot = slot; queue = found.0.queue })
          found.0.slots.slots entry found.2,
    )

module _ (rows : List ChannelRow) where
  -- No slot is set while channels close.
  pub closing-sets : (entry : Entry) → Contains (flat_map closing_writes rows) (set_of entry) → ⊥
  closing-sets entry has =
      let found = flat_map-Contains closing_writes rows (set_of entry) has in
      elim (closing-cases found.0 (set_of entry) found.2) [
        | inl clears ↦ absurd (cc clears.1)
        | inr route ↦ absurd (cc route)
      ]

  -- Each slot of a channel that closes is cleared.
  pub closing-clears : (entry : Entry) → Contains (entries_in rows) entry
      → Contains (flat_map closing_writes rows) (clear_of entry)
  closing-clears entry has =
      let found = entry-slot rows entry has in
      let row = found.0 in
      let slot = found.2.0 in
      subst (λ (e : Entry). Contains (flat_map closing_writes rows) (clear_of e)) found.2.1
      (Contains-flat_map closing_writes rows row (ClearSlot row.ni slot) found.1
      (Contains-append_left (map (λ slot. ClearSlot row.ni slot) row.slots.slots)
      (ClearRoute row.ni row.queue ∷ []) (ClearSlot row.ni slot)
      (Contains-map (λ slot. ClearSlot row.ni slot) row.slots.slots slot found.2.2)))

  -- No other slot is.
  pub closing-cleared : (entry : Entry) → Contains (flat_map closing_writes rows) (clear_of entry)
      → (other : Entry) × Contains (entries_in rows) other × IsSameSlot entry other
  closing-cleared entry has =
      let found = flat_map-Contains closing_writes rows (clear_of entry) has in
      elim (closing-cases found.0 (clear_of entry) found.2) [
        | inl clears ↦
            let is = ap named clears.1 in (
              record { ni = found.0.ni; slot = clears.0; queue = found.0.queue },
              Contains-entry rows found.0 clears.0 found.1 clears.2,
              (sym (ap (λ (e : Entry). e.ni) is), sym (ap (λ (e : Entry). e.slot) is)),
            )
        | inr route ↦ absurd (cc route)
      ]

  -- No slot is cleared while channels open.
  pub opening-clears : (entry : Entry) → Contains (flat_map opening_writes rows) (clear_of entry)
      → ⊥
  opening-clears entry has =
      let found = flat_map-Contains opening_writes rows (clear_of entry) has in
      elim (opening-cases found.0 (clear_of entry) found.2) [
        | inl route ↦ absurd (cc route)
        | inr sets ↦ absurd (cc sets.1)
      ]

  -- Each slot of a channel that opens is set.
  pub opening-sets : (entry : Entry) → Contains (entries_in rows) entry
      → Contains (flat_map opening_writes rows) (set_of entry)
  opening-sets entry has =
      let found = entry-slot rows entry has in
      let row = found.0 in
      let slot = found.2.0 in
      subst (λ (e : Entry). Contains (flat_map opening_writes rows) (set_of e)) found.2.1
      (Contains-flat_map opening_writes rows row (SetSlot row.ni slot row.queue) found.1
      (Contains-there (SetRoute row.ni row.queue row.route row.remote row.credits)
      (map (λ slot. SetSlot row.ni slot row.queue) row.slots.slots)
      (SetSlot row.ni slot row.queue)
      (Contains-map (λ slot. SetSlot row.ni slot row.queue) row.slots.slots slot found.2.2)))

  -- No other slot is, and none otherwise.
  pub opening-set : (entry : Entry) → Contains (flat_map opening_writes rows) (set_of entry)
      → Contains (entries_in rows) entry
  opening-set entry has =
      let found = flat_map-Contains opening_writes rows (set_of entry) has in
      elim (opening-cases found.0 (set_of entry) found.2) [
        | inl route ↦ absurd (cc route)
        | inr sets ↦ subst (Contains (entries_in rows)) (ap named sets.1)
            (Contains-entry rows found.0 sets.0 found.1 sets.2)
      ]

-- Where an entry comes from, and how long it stays, over many writes.
use Rattle.std.proofs.Common.{◌≡◌, ◌⊎◌, ◌&&◌, ℕ, true, eqb, refl, ap, inl, inr, arith, List, []}
use Rattle.std.proofs.Common.{◌∷◌, Contains, fold, eqb-true}
use Rattle.std.proofs.lemmas.Bool.{cases_Bool, and_parts}
use Rattle.aeth_base.proofs.Members.{Contains-nil, Contains-here, Contains-there, Contains-cases}
use Rattle.aeth_base.proofs.Members.{Contains-filter, filter-Contains}
use Rattle.aeth_base.specs.declared.ids.NiId.{NiId}
use Rattle.aeth_ni.specs.declared.write.Write.{Write}
use Rattle.aeth_ni.specs.declared.write.Write.TheVariants.{ClearSlot, ClearRoute, SetRoute, SetSlot}
use Rattle.aeth_ni.specs.Program.{Entry, entries_behind, without_entry}
use Rattle.aeth_ni.proofs.EntryLemmas.{without_entry-same}

-- The writes that set and that clear an entry.
abbrev pub set_of : Entry → Write
set_of entry = SetSlot entry.ni entry.slot entry.queue

abbrev pub clear_of : Entry → Write
clear_of entry = ClearSlot entry.ni entry.slot

-- An entry behind a write is set by it, or was there.
entries_behind-cases : (entries : List Entry) (write : Write) (entry : Entry)
    → Contains (entries_behind entries write) entry
    → (write ≡ set_of entry) ⊎ Contains entries entry
entries_behind-cases entries (ClearSlot ni slot) entry has =
    inr (filter-Contains _ entries entry has).0
entries_behind-cases entries (ClearRoute ni queue) entry has = inr has
entries_behind-cases entries (SetRoute ni queue route remote credits) entry has = inr has
entries_behind-cases entries (SetSlot ni slot queue) entry has =
    elim (Contains-cases _ _ _ has) [
      | inl is ↦ inl (ap set_of is)
      | inr later ↦ inr (filter-Contains _ entries entry later).0
    ]

-- An entry behind writes is set by one of them, or was there.
pub fold-cases : (writes : List Write) (entries : List Entry) (entry : Entry)
    → Contains (fold entries_behind entries writes) entry
    → Contains writes (set_of entry) ⊎ Contains entries entry
fold-cases [] entries entry has = inr has
fold-cases (write ∷ writes) entries entry has =
    elim (fold-cases writes (entries_behind entries write) entry has) [
      | inl later ↦ inl (Contains-there write writes (set_of entry) later)
      | inr before ↦ elim (entries_behind-cases entries write entry before) [
        | inl sets ↦ inl (0, omega arith, sets)
        | inr was ↦ inr was
      ]
    ]

-- Where one of them clears its slot, it is set by one.
pub fold-cleared : (writes : List Write) (entries : List Entry) (entry : Entry)
    → Contains (fold entries_behind entries writes) entry → Contains writes (clear_of entry)
    → Contains writes (set_of entry)
fold-cleared [] entries entry has clears = Contains-nil clears
fold-cleared (write ∷ writes) entries entry has clears =
    elim (Contains-cases write writes (clear_of entry) clears) [
      | inl now ↦ elim (fold-cases writes (entries_behind entries write) entry has) [
        | inl later ↦ Contains-there write writes (set_of entry) later
        | inr before ↦ absurd (without_entry-same entry.ni entry.slot entries entry refl refl
            (rw now at before))
      ]
      | inr later ↦ Contains-there write writes (set_of entry)
          (fold-cleared writes (entries_behind entries write) entry has later)
    ]

-- The writes leave an entry, where none clears its slot, and none sets it otherwise.
pub record Leave (writes : List Write) (entry : Entry) : Type 0 where
  pub clear : Contains writes (clear_of entry) → ⊥
  pub set : (queue : ℕ) → Contains writes (SetSlot entry.ni entry.slot queue)
      → queue ≡ entry.queue

-- What leaves an entry still does behind the first write.
Leave-tail : (write : Write) (writes : List Write) (entry : Entry)
    → Leave (write ∷ writes) entry → Leave writes entry
Leave-tail write writes entry leave =
    record {
      clear = λ has. leave.clear (Contains-there write writes (clear_of entry) has);
      set = λ queue has. leave.set queue
          (Contains-there write writes (SetSlot entry.ni entry.slot queue) has);
    }

-- The slot of an entry, by the test that a write makes.
slot_is : (ni : NiId) (slot : ℕ) (entry : Entry)
    → (eqb entry.ni.0 ni.0 && eqb entry.slot slot) ≡ true → (ni ≡ entry.ni) × (slot ≡ entry.slot)
slot_is ni slot entry is =
    let parts = and_parts (eqb entry.ni.0 ni.0) (eqb entry.slot slot) is in
    let number = eqb-true entry.ni.0 ni.0 parts.0 in
    let place = eqb-true entry.slot slot parts.1 in
    (ap (λ (n : ℕ). record { 0 = n }) (omega arith), omega arith)

-- One write leaves it.
entries_behind-keeps : (entries : List Entry) (write : Write) (writes : List Write)
    (entry : Entry) → Leave (write ∷ writes) entry → Contains entries entry
    → Contains (entries_behind entries write) entry
entries_behind-keeps entries (ClearSlot ni slot) writes entry leave has =
    elim (cases_Bool (eqb entry.ni.0 ni.0 && eqb entry.slot slot)) [
      | inl is ↦
          let same = slot_is ni slot entry is in
          absurd (leave.clear (0, omega arith, rw (same.0, same.1) refl))
      | inr other ↦ Contains-filter _ entries entry has (rw other refl)
    ]
entries_behind-keeps entries (ClearRoute ni queue) writes entry leave has = has
entries_behind-keeps entries (SetRoute ni queue route remote credits) writes entry leave has = has
entries_behind-keeps entries (SetSlot ni slot queue) writes entry leave has =
    elim (cases_Bool (eqb entry.ni.0 ni.0 && eqb entry.slot slot)) [
      | inl is ↦
          let same = slot_is ni slot entry is in
          let named = leave.set queue (0, omega arith, rw (same.0, same.1) refl) in
          (0, omega arith, rw (same.0, same.1, named) refl)
      | inr other ↦ Contains-there _ _ _ (Contains-filter _ entries entry has (rw other refl))
    ]

-- All leave it.
pub fold-keeps : (writes : List Write) (entries : List Entry) (entry : Entry)
    → Leave writes entry → Contains entries entry
    → Contains (fold entries_behind entries writes) entry
fold-keeps [] entries entry leave has = has
fold-keeps (write ∷ writes) entries entry leave has =
    fold-keeps writes (entries_behind entries write) entry (Leave-tail write writes entry leave)
    (entries_behind-keeps entries write writes entry leave has)

-- An entry that one of them sets, and that they leave, is there behind them.
pub fold-sets : (writes : List Write) (entries : List Entry) (entry : Entry)
    → Leave writes entry → Contains writes (set_of entry)
    → Contains (fold entries_behind entries writes) entry
fold-sets [] entries entry leave sets = Contains-nil sets
fold-sets (write ∷ writes) entries entry leave sets =
    let rest = Leave-tail write writes entry leave in
    elim (Contains-cases write writes (set_of entry) sets) [
      | inl now ↦ fold-keeps writes (entries_behind entries write) entry rest
          (rw now (Contains-here entry (without_entry entry.ni entry.slot entries)))
      | inr later ↦ fold-sets writes (entries_behind entries write) entry rest later
    ]

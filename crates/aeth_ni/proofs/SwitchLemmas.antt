-- A program from one use case to another, write by write.
use Rattle.std.proofs.Common.{◌≡◌, ◌⊎◌, ◌≤◌, ◌+◌, ℕ, refl, inl, inr, arith, List, Contains, length}
use Rattle.std.proofs.Common.{take, drop, fold, take-append-drop, take_all}
use Rattle.std.proofs.Math.Seq.{take-append-add}
use Rattle.std.proofs.lemmas.List.{take-append-le, Elements.Contains-append_left, Sums.fold-append}
use Rattle.std.specs.List.{flat_map}
use Rattle.aeth_ni.specs.declared.{row.ChannelRow.ChannelRow, write.Write.Write}
use Rattle.aeth_ni.specs.Program.{Entry, closing_writes, entries_after, entries_behind}
use Rattle.aeth_ni.specs.Program.{entries_of_channel, opening_writes, program_of}
use Rattle.aeth_ni.specs.Switch.{AreSlotsApart, IsSwitch, entries_in}
use Rattle.aeth_ni.proofs.EntryWrites.{Leave, fold-cases, fold-cleared, fold-keeps, fold-sets}
use Rattle.aeth_ni.proofs.EntryWrites.{set_of}
use Rattle.aeth_ni.proofs.ProgramWrites.{closing-cleared, closing-clears, closing-sets}
use Rattle.aeth_ni.proofs.ProgramWrites.{opening-clears, opening-set, opening-sets}
use Rattle.aeth_base.proofs.Members.{Contains-flat_map, flat_map-Contains}

-- What is in the first of a list is in the list.
Contains-from_take : (count : ℕ) (writes : List Write) (write : Write)
    → Contains (take count writes) write → Contains writes write
Contains-from_take count writes write has =
    rw (take-append-drop count writes) at
    (Contains-append_left (take count writes) (drop count writes) write has)

-- Channels of which each is one of others have no other entries.
entries-among : (some others : List ChannelRow)
    → ((row : ChannelRow) → Contains some row → Contains others row) → (entry : Entry)
    → Contains (entries_in some) entry → Contains (entries_in others) entry
entries-among some others each entry has =
    let found = flat_map-Contains entries_of_channel some entry has in
    Contains-flat_map entries_of_channel others found.0 entry (each found.0 found.1) found.2

-- Channels of which each is one of these or of those have entries of these or of those.
entries-either : (rows some others : List ChannelRow)
    → ((row : ChannelRow) → Contains rows row → Contains some row ⊎ Contains others row)
    → (entry : Entry) → Contains (entries_in rows) entry
    → Contains (entries_in some) entry ⊎ Contains (entries_in others) entry
entries-either rows some others each entry has =
    let found = flat_map-Contains entries_of_channel rows entry has in
    elim (each found.0 found.1) [
      | inl here ↦ inl (Contains-flat_map entries_of_channel some found.0 entry here found.2)
      | inr there ↦ inr (Contains-flat_map entries_of_channel others found.0 entry there found.2)
    ]

module _ (left entered kept closing opening : List ChannelRow)
    (switch : IsSwitch left entered kept closing opening) where
  abbrev closes : List Write
  closes = flat_map closing_writes closing

  abbrev opens : List Write
  opens = flat_map opening_writes opening

  abbrev after : ℕ → List Entry
  after count = entries_after left (program_of closing opening) count

  -- What all closing writes leave is of a channel that goes on.
  kept-from_closing : (entry : Entry)
      → Contains (fold entries_behind (entries_in left) closes) entry
      → Contains (entries_in kept) entry
  kept-from_closing entry has =
      elim (fold-cases closes (entries_in left) entry has) [
        | inl sets ↦ absurd (closing-sets closing entry sets)
        | inr held ↦ elim (entries-either left kept closing switch.leaves entry held) [
          | inl keeps ↦ keeps
          | inr goes ↦ absurd (closing-sets closing entry
              (fold-cleared closes (entries_in left) entry has
              (closing-clears closing entry goes)))
        ]
      ]

  -- While channels close, each entry is one of the use case that is left.
  pub left-while_closing : (count : ℕ) (entry : Entry) → count ≤ length closes
      → Contains (after count) entry → Contains (entries_in left) entry
  left-while_closing count entry within has =
      elim (fold-cases (take count closes) (entries_in left) entry
      (rw (take-append-le count closes opens within) at has)) [
        | inl sets ↦
            absurd (closing-sets closing entry
            (Contains-from_take count closes (set_of entry) sets))
        | inr held ↦ held
      ]

  -- The entries once all have closed and some have opened.
  after-opening : (more : ℕ)
      → after (length closes + more)
      ≡ fold entries_behind (fold entries_behind (entries_in left) closes) (take more opens)
  after-opening more =
      rw (take-append-add closes opens more)
      (fold-append entries_behind (entries_in left) closes (take more opens))

  -- While channels open, each entry is one of the use case that is entered.
  pub entered-while_opening : (more : ℕ) (entry : Entry)
      → Contains (after (length closes + more)) entry → Contains (entries_in entered) entry
  entered-while_opening more entry has =
      elim (fold-cases (take more opens) (fold entries_behind (entries_in left) closes) entry
      (rw (after-opening more) at has)) [
        | inl sets ↦
            entries-among opening entered switch.opened entry
            (opening-set opening entry (Contains-from_take more opens (set_of entry) sets))
        | inr stays ↦
            entries-among kept entered switch.kept_entered entry (kept-from_closing entry stays)
      ]

  module _ (apart : AreSlotsApart entered kept closing) where
    -- Opening writes leave each entry of the use case that is entered.
    Leave-opening : (entry : Entry) → Contains (entries_in entered) entry → Leave opens entry
    Leave-opening entry has =
        record {
          clear = λ clears. opening-clears opening entry clears;
          set = λ queue sets.
              let other : Entry = record { ni = entry.ni; slot = entry.slot; queue = queue } in
              apart.within other entry
              (entries-among opening entered switch.opened other
              (opening-set opening other sets))
              has (refl, refl);
        }

    -- Closing writes leave each entry of a channel that goes on.
    Leave-closing : (entry : Entry) → Contains (entries_in kept) entry → Leave closes entry
    Leave-closing entry has =
        record {
          clear = λ clears.
              let other = closing-cleared closing entry clears in
              apart.from_closing entry other.0 has other.1 other.2;
          set = λ queue sets. absurd (closing-sets closing
              (record { ni = entry.ni; slot = entry.slot; queue = queue }) sets);
        }

    -- Behind the whole program each entry of the use case that is entered is held.
    pub entered-held : (entry : Entry) → Contains (entries_in entered) entry
        → Contains (after (length closes + length opens)) entry
    entered-held entry has =
        let leave = Leave-opening entry has in
        let closed = fold entries_behind (entries_in left) closes in
        rw (after-opening (length opens), take_all (length opens) opens (omega arith))
        (elim (entries-either entered kept opening switch.enters entry has) [
          | inl keeps ↦ fold-keeps opens closed entry leave
              (fold-keeps closes (entries_in left) entry (Leave-closing entry keeps)
              (entries-among kept left switch.kept_left entry keeps))
          | inr new ↦ fold-sets opens closed entry leave (opening-sets opening entry new)
        ])

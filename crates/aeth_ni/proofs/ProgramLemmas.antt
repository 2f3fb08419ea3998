-- Laws of programs.
use Rattle.std.proofs.Common.{◌≡◌, ℕ, ◌+◌, refl, ap, ◌∙◌, arith, List, [], ◌∷◌, length}
use Rattle.std.proofs.Common.{length-append, map, sum_by}
use Rattle.std.proofs.lemmas.List.{length-map, Concat.length-flat_map}
use Rattle.std.specs.List.{flat_map}
use Rattle.aeth_ni.specs.declared.row.ChannelRow.{ChannelRow}
use Rattle.aeth_ni.specs.declared.write.Write.{Write}
use Rattle.aeth_ni.specs.declared.write.Write.TheVariants.{ClearRoute, ClearSlot, SetSlot}
use Rattle.aeth_ni.specs.Program.{closing_writes, opening_writes, program_of, write_count}

-- The writes of a closing channel.
pub length-closing_writes : (row : ChannelRow) → length (closing_writes row) ≡ write_count row
length-closing_writes row =
    length-append (map (λ slot. ClearSlot row.ni slot) row.slots.slots)
    (ClearRoute row.ni row.queue ∷ [])
    ∙ ap (λ (count : ℕ). count + 1) (length-map row.slots.slots (λ slot. ClearSlot row.ni slot))

-- The writes of an opening channel.
pub length-opening_writes : (row : ChannelRow) → length (opening_writes row) ≡ write_count row
length-opening_writes row =
    let slots = length-map row.slots.slots (λ slot. SetSlot row.ni slot row.queue) in
    omega arith

-- Writes of which each channel has its count.
length-writes : (writes : ChannelRow → List Write) (rows : List ChannelRow)
    → ((row : ChannelRow) → length (writes row) ≡ write_count row)
    → length (flat_map writes rows) ≡ sum_by write_count rows
length-writes writes rows each =
    length-flat_map writes rows
    ∙ ap (λ (count : ChannelRow → ℕ). sum_by count rows) (λ i row. each row i)

-- A program has a write for each slot and one for the route, of each channel.
pub length-program_of : (closing opening : List ChannelRow)
    → length (program_of closing opening)
    ≡ sum_by write_count closing + sum_by write_count opening
length-program_of closing opening =
    length-append (flat_map closing_writes closing) (flat_map opening_writes opening)
    ∙ rw (
      length-writes closing_writes closing length-closing_writes,
      length-writes opening_writes opening length-opening_writes,
    ) refl

-- The components that send in a cycle are marked in its slot.
use Rattle.std.proofs.Common.{ℕ, ◌≡◌, ◌≢◌, ◌<◌, ◌≤◌, ◌+◌, ◌%◌, ◌∙◌, sym, ap, arith, List, [], ◌∷◌}
use Rattle.std.proofs.Common.{length, Option, Some, None, slice_get, true, is_some, ◌⊎◌}
use Rattle.std.proofs.lemmas.List.{length-map}
use Rattle.std.specs.List.{slice_index_or}
use Rattle.aeth_base.specs.Marks.{bit_of}
use Rattle.aeth_ni.specs.Sending.{emitted}
use Rattle.aeth_router.specs.declared.part.Part.{Part}
use Rattle.aeth_components.specs.{declared.injecting.Injecting.Injecting, Injecting.AreInjecting}
use Rattle.aeth_components.specs.{Injecting.entries_of, SlotMarks.marks_at}
use Rattle.aeth_components.specs.{FlitsOnWires.AreSendersMarked, FlitsOnWires.sends_own}
use Rattle.aeth_components.specs.{View.queue_in}
use Rattle.aeth_components.proofs.InjectingLemmas.{entry-sends, entry-within, entry_at-parts}
use Rattle.aeth_components.proofs.InjectingLemmas.{table_at-parts}

-- The table of a component has as many slots as there are, if it has any.
pub length-table : (parts : List Part) (injecting : Injecting) → AreInjecting parts injecting
    → (number : ℕ) (part : Part) → slice_get parts number ≡ Some part → 0 < length (entries_of part)
    → length (entries_of part) ≡ length injecting.slots
length-table parts injecting are number part at some =
    let size = ap length (table_at-parts parts number part at) in
    sym size ∙ are.tables.size number (omega (arith, some, size))

-- So has that of one that sends.
pub length-sends : (cycle : ℕ) (parts : List Part) (injecting : Injecting)
    → AreInjecting parts injecting → (number : ℕ) (part : Part)
    → slice_get parts number ≡ Some part → sends_own cycle part ≡ true
    → length (entries_of part) ≡ length injecting.slots
length-sends cycle parts injecting are number part at sends =
    let entry = entry-sends cycle part sends in
    let within = entry-within (entries_of part) (cycle % length (entries_of part)) entry.0 entry.1 in
    length-table parts injecting are number part at (omega (arith, within))

-- And it is marked.
pub AreInjecting-sends : (cycle : ℕ) (parts : List Part) (injecting : Injecting)
    → AreInjecting parts injecting
    → AreSendersMarked cycle parts (marks_at injecting.slots (cycle % length injecting.slots))
AreInjecting-sends cycle parts injecting are number part at sends =
    let entry = entry-sends cycle part sends in
    let same = length-sends cycle parts injecting are number part at sends in
    are.marked number (cycle % length injecting.slots) entry.0
    (sym (entry_at-parts parts number (cycle % length injecting.slots))
    ∙ ap (λ (list : List (Option ℕ)). slice_index_or list (cycle % length injecting.slots) None)
    (table_at-parts parts number part at)
    ∙ ap (λ n. slice_index_or (entries_of part) (cycle % n) None) (sym same) ∙ entry.1)
    (ap (λ (found : Option Part). is_some (emitted (queue_in entry.0 found))) at ∙ entry.2)

-- A marked number is that of a component.
pub AreInjecting-below : (parts : List Part) (injecting : Injecting) → AreInjecting parts injecting
    → (number slot : ℕ) → bit_of (marks_at injecting.slots slot) number ≡ 1
    → number < length parts
AreInjecting-below parts injecting are number slot bit =
    let below = are.tables.below number slot bit in
    let count = length-map parts entries_of in
    omega (arith, below, count)

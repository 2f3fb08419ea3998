-- Which components send something of their own in a cycle, and in cycles whose slots come round again.
use Rattle.std.proofs.Common.{ℕ, ◌≡◌, ◌<◌, ◌≤◌, ◌+◌, ◌-◌, ◌*◌, ◌/◌, ◌%◌, ◌∙◌, ap, arith, is_some}
use Rattle.std.proofs.Common.{length, List, Option, true}
use Rattle.std.proofs.lemmas.Nat.{mod-mul-add}
use Rattle.std.proofs.Math.Nat.{mod-add-div'}
use Rattle.aeth_ni.{specs.Component.emitted_by, proofs.RestingLemmas.queue_at_cycle-round}
use Rattle.aeth_router.specs.declared.part.Part.{Part}
use Rattle.aeth_router.specs.declared.part.Part.TheVariants.{Interface, Router, Stage, TableRouter}
use Rattle.aeth_components.specs.{First.HasSender, Injecting.AreInjecting, Injecting.entries_of}
use Rattle.aeth_components.specs.{declared.injecting.Injecting.Injecting, FlitsOnWires.sends_own}
use Rattle.aeth_components.specs.{SlotMarks.marks_at}
use Rattle.aeth_components.proofs.MarkedSenders.{AreInjecting-sends, length-sends}
use Rattle.aeth_base.specs.Marks.{bit_of}

-- It sends in some cycle that is no more than a table behind another.
sends-round : (from cycle : ℕ) (part : Part) → 0 < length (entries_of part) → from ≤ cycle
    → sends_own cycle part ≡ true
    → (near : ℕ) × (from ≤ near) × (near < from + length (entries_of part)) × (near ≤ cycle)
    × (sends_own near part ≡ true)
sends-round from cycle (Interface ni) some over sends =
    let round = queue_at_cycle-round ni.entries from cycle some over in (
      round.0,
      round.1,
      round.2,
      round.3,
      ap (λ (entry : Option ℕ). is_some (emitted_by entry ni.queues)) round.4 ∙ sends,
    )
sends-round from cycle (Router router) some over sends = absurd (cc sends)
sends-round from cycle (TableRouter router) some over sends = absurd (cc sends)
sends-round from cycle (Stage stage) some over sends = absurd (cc sends)

module _ (parts : List Part) (injecting : Injecting) (are : AreInjecting parts injecting) where
  -- Where none sends in as many cycles as there are slots, none does in any behind them.
  pub none-round : (from cycle : ℕ)
      → ((other : ℕ) → from ≤ other → other < from + length injecting.slots → other ≤ cycle
      → HasSender parts other → ⊥)
      → from ≤ cycle → HasSender parts cycle → ⊥
  none-round from cycle none over sender =
      let part = sender.part in
      let size = length-sends cycle parts injecting are sender.number part sender.at sender.sends in
      let some = are.tables.places.some in
      let round = sends-round from cycle part (omega (arith, size, some)) over sender.sends in
      none round.0 round.1 (omega (arith, round.2, size)) round.3
      (record { number = sender.number; part = part; at = sender.at; sends = round.4 })

  -- Nor does one in whose slot none is marked.
  pub none-marked : (cycle : ℕ)
      → ((number : ℕ) → bit_of (marks_at injecting.slots (cycle % length injecting.slots)) number ≡ 1 → ⊥)
      → HasSender parts cycle → ⊥
  none-marked cycle none sender =
      none sender.number
      (AreInjecting-sends cycle parts injecting are sender.number sender.part sender.at sender.sends)

-- The slot of a cycle that is a few behind another in the same round.
pub mod-further : (slots from cycle : ℕ) → from ≤ cycle → from % slots + (cycle - from) < slots
    → cycle % slots ≡ from % slots + (cycle - from)
mod-further slots from cycle over less =
    let split = mod-add-div' from slots in
    let same : cycle ≡ from / slots * slots + (from % slots + (cycle - from)) = omega (arith, split, over) in
    ap (λ n. n % slots) same ∙ mod-mul-add (from / slots) slots (from % slots + (cycle - from)) less

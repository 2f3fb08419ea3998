-- A component that is asked what it sends in the slot of a cycle is asked for one of its own table.
use Rattle.std.proofs.Common.{ℕ, ◌≡◌, ◌<◌, ◌%◌, ◌∙◌, ap, arith, length, List, slice_get, Some, sym}
use Rattle.std.proofs.Math.Nat.{mod-lt}
use Rattle.aeth_router.specs.declared.part.Part.{Part}
use Rattle.aeth_components.specs.Injecting.{AreInjecting, entries_of}
use Rattle.aeth_components.specs.declared.injecting.Injecting.{Injecting}
use Rattle.aeth_components.proofs.MarkedSenders.{length-table}

module _ (cycle slot : ℕ) (parts : List Part) (injecting : Injecting)
    (are : AreInjecting parts injecting) (is : slot ≡ cycle % length injecting.slots)
    (number : ℕ) (part : Part) (at : slice_get parts number ≡ Some part) where
  -- It is the slot of the cycle there.
  pub slot-own : 0 < length (entries_of part) → cycle % length (entries_of part) ≡ slot
  slot-own some = ap (λ n. cycle % n) (length-table parts injecting are number part at some) ∙ sym is

  -- The table has it.
  pub slot-within : 0 < length (entries_of part) → slot < length (entries_of part)
  slot-within some =
      let own = slot-own some in
      let below = mod-lt cycle some in
      omega (arith, own, below)

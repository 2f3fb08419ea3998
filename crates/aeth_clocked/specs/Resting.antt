-- Components that rest: those that a half of a cycle leaves as they are.
--
--   RestsDrive, RestsLatch      a component that has nothing to drive, and one that has nothing to latch
--   HasNoFlit      links that are all empty
--   is_chosen, AllOthers      the components that take a turn, and what holds of all others
--
-- Idle hardware that isn't stepped: this project's own.
use Rattle.std.proofs.Common.{◌≡◌, ℕ, ◌==◌, Bool, true, false, List, Option, Some, None, slice_get}
use Rattle.std.specs.List.{list_any}
use Rattle.aeth_clocked.specs.{declared.flit.Flit.Flit, Wires.flit_on}

-- The wires have no flit on any link of the set.
abbrev pub HasNoFlit : (ℕ → Bool) → List (Option Flit) → Type 0
HasNoFlit links wires = (link : ℕ) → links link ≡ true → flit_on wires link ≡ None

-- A component rests from driving in a cycle: it emits nothing, is then as it was, and its outputs are
-- empty already.
pub record RestsDrive {P : Type 0} (outputs : P → ℕ → Bool) (emit : P → ℕ → ℕ → Option Flit)
    (after : P → ℕ → P) (cycle : ℕ) (wires : List (Option Flit)) (part : P) : Type 0 where
  pub silent : (link : ℕ) → outputs part link ≡ true → emit part cycle link ≡ None
  pub still : after part cycle ≡ part
  pub empty : HasNoFlit (outputs part) wires

-- A component rests from latching these wires: it is then as it was.
abbrev pub RestsLatch : {P : Type 0} → (P → List (Option Flit) → P) → List (Option Flit) → P → Type 0
RestsLatch absorb wires part = absorb part wires ≡ part

-- Whether a component is one of those that take a turn.
abbrev pub is_chosen : List ℕ → ℕ → Bool
is_chosen which number = list_any (λ other. other == number) which

-- Something holds of each component that takes none.
abbrev pub AllOthers : {P : Type 0} → List ℕ → (P → Type 0) → List P → Type 0
AllOthers {P} which IsSo parts =
    (number : ℕ) (part : P) → slice_get parts number ≡ Some part
    → is_chosen which number ≡ false → IsSo part

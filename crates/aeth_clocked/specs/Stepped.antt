-- What one cycle makes of components, between which nothing but wires passes.
-- Simultaneous components over shared wires: this project's own.
use Rattle.std.proofs.Common.{ℕ, Bool, List, map, Option}
use Rattle.aeth_clocked.specs.{declared.flit.Flit.Flit, Driven.driven_wires}

-- What the trait of components says of one: its outputs and inputs, what it emits on an output in
-- a cycle, what it is after that, and what it is once it has latched these wires.
pub record Meaning (P : Type 0) : Type 0 where
  pub outputs : P → ℕ → Bool
  pub inputs : P → ℕ → Bool
  pub emit : P → ℕ → ℕ → Option Flit
  pub after : P → ℕ → P
  pub absorb : P → List (Option Flit) → P

-- The components after a cycle: all have driven, the receivers have taken from them what they do,
-- and then each has latched the wires as all drove them.
abbrev pub stepped : {P : Type 0} → Meaning P → (List P → List P) → List P → ℕ → ℕ → List P
stepped meaning taken parts links cycle =
    let wires = driven_wires meaning.outputs meaning.emit parts links cycle in
    map (λ part. meaning.absorb part wires)
    (taken (map (λ part. meaning.after part cycle) parts))

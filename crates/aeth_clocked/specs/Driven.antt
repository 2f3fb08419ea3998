-- What components drive together. Each word takes what their trait says of one component: whether
-- a link is an output, and what is emitted on it in a cycle.
--
--   AreDisjoint, is_output    what are outputs, and that no two components share one
--   driven, driven_wires      the flit on a link, and the flits on all links
--
-- Simultaneous components over shared wires: this project's own.
use Rattle.std.proofs.Common.{◌≡◌, ℕ, Bool, true, if◌then◌else◌, List, [], ◌∷◌, map, Option, Some}
use Rattle.std.proofs.Common.{None, slice_get}
use Rattle.std.specs.List.{list_any, range_with_len}
use Rattle.aeth_clocked.specs.declared.flit.Flit.{Flit}

-- Different components have no output in common.
abbrev pub AreDisjoint : {P : Type 0} → (P → ℕ → Bool) → List P → Type 0
AreDisjoint {P} outputs parts =
    (i j link : ℕ) (part other : P)
    → slice_get parts i ≡ Some part → slice_get parts j ≡ Some other
    → outputs part link ≡ true → outputs other link ≡ true → i ≡ j

-- Whether a link is an output of some component.
abbrev pub is_output : {P : Type 0} → (P → ℕ → Bool) → List P → ℕ → Bool
is_output outputs parts link = list_any (λ part. outputs part link) parts

-- On each link the flit that the component with this output emits there, and nothing on a link
-- that is no component's output.
abbrev pub driven : {P : Type 0} → (P → ℕ → Bool) → (P → ℕ → ℕ → Option Flit) → List P
    → ℕ → ℕ → Option Flit
driven outputs emit [] cycle link = None
driven outputs emit (part ∷ parts) cycle link =
    if outputs part link then emit part cycle link else driven outputs emit parts cycle link

-- So many links, with what the components drive on each.
abbrev pub driven_wires : {P : Type 0} → (P → ℕ → Bool) → (P → ℕ → ℕ → Option Flit) → List P
    → ℕ → ℕ → List (Option Flit)
driven_wires outputs emit parts links cycle =
    map (driven outputs emit parts cycle) (range_with_len 0 links)

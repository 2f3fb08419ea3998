-- What components do to wires: a flit or none on each link, listed by link numbers. Sets of links
-- are tests.
-- Simultaneous components over shared wires: this project's own.
use Rattle.std.proofs.Common.{◌≡◌, ℕ, ◌<◌, ◌-◌, Bool, true, if◌then◌else◌, List, filter, length}
use Rattle.std.proofs.Common.{Option, Some, None, is_some, slice_get, unwrap_or}
use Rattle.std.specs.List.{range_with_len}
use Rattle.aeth_clocked.specs.declared.flit.Flit.{Flit}

-- The flit on a link.
abbrev pub flit_on : List (Option Flit) → ℕ → Option Flit
flit_on wires link = unwrap_or (slice_get wires link) None

-- Whether a link has a flit.
abbrev pub has_flit : List (Option Flit) → ℕ → Bool
has_flit wires link = is_some (flit_on wires link)

-- The links with a flit from one on, upwards.
abbrev pub used_from : List (Option Flit) → ℕ → List ℕ
used_from wires from = filter (has_flit wires) (range_with_len from (length wires - from))

-- Each link of the set is below the number of links.
abbrev pub AreLinks : (ℕ → Bool) → ℕ → Type 0
AreLinks links count = (link : ℕ) → links link ≡ true → link < count

-- The new wires have these flits on the outputs, and on all other links what the old ones have.
pub record Drives (outputs : ℕ → Bool) (flit_on : ℕ → Option Flit)
    (old new : List (Option Flit)) : Type 0 where
  pub links : length new ≡ length old
  pub at : (link : ℕ) → link < length old
      → slice_get new link ≡ (if outputs link then Some (flit_on link) else slice_get old link)

-- The wires have the same on each link of the set.
abbrev pub AgreeOn : (ℕ → Bool) → List (Option Flit) → List (Option Flit) → Type 0
AgreeOn links some other =
    (link : ℕ) → links link ≡ true → slice_get some link ≡ slice_get other link

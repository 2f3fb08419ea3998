-- How wires are kept: a flit at the place of each link, which counts where the link is marked. What
-- stands at the place of any other link is nobody's.
-- This project's own.
use Rattle.std.proofs.Common.{◌≡◌, ℕ, ◌<◌, ◌≤◌, ◌^◌, if◌then◌else◌, List, length, map, Option, None}
use Rattle.std.proofs.Common.{slice_get}
use Rattle.std.specs.List.{range_with_len}
use Rattle.aeth_base.specs.Marks.{bit_of, is_marked, room_of}
use Rattle.aeth_clocked.specs.declared.flit.Flit.{Flit}

-- The flit at the place of a link that is marked, and none for any other.
abbrev pub marked_flit : List ℕ → List Flit → ℕ → Option Flit
marked_flit marks flits link = if is_marked marks link then slice_get flits link else None

-- This for each link.
abbrev pub marked_wires : List ℕ → List Flit → List (Option Flit)
marked_wires marks flits = map (marked_flit marks flits) (range_with_len 0 (length flits))

-- Marks of so many links, and of no number past them.
pub record AreMarksOf (links : ℕ) (marks : List ℕ) : Type 0 where
  pub few : links < 2 ^ 32
  pub room : links < room_of marks
  pub past : (link : ℕ) → links ≤ link → bit_of marks link ≡ 0

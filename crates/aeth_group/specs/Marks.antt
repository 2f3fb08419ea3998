-- Tables of marks, a mark for each pair of use cases, row by row, and their closing.
--
--   places, pair_place      how many places a table has, and that of a pair
--   marked, with_mark, unmarked      whether a pair is marked, a table with one more mark, and how
--                                    many marks a table lacks
--   IsTransitive, IsWithin, LeadsOver      what tests and tables may have
--   Extends, Spreads      marks were added that lie in each transitive test of the old ones
--   IsClosure      the least transitive table over another
--   IsPair      two use cases that are one, or smooth
-- This project's own.
use Rattle.std.proofs.Common.{◌≡◌, ◌<◌, ◌+◌, ◌*◌, ◌⊎◌, ◌&&◌, nat_lt, ℕ, Bool, true, not, List}
use Rattle.std.proofs.Common.{IsTrue, length, count_by, slice_set}
use Rattle.std.specs.Bool.{OnFalse, OnTrue}
use Rattle.aeth_app.specs.{App.UseData, App.is_marked, App.is_smooth, Limits.max_uses}

-- How many places a table has.
abbrev pub places : ℕ
places = max_uses * max_uses

-- The place of a pair in a table.
abbrev pub pair_place : ℕ → ℕ → ℕ
pair_place u v = max_uses * u + v

-- Whether a pair is marked; one outside of the table isn't.
abbrev pub marked : List Bool → ℕ → ℕ → Bool
marked marks u v = nat_lt u max_uses && nat_lt v max_uses && is_marked marks (pair_place u v)

-- The table with one more pair marked.
abbrev pub with_mark : List Bool → ℕ → ℕ → List Bool
with_mark marks u v = slice_set marks (pair_place u v) true

-- How many marks a table lacks.
abbrev pub unmarked : List Bool → ℕ
unmarked marks = count_by not marks

-- A test that holds from a first to a second and from this to a third holds from the first to the
-- third.
abbrev pub IsTransitive : (ℕ → ℕ → Bool) → Type 0
IsTransitive test = (u w v : ℕ) → IsTrue (test u w) → IsTrue (test w v) → IsTrue (test u v)

-- The test holds of each marked pair.
abbrev pub IsWithin : List Bool → (ℕ → ℕ → Bool) → Type 0
IsWithin marks test = (u v : ℕ) → IsTrue (marked marks u v) → IsTrue (test u v)

-- What a first is marked with over a second, it is marked with.
abbrev pub LeadsOver : List Bool → ℕ → ℕ → Type 0
LeadsOver marks u w = (v : ℕ) → IsTrue (marked marks u w) → IsTrue (marked marks w v)
    → IsTrue (marked marks u v)

-- Marks were added, all of them within each transitive test that holds of the old marks.
pub record Extends (old new : List Bool) : Type 0 where
  pub kept : (u v : ℕ) → IsTrue (marked old u v) → IsTrue (marked new u v)
  pub least : (test : ℕ → ℕ → Bool) → IsTransitive test → IsWithin old test → IsWithin new test

-- Marks were added, if any, within each transitive test; and whether any was.
pub record Spreads (old new : List Bool) (added : Bool) : Type 0 where
  pub extends : Extends old new
  pub fewer : OnTrue added (unmarked new < unmarked old)
  pub same : OnFalse added (new ≡ old)

-- The new table is the least transitive one that has the marks of the old.
pub record IsClosure (old new : List Bool) : Type 0 where
  pub extends : Extends old new
  pub closed : IsTransitive (marked new)

-- Two use cases that are one, or smooth.
pub record IsPair (uses : List UseData) (u v : ℕ) : Type 0 where
  pub first : u < length uses
  pub second : v < length uses
  pub joined : (u ≡ v) ⊎ IsTrue (is_smooth uses u v)

-- What switches between two use cases change, whenever they come.
--
--   IsChange, AreChanges      what a switch between two use cases changes, and some of these
-- Slot tables that are written while the network runs: after Æthereal (2005). Once for each pair of use cases: this
-- project's own.
use Rattle.std.proofs.Common.{◌≡◌, ◌<◌, ℕ, All, List, length, map}
use Rattle.aeth_group.specs.Members.{GroupsData}
use Rattle.aeth_ni.specs.Program.{program_of}
use Rattle.aeth_schedule.specs.{ByLine.line_at, Lines.changed_lines, Lines.lines_at}
use Rattle.aeth_schedule.specs.{declared.lines.Line.Line}
use Rattle.aeth_scheduling.specs.{Made.changed_rows, declared.changes.Change.Change}

module _ (groups : GroupsData) (all : List (List Line)) where
  -- What a switch from use case u to use case v changes: the rows of the channels that it closes, the writes that bring
  -- the tables from one to the other, and the places of the lines of the channels that it opens.
  pub record IsChange (u v : ℕ) (change : Change) : Type 0 where
    pub closing : change.closing.items ≡ changed_rows groups u v (lines_at all u)
    pub writes : change.writes.items ≡ program_of (changed_rows groups u v (lines_at all u))
        (changed_rows groups u v (lines_at all v))
    pub within : All (λ place. place < length (lines_at all v)) change.opening.items
    pub opening : map (line_at all v) change.opening.items ≡ changed_lines groups u v (lines_at all v)

  -- Each of them is what a switch between its use cases changes.
  abbrev pub AreChanges : List Change → Type 0
  AreChanges changes = All (λ change. IsChange change.from.0 change.to.0 change) changes

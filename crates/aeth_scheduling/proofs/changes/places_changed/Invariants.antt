use Rattle.std.proofs.Common.{◌≡◌, ◌<◌, All, length, map, take}
use Rattle.std.specs.List.{slice_index_or}
use Rattle.aeth_schedule.specs.{ByLine.no_line, Lines.changed_lines}
use Rattle.aeth_scheduling.proofs.changes.places_changed.Given as goal

-- The places so far are those of lines, and these are the ones so far that the switch doesn't keep.
abbrev pub invariant-loop-place : goal.invariant-loop-place
invariant-loop-place l = record {
  within : All (λ place. place < length l.lines) l.places.items;
  lines : map (λ place. slice_index_or l.lines place no_line) l.places.items
      ≡ changed_lines l.groups l.from.0 l.to.0 (take l.place l.lines);
}

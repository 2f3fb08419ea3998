use Rattle.std.proofs.Common.{◌≡◌, ◌≤◌, ◌<◌, ◌-◌, ◌*◌, ◌^◌, length, set}
use Rattle.aeth_base.specs.Marks.{marked_from, room_of}
use Rattle.aeth_base.proofs.marked.Marked.take_first.Given as goal

-- The same numbers are to come.
abbrev pub invariant-loop-self : goal.invariant-loop-self
invariant-loop-self l = record {
  view : marked_from (set l.self-inside.masks.now l.self-inside.place l.self-inside.rest)
      (64 * l.self-inside.place) ≡ l.fn.self;
  within : l.self-inside.place ≤ length l.self-inside.masks.now;
  none : length l.self-inside.masks.now ≤ l.self-inside.place → l.self-inside.rest ≡ 0;
  small : l.self-inside.rest < 2 ^ 64;
  few : room_of l.self-inside.masks.now ≤ 2 ^ 64;
}

abbrev pub decreases-loop-self : goal.decreases-loop-self
decreases-loop-self l = length l.self-inside.masks.now - l.self-inside.place

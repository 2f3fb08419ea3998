use Rattle.std.proofs.Common.{◌≤◌}
use Rattle.aeth_text.specs.Limits.{comma, max_number}
use Rattle.aeth_text.proofs.{Cuts.IsFreeBefore, NumberWords.IsReadTo}
use Rattle.aeth_text.proofs.numbers.short_number.Given as goal

-- No byte so far is a comma, and the number is that of the digits so far.
abbrev pub invariant-digits : goal.invariant-digits
invariant-digits l = record {
  free : IsFreeBefore comma l.list l.i;
  read : IsReadTo l.list l.i l.value;
  within : l.value ≤ max_number;
}

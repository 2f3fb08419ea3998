use Rattle.aeth_base.proofs.NumberReading.{IsReadTo}
use Rattle.aeth_base.proofs.number.read_number.Given as goal

-- The number is that of the digits so far.
abbrev pub invariant-digits : goal.invariant-digits
invariant-digits l = IsReadTo l.text l.i l.value

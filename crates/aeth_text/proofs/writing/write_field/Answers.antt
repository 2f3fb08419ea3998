use Rattle.std.proofs.{Common.◌-◌, Common.arith, Common.length-set, lemmas.Fmt.length-decimal-le}
use Rattle.aeth_text.specs.Limits.{field_room}
use Rattle.aeth_text.proofs.writing.write_field.Goals as goal

-- The number's digits have room before the byte.
pub write_digits-requires : goal.write_digits-requires
write_digits-requires c =
    let short = length-decimal-le (field_room - 1) c.args.number (omega arith)
    (omega (arith, c.ranges.number.fits)) (omega (arith, c.ranges.number.fits)) in
    let least = c.requires.least in
    let most = c.requires.most in
    let same = length-set c.args.line.now (c.args.end - 1) c.args.after in
    (omega arith, omega arith)

-- They have few digits.
pub returns-clause-within : goal.returns-clause-within
returns-clause-within c =
    let short = length-decimal-le (field_room - 1) c.args.number (omega arith)
    (omega (arith, c.ranges.number.fits)) (omega (arith, c.ranges.number.fits)) in
    let start = c.write_digits.ensures.start in
    let least = c.requires.least in
    omega arith

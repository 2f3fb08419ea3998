use Rattle.std.proofs.Common.{◌≡◌, ◌+◌, ◌-◌, length, length-append, arith}
use Rattle.std.specs.List.{flat_map}
use Rattle.aeth_ni.specs.Program.{closing_writes, opening_writes}
use Rattle.aeth_ni.proofs.SwitchLemmas.{entered-held, entered-while_opening, left-while_closing}
use Rattle.aeth_ni.proofs.laws.programs_lead_to_the_use_case_entered.Goals as goal

-- While channels close.
pub returns-clause-closing : goal.returns-clause-closing
returns-clause-closing c = left-while_closing

-- Once all have closed.
pub returns-clause-opening : goal.returns-clause-opening
returns-clause-opening c = λ left entered kept closing opening switch count entry past has.
    let closes = length (flat_map closing_writes closing) in
    let is : closes + (count - closes) ≡ count = omega arith in
    entered-while_opening left entered kept closing opening switch (count - closes) entry
    (rw is has)

-- Behind the last write.
pub returns-clause-behind : goal.returns-clause-behind
returns-clause-behind c = λ left entered kept closing opening switch apart entry has.
    rw (length-append (flat_map closing_writes closing) (flat_map opening_writes opening))
    (entered-held left entered kept closing opening switch apart entry has)

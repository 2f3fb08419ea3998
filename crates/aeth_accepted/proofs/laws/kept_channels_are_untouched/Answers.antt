use Rattle.aeth_group.specs.Members.{groups_of}
use Rattle.aeth_accepted.{specs.Inputs.design_of, specs.Inputs.row_at, proofs.ApartRows.all_apart}
use Rattle.aeth_accepted.proofs.laws.kept_channels_are_untouched.Goals as goal

-- After each number of writes.
pub returns-clause-within : goal.returns-clause-within
returns-clause-within c = λ inputs accepted.
    c.entries_stay_within.ensures.within (groups_of inputs.app) (row_at (design_of inputs))

-- No two channels of a use case share a queue or a slot.
pub returns-clause-untouched : goal.returns-clause-untouched
returns-clause-untouched c = λ inputs accepted u v.
    c.kept_channels_are_untouched.ensures (groups_of inputs.app) (row_at (design_of inputs)) u v
    (all_apart inputs accepted u) (all_apart inputs accepted v)

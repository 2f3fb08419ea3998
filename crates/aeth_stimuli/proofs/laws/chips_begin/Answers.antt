use Rattle.aeth_stimuli.proofs.ChipBegins.{empty}
use Rattle.aeth_stimuli.proofs.laws.chips_begin.Goals as goal

-- Component by component.
pub returns : goal.returns
returns c = empty

use Rattle.aeth_reconf.proofs.RowLemmas.{untouched}
use Rattle.aeth_reconf.proofs.laws.kept_channels_are_untouched.Goals as goal

-- A kept channel is in a use case with each one that closes or opens.
pub returns : goal.returns
returns c = untouched

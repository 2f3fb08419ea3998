use Rattle.aeth_app.proofs.AppFileLemmas.{app_of-kept}
use Rattle.aeth_app.proofs.laws.files.Goals as goal

pub returns : goal.returns
returns c = app_of-kept

use Rattle.std.proofs.lemmas.Option.{get_or_from_slice_get, slice_get_within}
use Rattle.aeth_app.proofs.laws.fixed_cores.Goals as goal

-- The core is among those of the application.
pub returns : goal.returns
returns c = λ chip app is_app i core ni at fixed. is_app.known core ni
    (i, slice_get_within app.cores i core at, get_or_from_slice_get app.cores i core core at) fixed

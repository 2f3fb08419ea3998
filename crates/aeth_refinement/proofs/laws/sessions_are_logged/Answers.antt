use Rattle.aeth_refinement.proofs.Logged.{tells-on}
use Rattle.aeth_refinement.proofs.laws.sessions_are_logged.Goals as goal

-- A channel that isn't open stays.
pub returns : goal.returns
returns c = λ sessions channel events t more old ready new prepares cycle follows.
    tells-on sessions channel events t more old ready new c.turns_are_taken_alone.ensures.refilling
    c.turns_are_taken_alone.ensures.taking prepares cycle follows

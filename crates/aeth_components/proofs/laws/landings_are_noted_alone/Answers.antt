use Rattle.aeth_components.proofs.laws.landings_are_noted_alone.Goals as goal
use Rattle.aeth_components.proofs.NoteLemmas.{NotesAlone-holds}

-- Each at the places of its own words.
pub returns : goal.returns
returns c = λ cycle parts channel_states landings. NotesAlone-holds cycle parts channel_states
    landings

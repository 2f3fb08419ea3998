use Rattle.aeth_chain.proofs.DueLemmas.{due-landed}
use Rattle.aeth_chain.proofs.laws.chains_land.Goals as goal

-- The legs are granted what they ask for, since sessions by the tables are.
pub returns : goal.returns
returns c = λ inputs u items shapes tabled chain words.
    due-landed c.runs_are_sound.ensures.granted inputs u items shapes tabled chain words

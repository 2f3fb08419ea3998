use Rattle.aeth_accepted.specs.{Inputs.run_of, Wishes.latency_at}
use Rattle.aeth_accepted.proofs.Wished.{need_at, waits_alone}
use Rattle.aeth_accepted.proofs.laws.words_land_in_time.Goals as goal

-- The run is sound, and the channel is granted what it asks for.
pub returns-clause-lands : goal.returns-clause-lands
returns-clause-lands c = λ inputs accepted channel session has.
    let sound = c.runs_are_sound.ensures in
    c.due_words_land.ensures.lands (run_of inputs) (sound.sound inputs accepted) accepted.words.order
    channel session has (sound.granted inputs accepted channel session has)

pub returns-clause-in_time : goal.returns-clause-in_time
returns-clause-in_time c = λ inputs accepted channel session has.
    let sound = c.runs_are_sound.ensures in
    c.due_words_land.ensures.in_time (run_of inputs) (sound.sound inputs accepted)
    accepted.words.order channel session has (sound.granted inputs accepted channel session has)

pub returns-clause-alone : goal.returns-clause-alone
returns-clause-alone c = λ inputs accepted channel session has.
    let sound = c.runs_are_sound.ensures in
    c.single_words_land.ensures (run_of inputs) (sound.sound inputs accepted) accepted.words.order
    channel session has (sound.granted inputs accepted channel session has)

-- The slots are suitable for what the channel wishes.
pub returns-clause-wished : goal.returns-clause-wished
returns-clause-wished c = λ inputs accepted channel session has i a offered.
    let sound = c.runs_are_sound.ensures in
    let run_sound = sound.sound inputs accepted in
    c.single_words_land.ensures (run_of inputs) run_sound accepted.words.order channel session has
    (sound.granted inputs accepted channel session has) (need_at inputs channel) i a
    (latency_at inputs channel) (waits_alone inputs accepted run_sound channel session has i a offered)

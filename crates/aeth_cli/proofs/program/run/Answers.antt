use Rattle.aeth_cli.proofs.PromiseLemmas.{Promise-ended}
use Rattle.aeth_cli.proofs.program.run.Goals as goal

-- The text of the answer was written, or a sink failed.
pub returns-in-Ok : goal.returns-in-Ok
returns-in-Ok g c =
    let ends = c.end_with.ensures in
    rw c.number.ensures
    (Promise-ended
    (record { headers = g.M.Machine.outcome; tables = g.T.Machine.outcome })
    g.H.Shelf g.O.Sink g.E.Sink _ _ _ c.in-Ok.ensures.after c.in-Ok.answer c.in-Ok.ensures.answers ends.out_later ends.err_later _ ends)

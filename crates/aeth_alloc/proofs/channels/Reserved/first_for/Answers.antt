use Rattle.std.proofs.Common.{◌∙◌}
use Rattle.aeth_alloc.proofs.FoundLemmas.{first-for-answer}
use Rattle.aeth_alloc.proofs.channels.Reserved.first_for.Goals as goal

-- What the search finds is the first candidate.
pub returns-clause-first : goal.returns-clause-first
returns-clause-first g c =
    first-for-answer _ _ _ _ c.args.connection.now c.args.unit c.args.side c.sender-from.result
    c.receiver-to.result _ _ _ _ c.design.view_is c.self.view_is c.sender-from.ensures
    c.receiver-to.ensures c.design.invariant.chip c.list-grants.ensures.book c.requires.reserved
    c.request_of-ask.ensures (c.deref.ensures.value ∙ c.in_ok-senders.ensures)
    (c.deref-2.ensures.value ∙ c.in_ok-receivers.ensures)
    (c.deref-3.ensures.value ∙ c.in_ok-crowded.ensures) c.find.result c.find.ensures

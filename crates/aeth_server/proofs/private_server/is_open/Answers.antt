use Rattle.std.proofs.Common.{◌%◌, ◌∙◌, ap}
use Rattle.aeth_server.proofs.SlotCycleLemmas.{is_slot-answer}
use Rattle.aeth_server.proofs.private_server.is_open.Goals as goal

-- The set's answer is the test of the cycle's slot.
pub returns-then-may_send : goal.returns-then-may_send
returns-then-may_send c =
    let same = ap (λ size. c.args.t % size) (c.from.ensures ∙ c.size.ensures.size) in
    rw c.if-may_send.true (is_slot-answer _ _ c.args.t _ _ same c.has.ensures.0 c.has.ensures.1)

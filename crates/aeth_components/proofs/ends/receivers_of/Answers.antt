use Rattle.std.proofs.Common.{◌+◌, ◌∙◌, List, ℕ, ap, arith, length, subst, sym}
use Rattle.aeth_base.proofs.Lists.{item-at, written_back}
use Rattle.aeth_components.proofs.ReceiverLemmas.{ReceiversTo, ReceiversTo-all, ReceiversTo-more}
use Rattle.aeth_components.proofs.ends.receivers_of.Goals as goal

-- Each receiver so far is one of the components.
pub note_link-requires-clause-below : goal.note_link-requires-clause-below
note_link-requires-clause-below c =
    rw c.deref_mut.ensures.value (c.loop-link.invariant c.slots.ensures.chip).below

-- The wires of one link more have their receivers.
pub loop-link-preserved : goal.loop-link-preserved
loop-link-preserved c = λ is_chip.
    let chip = c.args.chip.now in
    let link = c.loop-link.link in
    let now = c.loop-link.receivers in
    let test = c.loop-link-test.true in
    let count = c.links-link-end.ensures.links in
    let found = item-at chip.links link (omega arith) in
    subst (λ (receivers : List ℕ). ReceiversTo chip is_chip receivers (link + 1))
    (sym (written_back now.items c.note_link.new.receivers now.len now.ok.0
    (c.note_link.auto.receivers ∙ ap length c.deref_mut.ensures.value)))
    (ReceiversTo-more chip is_chip c.deref_mut.result.now c.note_link.new.receivers link found.0
    (rw c.deref_mut.ensures.value (c.loop-link.invariant is_chip)) found.1
    (rw found.1 at c.note_link.ensures))

-- All wires have.
pub returns : goal.returns
returns c =
    let test = c.loop-link-test.false in
    let count = c.links-link-end.ensures.links in
    ReceiversTo-all c.args.chip.now c.slots.ensures.chip c.loop-link.receivers.items
    c.loop-link.link (c.loop-link.invariant c.slots.ensures.chip) (omega arith)

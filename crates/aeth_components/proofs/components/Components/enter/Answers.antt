use Rattle.std.proofs.Common.{◌≡◌, ◌++◌, ◌∙◌, ap, drop, length, refl, sym, take}
use Rattle.aeth_components.proofs.components.Components.enter.Goals.{After-enter_all}
use Rattle.aeth_components.proofs.EnteringLemmas.{IsComponents-entered, wirings-entered}
use Rattle.aeth_components.proofs.EnteringLemmas.{queue_of-entered, tables-entered, ways-entered}
use Rattle.aeth_components.proofs.RoomLemmas.{IsFull-entered}
use Rattle.aeth_components.proofs.SeenCycle.{TakesRows-bare, with_rows-seen}
use Rattle.aeth_components.proofs.WaitingLemmas.{AreEnqueuing-kept}
use Rattle.aeth_components.proofs.MarkedActiveLemmas.{AreInjecting-kept}
use Rattle.aeth_components.specs.{Components.components_of, Entering.with_rows}
use Rattle.aeth_base.proofs.Lists.{written_back}
use Rattle.aeth_components.proofs.components.Components.enter.Goals as goal

-- The rows are in range of the routers, whatever these hold.
pub enter_all-requires : goal.enter_all-requires
enter_all-requires c =
    let all = c.self.inside in
    rw c.deref_mut.ensures.value (TakesRows-bare all.wires c.args.rows.now all.parts.items
    (rw (← c.self.view_is) at c.requires))

-- The vector has the components with their rows.
written : (c : goal.After-enter_all)
    → take c.self.inside.parts.len (c.enter_all.new.parts
    ++ drop (length c.enter_all.new.parts) c.self.inside.parts.items)
    ≡ with_rows c.args.rows.now c.self.inside.parts.items
written c =
    written_back c.self.inside.parts.items c.enter_all.new.parts c.self.inside.parts.len
    c.self.inside.parts.ok.0 (c.enter_all.auto.parts ∙ ap length c.deref_mut.ensures.value)
    ∙ c.enter_all.ensures ∙ ap (with_rows c.args.rows.now) c.deref_mut.ensures.value

-- What holds of components still holds.
pub invariant_of-self : goal.invariant_of-self
invariant_of-self c =
    let all = c.self.inside in
    let rows = c.args.rows.now in
    let parts = all.parts.items in
    rw (written ((goal.at.invariant_of-self c).After-enter_all)) (
      IsComponents-entered rows (components_of parts all.wires all.channels.channel_states
          all.channels.words all.counts.landings.items all.counts.flits.items) c.self.invariant.0,
      rw (wirings-entered rows parts, ways-entered rows parts) c.self.invariant.1,
      AreInjecting-kept parts (with_rows rows parts) all.turns.injecting c.self.invariant.2
          (tables-entered rows parts)
          (λ other queue may. rw (sym (queue_of-entered rows parts other queue)) may),
      AreEnqueuing-kept parts (with_rows rows parts) all.channels.channel_states all.enqueuing
          (IsFull-entered rows parts) c.self.invariant.3,
    )

-- Rows make no difference to what routers hold.
pub returns : goal.returns
returns c =
    let all = c.self.inside in
    rw (
      written ((goal.at.returns c).After-enter_all),
      ← c.self.view_is,
      with_rows-seen all.wires c.args.rows.now all.parts.items,
    ) refl

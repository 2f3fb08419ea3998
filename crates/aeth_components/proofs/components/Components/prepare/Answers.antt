use Rattle.std.proofs.Common.{◌≡◌, ◌++◌, ◌∙◌, ap, drop, length, refl, take}
use Rattle.aeth_components.proofs.{components.Components.prepare.Goals.After-switch}
use Rattle.aeth_components.proofs.{CycleLemmas.IsComponents-switched, SeenPhases.ways-switched}
use Rattle.aeth_components.proofs.{PartLemmas.wirings-switched, ReadyLemmas.AreReady-noted}
use Rattle.aeth_components.proofs.{RoomLemmas.IsFull-switched}
use Rattle.aeth_components.proofs.{WaitingLemmas.AreEnqueuing-marked_active}
use Rattle.aeth_components.proofs.{SeenLemmas.wirings-seen, SeenLemmas.switched-seen}
use Rattle.aeth_components.specs.{Changes.switched, Components.components_of, Enqueuing.HasEvent}
use Rattle.aeth_base.proofs.Lists.{written_back}
use Rattle.aeth_components.proofs.components.Components.prepare.Goals as goal

-- The events suit the components, whatever these hold.
pub switch-requires-clause-events : goal.switch-requires-clause-events
switch-requires-clause-events c =
    let all = c.self.inside in
    rw (c.deref_mut.ensures.value, ← wirings-seen all.wires all.parts.items)
    (rw (← c.self.view_is) at c.requires)

-- The vector has what events make of the components.
written : (c : goal.After-switch)
    → take c.self.inside.parts.len (c.switch.new.parts
    ++ drop (length c.switch.new.parts) c.self.inside.parts.items)
    ≡ switched c.args.events.now c.self.inside.parts.items
written c =
    written_back c.self.inside.parts.items c.switch.new.parts c.self.inside.parts.len
    c.self.inside.parts.ok.0 (c.switch.auto.parts ∙ ap length c.deref_mut.ensures.value)
    ∙ c.switch.ensures.parts ∙ ap (switched c.args.events.now) c.deref_mut.ensures.value

-- What holds of components still holds.
pub invariant_of-self : goal.invariant_of-self
invariant_of-self c =
    let all = c.self.inside in
    let events = c.args.events.now in
    rw (written ((goal.at.invariant_of-self c).After-switch)) (
      IsComponents-switched events
          (components_of all.parts.items all.wires all.channels.channel_states
          all.channels.words all.counts.landings.items all.counts.flits.items) c.self.invariant.0,
      rw (wirings-switched events all.parts.items, ways-switched events all.parts.items)
          (AreReady-noted c.self.invariant.1),
      rw (c.switch.ensures.parts, c.deref_mut.ensures.value) at c.switch.ensures.injecting,
      AreEnqueuing-marked_active (HasEvent events) all.parts.items (switched events all.parts.items)
          all.channels.channel_states all.enqueuing c.mark_active_for.new.self
          c.mark_active_for.ensures
          (IsFull-switched events all.parts.items) c.self.invariant.3,
    )

-- Events make no difference to what routers and stages hold.
pub returns : goal.returns
returns c =
    let all = c.self.inside in
    rw (
      written ((goal.at.returns c).After-switch),
      ← c.self.view_is,
      switched-seen all.wires c.args.events.now all.parts.items,
    ) refl

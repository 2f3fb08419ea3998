use Rattle.std.proofs.Common.{◌==◌, ◌∙◌, ap, length, map, sym, subst}
use Rattle.aeth_base.proofs.Lists.{written_back}
use Rattle.aeth_components.proofs.AmongLemmas.{StaysAtHome-among, stays}
use Rattle.aeth_components.proofs.CountingLemmas.{brings-none}
use Rattle.aeth_components.proofs.HomeLemmas.{AreHomes-map, AreMarked-map}
use Rattle.aeth_components.specs.{Busy.IsChannelIdle, Counting.counted_among}
use Rattle.aeth_components.proofs.channels.Channels.count_at.Goals as goal

-- What is noted of the channels stays so.
pub invariant_of-self : goal.invariant_of-self
invariant_of-self c =
    let all = c.self.inside in
    let channel_states = all.channel_states.items in
    let parts = c.args.parts.now in
    let count = counted_among (λ i. i == c.args.number) c.args.cycle parts in
    let written =
    written_back channel_states c.count_received.new.channel_states all.channel_states.len
    all.channel_states.ok.0
    (c.count_received.auto.channel_states ∙ ap length c.deref_mut.ensures.value) in
    let are = written ∙ c.count_received.ensures.channel_states
    ∙ ap (map count) c.deref_mut.ensures.value in
    record {
      idle = rw are (AreMarked-map IsChannelIdle all.busy channel_states count
          (λ channel_state idle. subst IsChannelIdle
          (sym (stays c.args.cycle parts (λ i. i == c.args.number) channel_state
          (λ here. brings-none parts channel_state idle.landed)).0) idle) c.self.invariant.idle);
      takes = rw written c.count_received.ensures.taking;
      places = rw are (AreHomes-map all.homes channel_states count
          (StaysAtHome-among c.args.cycle parts (λ i. i == c.args.number)) c.self.invariant.places);
    }

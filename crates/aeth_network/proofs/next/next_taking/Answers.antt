use Rattle.std.proofs.Common.{List, subst}
use Rattle.aeth_components.specs.declared.channel_state.ChannelState.{ChannelState}
use Rattle.aeth_network.specs.Next.{HasAsker, HasRowTaker, IsFirstKnown}
use Rattle.aeth_network.proofs.AskerLemmas.{asker-known}
use Rattle.aeth_network.proofs.KnownFirsts.{first-of, known-both}
use Rattle.aeth_network.proofs.next.next_taking.Goals as goal

-- A receiver that takes does as it stands, or by a row.
pub returns-then-time-to : goal.returns-then-time-to
returns-then-time-to c =
    let takes = c.args.takes.now in
    let place = c.args.place in
    first-of (known-both
    (asker-known c.args.components.now.channel_states takes c.requires.order place)
    c.next_by_pulls-next.ensures
    (subst (λ (channel_states : List ChannelState). IsFirstKnown
    (HasRowTaker channel_states takes place)
    (HasAsker channel_states takes place) c.args.time c.next_by_pulls-next.result
    c.next_by_rows.result)
    c.channel_states.ensures c.next_by_rows.ensures))

use Rattle.std.proofs.{Common.[], Common.map, Common.append_assoc, lemmas.List.map-append}
use Rattle.aeth_report.specs.Channels.{channels_of, channels_with}
use Rattle.aeth_network.{specs.Records.channel_from, proofs.RowLemmas.channels_of-more}
use Rattle.aeth_network.proofs.making_log.first_channels.Goals as goal

-- The channels of one connection more.
pub loop-c-preserved : goal.loop-c-preserved
loop-c-preserved c =
    let made = channel_from [] 0 [] in
    rw (
      c.in_ok-push-2.ensures.items,
      c.in_ok-push.ensures.items,
      c.in_ok-fwd.ensures,
      c.in_ok-back.ensures,
      c.loop-c.invariant,
      channels_of-more c.loop-c.c,
      map-append made (channels_of c.loop-c.c) (channels_with c.loop-c.c),
    )
    (append_assoc (map made (channels_of c.loop-c.c)) _ _)

use Rattle.std.proofs.Common.{append_assoc}
use Rattle.aeth_base.specs.declared.ids.Side.TheVariants.{Back, Fwd}
use Rattle.aeth_schedule.specs.Values.{values_on}
use Rattle.aeth_schedule.proofs.placing.push_connection.Goals as goal

-- First those of the one channel, then those of the other.
pub returns : goal.returns
returns c =
    rw (
      c.in_ok-push_channel.ensures,
      c.forward.ensures,
      c.backward.ensures,
      append_assoc c.args.values.now.items
          (values_on c.args.words.now (record { conn = c.args.conn; side = Fwd }))
          (values_on c.args.words.now (record { conn = c.args.conn; side = Back })),
    )
    at c.push_channel-2.ensures

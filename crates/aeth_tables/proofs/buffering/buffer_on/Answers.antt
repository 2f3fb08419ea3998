use Rattle.std.proofs.Common.{sym, subst}
use Rattle.aeth_server.specs.{ChannelShape.IsShapeInRange, declared.shape.ChannelShape.ChannelShape}
use Rattle.aeth_tables.proofs.ShapeRanges.{shape_in_range}
use Rattle.aeth_tables.proofs.buffering.buffer_on.Goals as goal

-- The shape is in its range.
pub buffer-requires : goal.buffer-requires
buffer-requires c =
    subst (λ (shape : ChannelShape). IsShapeInRange shape) (sym c.shape_on.ensures)
    (shape_in_range c.args.chip.now c.args.app.now c.requires.chip c.requires.app
    c.args.granted.now c.requires.granted c.args.side)

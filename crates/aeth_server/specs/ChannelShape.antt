-- A `ChannelShape` as the shape of a channel.
use Rattle.std.proofs.Common.{◌*◌, ◌≤◌, ◌≡◌, length}
use Rattle.aeth_base.specs.Limits.{credits_per_flit, max_path_delay, max_receiver_delay}
use Rattle.aeth_base.specs.Limits.{words_per_flit}
use Rattle.aeth_server.specs.{declared.shape.ChannelShape.ChannelShape, Shape.Shape}

-- The rate is that of the need: a flit of words in each slot that is needed.
abbrev pub shape_of : ChannelShape → Shape
shape_of shape = record {
  size = shape.slots.size;
  slots = shape.slots.slots;
  path_delay = shape.links;
  rate = words_per_flit * shape.need;
  receiver_delay = shape.delay;
  back_slots = shape.back.slots;
  back_path_delay = shape.back_links;
}

-- What every call asks of a shape: slots for the need and for its credits, in tables of one size,
-- and path delays and a receiver's delay within their limits.
pub record IsShapeInRange (shape : ChannelShape) : Type 0 where
  pub least_need : 1 ≤ shape.need
  pub capacity : shape.need ≤ length shape.slots.slots
  pub back_capacity : words_per_flit * shape.need ≤ credits_per_flit * length shape.back.slots
  pub same_size : shape.slots.size ≡ shape.back.size
  pub least_links : 2 ≤ shape.links
  pub most_links : shape.links ≤ max_path_delay
  pub least_back : 2 ≤ shape.back_links
  pub most_back : shape.back_links ≤ max_path_delay
  pub most_delay : shape.delay ≤ max_receiver_delay

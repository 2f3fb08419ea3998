-- The items of a chain in a use case, by names of connections; or the first rule that they break, each rule
-- over all items before the next.
--
--   conn_of, item_of      the connection of a name, and the item
--   first_core, last_core      where a channel begins and ends
--   keeps, are_kept      whether the item at a place keeps a rule, and whether all do
--   items_of      the items, or the first broken rule
--   AreItemsOf      what holds of the items
-- This project's own.
use Rattle.std.proofs.Common.{ℕ, ◌≡◌, ◌≤◌, ◌<◌, ◌+◌, ◌-◌, ◌==◌, ◌||◌, Bool, true, not, All, List}
use Rattle.std.proofs.Common.{[], ◌∷◌, Option, Result, Ok, Err, if◌then◌else◌, length, map, nat_lt}
use Rattle.std.proofs.Common.{nat_eq, option_map, position, slice_get, take, unwrap_or}
use Rattle.std.specs.{List.list_any, List.slice_index_or, Option.option_eq, Str.bytes_eq}
use Rattle.aeth_base.specs.Faults.{BrokenRule}
use Rattle.aeth_base.specs.declared.ids.{Channel.Channel, Side.TheVariants.Fwd}
use Rattle.aeth_app.specs.App.{AppData, has_connection}
use Rattle.aeth_app.specs.Connections.{connection_names, receiver, sender}
use Rattle.aeth_document.specs.Chain.{◌>>=◌}
use Rattle.aeth_trace.specs.Channels.{is_channel}
use Rattle.aeth_chain.specs.{Chain.AreDistinct, Limits.max_chain_items}
use Rattle.aeth_chain.specs.{declared.item.ChainItem.ChainItem, Fault.broken_at, ItemNames.AreWorks}
use Rattle.aeth_chain.specs.{declared.fault.ItemRule.ItemRule}
use Rattle.aeth_chain.specs.{declared.fault.ItemRule.TheVariants.NotInUse}
use Rattle.aeth_chain.specs.{declared.fault.ItemRule.TheVariants.NotJoined}
use Rattle.aeth_chain.specs.{declared.fault.ItemRule.TheVariants.Repeated}
use Rattle.aeth_chain.specs.{declared.fault.ItemRule.TheVariants.UnknownConnection}
use Rattle.aeth_chain.specs.{declared.names.ItemName.ItemName}

-- The connection of a name, and their number where none has it.
abbrev pub conn_of : AppData → List ℕ → ℕ
conn_of app name =
    unwrap_or (position (bytes_eq name) (connection_names app)) (length app.connections)

-- The item of a name.
abbrev pub item_of : AppData → ItemName → ChainItem
item_of app one = record {
  channel = record { conn = record { 0 = conn_of app one.name }; side = one.side };
  work = one.work;
}

-- The core at which a channel begins, and that at which it ends; none where its connection is missing.
abbrev pub first_core : AppData → Channel → Option ℕ
first_core app channel =
    option_map (λ one. (sender one channel.side).0) (slice_get app.connections channel.conn.0)

abbrev pub last_core : AppData → Channel → Option ℕ
last_core app channel =
    option_map (λ one. (receiver one channel.side).0) (slice_get app.connections channel.conn.0)

-- The channel of the item at a place.
abbrev pub no_item : ChainItem
no_item = record { channel = record { conn = record { 0 = 0 }; side = Fwd }; work = 0 }

abbrev pub channel_at : List ChainItem → ℕ → Channel
channel_at items place = (slice_index_or items place no_item).channel

-- Whether the item at a place keeps a rule: a connection has its name; the use case has the connection; its
-- channel begins where the one before it ends; and stands in no earlier item.
abbrev pub keeps : ItemRule → AppData → ℕ → List ChainItem → ℕ → Bool
keeps UnknownConnection app u items place =
    nat_lt (channel_at items place).conn.0 (length app.connections)
keeps NotInUse app u items place = has_connection app.uses u (channel_at items place).conn.0
keeps NotJoined app u items place =
    place == 0
    || option_eq nat_eq (first_core app (channel_at items place))
    (last_core app (channel_at items (place - 1)))
keeps Repeated app u items place =
    not (list_any (λ item. is_channel (channel_at items place) item.channel) (take place items))

-- A rule over some last items, the first of which is at this place: it is kept by all, or the first that
-- breaks it is shown, by its place from 1 and its name.
abbrev pub are_kept : ItemRule → (ℕ → Bool) → ℕ → List ItemName → Result (Unit {0}) BrokenRule
are_kept rule test place [] = Ok tt
are_kept rule test place (one ∷ names) =
    if test place then are_kept rule test (place + 1) names
    else Err (broken_at rule (place + 1) one.name)

-- A rule over all items of some names.
abbrev pub judged_by : ItemRule → AppData → ℕ → List ChainItem → List ItemName
    → Result (Unit {0}) BrokenRule
judged_by rule app u items names = are_kept rule (keeps rule app u items) 0 names

-- The items of names in a use case of an application, or the first rule that they break.
unfoldable pub items_of : AppData → ℕ → List ItemName → Result (List ChainItem) BrokenRule
items_of app u names =
    let items = map (item_of app) names in
    do
      known ← judged_by UnknownConnection app u items names
      used ← judged_by NotInUse app u items names
      joined ← judged_by NotJoined app u items names
      once ← judged_by Repeated app u items names
      Ok items

-- What holds of the items that names tell in a use case: they are few, each but the last has work, and their
-- channels are different ones that the use case has.
pub record AreItemsOf (app : AppData) (u : ℕ) (items : List ChainItem) : Type 0 where
  pub few : length items ≤ max_chain_items
  pub works : AreWorks (map (λ item. item.work) items)
  pub known : All (λ item. item.channel.conn.0 < length app.connections) items
  pub used : All (λ item. has_connection app.uses u item.channel.conn.0 ≡ true) items
  pub distinct : AreDistinct items

-- The cores, connections and use cases that the tables of an application file tell.
--
--   core_of, wish_in, connection_of    a core, a wish and a connection from their tables
--   marks_of, use_of    marks at some places, and a use case from its table
--   told_price    what links cost
-- This project's own.
use Rattle.std.proofs.Common.{ℕ, ◌==◌, Bool, List, map, length, codes, Option, Some, None}
use Rattle.std.proofs.Common.{option_map, option_and_then, unwrap_or, if◌then◌else◌}
use Rattle.std.specs.{List.filter_map, List.list_any, List.range_with_len, Str.bytes_eq}
use Rattle.toml.specs.Data.{Members}
use Rattle.aeth_base.specs.declared.ids.{CoreId.CoreId, NiId.NiId}
use Rattle.aeth_document.specs.Values.{integer_at, text_at, text_if, texts_at}
use Rattle.aeth_document.specs.Walks.{place_of, size_of}
use Rattle.aeth_app.specs.declared.connection.{Connection.Connection, Core.Core, Price.Price}
use Rattle.aeth_app.specs.declared.connection.{Price.TheVariants.Hops, Price.TheVariants.Pressure}
use Rattle.aeth_app.specs.declared.connection.{Wish.Wish}
use Rattle.aeth_app.specs.App.{UseData}
use Rattle.aeth_app.specs.Tables.{wish_at}

-- The network interface that a text names, if there is a text that names one.
abbrev pub ni_of : List (List ℕ) → Option (List ℕ) → Option NiId
ni_of nis text = option_map (λ place. record { 0 = place }) (option_and_then (place_of nis) text)

-- The core of a table.
abbrev pub core_of : List (List ℕ) → Members → Core
core_of nis table = record {
  name = text_at (codes "name") table;
  fixed = ni_of nis (text_if (codes "ni") table);
}

-- The wish of a table.
abbrev pub wish_in : Members → Wish
wish_in table = record {
  words = size_of (integer_at (codes "words") table);
  per = size_of (integer_at (codes "per") table);
  latency = size_of (integer_at (codes "latency") table);
  delay = size_of (integer_at (codes "delay") table);
}

-- The core that a text names; core 0 stands for an unknown one.
abbrev pub end_of : List (List ℕ) → List ℕ → CoreId
end_of cores text = record { 0 = unwrap_or (place_of cores text) 0 }

-- The connection of a table.
abbrev pub connection_of : List (List ℕ) → Members → Connection
connection_of cores table = record {
  name = text_at (codes "name") table;
  from = end_of cores (text_at (codes "from") table);
  to = end_of cores (text_at (codes "to") table);
  fwd = wish_in (wish_at (codes "fwd") table);
  back = wish_in (wish_at (codes "back") table);
}

-- For each place below a count whether it is among some places.
abbrev pub marks_of : ℕ → List ℕ → List Bool
marks_of count places =
    map (λ place. list_any (λ marked. marked == place) places) (range_with_len 0 count)

-- For each of some names whether it is among some texts.
abbrev pub named_marks : List (List ℕ) → List (List ℕ) → List Bool
named_marks names texts = marks_of (length names) (filter_map (place_of names) texts)

-- The use case of a table.
abbrev pub use_of : List (List ℕ) → List (List ℕ) → Members → UseData
use_of connections uses table = record {
  name = text_at (codes "name") table;
  has = named_marks connections (texts_at (codes "connections") table);
  smooth = named_marks uses (texts_at (codes "smooth") table);
}

-- What links cost by a text: pressure where it says so, else each the same.
abbrev pub told_price : Option (List ℕ) → Price
told_price None = Hops
told_price (Some text) = if bytes_eq text (codes "pressure") then Pressure else Hops

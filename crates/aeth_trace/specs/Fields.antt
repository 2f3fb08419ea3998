-- The fields of a row.
--
--   number_to, named      a number up to a limit, the place of a name
--   three_of, four_of      the fields of a record that has just so many
--   heads_channels, channel_in      the columns that words and receivers have
-- This project's own.
use Rattle.std.proofs.Common.{ℕ, ◌&&◌, Bool, false, codes, List, length, nat_le, Option, Some, None}
use Rattle.std.proofs.Common.{is_none, unwrap_or, if◌then◌else◌}
use Rattle.std.specs.Str.{bytes_eq}
use Rattle.csv.specs.Records.{field_at}
use Rattle.aeth_base.specs.{Limits.max_cycles, Number.number_of, declared.ids.Channel.Channel}
use Rattle.aeth_base.specs.{declared.ids.Side.Side}
use Rattle.aeth_document.specs.Walks.{place_of}
use Rattle.aeth_text.specs.Fields.{side_in}

-- A number, where it is at most so great.
abbrev pub at_most : ℕ → Option ℕ → Option ℕ
at_most most None = None
at_most most (Some number) = if nat_le number most then Some number else None

-- The number, at most so great, whose canonical decimal a text is.
abbrev pub number_to : ℕ → List ℕ → Option ℕ
number_to most text = at_most most (number_of text)

-- The place of a text among the names; their number, where it is none of them.
abbrev pub named : List (List ℕ) → List ℕ → ℕ
named names text = unwrap_or (place_of names text) (length names)

-- Three fields, where they are there and a fourth isn't.
abbrev pub three_with : Option (List ℕ) → Option (List ℕ) → Option (List ℕ) → Option (List ℕ)
    → Option (List ℕ × List ℕ × List ℕ)
three_with (Some a) (Some b) (Some c) None = Some (a, b, c)
three_with _ _ _ _ = None

-- The fields of a record that has just three.
abbrev pub three_of : List (List ℕ) → Option (List ℕ × List ℕ × List ℕ)
three_of fields =
    three_with (field_at fields 0) (field_at fields 1) (field_at fields 2) (field_at fields 3)

-- Four fields, where they are there.
abbrev pub all_four : Option (List ℕ) → Option (List ℕ) → Option (List ℕ) → Option (List ℕ)
    → Option (List ℕ × List ℕ × List ℕ × List ℕ)
all_four (Some a) (Some b) (Some c) (Some d) = Some (a, b, c, d)
all_four _ _ _ _ = None

-- The fields of a record that has just four: it has no fifth.
abbrev pub four_of : List (List ℕ) → Option (List ℕ × List ℕ × List ℕ × List ℕ)
four_of fields =
    if is_none (field_at fields 4)
    then all_four (field_at fields 0) (field_at fields 1) (field_at fields 2) (field_at fields 3)
    else None

-- Whether the fields are the names of the columns of channels, of which the last has this name.
abbrev pub heads_channels : List ℕ → Option (List ℕ × List ℕ × List ℕ × List ℕ) → Bool
heads_channels last None = false
heads_channels last (Some fields) =
    bytes_eq fields.0 (codes "connection") && bytes_eq fields.1 (codes "side")
    && bytes_eq fields.2 (codes "cycle") && bytes_eq fields.3 last

-- A channel with a cycle and a number, where each of them is there.
abbrev pub channel_with : ℕ → Option Side → Option ℕ → Option ℕ → Option (Channel × ℕ × ℕ)
channel_with connection (Some side) (Some cycle) (Some number) =
    Some (record { conn = record { 0 = connection }; side = side }, cycle, number)
channel_with connection _ _ _ = None

-- The channel, the cycle and the number, at most so great, of four fields. The connection is that
-- of this name.
abbrev pub channel_in : List (List ℕ) → ℕ → Option (List ℕ × List ℕ × List ℕ × List ℕ)
    → Option (Channel × ℕ × ℕ)
channel_in names most None = None
channel_in names most (Some fields) =
    channel_with (named names fields.0) (side_in fields.1) (number_to max_cycles fields.2)
    (number_to most fields.3)

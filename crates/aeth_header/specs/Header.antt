-- Header words: the word of a header, the fields and the header of a word, and what a hop makes
-- of a word.
-- A header that names route and queue, and brings credits back: after Æthereal (2005).
-- Its layout is this project's own: from the lowest bit up, a route of seven output ports, the
-- remote queue, the credits and the payload count.
use Rattle.std.proofs.Common.{ℕ, ◌+◌, ◌*◌, ◌/◌, ◌%◌, ◌^◌, ◌<◌, ◌≤◌, nat_le, Result, Ok, Err}
use Rattle.std.proofs.Common.{if◌then◌else◌}
use Rattle.aeth_base.specs.Limits.{words_per_flit}
use Rattle.aeth_header.specs.Layout.{route_bits, port_bits, queue_bits, credits_bits, queue_shift}
use Rattle.aeth_header.specs.Layout.{credits_shift, count_shift}
use Rattle.aeth_header.specs.declared.{header.Header.Header, fault.HeaderFault.HeaderFault}

-- Each field fits its bits, and at most two words follow.
pub record IsPackable (header : Header) : Type 0 where
  pub route : header.route < 2 ^ route_bits
  pub queue : header.queue < 2 ^ queue_bits
  pub credits : header.credits < 2 ^ credits_bits
  pub count : header.count ≤ words_per_flit

-- The word of a header: the sum of its fields, each at its place.
unfoldable pub word_of : Header → ℕ
word_of header =
    header.route
    + header.queue * 2 ^ queue_shift
    + header.credits * 2 ^ credits_shift
    + header.count * 2 ^ count_shift

-- The four fields of a word.
unfoldable pub fields_of : ℕ → Header
fields_of word = record {
  route = word % 2 ^ route_bits;
  queue = word / 2 ^ queue_shift % 2 ^ queue_bits;
  credits = word / 2 ^ credits_shift % 2 ^ credits_bits;
  count = word / 2 ^ count_shift;
}

-- The header of a word: its fields, or a fault where the payload count is above two.
abbrev pub header_of : ℕ → Result Header HeaderFault
header_of word =
    if nat_le (fields_of word).count words_per_flit then Ok (fields_of word) else Err (record {})

-- The output port that a router takes: the first of the route.
abbrev pub port_of : ℕ → ℕ
port_of word = (fields_of word).route % 2 ^ port_bits

-- The word that a router sends on: the route moved on by one port, the other fields as they were.
abbrev pub next_word : ℕ → ℕ
next_word word =
    let fields = fields_of word in
    word_of (record fields { route = fields.route / 2 ^ port_bits })

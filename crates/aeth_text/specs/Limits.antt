-- The numbers of the rules on texts.
-- This project's own.
use Rattle.std.proofs.Common.{ℕ}

-- A number of a text is at most this, the greatest of 32 bits.
abbrev pub max_number : ℕ
max_number = 4294967295

-- Lines are counted up to this number. A text that is longer counts each further line as the last.
abbrev pub last_line : ℕ
last_line = 4294967295

-- The byte that ends a line.
abbrev pub line_feed : ℕ
line_feed = 10

-- The byte between two words of a line.
abbrev pub space : ℕ
space = 32

-- The byte between two items of a list.
abbrev pub comma : ℕ
comma = 44

-- The most bytes of a number of 64 bits and the byte behind it: 20 digits and one.
abbrev pub field_room : ℕ
field_room = 21

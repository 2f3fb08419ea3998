-- The fields of a line: numbers, links, sides and lists of them.
--
--   number_in, link_in, side_in      a number, a link by its number, a side
--   is_path, links_in      the links of a path
--   are_ascending, ascending_in      numbers, each greater than the one before
-- This project's own.
use Rattle.std.proofs.Common.{ℕ, ◌&&◌, Bool, List, codes, length, nat_le, nat_lt, Option, Some}
use Rattle.std.proofs.Common.{None, option_map, is_none, if◌then◌else◌}
use Rattle.std.specs.Str.{bytes_eq}
use Rattle.aeth_base.specs.{Limits.max_path_links, Limits.min_path_links, Number.number_of}
use Rattle.aeth_base.specs.{declared.ids.LinkId.LinkId, declared.ids.Side.Side}
use Rattle.aeth_base.specs.{declared.ids.Side.TheVariants.Fwd, declared.ids.Side.TheVariants.Back}
use Rattle.aeth_text.specs.{Grammar.all_of, Grammar.kept, Grammar.parts, Limits.comma}
use Rattle.aeth_text.specs.{Limits.max_number, Order.misplaced}

-- A number: a canonical decimal of 32 bits.
unfoldable pub number_in : List ℕ → Option ℕ
number_in word = kept (λ n. nat_le n max_number) (number_of word)

-- A link, by its number.
abbrev pub link_in : List ℕ → Option LinkId
link_in word = option_map (λ n. record { 0 = n }) (number_in word)

-- A side: `fwd` or `back`.
unfoldable pub side_in : List ℕ → Option Side
side_in word =
    if bytes_eq word (codes "fwd") then Some Fwd
    else if bytes_eq word (codes "back") then Some Back else None

-- Whether a path may have so many links: 2 to 8.
abbrev pub is_path : List LinkId → Bool
is_path links = nat_le min_path_links (length links) && nat_le (length links) max_path_links

-- A path: a comma list of its links.
unfoldable pub links_in : List ℕ → Option (List LinkId)
links_in word = kept is_path (all_of link_in (parts comma word))

-- Whether numbers are at least one, each greater than the one before.
abbrev pub are_ascending : List ℕ → Bool
are_ascending numbers = nat_le 1 (length numbers) && is_none (misplaced nat_lt 0 numbers)

-- Ascending numbers: a comma list of at least one.
unfoldable pub ascending_in : List ℕ → Option (List ℕ)
ascending_in word = kept are_ascending (all_of number_in (parts comma word))

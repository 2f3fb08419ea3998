-- The numbers of the rules on logs of links. A cycle is at most the most cycles of a run, and a
-- word is at most the greatest value of one.
-- This project's own.
use Rattle.std.proofs.Common.{ℕ}

-- The most rows of a log.
abbrev pub max_link_rows : ℕ
max_link_rows = 1000000

-- A row has so many columns.
abbrev pub link_columns : ℕ
link_columns = 5

-- The rules of a row, in their order.
--
-- Its link isn't reserved in its cycle.
abbrev pub unreserved : ℕ
unreserved = 1

-- Its flit is none of the channel for which the link is reserved.
abbrev pub foreign : ℕ
foreign = 2

-- Its flit doesn't come from the link before, or doesn't go on to the link after.
abbrev pub broken_off : ℕ
broken_off = 3

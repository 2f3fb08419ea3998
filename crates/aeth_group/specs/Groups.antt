-- The groups of use cases as functions.
--
--   is_chained      whether a chain of at most so many pairs leads from a use case to another
--   in_one_group      whether two use cases are in one group
--   group_of      the number of a use case's group
--   group_count      how many groups there are
-- This project's own.
use Rattle.std.proofs.Common.{ℕ, zero, suc, ◌==◌, ◌&&◌, ◌||◌, Bool, List, length}
use Rattle.std.specs.List.{list_any, range_with_len}
use Rattle.aeth_app.specs.App.{UseData, is_smooth}
use Rattle.aeth_group.specs.Numbering.{class_of, firsts_below}

-- Whether a chain of at most so many smooth pairs leads from a use case to another: they are one,
-- or the first is smooth with one from which a chain with a pair fewer leads on.
unfoldable pub is_chained : List UseData → ℕ → ℕ → ℕ → Bool
is_chained uses zero u v = u == v
is_chained uses (suc pairs) u v = u == v
    || list_any (λ w. is_smooth uses u w && is_chained uses pairs w v)
    (range_with_len 0 (length uses))

-- Whether two use cases are in one group: a chain leads from the one to the other. Since a shortest
-- chain passes no use case twice, it has at most as many pairs as there are use cases.
abbrev pub in_one_group : List UseData → ℕ → ℕ → Bool
in_one_group uses u v = is_chained uses (length uses) u v

-- The number of a use case's group: how many groups have a lesser least use case.
unfoldable pub group_of : List UseData → ℕ → ℕ
group_of uses u = class_of (in_one_group uses) (length uses) u

-- How many groups there are.
unfoldable pub group_count : List UseData → ℕ
group_count uses = firsts_below (in_one_group uses) (length uses) (length uses)

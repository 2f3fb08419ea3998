-- Texts that commands print.
-- This project's own.
use Rattle.std.proofs.Common.{ℕ, List, map, decimal}
use Rattle.std.specs.List.{join_with_byte}
use Rattle.aeth_text.specs.Limits.{comma}

-- The decimals of numbers with commas between them.
abbrev pub list_text : List ℕ → List ℕ
list_text numbers = join_with_byte comma (map (λ n. decimal n) numbers)

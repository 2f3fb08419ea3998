-- What a refusal shows of a text.
-- This project's own.
use Rattle.std.proofs.Common.{ℕ, List, if◌then◌else◌}
use Rattle.aeth_base.specs.Name.{is_name}
use Rattle.aeth_base.specs.declared.shown.Shown.{Shown, TheVariants.Odd, TheVariants.Word}

-- The text itself where it is a name, and else only that there is one.
abbrev pub shown_text : List ℕ → Shown
shown_text text = if is_name text then Word text else Odd

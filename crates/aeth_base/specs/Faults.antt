-- The rules that a file breaks, and what a reader of files answers.
-- This project's own.
use Rattle.std.proofs.Common.{ℕ, ◌≡◌, List, Option, Result, Ok, Err, IfSome}
use Rattle.aeth_base.specs.declared.shown.{Broken.Broken, Shown.Shown}

-- The first rule that a file breaks: its number and its name among the rules of such files, the
-- first place of its walk where it is broken, and the value there.
pub record BrokenRule : Type 0 where
  pub rule : ℕ
  pub name : List ℕ
  pub place : ℕ
  pub value : Shown

-- A rule that is broken, by its number and its name.
abbrev pub broken_as : ℕ → List ℕ → Broken → BrokenRule
broken_as rule name broken =
    record { rule = rule; name = name; place = broken.place; value = broken.value }

-- The reader gives the value that the definition gives, or shows the rule that it says is broken,
-- or memory ran out: then its fault shows no rule. The value is compared as the view shows it.
abbrev pub Reads : {X Y E : Type 0} → (E → Option BrokenRule) → (X → Y) → Result X E
    → Result Y BrokenRule → Type 0
Reads rule_of view (Ok value) defined = defined ≡ Ok (view value)
Reads rule_of view (Err fault) defined = IfSome (rule_of fault) (λ broken. defined ≡ Err broken)

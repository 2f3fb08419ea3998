-- The first row that breaks a rule, found row by row.
use Rattle.std.proofs.Common.{◌≡◌, ◌∙◌, ◌<◌, ◌≤◌, ◌+◌, ℕ, List, Option, Some, None, drop, get_or}
use Rattle.std.proofs.Common.{length, sym, ap}
use Rattle.std.proofs.lemmas.List.{at_drop_all, at_drop_more}
use Rattle.aeth_report.specs.{Design.Design, declared.session.Session.Session}
use Rattle.aeth_audit.specs.Audit.{broken_by, fault_before, first_fault}
use Rattle.aeth_audit.specs.declared.verdict.Audit.{Audit, TheVariants.Clean, TheVariants.Fault}
use Rattle.aeth_audit.specs.declared.row.LinkRow.{LinkRow}

module _ (design : Design) (timeline : List (List Session)) (cycles : ℕ) (rows : List LinkRow)
    (number i : ℕ) where
  abbrev from : ℕ → ℕ → Audit
  from n k = first_fault design timeline cycles rows n (drop k rows)

  -- The fault of a row, before those of later rows.
  step : (d : LinkRow) → i < length rows → (broken : Option ℕ)
      → broken ≡ broken_by design timeline cycles rows (get_or rows i d)
      → from number i ≡ fault_before number broken (from (number + 1) (i + 1))
  step d within broken by =
      at_drop_more (first_fault design timeline cycles rows number) rows i d within
      ∙ ap (λ (o : Option ℕ). fault_before number o (from (number + 1) (i + 1))) (sym by)

  -- A row that breaks no rule is passed over.
  pub first-later : (d : LinkRow) → i < length rows
      → None ≡ broken_by design timeline cycles rows (get_or rows i d)
      → from (number + 1) (i + 1) ≡ from number i
  first-later d within by = sym (step d within None by)

  -- The first that breaks one is the fault.
  pub first-here : (d : LinkRow) (rule : ℕ) → i < length rows
      → Some rule ≡ broken_by design timeline cycles rows (get_or rows i d)
      → Fault rule number ≡ from number i
  first-here d rule within by = sym (step d within (Some rule) by)

  -- Behind the last row there is none.
  pub first-none : length rows ≤ i → Clean ≡ from number i
  first-none past = sym (at_drop_all (first_fault design timeline cycles rows number) rows i past)

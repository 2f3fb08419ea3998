use Rattle.std.proofs.Common.{ℕ, Some, subst, sym}
use Rattle.std.specs.Str.{bytes_eq}
use Rattle.indexmap.specs.IndexMap.{Updates}
use Rattle.aeth_base.proofs.NamesLemmas.{placed-again, placed-new}
use Rattle.aeth_base.proofs.names.enter.Goals as goal

-- The name is new, and has the last place.
pub returns-in_ok-insert : goal.returns-in_ok-insert
returns-in_ok-insert c = λ before size placed.
    let old = c.args.places.now in
    let new = c.insert.new.self in
    placed-new before c.args.name old new placed (sym c.if-not-contains_key.ensures)
    (subst (λ (place : ℕ). Updates bytes_eq old new c.args.name (Some place)) (sym size)
    c.in_ok-insert.ensures.updates)

-- The name was there, so its first place stays.
pub returns-else-not-contains_key : goal.returns-else-not-contains_key
returns-else-not-contains_key c = λ before size placed.
    placed-again before c.args.name c.args.places.now placed (sym c.if-not-contains_key.ensures)

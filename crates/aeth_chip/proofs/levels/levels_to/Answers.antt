use Rattle.std.proofs.Common.{◌≡◌, ◌∙◌, List, Option, None, ℕ, length, ap, subst, sym, arith, rules}
use Rattle.std.proofs.Common.{replicate}
use Rattle.std.proofs.lemmas.List.{length-replicate}
use Rattle.aeth_base.proofs.Lists.{written_back}
use Rattle.aeth_chip.specs.Levels.{AreLevels, IsOrigin}
use Rattle.aeth_chip.proofs.levels.levels_to.Goals.{In_ok-levels}
use Rattle.aeth_chip.proofs.levels.levels_to.Goals as goal

-- No place has a level yet.
none_yet : (c : goal.In_ok-levels) → c.in_ok-levels.levels.items
    ≡ replicate (length c.args.origins.now) None
none_yet c = search rules

pub search-requires-clause-none : goal.search-requires-clause-none
search-requires-clause-none c =
    c.deref_mut.ensures.value
    ∙ none_yet (goal.at.search-requires-clause-none c).In_ok-levels

-- The levels that were found are those of the vector.
pub returns : goal.returns
returns c =
    let origins = c.args.origins.now in
    let levels = c.in_ok-levels.levels in
    let found = c.search.ensures in
    let long = levels.ok in
    let same : length c.search.new.levels ≡ length levels.items = found.size
    ∙ sym (ap length (none_yet (goal.at.returns c).In_ok-levels)
    ∙ length-replicate (length origins) None) in
    subst (λ (xs : List (Option ℕ)). AreLevels (IsOrigin origins) c.args.routers c.args.goal
    (length origins) xs)
    (sym (written_back levels.items c.search.new.levels levels.len (omega arith) same)) found

use Rattle.std.proofs.Common.{◌≡◌, ◌∙◌, ℕ, ap, length, rules, subst, sym, replicate}
use Rattle.std.proofs.lemmas.List.{length-replicate}
use Rattle.aeth_chip.{specs.Levels.HasPlaces, proofs.levels.origins_of.Goals.In_ok-origins}
use Rattle.aeth_chip.proofs.levels.origins_of.Goals as goal

-- No place has an origin yet.
none_yet : (c : In_ok-origins) → c.in_ok-origins.origins.items ≡ replicate c.args.places 0
none_yet c = search rules

-- There is a set for each place.
pub enter_all-requires-clause-links : goal.enter_all-requires-clause-links
enter_all-requires-clause-links c =
    let size : length c.deref_mut.result.now ≡ c.args.places =
    ap length (c.deref_mut.ensures.value
    ∙ none_yet (goal.at.enter_all-requires-clause-links c).In_ok-origins)
    ∙ length-replicate c.args.places 0 in
    subst (λ (n : ℕ). HasPlaces c.args.links.now c.args.routers n) (sym size) c.requires.links

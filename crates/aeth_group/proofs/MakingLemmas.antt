-- How the groups of an application are made: use case by use case.
use Rattle.std.proofs.Common.{◌≡◌, ◌∙◌, ◌+◌, ◌++◌, ℕ, List, [], ◌∷◌, length, map, sym, ap, ap₂}
use Rattle.std.proofs.Common.{arith, Bool}
use Rattle.std.proofs.lemmas.List.FromFn.{map-range_with_len_more}
use Rattle.std.specs.List.{range_with_len}
use Rattle.aeth_app.specs.App.{AppData, has_connection}
use Rattle.aeth_group.specs.Groups.{group_count, group_of}
use Rattle.aeth_group.specs.Members.{GroupsData, UseGroupData, groups_of, use_group}

-- One more use case.
pub uses-more : (app : AppData) (u : ℕ) (old new : List UseGroupData) (one : UseGroupData)
    → old ≡ map (use_group app) (range_with_len 0 u) → new ≡ old ++ one ∷ []
    → one.group ≡ group_of app.uses u
    → one.has ≡ map (has_connection app.uses u) (range_with_len 0 (length app.connections))
    → new ≡ map (use_group app) (range_with_len 0 (u + 1))
uses-more app u old new one before pushed group has =
    let made : ℕ → List Bool → UseGroupData = λ g marks. record { group = g; has = marks } in
    let is : one ≡ use_group app u = ap₂ made group has in
    pushed ∙ ap (λ items. items ++ one ∷ []) before
    ∙ ap (λ x. map (use_group app) (range_with_len 0 u) ++ x ∷ []) is
    ∙ sym (map-range_with_len_more (use_group app) 0 u u (omega arith))

-- The groups are those of the application.
pub groups_are : (app : AppData) (groups : GroupsData)
    → groups.connections ≡ length app.connections → groups.count ≡ group_count app.uses
    → groups.uses ≡ map (use_group app) (range_with_len 0 (length app.uses))
    → groups ≡ groups_of app
unfolding groups_of
groups_are app groups connections count uses =
    let made : ℕ → ℕ → List UseGroupData → GroupsData =
    λ n c us. record { connections = n; count = c; uses = us } in
    ap (λ n. made n groups.count groups.uses) connections
    ∙ ap (λ n. made (length app.connections) n groups.uses) count
    ∙ ap (made (length app.connections) (group_count app.uses)) uses

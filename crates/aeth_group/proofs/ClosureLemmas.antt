-- The closed table of smooth pairs says which use cases are in one group.
use Rattle.std.proofs.Common.{◌≡◌, ◌<◌, ℕ, Bool, true, List, [], ◌∷◌, length, refl, subst, inl, inr}
use Rattle.aeth_app.specs.App.{UseData}
use Rattle.aeth_group.specs.{Chains.SmoothChain, Groups.in_one_group, Marks.IsClosure, Marks.IsPair}
use Rattle.aeth_group.specs.{Marks.IsTransitive, Marks.marked}
use Rattle.aeth_group.proofs.ChainLemmas.{in_one_group-refl, in_one_group-trans}
use Rattle.aeth_group.proofs.ChainLemmas.{in_one_group_from_same_group, same_group-smooth}
use Rattle.aeth_group.proofs.ChainLemmas.{same_group_from_in_one_group}
use Rattle.aeth_group.proofs.ListLemmas.{same_tests}

-- A pair is in one group.
pair_in_one_group : (uses : List UseData) (u v : ℕ) → IsPair uses u v
    → in_one_group uses u v ≡ true
pair_in_one_group uses u v pair = elim pair.joined [
  | inl same ↦ subst (λ (p : ℕ). in_one_group uses u p ≡ true) same (in_one_group-refl uses u)
  | inr smooth ↦ in_one_group_from_same_group uses u v
      (same_group-smooth uses u v pair.second smooth)
]

-- A transitive table with all pairs has all that chains join.
marked_from_chain : (uses : List UseData) (marks : List Bool) → IsTransitive (marked marks)
    → ((u v : ℕ) → IsPair uses u v → marked marks u v ≡ true) → (u : ℕ) (chain : List ℕ) (v : ℕ)
    → u < length uses → SmoothChain uses u chain v → marked marks u v ≡ true
marked_from_chain uses marks closed each u [] v within leads =
    let same : u ≡ v = leads in
    subst (λ (p : ℕ). marked marks u p ≡ true) same
    (each u u (record { first = within; second = within; joined = inl refl }))
marked_from_chain uses marks closed each u (w ∷ chain) v within leads =
    closed u w v
    (each u w (record { first = within; second = leads.0; joined = inr leads.1 }))
    (marked_from_chain uses marks closed each w chain v leads.0 leads.2)

-- The closure of all pairs.
pub closure_is_groups : (uses : List UseData) (old new : List Bool)
    → ((u v : ℕ) → marked old u v ≡ true → IsPair uses u v)
    → ((u v : ℕ) → IsPair uses u v → marked old u v ≡ true) → IsClosure old new
    → (u v : ℕ) → u < length uses → marked new u v ≡ in_one_group uses u v
closure_is_groups uses old new only each closure u v within =
    same_tests (marked new u v) (in_one_group uses u v)
    (closure.extends.least (in_one_group uses) (in_one_group-trans uses)
    (λ a b is. pair_in_one_group uses a b (only a b is)) u v)
    (λ is.
    let joined = same_group_from_in_one_group uses u v is in
    marked_from_chain uses new closure.closed
    (λ a b pair. closure.extends.kept a b (each a b pair)) u joined.chain v within joined.leads)

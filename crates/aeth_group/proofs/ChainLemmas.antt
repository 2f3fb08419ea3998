-- Laws of chains of smooth pairs: the test `in_one_group` finds them, and being joined by one is an
-- equivalence.
use Rattle.std.proofs.Common.{◌≡◌, ◌<◌, ◌≤◌, ◌&&◌, ◌++◌, ℕ, zero, suc, Bool, true, false, eqb, List}
use Rattle.std.proofs.Common.{[], ◌∷◌, length, refl, sym, slice_get, subst, inl, inr, arith, eq-eqb}
use Rattle.std.proofs.Common.{eqb-true}
use Rattle.std.proofs.lemmas.Bool.{and_from, and_parts, cases_Bool, false≢true, or_cases, or_left}
use Rattle.std.proofs.lemmas.Bool.{or_parts, or_right}
use Rattle.std.proofs.lemmas.Map.Keys.{IsDistinct-cons, IsDistinct-head, IsDistinct-tail}
use Rattle.std.proofs.lemmas.Map.Steps.{length-le_from_distinct_below}
use Rattle.std.specs.List.{AllByRecursion, IsDistinct, list_any}
use Rattle.aeth_app.specs.App.{UseData, is_smooth, names_smooth_in}
use Rattle.aeth_group.specs.{Chains.SameGroup, Chains.SmoothChain, Groups.in_one_group}
use Rattle.aeth_group.specs.{Groups.is_chained, Marks.IsTransitive}
use Rattle.aeth_group.proofs.Ranges.{any_from_passer, passer_from_any}

-- ---- being joined by a chain is an equivalence

-- A use case is in one group with itself.
pub same_group-refl : (uses : List UseData) (u : ℕ) → SameGroup uses u u
same_group-refl uses u = record { chain = []; leads = refl }

-- Two smooth use cases are in one group.
pub same_group-smooth : (uses : List UseData) (u v : ℕ) → v < length uses
    → is_smooth uses u v ≡ true → SameGroup uses u v
same_group-smooth uses u v within smooth = record {
  chain = v ∷ [];
  leads = (within, smooth, refl);
}

-- A chain that leads on from another.
chain-then : (uses : List UseData) (u : ℕ) (first : List ℕ) (w : ℕ) (second : List ℕ) (v : ℕ)
    → SmoothChain uses u first w → SmoothChain uses w second v
    → SmoothChain uses u (first ++ second) v
chain-then uses u [] w second v leads onward =
    subst (λ (p : ℕ). SmoothChain uses p second v) (sym leads) onward
chain-then uses u (x ∷ first) w second v leads onward =
    (leads.0, leads.1, chain-then uses x first w second v leads.2 onward)

-- What is in one group with one that is in one group with a third, is so with the third.
pub same_group-trans : (uses : List UseData) (u w v : ℕ) → SameGroup uses u w → SameGroup uses w v
    → SameGroup uses u v
same_group-trans uses u w v first second = record {
  chain = first.chain ++ second.chain;
  leads = chain-then uses u first.chain w second.chain v first.leads second.leads;
}

-- A switch is smooth both ways.
pub is_smooth-sym : (uses : List UseData) (u v : ℕ) → is_smooth uses u v ≡ true
    → is_smooth uses v u ≡ true
is_smooth-sym uses u v smooth =
    let names = names_smooth_in (slice_get uses u) v in
    let named = names_smooth_in (slice_get uses v) u in
    elim (or_cases names named smooth) [
      | inl is ↦ or_right named names is
      | inr is ↦ or_left named names is
    ]

-- A chain leads back, too.
chain-back : (uses : List UseData) (u : ℕ) (chain : List ℕ) (v : ℕ) → u < length uses
    → SmoothChain uses u chain v → SameGroup uses v u
chain-back uses u [] v within leads =
    subst (λ (p : ℕ). SameGroup uses p u) leads (same_group-refl uses u)
chain-back uses u (w ∷ chain) v within leads =
    same_group-trans uses v w u (chain-back uses w chain v leads.0 leads.2)
    (same_group-smooth uses w u within (is_smooth-sym uses u w leads.1))

-- Being in one group holds both ways.
pub same_group-sym : (uses : List UseData) (u v : ℕ) → u < length uses → SameGroup uses u v
    → SameGroup uses v u
same_group-sym uses u v within joined = chain-back uses u joined.chain v within joined.leads

-- A test that holds of smooth pairs and leads on holds of what a chain joins.
pub same_group-least : (uses : List UseData) (test : ℕ → ℕ → Bool)
    → ((u : ℕ) → test u u ≡ true) → IsTransitive test
    → ((u v : ℕ) → v < length uses → is_smooth uses u v ≡ true → test u v ≡ true)
    → (u : ℕ) (chain : List ℕ) (v : ℕ) → SmoothChain uses u chain v → test u v ≡ true
same_group-least uses test itself onward smooth u [] v leads =
    subst (λ (p : ℕ). test u p ≡ true) leads (itself u)
same_group-least uses test itself onward smooth u (w ∷ chain) v leads =
    onward u w v (smooth u w leads.0 leads.1)
    (same_group-least uses test itself onward smooth w chain v leads.2)

-- ---- a shortest chain

-- A chain that passes no use case twice.
record ShortChain (uses : List UseData) (u v : ℕ) : Type 0 where
  chain : List ℕ
  leads : SmoothChain uses u chain v
  distinct : IsDistinct eqb chain

-- A chain without a use case.
record ChainWithout (uses : List UseData) (u v : ℕ) : Type 0 where
  rest : ShortChain uses u v
  apart : AllByRecursion (λ y. eqb u y ≡ false) rest.chain

-- What follows a use case of a chain leads on from it.
chain_from : (uses : List UseData) (u : ℕ) (chain : List ℕ) (v w : ℕ) → SmoothChain uses u chain v
    → IsDistinct eqb chain → list_any (eqb w) chain ≡ true → ChainWithout uses w v
chain_from uses u [] v w leads distinct has = absurd (false≢true has)
chain_from uses u (x ∷ chain) v w leads distinct has =
    elim (or_cases (eqb w x) (list_any (eqb w) chain) has) [
      | inl here ↦
          let same : x ≡ w = sym (eqb-true w x here) in
          subst (λ (p : ℕ). ChainWithout uses p v) same (record {
            rest = record {
              chain = chain;
              leads = leads.2;
              distinct = IsDistinct-tail eqb x chain distinct;
            };
            apart = IsDistinct-head eqb x chain distinct;
          })
      | inr later ↦ chain_from uses x chain v w leads.2 (IsDistinct-tail eqb x chain distinct) later
    ]

-- A number that isn't found in a list differs from each there.
apart_from : (w : ℕ) (chain : List ℕ) → list_any (eqb w) chain ≡ false
    → AllByRecursion (λ y. eqb w y ≡ false) chain
apart_from w [] none = tt
apart_from w (x ∷ chain) none =
    let parts = or_parts (eqb w x) (list_any (eqb w) chain) none in
    (parts.0, apart_from w chain parts.1)

-- A chain that passes a use case twice can be cut short.
short_chain : (uses : List UseData) (u : ℕ) (chain : List ℕ) (v : ℕ) → SmoothChain uses u chain v
    → ShortChain uses u v
unfolding IsDistinct
short_chain uses u [] v leads = record { chain = []; leads = leads; distinct = tt }
short_chain uses u (w ∷ chain) v leads =
    let rest = short_chain uses w chain v leads.2 in
    let first : ChainWithout uses w v → ShortChain uses u v = λ without. record {
      chain = w ∷ without.rest.chain;
      leads = (leads.0, leads.1, without.rest.leads);
      distinct =
          IsDistinct-cons eqb w without.rest.chain without.apart without.rest.distinct;
    } in
    elim (cases_Bool (list_any (eqb w) rest.chain)) [
      | inl again ↦ first (chain_from uses w rest.chain v w rest.leads rest.distinct again)
      | inr once ↦ first (record { rest = rest; apart = apart_from w rest.chain once })
    ]

-- A chain passes use cases alone.
chain_below : (uses : List UseData) (u : ℕ) (chain : List ℕ) (v : ℕ) → SmoothChain uses u chain v
    → (q : ℕ) → list_any (eqb q) chain ≡ true → q < length uses
chain_below uses u [] v leads q has = absurd (false≢true has)
chain_below uses u (w ∷ chain) v leads q has =
    elim (or_cases (eqb q w) (list_any (eqb q) chain) has) [
      | inl here ↦
          let low : w < length uses = leads.0 in
          let same : q ≡ w = eqb-true q w here in
          omega arith
      | inr later ↦ chain_below uses w chain v leads.2 q later
    ]

-- ---- the test finds chains

-- The test finds a chain of at most so many pairs.
chained_from_chain : (uses : List UseData) (pairs u : ℕ) (chain : List ℕ) (v : ℕ)
    → SmoothChain uses u chain v → length chain ≤ pairs → is_chained uses pairs u v ≡ true
unfolding is_chained
chained_from_chain uses zero u [] v leads few = eq-eqb u v leads
chained_from_chain uses (suc pairs) u [] v leads few = or_left _ _ (eq-eqb u v leads)
chained_from_chain uses zero u (w ∷ chain) v leads few = absurd (omega arith)
chained_from_chain uses (suc pairs) u (w ∷ chain) v leads few =
    or_right _ _ (any_from_passer (λ w. is_smooth uses u w && is_chained uses pairs w v)
    (length uses) w leads.0
    (and_from _ _ leads.1 (chained_from_chain uses pairs w chain v leads.2 (omega arith))))

-- What the test finds are chains.
same_group_from_chained : (uses : List UseData) (pairs u v : ℕ) → is_chained uses pairs u v ≡ true
    → SameGroup uses u v
unfolding is_chained
same_group_from_chained uses zero u v is =
    subst (SameGroup uses u) (eqb-true u v is) (same_group-refl uses u)
same_group_from_chained uses (suc pairs) u v is = elim (or_cases _ _ is) [
  | inl same ↦ subst (SameGroup uses u) (eqb-true u v same) (same_group-refl uses u)
  | inr some ↦
      let over = passer_from_any (λ w. is_smooth uses u w && is_chained uses pairs w v)
      (length uses) some in
      let parts = and_parts (is_smooth uses u over.number) (is_chained uses pairs over.number v)
      over.passes in
      same_group-trans uses u over.number v
      (same_group-smooth uses u over.number over.below parts.0)
      (same_group_from_chained uses pairs over.number v parts.1)
]

-- Use cases that a chain joins pass the test.
pub in_one_group_from_same_group : (uses : List UseData) (u v : ℕ) → SameGroup uses u v
    → in_one_group uses u v ≡ true
in_one_group_from_same_group uses u v joined =
    let short = short_chain uses u joined.chain v joined.leads in
    chained_from_chain uses (length uses) u short.chain v short.leads
    (length-le_from_distinct_below short.chain (length uses) short.distinct
    (chain_below uses u short.chain v short.leads))

-- Use cases that pass the test are joined by a chain.
pub same_group_from_in_one_group : (uses : List UseData) (u v : ℕ) → in_one_group uses u v ≡ true
    → SameGroup uses u v
same_group_from_in_one_group uses u v is = same_group_from_chained uses (length uses) u v is

-- ---- the test is an equivalence

-- A use case is in one group with itself.
pub in_one_group-refl : (uses : List UseData) (u : ℕ) → in_one_group uses u u ≡ true
in_one_group-refl uses u = in_one_group_from_same_group uses u u (same_group-refl uses u)

-- Being in one group holds both ways.
pub in_one_group-sym : (uses : List UseData) (u v : ℕ) → u < length uses
    → in_one_group uses u v ≡ true → in_one_group uses v u ≡ true
in_one_group-sym uses u v within is = in_one_group_from_same_group uses v u
    (same_group-sym uses u v within (same_group_from_in_one_group uses u v is))

-- Being in one group leads on.
pub in_one_group-trans : (uses : List UseData) (u w v : ℕ) → in_one_group uses u w ≡ true
    → in_one_group uses w v ≡ true → in_one_group uses u v ≡ true
in_one_group-trans uses u w v first second = in_one_group_from_same_group uses u v
    (same_group-trans uses u w v (same_group_from_in_one_group uses u w first)
    (same_group_from_in_one_group uses w v second))

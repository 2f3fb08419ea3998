-- Distinct routers on the way of links are at most as many as there are.
use Rattle.std.proofs.Common.{◌≡◌, ◌∙◌, ◌+◌, ◌<◌, ◌≤◌, ℕ, suc, false, eqb, List, [], ◌∷◌, length}
use Rattle.std.proofs.Common.{map, Contains, sym, ap, subst, inl, inr, arith, eqb-true, ne_eqb}
use Rattle.std.proofs.lemmas.List.{length-map, Elements.Contains-append_left}
use Rattle.std.proofs.lemmas.Map.{Steps.length-le_from_distinct_below, Views.Contains-from_any}
use Rattle.std.specs.List.{AllByRecursion, IsDistinct}
use Rattle.aeth_base.proofs.Members.{Contains-cases, Contains-map, map-Contains}
use Rattle.aeth_base.specs.declared.ids.{LinkId.LinkId, RouterId.RouterId}
use Rattle.aeth_chip.{specs.declared.node.Link.Link, specs.declared.node.Node.Node}
use Rattle.aeth_chip.{specs.declared.node.Node.TheVariants.Router, specs.Distances.AreBelow}
use Rattle.aeth_chip.{specs.Nodes.IsBelow, specs.Paths.AreDistinct, specs.Paths.BeginsAt}
use Rattle.aeth_chip.{specs.Paths.Joins, specs.Paths.to_of, proofs.JoinedLaws.joined-each}

-- A router that is not in a list differs from each that is.
apart : (r : RouterId) (routers : List RouterId) → (Contains routers r → ⊥)
    → AllByRecursion (λ y. eqb r.0 y ≡ false) (map (λ q. q.0) routers)
apart r [] none = tt
apart r (s ∷ routers) none = (
  ne_eqb r.0 s.0 (λ same. none (0, omega arith, ap (λ n. record { 0 = n }) (sym same))),
  apart r routers (λ (k, within, at). none (suc k, omega arith, at)),
)

-- Distinct routers have distinct numbers.
numbers_distinct : (routers : List RouterId) → AreDistinct routers
    → IsDistinct eqb (map (λ q. q.0) routers)
unfolding IsDistinct
numbers_distinct [] distinct = tt
numbers_distinct (r ∷ routers) distinct =
    (apart r routers distinct.0, numbers_distinct routers distinct.1)

-- Distinct routers with numbers below a count are at most as many.
few_distinct : (routers : List RouterId) (count : ℕ) → AreDistinct routers
    → ((r : RouterId) → Contains routers r → r.0 < count) → length routers ≤ count
few_distinct routers count distinct below =
    let size = length-map routers (λ q. q.0) in
    let low = length-le_from_distinct_below (map (λ q. q.0) routers) count
    (numbers_distinct routers distinct)
    (λ q has.
    let (r, same, among) = map-Contains (λ (s : RouterId). s.0) routers q
    (Contains-from_any eqb-true q (map (λ s. s.0) routers) has) in
    let less = below r among in
    omega arith) in
    omega arith

module _ (links : List Link) (count : ℕ) (below : AreBelow links count) where
  -- Routers on the way have numbers below that of routers.
  joins_below : (a : Node) (routers : List RouterId) (b : Node) (path : List LinkId)
      → Joins links a routers b path → (r : RouterId) → Contains routers r → r.0 < count
  joins_below a routers b path joins r has =
      let among : Contains (map (to_of links) path) (Router r) =
      subst (λ (ns : List Node). Contains ns (Router r)) (sym joins.ends)
      (Contains-append_left (map (λ q. Router q) routers) (b ∷ []) (Router r)
      (Contains-map (λ (q : RouterId). Router q) routers r has)) in
      let (l, same, in_path) = map-Contains (to_of links) path (Router r) among in
      let (from, goes) = joined-each (BeginsAt links) (to_of links) a path joins.joined l in_path in
      subst (IsBelow count) (goes.ends ∙ same) (below l.0 goes.link goes.is)

  -- Links through distinct routers pass at most as many as there are.
  pub length-distinct_routers : (a : Node) (routers : List RouterId) (b : Node)
      (path : List LinkId) → Joins links a routers b path → AreDistinct routers
      → length routers ≤ count
  length-distinct_routers a routers b path joins distinct =
      few_distinct routers count distinct (joins_below a routers b path joins)

  -- With the router where they begin, where that is one of them, at most as many.
  pub length-distinct_onward : (r : RouterId) (routers : List RouterId) (b : Node)
      (path : List LinkId) → Joins links (Router r) routers b path → AreDistinct (r ∷ routers)
      → r.0 < count → length routers + 1 ≤ count
  length-distinct_onward r routers b path joins distinct within =
      let few = few_distinct (r ∷ routers) count distinct
      (λ q has. elim (Contains-cases r routers q has) [
        | inl same ↦ subst (λ (s : RouterId). s.0 < count) same within
        | inr later ↦ joins_below (Router r) routers b path joins q later
      ]) in
      omega arith

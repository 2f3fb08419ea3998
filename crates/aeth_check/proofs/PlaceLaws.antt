-- Paths walked from the last link to the first, with a set of the routers that the links behind come
-- to.
use Rattle.std.proofs.Common.{◌≡◌, ◌∙◌, ◌+◌, ◌-◌, ◌<◌, ◌&&◌, ◌||◌, ℕ, zero, suc, true, false, eqb}
use Rattle.std.proofs.Common.{List, [], ◌∷◌, Option, Some, None, drop, slice_get, refl, sym, ap}
use Rattle.std.proofs.Common.{inl, inr, subst, arith, ◌%◌, Contains, eq-eqb, ne_eqb}
use Rattle.std.proofs.Math.Bool.{and-false, and-true}
use Rattle.std.proofs.lemmas.Bool.{cases_eq}
use Rattle.aeth_base.proofs.Lists.{drop-slice_get}
use Rattle.aeth_base.specs.declared.ids.{LinkId.LinkId, NiId.NiId, RouterId.RouterId}
use Rattle.aeth_slots.specs.SlotSet.{Slots, with_slot}
use Rattle.aeth_slots.proofs.Ascending.{with_slot-new, with_slot-old}
use Rattle.aeth_chip.specs.Nodes.{begins_at, ends_at, same_node}
use Rattle.aeth_chip.specs.declared.node.Link.{Link}
use Rattle.aeth_chip.specs.declared.node.Node.{Node, TheVariants.Router, TheVariants.Ni}
use Rattle.aeth_chip.specs.PathTests.{comes_to, follows, is_fresh}
use Rattle.aeth_check.specs.Routes.{HasPlaces, place_of, places, with_node}

eqb-sym : (a b : ℕ) → eqb a b ≡ eqb b a
eqb-sym a b = elim (cases_eq a b) [
  | inl same ↦ eq-eqb a b same ∙ sym (eq-eqb b a (sym same))
  | inr other ↦ ne_eqb a b other ∙ sym (ne_eqb b a (λ same. other (sym same)))
]

same_node-sym : (a b : Node) → same_node a b ≡ same_node b a
same_node-sym (Router r) (Router q) = eqb-sym r.0 q.0
same_node-sym (Router r) (Ni m) = refl
same_node-sym (Ni n) (Router q) = refl
same_node-sym (Ni n) (Ni m) = eqb-sym n.0 m.0

-- A link that comes to no node from which the path goes on leads nowhere.
stays_invalid : (links : List Link) (b : NiId) (path : List LinkId) (n : ℕ)
    → ((at : Node) → follows links b at (drop n path) ≡ false)
    → (at : Node) → follows links b at path ≡ false
stays_invalid links b path zero none at = none at
stays_invalid links b [] (suc n) none at = none at
stays_invalid links b (l ∷ path) (suc n) none at =
    let behind = stays_invalid links b path n none in
    let cases : (found : Option Link) → slice_get links l.0 ≡ found
    → follows links b at (l ∷ path) ≡ false =
    elim [
      | None ↦ λ is. rw is refl
      | Some link ↦ λ is. rw (is, behind link.to)
          (ap (λ t. begins_at at link && t) (and-false (is_fresh links link.to path))
          ∙ and-false (begins_at at link))
    ]
    in cases (slice_get links l.0) refl

module _ (links : List Link) (b : NiId) (path : List LinkId) (left : ℕ) (l : LinkId) (link : Link)
    (next : Node) (some : 0 < left) (here : slice_get path (left - 1) ≡ Some l)
    (is : slice_get links l.0 ≡ Some link)
    (so_far : (at : Node) → follows links b at (drop left path) ≡ same_node next at) where
  step : (at : Node) → follows links b at (drop (left - 1) path)
      ≡ (begins_at at link && (is_fresh links link.to (drop left path) && same_node next link.to))
  step at =
      let on : left - 1 + 1 ≡ left = omega (arith, some) in
      ap (follows links b at) (drop-slice_get path (left - 1) l here
      ∙ ap (λ n. l ∷ drop n path) on)
      ∙ rw (is, so_far link.to) refl

  -- The link ends elsewhere than where the path goes on.
  pub ends_elsewhere : (a : NiId) → ends_at next link ≡ false → false ≡ follows links b (Ni a) path
  ends_elsewhere a other =
      sym (stays_invalid links b path (left - 1) (λ at. step at
      ∙ ap (λ t. begins_at at link && (is_fresh links link.to (drop left path) && t))
      (same_node-sym next link.to ∙ other)
      ∙ ap (λ t. begins_at at link && t) (and-false (is_fresh links link.to (drop left path)))
      ∙ and-false (begins_at at link)) (Ni a))

  -- The path comes back to where the link ends.
  pub comes_again : (a : NiId) → is_fresh links link.to (drop left path) ≡ false
      → false ≡ follows links b (Ni a) path
  comes_again a again =
      sym (stays_invalid links b path (left - 1) (λ at. step at
      ∙ ap (λ t. begins_at at link && (t && same_node next link.to)) again
      ∙ and-false (begins_at at link)) (Ni a))

  -- The link leads to where the path goes on.
  pub leads_to : ends_at next link ≡ true → is_fresh links link.to (drop left path) ≡ true
      → (at : Node) → follows links b at (drop (left - 1) path) ≡ same_node link.from at
  leads_to ends fresh at =
      step at
      ∙ ap (λ t. begins_at at link && (t && same_node next link.to)) fresh
      ∙ ap (λ t. begins_at at link && t) (same_node-sym next link.to ∙ ends)
      ∙ and-true (begins_at at link)

with_node-size : (node : Node) (set : Slots) → (with_node node set).size ≡ set.size
with_node-size (Router r) set = refl
with_node-size (Ni n) set = refl

with_node-each : (node : Node) (links : List Link) (path : List LinkId) (set : Slots)
    → HasPlaces links path set → (router : RouterId)
    → (same_node node (Router router) || comes_to links router path) ≡ true
    → Contains (with_node node set).slots (place_of router)
with_node-each (Router r) links path set has router comes = elim (cases_eq r.0 router.0) [
  | inl same ↦ subst (λ (k : ℕ). Contains (with_slot (place_of r) set.slots) (k % places)) same
      (with_slot-new (place_of r) set.slots)
  | inr other ↦ with_slot-old (place_of r) set.slots (place_of router) (has.each router
      (sym (ap (λ t. t || comes_to links router path) (ne_eqb r.0 router.0 other)) ∙ comes))
]
with_node-each (Ni n) links path set has router comes = has.each router comes

-- The set with the place of where one link more ends.
pub put_place : (links : List Link) (path : List LinkId) (set : Slots) (left : ℕ) (l : LinkId)
    (link : Link) → 0 < left → slice_get path (left - 1) ≡ Some l
    → slice_get links l.0 ≡ Some link → HasPlaces links (drop left path) set
    → HasPlaces links (drop (left - 1) path) (with_node link.to set)
put_place links path set left l link some here is has =
    let on : left - 1 + 1 ≡ left = omega (arith, some) in
    subst (λ (ls : List LinkId). HasPlaces links ls (with_node link.to set))
    (sym (drop-slice_get path (left - 1) l here ∙ ap (λ n. l ∷ drop n path) on))
    (record {
      size = with_node-size link.to set ∙ has.size;
      each = λ router comes. with_node-each link.to links (drop left path) set has router
          (rw is at comes);
    })

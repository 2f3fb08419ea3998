-- Where wires start and end, by their links.
use Rattle.std.proofs.Common.{◌≡◌, ◌<◌, ◌-◌, ◌∙◌, ℕ, zero, suc, List, Option, Some, None, refl, sym}
use Rattle.std.proofs.Common.{ap, inl, inr, arith, slice_get, eq-eqb}
use Rattle.std.proofs.lemmas.Bool.Decides.{eqb_tells}
use Rattle.aeth_chip.specs.Paths.{delay_in, delay_of, to_in, to_of}
use Rattle.aeth_chip.specs.Wires.{HaveDelays, wire_at}
use Rattle.aeth_chip.specs.declared.node.Link.{Link}
use Rattle.aeth_chip.specs.declared.node.Node.{Node, TheVariants.Ni, TheVariants.Router}
use Rattle.aeth_invariant.specs.RoutedSessions.{AtStage}
use Rattle.aeth_router.{specs.Router.last_wire, proofs.WireLemmas.last_wire-is}
use Rattle.aeth_routed_sessions.specs.Wiring.{end_in, end_of, from_in, node_end, start_in, start_of}
use Rattle.aeth_routed_sessions.specs.Wiring.{wire_place}
use Rattle.aeth_routed_sessions.proofs.WirePlaces.{wire_place-at, wire_place-is}

-- Nodes with one end are one.
pub node_end-once : (a b : Node) → node_end a ≡ node_end b → a ≡ b
node_end-once (Router r) (Router q) same =
    let numbers : r.0 ≡ q.0 = cc same in ap (λ (n : ℕ). Router (record { 0 = n })) numbers
node_end-once (Router r) (Ni m) same = absurd (cc same)
node_end-once (Ni n) (Router q) same = absurd (cc same)
node_end-once (Ni n) (Ni m) same =
    let numbers : n.0 ≡ m.0 = cc same in ap (λ (k : ℕ). Ni (record { 0 = k })) numbers

-- No node is a stage.
pub not_node : (node : Node) (l : ℕ) → node_end node ≡ AtStage l → ⊥
not_node (Router r) l same = absurd (cc same)
not_node (Ni n) l same = absurd (cc same)

pub same_stage : (l m : ℕ) → AtStage l ≡ AtStage m → l ≡ m
same_stage l m same = cc same

-- The delay of a link that is there.
pub delay-there : (links : List Link) (l : ℕ) (link : Link) → slice_get links l ≡ Some link
    → delay_of links (record { 0 = l }) ≡ link.delay
delay-there links l link at = ap delay_in at

-- The first wire of a link that begins at a node.
pub record StartsAt (links : List Link) (wire : ℕ) (node : Node) : Type 0 where
  pub link : Link
  pub at : slice_get links wire ≡ Some link
  pub from : link.from ≡ node

-- The last wire of a link that ends at a node.
pub record EndsAt (links : List Link) (wire : ℕ) (node : Node) : Type 0 where
  pub number : ℕ
  pub link : Link
  pub at : slice_get links number ≡ Some link
  pub to : link.to ≡ node
  pub is : last_wire links number ≡ wire

-- Two wires of a link, one behind the other, or no wire.
pub record FollowsIn (links : List Link) (before wire : ℕ) : Type 0 where
  pub number : ℕ
  pub place : ℕ
  pub link : Link
  pub at : slice_get links number ≡ Some link
  pub short : suc place < link.delay
  pub first : wire_at links number place ≡ before
  pub second : wire_at links number (suc place) ≡ wire

module _ (links : List Link) (delays : HaveDelays links) where
  -- Wires by their links.
  pub first-starts : (l : ℕ) (link : Link) → slice_get links l ≡ Some link
      → start_of links l ≡ node_end link.from
  first-starts l link at =
      let delay = (delays l link at).0 in
      ap (start_in links l) (wire_place-at links l 0 link at (omega (arith, delay)))
      ∙ ap (λ (o : Option Link). node_end (from_in o)) at

  pub further-starts : (l p : ℕ) (link : Link) → slice_get links l ≡ Some link
      → suc p < link.delay → start_of links (wire_at links l (suc p)) ≡ AtStage (wire_at links l p)
  further-starts l p link at short =
      ap (start_in links (wire_at links l (suc p))) (wire_place-at links l (suc p) link at short)

  pub last-ends : (l : ℕ) (link : Link) → slice_get links l ≡ Some link
      → end_of links (last_wire links l) ≡ node_end link.to
  last-ends l link at =
      let delay = (delays l link at).0 in
      let wire = wire_at links l (link.delay - 1) in
      let same = delay-there links l link at in
      let here = eq-eqb (suc (link.delay - 1)) (delay_of links (record { 0 = l }))
      (omega (arith, delay, same)) in
      ap (end_of links) (last_wire-is links l link at)
      ∙ ap (end_in links wire) (wire_place-at links l (link.delay - 1) link at (omega (arith, delay)))
      ∙ rw here (ap (λ (o : Option Link). node_end (to_in o)) at)

  pub inner-ends : (l p : ℕ) (link : Link) → slice_get links l ≡ Some link → suc p < link.delay
      → end_of links (wire_at links l p) ≡ AtStage (wire_at links l p)
  inner-ends l p link at short =
      let wire = wire_at links l p in
      let same = delay-there links l link at in
      ap (end_in links wire) (wire_place-at links l p link at (omega (arith, short)))
      ∙ elim (eqb_tells (suc p) (delay_of links (record { 0 = l }))) [
        | inl last ↦ let all = last.1 in absurd (omega (arith, all, short, same))
        | inr more ↦ rw more.0 refl
      ]

  -- A wire that starts at a node.
  starts-in : (wire : ℕ) (node : Node) (o : Option (ℕ × ℕ)) → wire_place links wire ≡ o
      → start_in links wire o ≡ node_end node → StartsAt links wire node
  starts-in wire node None is same = absurd (not_node node wire (sym same))
  starts-in wire node (Some (l, zero)) is same =
      let found = wire_place-is links delays wire (l, 0) is in
      let from = node_end-once (from_in (slice_get links l)) node same in
      record {
        link = found.link;
        at = ap (slice_get links) (sym found.is) ∙ found.is_link;
        from = sym (ap from_in found.is_link) ∙ from;
      }
  starts-in wire node (Some (l, suc p)) is same =
      absurd (not_node node (wire_at links l p) (sym same))

  pub starts_at-node : (wire : ℕ) (node : Node) → start_of links wire ≡ node_end node
      → StartsAt links wire node
  starts_at-node wire node same = starts-in wire node (wire_place links wire) refl same

  -- A wire that ends at a node.
  ends-in : (wire : ℕ) (node : Node) (o : Option (ℕ × ℕ)) → wire_place links wire ≡ o
      → end_in links wire o ≡ node_end node → EndsAt links wire node
  ends-in wire node None is same = absurd (not_node node wire (sym same))
  ends-in wire node (Some (l, p)) is same =
      let found = wire_place-is links delays wire (l, p) is in
      let delay = delay_of links (record { 0 = l }) in
      elim (eqb_tells (suc p) delay) [
        | inl last ↦
            let to = node_end-once (to_of links (record { 0 = l })) node (rw last.0 at same) in
            let all = last.1 in
            let place : delay - 1 ≡ p = omega (arith, all) in
            record {
              number = l;
              link = found.link;
              at = found.is_link;
              to = sym (ap to_in found.is_link) ∙ to;
              is = ap (wire_at links l) place ∙ found.is;
            }
        | inr more ↦ absurd (not_node node wire (sym (rw more.0 at same)))
      ]

  pub ends_at-node : (wire : ℕ) (node : Node) → end_of links wire ≡ node_end node
      → EndsAt links wire node
  ends_at-node wire node same = ends-in wire node (wire_place links wire) refl same

  -- A wire that starts at a stage is behind another, or no wire.
  pub data StartsBehind (wire l : ℕ) : Type 0 where
    NoWire : wire_place links wire ≡ None → wire ≡ l → StartsBehind wire l
    Behind : FollowsIn links l wire → StartsBehind wire l

  behind-in : (wire l : ℕ) (o : Option (ℕ × ℕ)) → wire_place links wire ≡ o
      → start_in links wire o ≡ AtStage l → StartsBehind wire l
  behind-in wire l None is same = NoWire is (same_stage wire l same)
  behind-in wire l (Some (m, zero)) is same =
      absurd (not_node (from_in (slice_get links m)) l same)
  behind-in wire l (Some (m, suc p)) is same =
      let found = wire_place-is links delays wire (m, suc p) is in
      Behind (record {
        number = m;
        place = p;
        link = found.link;
        at = found.is_link;
        short = found.short;
        first = same_stage (wire_at links m p) l same;
        second = found.is;
      })

  pub starts_behind : (wire l : ℕ) → start_of links wire ≡ AtStage l → StartsBehind wire l
  starts_behind wire l same = behind-in wire l (wire_place links wire) refl same

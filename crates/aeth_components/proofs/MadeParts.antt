-- Lists of components: ranges, nodes by their places, and the stages of links.
use Rattle.std.proofs.Common.{ℕ, zero, suc, ◌≡◌, ◌<◌, ◌≤◌, ◌+◌, ◌-◌, refl, sym, ◌∙◌, ap, arith}
use Rattle.std.proofs.Common.{List, [], ◌∷◌, ◌++◌, length, take, Some, slice_get, true, false, inl}
use Rattle.std.proofs.Common.{inr, eqb-true, ◌==◌, slice_index, ◌⊎◌, length-append}
use Rattle.std.proofs.lemmas.Bool.{cases_Bool}
use Rattle.std.proofs.lemmas.List.{FromFn.length-map-range_with_len, flat_map_more}
use Rattle.std.specs.List.{range_with_len, flat_map}
use Rattle.aeth_chip.{specs.Chip.IsNode, specs.Nodes.same_node, specs.Paths.delay_of}
use Rattle.aeth_chip.{specs.Wires.further_wires, specs.declared.node.Link.Link}
use Rattle.aeth_chip.{specs.declared.node.Node.Node, specs.declared.node.Node.TheVariants.Router}
use Rattle.aeth_chip.{specs.declared.node.Node.TheVariants.Ni, proofs.WireLemmas.sum_by-take_more}
use Rattle.aeth_router.specs.{Router.is_among, declared.part.Part.Part}
use Rattle.aeth_base.proofs.{Lists.item-at, Ranges.map-range-at, Ranges.range_with_len-more}
use Rattle.aeth_components.specs.Ends.{part_number}
use Rattle.aeth_components.specs.Making.{link_stages, made_stage, made_stages}

-- An element of two lists in a row is one of either.
pub at-append : {X : Type 0} (xs ys : List X) (i : ℕ) (x : X) → slice_get (xs ++ ys) i ≡ Some x
    → ((i < length xs) × (slice_get xs i ≡ Some x))
    ⊎ ((j : ℕ) × (i ≡ length xs + j) × (slice_get ys j ≡ Some x))
at-append [] ys i x at = inr (i, omega arith, at)
at-append (first ∷ xs) ys zero x at = inl (omega arith, at)
at-append (first ∷ xs) ys (suc i) x at =
    elim (at-append xs ys i x at) [
      | inl here ↦ inl (let within = here.0 in omega arith, here.1)
      | inr later ↦ inr (later.0, let place = later.1 in omega arith, later.2)
    ]

-- One node is at one place.
pub same_node-place : (count : ℕ) (some other : Node) → same_node some other ≡ true
    → part_number count some ≡ part_number count other
same_node-place count (Router r) (Router q) same = ap (λ n. count + n) (eqb-true r.0 q.0 same)
same_node-place count (Router r) (Ni m) same = absurd (cc same)
same_node-place count (Ni n) (Router q) same = absurd (cc same)
same_node-place count (Ni n) (Ni m) same = eqb-true n.0 m.0 same

-- The place of a node of a chip.
pub part_number-below : (routers nis : List (List ℕ)) (node : Node) → IsNode routers nis node
    → part_number (length nis) node < length nis + length routers
part_number-below routers nis (Router r) known = omega arith
part_number-below routers nis (Ni n) known = omega arith

-- A member of a list with one is that one.
pub among-first : (only wire : ℕ) → is_among (only ∷ []) wire ≡ true → (only == wire) ≡ true
among-first only wire among =
    elim (cases_Bool (only == wire)) [
      | inl same ↦ same
      | inr other ↦ absurd (let no : false ≡ true = rw other at among in cc)
    ]

-- The only member of a list is among its members.
pub among-only : (list : List ℕ) (only link : ℕ) → list ≡ only ∷ []
    → (slice_index list 0 == link) ≡ true → is_among list link ≡ true
among-only list only link is same =
    let here : (only == link) ≡ true = rw is at same in
    rw is (rw here refl)

-- The stage of a number among those of the first links: its link, its place, and the component.
pub record StageAt (links : List Link) (number : ℕ) (part : Part) : Type 0 where
  pub link : ℕ
  pub place : ℕ
  pub found : Link
  pub at : slice_get links link ≡ Some found
  pub short : place + 1 < found.delay
  pub number_is : number ≡ further_wires (take link links) + place
  pub is : part ≡ made_stage links link place

-- One link more has its stages behind those of the links before it.
pub made_stages-more : (links : List Link) (count : ℕ)
    → made_stages links (count + 1) ≡ made_stages links count ++ link_stages links count
made_stages-more links count =
    ap (λ n. made_stages links n) (let same : count + 1 ≡ suc count = omega arith in same)
    ∙ ap (flat_map (link_stages links)) (range_with_len-more 0 count count (omega arith))
    ∙ sym (flat_map_more (link_stages links) [] (range_with_len 0 count) count)

-- The stages of a link.
pub length-link_stages : (links : List Link) (link : ℕ) (found : Link)
    → slice_get links link ≡ Some found → length (link_stages links link) ≡ found.delay - 1
length-link_stages links link found at =
    length-map-range_with_len (made_stage links link) 0
    (delay_of links (record { 0 = link }) - 1) ∙ rw at refl

module _ (links : List Link) where
  -- As many stages as further wires.
  pub length-made_stages : (count : ℕ) → count ≤ length links
      → length (made_stages links count) ≡ further_wires (take count links)
  length-made_stages zero within = refl
  length-made_stages (suc count) within =
      let item = item-at links count (omega arith) in
      let found = item.0 in
      let at = item.1 in
      let rest = length-made_stages count (omega arith) in
      let here = length-link_stages links count found at in
      let more = sum_by-take_more (λ (link : Link). link.delay - 1) links count found at in
      let same : suc count ≡ count + 1 = omega arith in
      let whole : length (made_stages links count) + length (link_stages links count)
      ≡ further_wires (take (count + 1) links) = omega arith in
      ap (λ n. length (made_stages links n)) same ∙ ap length (made_stages-more links count)
      ∙ length-append (made_stages links count) (link_stages links count) ∙ whole
      ∙ ap (λ n. further_wires (take n links)) (sym same)

  pub stage-at : (count : ℕ) → count ≤ length links → (number : ℕ) (part : Part)
      → slice_get (made_stages links count) number ≡ Some part → StageAt links number part
  stage-at zero within number part at = absurd cc
  stage-at (suc count) within number part at =
      let same : suc count ≡ count + 1 = omega arith in
      let two : slice_get (made_stages links count ++ link_stages links count) number ≡ Some part =
      ap (λ list. slice_get list number) (sym (made_stages-more links count)
      ∙ ap (λ n. made_stages links n) (sym same)) ∙ at in
      let size = length-made_stages count (omega arith) in
      elim (at-append (made_stages links count) (link_stages links count) number part two) [
        | inl here ↦ stage-at count (omega arith) number part here.1
        | inr later ↦
            let stages = delay_of links (record { 0 = count }) - 1 in
            let one = map-range-at (made_stage links count) 0 stages later.0 part later.2 in
            let item = item-at links count (omega arith) in
            let place = later.1 in
            let short : later.0 < item.0.delay - 1 = rw item.1 at one.0 in
            record {
              link = count;
              place = later.0;
              found = item.0;
              at = item.1;
              short = omega arith;
              number_is = omega arith;
              is = one.1 ∙ ap (made_stage links count)
                  (let same : 0 + later.0 ≡ later.0 = omega arith in same);
            }
      ]

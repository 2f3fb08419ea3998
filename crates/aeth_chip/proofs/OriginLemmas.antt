-- Laws of the sets of the places from which a link leads to a place.
use Rattle.std.proofs.Common.{◌≡◌, ◌≢◌, ◌⊎◌, ◌∙◌, ◌+◌, ◌*◌, ◌%◌, ◌^◌, ◌<◌, ◌≤◌, ◌++◌, ℕ, List, [], ◌∷◌}
use Rattle.std.proofs.Common.{length, take, get_or, set, length-set, sym, ap, subst, inl, inr}
use Rattle.std.proofs.Common.{Some, arith, bit_or}
use Rattle.std.specs.Prelude.{slice_index}
use Rattle.std.specs.Int.{bit_at, w128}
use mir.Val.{bits}
use Rattle.std.proofs.lemmas.{Bool.cases_eq, Option.slice_get-get_or}
use Rattle.std.proofs.lemmas.List.{get_or_default, get_or-set_other, get_or-set_same, take_more}
use Rattle.std.proofs.lemmas.List.Elements.{Contains-append_left, Contains-push}
use Rattle.std.proofs.lemmas.List.Elements.{Contains-push_cases}
use Rattle.std.proofs.lemmas.Nat.Bits.{bit_at_set_other, bit_at_set_same}
use Rattle.aeth_chip.specs.declared.node.Link.{Link}
use Rattle.aeth_chip.specs.declared.node.Node.{Node}
use Rattle.aeth_chip.specs.declared.node.Node.TheVariants.{Router, Ni}
use Rattle.aeth_chip.specs.Levels.{AreOrigins, Enters, HasPlace, HasPlaces, IsOrigin, IsLinkStep}
use Rattle.aeth_chip.specs.Levels.{node_place}
use Rattle.aeth_chip.specs.{Chip.ChipData, Chip.IsChip, Chip.IsNode, Limits.max_places}

-- A set with a place more.
abbrev pub with_place : ℕ → ℕ → ℕ
with_place places place = bit_or places (1 * 2 ^ place % 2 ^ bits w128)

-- A place was put into a place's set.
pub enters-set : (routers : ℕ) (link : Link) (old : List ℕ) (from to : ℕ)
    → from ≡ node_place routers link.from → to ≡ node_place routers link.to
    → (from < routers) ⊎ (to < routers) → to < length old → from < max_places
    → Enters routers link old (set old to (with_place (slice_index old to) from))
enters-set routers link old from to begins ends router within few =
    let new = set old to (with_place (slice_index old to) from) in
    let at : slice_index new to ≡ with_place (slice_index old to) from =
    get_or-set_same old to (with_place (slice_index old to) from) 0 within in
    let apart : (q : ℕ) → q ≢ to → slice_index new q ≡ slice_index old q =
    λ q other. get_or-set_other old to q (with_place (slice_index old to) from) 0 other in
    let here : (p q : ℕ) → q ≡ to
    → bit_at (slice_index new q) p ≡ bit_at (with_place (slice_index old to) from) p =
    λ p q same. ap (λ n. bit_at (slice_index new n) p) same ∙ ap (λ s. bit_at s p) at in
    let entered : (p q : ℕ) → p ≡ from → q ≡ to → IsOrigin new p q =
    λ p q one same. here p q same ∙ ap (bit_at (with_place (slice_index old to) from)) one
    ∙ bit_at_set_same w128 (slice_index old to) from few in
    let others : (p q : ℕ) → p ≢ from → q ≡ to
    → bit_at (slice_index new q) p ≡ bit_at (slice_index old q) p =
    λ p q other same. here p q same
    ∙ bit_at_set_other w128 (slice_index old to) from few p other
    ∙ ap (λ n. bit_at (slice_index old n) p) (sym same) in
    record {
      size = length-set old to (with_place (slice_index old to) from);
      only = λ p q has. elim (cases_eq q to) [
        | inl same ↦ elim (cases_eq p from) [
          | inl one ↦ inr (record {
            begins = sym begins ∙ sym one;
            ends = sym ends ∙ sym same;
            router = elim router [
              | inl low ↦ inl (subst (λ (r : ℕ). r < routers) (sym one) low)
              | inr low ↦ inr (subst (λ (r : ℕ). r < routers) (sym same) low)
            ];
          })
          | inr other ↦ inl (sym (others p q other same) ∙ has)
        ]
        | inr other ↦ inl (ap (λ s. bit_at s p) (sym (apart q other)) ∙ has)
      ];
      kept = λ p q has. elim (cases_eq q to) [
        | inl same ↦ elim (cases_eq p from) [
          | inl one ↦ entered p q one same
          | inr other ↦ others p q other same ∙ has
        ]
        | inr other ↦ ap (λ s. bit_at s p) (apart q other) ∙ has
      ];
      each = λ p q step. entered p q (sym step.begins ∙ sym begins) (sym step.ends ∙ sym ends);
    }

-- With one more link.
origins-push : (routers places : ℕ) (links : List Link) (link : Link) (old new : List ℕ)
    → AreOrigins links routers places old → Enters routers link old new
    → AreOrigins (links ++ link ∷ []) routers places new
origins-push routers places links link old new origins enters = record {
  size = enters.size ∙ origins.size;
  only = λ p q has. elim (enters.only p q has) [
    | inl early ↦
        let leads = origins.only p q early in
        record {
          link = leads.link;
          has =
              Contains-append_left links (link ∷ []) leads.link leads.has;
          step = leads.step;
        }
    | inr step ↦ record { link = link; has = Contains-push links link; step = step }
  ];
  each = λ p q leads. elim (Contains-push_cases links link leads.link leads.has) [
    | inl early ↦ enters.kept p q
        (origins.each p q (record { link = leads.link; has = early; step = leads.step }))
    | inr same ↦ enters.each p q
        (subst (λ (l : Link). IsLinkStep routers l p q) (sym same) leads.step)
  ];
}

-- With one more link of a list.
pub origins-more : (routers places : ℕ) (links : List Link) (i : ℕ) (default : Link)
    (old new : List ℕ) → i < length links
    → AreOrigins (take i links) routers places old
    → Enters routers (get_or links i default) old new
    → AreOrigins (take (i + 1) links) routers places new
origins-more routers places links i default old new within origins enters =
    subst (λ (ls : List Link). AreOrigins ls routers places new)
    (sym (take_more links i default within))
    (origins-push routers places (take i links) (get_or links i default) old new origins enters)

-- The place of a node that has one.
place_below : (routers places : ℕ) (node : Node) → routers ≤ places
    → HasPlace routers places node → node_place routers node < places
place_below routers places (Router r) le has = omega arith
place_below routers places (Ni n) le has = has

-- A link of a list begins and ends at a place.
pub ends_below : (routers places : ℕ) (links : List Link) (i : ℕ) (default : Link)
    → routers ≤ places → HasPlaces links routers places → i < length links
    → (node_place routers (get_or links i default).from < places)
    × (node_place routers (get_or links i default).to < places)
ends_below routers places links i default le placed within =
    let link = get_or links i default in
    let ends = placed link (i, within, get_or_default links i link default within) in (
      place_below routers places link.from le ends.0,
      place_below routers places link.to le ends.1,
    )

-- Each place in the sets is one.
pub origin_below : (routers places : ℕ) (links : List Link) (origins : List ℕ)
    → routers ≤ places → HasPlaces links routers places → AreOrigins links routers places origins
    → (from to : ℕ) → IsOrigin origins from to → from < places
origin_below routers places links origins le placed are from to has =
    let leads = are.only from to has in
    subst (λ (p : ℕ). p < places) leads.step.begins
    (place_below routers places leads.link.from le (placed leads.link leads.has).0)

-- A node of a chip has a place.
node_placed : (routers nis : List (List ℕ)) (places : ℕ) → length routers + length nis ≤ places
    → (node : Node) → IsNode routers nis node → HasPlace (length routers) places node
node_placed routers nis places few (Router r) is = is
node_placed routers nis places few (Ni n) is = omega arith

-- The ends of the links of a chip have places.
pub links_placed : (chip : ChipData) → IsChip chip → (places : ℕ)
    → length chip.routers + length chip.nis ≤ places
    → HasPlaces chip.links (length chip.routers) places
links_placed chip is_chip places few link (i, within, is) =
    let its = is_chip.links i link (slice_get-get_or chip.links i link within ∙ ap Some is) in (
      node_placed chip.routers chip.nis places few link.from its.from,
      node_placed chip.routers chip.nis places few link.to its.to,
    )

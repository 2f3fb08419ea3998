-- The chip that a file tells, where its rules are kept.
use Rattle.std.proofs.Common.{subst, ◌≡◌, ◌≤◌, ℕ, zero, suc, false, List, [], ◌∷◌, length, map}
use Rattle.std.proofs.Common.{Option, Some, None, refl, inl, inr, codes, slice_get, is_none, Ok}
use Rattle.std.proofs.lemmas.{Bool.cases_Bool, List.length-map, Option.same_Some}
use Rattle.std.specs.List.{AllByRecursion}
use Rattle.toml.specs.Data.{Members}
use Rattle.aeth_chip.specs.declared.node.Link.{Link}
use Rattle.aeth_chip.specs.declared.node.Node.{Node, TheVariants.Router, TheVariants.Ni}
use Rattle.aeth_chip.specs.Chip.{ChipData, IsChip, IsLinkOf, IsNode}
use Rattle.aeth_chip.specs.ChipFile.{ends_are_known, is_in_range, keys_fit, names_differ}
use Rattle.aeth_chip.specs.ChipFile.{nis_are_single, ports_are_few, unknown_end}
use Rattle.aeth_chip.specs.Limits.{max_links}
use Rattle.aeth_chip.specs.Nodes.{IsBelow, IsNiBelow}
use Rattle.aeth_chip.specs.Told.{known, link_of, link_tables, nis_of, node_at, node_of, routers_of}
use Rattle.aeth_chip.specs.Told.{HasDelay, told_chip, told_links}
use Rattle.aeth_chip.proofs.PortLemmas.{each_has_few_ports, each_is_single}
use Rattle.aeth_chip.proofs.RangeLemmas.{delays_are, in_range, names_apart, names_are}
use Rattle.aeth_document.specs.Values.{text_at}
use Rattle.aeth_document.specs.Walks.{first_broken, next_place, place_of}
use Rattle.aeth_document.proofs.ChainLemmas.{judged-none}
use Rattle.aeth_document.proofs.WalkLemmas.{first_broken-head, first_broken-tail, place_of-within}

-- A node that a text names is one of the routers or network interfaces.
node_at-IsNode : (routers nis : List (List ℕ)) (text : List ℕ) (router ni : Option ℕ) (node : Node)
    → place_of routers text ≡ router → place_of nis text ≡ ni → node_at router ni ≡ Some node
    → IsNode routers nis node
node_at-IsNode routers nis text (Some r) ni node is_router is_ni found =
    let same : Router (record { 0 = r }) ≡ node = same_Some _ _ found in
    subst (λ (n : Node). IsNode routers nis n) same (place_of-within routers text r is_router)
node_at-IsNode routers nis text None (Some n) node is_router is_ni found =
    let same : Ni (record { 0 = n }) ≡ node = same_Some _ _ found in
    subst (λ (m : Node). IsNode routers nis m) same (place_of-within nis text n is_ni)
node_at-IsNode routers nis text None None node is_router is_ni found = absurd (cc found)

-- The node that a text names, where it isn't unknown.
known-IsNode : (routers nis : List (List ℕ)) (text : List ℕ) (found : Option Node)
    → node_of routers nis text ≡ found → is_none found ≡ false → IsNode routers nis (known found)
unfolding node_of
known-IsNode routers nis text None is named = absurd (cc named)
known-IsNode routers nis text (Some node) is named =
    node_at-IsNode routers nis text (place_of routers text) (place_of nis text) node refl refl is

-- A link that shows no unknown end begins at a known node.
begins_known : (routers nis : List (List ℕ)) (table : Members)
    → unknown_end routers nis table ≡ None
    → is_none (node_of routers nis (text_at (codes "from") table)) ≡ false
begins_known routers nis table none =
    elim (cases_Bool (is_none (node_of routers nis (text_at (codes "from") table)))) [
      | inl unknown ↦ absurd (cc (rw unknown at none))
      | inr named ↦ named
    ]

-- It ends at a known node.
ends_known : (routers nis : List (List ℕ)) (table : Members)
    → unknown_end routers nis table ≡ None
    → is_none (node_of routers nis (text_at (codes "to") table)) ≡ false
ends_known routers nis table none =
    let begins = begins_known routers nis table none in
    elim (cases_Bool (is_none (node_of routers nis (text_at (codes "to") table)))) [
      | inl unknown ↦ absurd (cc (rw (begins, unknown) at none))
      | inr named ↦ named
    ]

-- The link of a table that shows no unknown end, with a delay in its range, is one of the chip.
is_link : (chip : ChipData) (table : Members) → unknown_end chip.routers chip.nis table ≡ None
    → HasDelay table → IsLinkOf chip (link_of chip.routers chip.nis table)
is_link chip table none delay = record {
  from = known-IsNode chip.routers chip.nis (text_at (codes "from") table) _ refl
      (begins_known chip.routers chip.nis table none);
  to = known-IsNode chip.routers chip.nis (text_at (codes "to") table) _ refl
      (ends_known chip.routers chip.nis table none);
  takes_time = delay.0;
  within = delay.1;
}

-- So is each link of tables none of which shows an unknown end.
each_is_link : (chip : ChipData) (place : ℕ) (tables : List Members)
    → first_broken place (map (unknown_end chip.routers chip.nis) tables) ≡ None
    → AllByRecursion HasDelay tables → (l : ℕ) (link : Link)
    → slice_get (map (link_of chip.routers chip.nis) tables) l ≡ Some link → IsLinkOf chip link
each_is_link chip place [] none delays l link at = absurd (cc at)
each_is_link chip place (table ∷ tables) none delays zero link at =
    let here = first_broken-head place (unknown_end chip.routers chip.nis table)
    (map (unknown_end chip.routers chip.nis) tables) none in
    let same : link_of chip.routers chip.nis table ≡ link = same_Some _ _ at in
    subst (λ (k : Link). IsLinkOf chip k) same (is_link chip table here delays.0)
each_is_link chip place (table ∷ tables) none delays (suc l) link at =
    let rest = first_broken-tail place (unknown_end chip.routers chip.nis table)
    (map (unknown_end chip.routers chip.nis) tables) none in
    each_is_link chip (next_place place) tables rest delays.1 l link at

-- There are as many links as tables, so few.
pub few_links : (root : Members) → is_in_range root ≡ Ok tt
    → length (told_links root) ≤ max_links
few_links root kept =
    rw (length-map (link_tables root) (link_of (routers_of root) (nis_of root)))
    (in_range root kept).few_links

-- Where the links are judged by their ends alone, each is one of the chip that is told.
pub told_links_are : (root : Members) → keys_fit root ≡ Ok tt → is_in_range root ≡ Ok tt
    → ends_are_known root ≡ Ok tt → (l : ℕ) (link : Link)
    → slice_get (told_links root) l ≡ Some link → IsLinkOf (told_chip root) link
unfolding ends_are_known
told_links_are root keys range ends l link at =
    each_is_link (told_chip root) 0 (link_tables root)
    (judged-none 5 (codes "UnknownName") _ tt ends) (delays_are root keys range) l link at

-- The rules of chip files.
pub record KeepsRules (root : Members) : Type 0 where
  pub keys : keys_fit root ≡ Ok tt
  pub range : is_in_range root ≡ Ok tt
  pub names : names_differ root ≡ Ok tt
  pub ends : ends_are_known root ≡ Ok tt
  pub ports : ports_are_few (length (routers_of root)) (told_links root) ≡ Ok tt
  pub single : nis_are_single (nis_of root) (told_links root) ≡ Ok tt

-- What keeps every rule tells a chip.
pub told_is_chip : (root : Members) → KeepsRules root → IsChip (told_chip root)
told_is_chip root keeps =
    let range = in_range root keeps.range in
    record {
      some_slots = range.some_slots;
      slots = range.few_slots;
      some_routers = range.some_routers;
      routers = range.few_routers;
      some_nis = range.some_nis;
      nis = range.few_nis;
      named = names_are root keeps.range;
      apart = names_apart root keeps.names;
      few_links = few_links root keeps.range;
      links = told_links_are root keeps.keys keeps.range keeps.ends;
      ports = each_has_few_ports (length (routers_of root)) (told_links root) keeps.ports;
      single = each_is_single (nis_of root) (told_links root) keeps.single;
    }

-- A node of a chip is a router below their number, or an interface.
pub node_below : (routers nis : List (List ℕ)) (node : Node) → IsNode routers nis node
    → IsBelow (length routers) node
node_below routers nis (Router r) within = within
node_below routers nis (Ni n) within = tt

-- So is it an interface below their number, or a router.
pub node_ni_below : (routers nis : List (List ℕ)) (node : Node) → IsNode routers nis node
    → IsNiBelow (length nis) node
node_ni_below routers nis (Router r) within = tt
node_ni_below routers nis (Ni n) within = within

-- The links that are told have routers and interfaces of the file at their ends.
pub told_below : (root : Members) → keys_fit root ≡ Ok tt → is_in_range root ≡ Ok tt
    → ends_are_known root ≡ Ok tt → (l : ℕ) (link : Link)
    → slice_get (told_links root) l ≡ Some link
    → IsBelow (length (routers_of root)) link.from × IsBelow (length (routers_of root)) link.to
told_below root keys range ends l link at =
    let is = told_links_are root keys range ends l link at in (
      node_below (routers_of root) (nis_of root) link.from is.from,
      node_below (routers_of root) (nis_of root) link.to is.to,
    )

pub told_ni_below : (root : Members) → keys_fit root ≡ Ok tt → is_in_range root ≡ Ok tt
    → ends_are_known root ≡ Ok tt → (l : ℕ) (link : Link)
    → slice_get (told_links root) l ≡ Some link
    → IsNiBelow (length (nis_of root)) link.from × IsNiBelow (length (nis_of root)) link.to
told_ni_below root keys range ends l link at =
    let is = told_links_are root keys range ends l link at in (
      node_ni_below (routers_of root) (nis_of root) link.from is.from,
      node_ni_below (routers_of root) (nis_of root) link.to is.to,
    )

-- What is read in an index of a chip's links is what stands among the links.
use Rattle.std.proofs.Common.{◌≡◌, ◌<◌, ◌≤◌, ◌+◌, ◌++◌, ◌∙◌, ℕ, zero, suc, Bool, true, false, List}
use Rattle.std.proofs.Common.{[], ◌∷◌, Option, Some, length, count_by, if◌then◌else◌, map}
use Rattle.std.proofs.Common.{slice_get, subst, take, refl, sym, ap, inl, inr, arith, ne_eqb}
use Rattle.std.proofs.Common.{length-take-le}
use Rattle.std.proofs.lemmas.{Bool.cases_Bool, List.length-map, List.map-append, List.take_more}
use Rattle.std.proofs.lemmas.{Option.get_or_from_slice_get, Option.same_Some}
use Rattle.std.proofs.lemmas.{Option.slice_get_cases, Option.slice_get_within}
use Rattle.std.specs.{List.range_with_len, declared.vec.Vec.Vec, declared.alloc.Global.Global}
use Rattle.aeth_base.specs.declared.ids.{LinkId.LinkId, RouterId.RouterId}
use Rattle.aeth_chip.specs.declared.node.End.{End, TheVariants.From, TheVariants.To}
use Rattle.aeth_chip.specs.declared.node.Link.{Link}
use Rattle.aeth_chip.specs.declared.node.Node.{Node, TheVariants.Router, TheVariants.Ni}
use Rattle.aeth_chip.specs.declared.lists.NiLink.{NiLink}
use Rattle.aeth_chip.specs.declared.lists.NiLink.TheVariants.{Missing, One, Several}
use Rattle.aeth_chip.specs.declared.lists.RouterLinks.{RouterLinks}
use Rattle.aeth_chip.specs.Chip.{ChipData, IsChip, IsNode}
use Rattle.aeth_chip.specs.Index.{AreListed, AreRouterLinks, HasEntries, IsNiLink, IsPort, as_ni}
use Rattle.aeth_chip.specs.Index.{as_router, count_at, crowded_in, entry_for, list_at, ni_link}
use Rattle.aeth_chip.specs.Index.{ni_link_with}
use Rattle.aeth_chip.specs.ChipFile.{crowded}
use Rattle.aeth_chip.specs.Nodes.{IsBelow, begins_at, end_node, has_end, numbers_from, router_of}
use Rattle.aeth_chip.specs.Nodes.{same_node}
use Rattle.aeth_chip.proofs.NodeLemmas.{length-numbers_from, numbers_from-none, numbers_from-push}

-- A known node is no router past the last.
past_last : (routers nis : List (List ℕ)) (node : Node) (r : ℕ) → IsNode routers nis node
    → length routers ≤ r → same_node node (Router (record { 0 = r })) ≡ false
past_last routers nis (Router q) r is past =
    ne_eqb q.0 r (λ same. let low : q.0 < length routers = is in omega arith)
past_last routers nis (Ni n) r is past = refl

-- No link has a router past the last at an end.
nothing_past_last : (chip : ChipData) (end : End) → IsChip chip → (r : ℕ)
    → length chip.routers ≤ r
    → numbers_from 0 (has_end end (Router (record { 0 = r }))) chip.links ≡ []
nothing_past_last chip From is_chip r past =
    numbers_from-none (has_end From (Router (record { 0 = r }))) 0 chip.links
    (λ l link at. past_last chip.routers chip.nis link.from r (is_chip.links l link at).from past)
nothing_past_last chip To is_chip r past =
    numbers_from-none (has_end To (Router (record { 0 = r }))) 0 chip.links
    (λ l link at. past_last chip.routers chip.nis link.to r (is_chip.links l link at).to past)

-- The list of a router has its links, and that of a router past the last none.
pub links_listed : (chip : ChipData) (end : End) (lists : List (Vec LinkId Global)) → IsChip chip
    → AreListed as_router end chip.links (length chip.routers) lists → (router : RouterId)
    → map (λ (link : LinkId). link.0) (list_at lists router.0)
    ≡ numbers_from 0 (has_end end (Router router)) chip.links
links_listed chip end lists is_chip listed router =
    elim ((slice_get_cases lists router.0).1) [
      | inl (its, within, at, same) ↦
          let size = listed.size in
          listed.each router.0 (omega arith)
      | inr (past, none) ↦
          let size = listed.size in
          rw none (sym (nothing_past_last chip end is_chip router.0 (omega arith)))
    ]

has_end-node : (end : End) (node : Node) (link : Link)
    → has_end end node link ≡ same_node (end_node end link) node
has_end-node From node link = refl
has_end-node To node link = refl

-- The numbers among one link more.
numbers-more : (end : End) (links : List Link) (number : ℕ) (link : Link) (node : Node)
    → slice_get links number ≡ Some link
    → numbers_from 0 (has_end end node) (take (number + 1) links)
    ≡ numbers_from 0 (has_end end node) (take number links)
    ++ (if same_node (end_node end link) node then number ∷ [] else [])
numbers-more end links number link node at =
    let inside = slice_get_within links number link at in
    let more : take (number + 1) links ≡ take number links ++ link ∷ [] =
    take_more links number link inside
    ∙ ap (λ x. take number links ++ x ∷ []) (get_or_from_slice_get links number link link at) in
    let count_is : length (take number links) ≡ number =
    length-take-le number links (omega arith) in
    let pushed = numbers_from-push (has_end end node) 0 (take number links) link in
    let here : 0 + length (take number links) ≡ number = omega arith in
    rw (more, pushed, here, has_end-node end node link) refl

entry_number : (kind : ℕ → Node) (node : Node) (link number : ℕ)
    → map (λ (l : LinkId). l.0) (entry_for kind node (record { 0 = link }) number)
    ≡ (if same_node node (kind number) then link ∷ [] else [])
entry_number kind node link number =
    elim (cases_Bool (same_node node (kind number))) [
      | inl same ↦ rw same refl
      | inr other ↦ rw other refl
    ]

-- One more link.
pub listed-more : (kind : ℕ → Node) (end : End) (links : List Link) (count number : ℕ) (link : Link)
    (old new : List (Vec LinkId Global)) → AreListed kind end (take number links) count old
    → slice_get links number ≡ Some link → length new ≡ length old
    → ((place : ℕ) → list_at new place
    ≡ list_at old place ++ entry_for kind (end_node end link) (record { 0 = number }) place)
    → AreListed kind end (take (number + 1) links) count new
listed-more kind end links count number link old new listed at size entered = record {
  size = size ∙ listed.size;
  each = λ place within.
      rw (
        entered place,
        map-append (λ (l : LinkId). l.0) (list_at old place)
            (entry_for kind (end_node end link) (record { 0 = number }) place),
        listed.each place within,
        entry_number kind (end_node end link) number place,
        numbers-more end links number link (kind place) at,
      ) refl;
}

below_sender : (routers : ℕ) (node : Node) (router : RouterId) → IsBelow routers node
    → router_of node ≡ Some router → router.0 < routers
below_sender routers (Router r) router below is =
    subst (λ (q : RouterId). q.0 < routers) (same_Some r router is) below
below_sender routers (Ni n) router below is = absurd (cc is)

-- The length of a router's list is the port of the next link on which it sends.
pub port_next : (links : List Link) (routers number place : ℕ) (link : Link)
    (lists : List (Vec LinkId Global)) → AreListed as_router From (take number links) routers lists
    → slice_get links number ≡ Some link → IsBelow routers link.from
    → ((router : RouterId) → router_of link.from ≡ Some router
    → place ≡ length (list_at lists router.0)) → IsPort links number place
port_next links routers number place link lists listed at below is_place router sends =
    let sender : router_of link.from ≡ Some router = rw at at sends in
    let within = below_sender routers link.from router below sender in
    is_place router sender
    ∙ sym (length-map (list_at lists router.0) (λ (l : LinkId). l.0))
    ∙ ap length (listed.each router.0 within)
    ∙ length-numbers_from (begins_at (Router router)) 0 (take number links)

-- The one link, where there is one number.
pub one_link : (end : End) (links : List Link) (nis ni number : ℕ) (entries : List NiLink)
    → HasEntries (IsNiLink end links) nis entries → ni < nis
    → numbers_from 0 (has_end end (as_ni ni)) links ≡ number ∷ []
    → slice_get entries ni ≡ Some (One (record { 0 = number }))
one_link end links nis ni number entries table within one =
    let size = table.size in
    elim ((slice_get_cases entries ni).1) [
      | inl (its, low, is, at) ↦ is ∙ ap Some (table.each ni its is ∙ ap ni_link one)
      | inr (past, none) ↦ absurd (omega arith)
    ]

-- The link that is kept, where one is.
abbrev link_in : NiLink → LinkId
link_in (One link) = link
link_in Missing = record { 0 = 0 }
link_in Several = record { 0 = 0 }

-- The one number is that of the link that is kept.
pub number_kept : (numbers : List ℕ) (number : ℕ) (entry : Option NiLink) (link : LinkId)
    → numbers ≡ number ∷ [] → entry ≡ Some (One (record { 0 = number }))
    → entry ≡ Some (One link) → numbers ≡ link.0 ∷ []
number_kept numbers number entry link one is kept =
    let same : One (record { 0 = number }) ≡ One link =
    same_Some (One (record { 0 = number })) (One link) (sym is ∙ kept) in
    one ∙ ap (λ (its : NiLink). (link_in its).0 ∷ []) same

-- With one number more or none.
ni_link-push : (numbers : List ℕ) (more : Bool) (number : ℕ)
    → ni_link (numbers ++ (if more then number ∷ [] else []))
    ≡ (if more then ni_link_with (record { 0 = number }) (ni_link numbers) else ni_link numbers)
ni_link-push [] true number = refl
ni_link-push [] false number = refl
ni_link-push (first ∷ []) true number = refl
ni_link-push (first ∷ []) false number = refl
ni_link-push (first ∷ next ∷ numbers) true number = refl
ni_link-push (first ∷ next ∷ numbers) false number = refl

-- One more link.
pub ni_links-more : (end : End) (links : List Link) (count number : ℕ) (link : Link)
    (old new : List NiLink) → HasEntries (IsNiLink end (take number links)) count old
    → slice_get links number ≡ Some link → length new ≡ length old
    → ((ni : ℕ) (its : NiLink) → slice_get old ni ≡ Some its → slice_get new ni
    ≡ Some (if same_node (end_node end link) (as_ni ni)
    then ni_link_with (record { 0 = number }) its else its))
    → HasEntries (IsNiLink end (take (number + 1) links)) count new
ni_links-more end links count number link old new table at size entered = record {
  size = size ∙ table.size;
  each = λ ni its is.
      let node : Node = as_ni ni in
      let test = has_end end node in
      let more : Bool = same_node (end_node end link) node in
      let within = slice_get_within new ni its is in
      elim ((slice_get_cases old ni).1) [
        | inl (was, low, there, same) ↦
            same_Some its (if more then ni_link_with (record { 0 = number }) was else was)
            (sym is ∙ entered ni was there)
            ∙ ap (λ (kept : NiLink). if more then ni_link_with (record { 0 = number }) kept
            else kept) (table.each ni was there)
            ∙ sym (ni_link-push (numbers_from 0 test (take number links)) more number)
            ∙ ap ni_link (sym (numbers-more end links number link node at))
        | inr (past, none) ↦ absurd (omega arith)
      ];
}

-- A router's list has as many links as have the router at that end.
count_listed : (end : End) (links : List Link) (routers router : ℕ)
    (lists : List (Vec LinkId Global)) → AreListed as_router end links routers lists
    → router < routers → count_at lists router ≡ count_by (has_end end (as_router router)) links
count_listed end links routers router lists listed within =
    sym (length-map (list_at lists router) (λ (l : LinkId). l.0))
    ∙ ap length (listed.each router within)
    ∙ length-numbers_from (has_end end (as_router router)) 0 links

crowded-listed : (links : List Link) (routers router : ℕ) (its : RouterLinks)
    → AreRouterLinks links routers its → router < routers
    → crowded_in its router ≡ crowded links router
crowded-listed links routers router its listed within =
    rw (
      count_listed From links routers router its.outgoing.items listed.outgoing within,
      count_listed To links routers router its.incoming.items listed.incoming within,
    ) refl

-- The routers that are crowded by their lists are so by the links.
pub crowded-each : (links : List Link) (routers : ℕ) (its : RouterLinks)
    → AreRouterLinks links routers its → (from count : ℕ) → from + count ≤ routers
    → map (crowded_in its) (range_with_len from count) ≡ map (crowded links) (range_with_len from count)
crowded-each links routers its listed from zero within = refl
crowded-each links routers its listed from (suc count) within =
    rw (
      crowded-listed links routers from its listed (omega arith),
      crowded-each links routers its listed (from + 1) count (omega arith),
    ) refl

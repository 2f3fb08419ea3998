-- The shortest cuts are cuts, and are shortest; and where there is a certificate each path that the
-- try may take is dead.
use Rattle.std.proofs.Common.{◌≡◌, ◌∙◌, ◌-◌, ◌≤◌, ◌++◌, ◌&&◌, ℕ, zero, suc, true, eqb, List, []}
use Rattle.std.proofs.Common.{◌∷◌, length, filter, take, Contains, refl, sym, ap, subst, arith, inl}
use Rattle.std.proofs.Common.{inr, eqb-true}
use Rattle.std.proofs.lemmas.Bool.{and_parts, both_ways, false≢true, false_from_ne_true, not-true}
use Rattle.std.specs.List.{flat_map, list_any}
use Rattle.aeth_base.specs.Limits.{max_path_links}
use Rattle.aeth_base.specs.declared.ids.{LinkId.LinkId, NiId.NiId}
use Rattle.aeth_base.proofs.Members.{Contains-cases, Contains-nil, filter-Contains}
use Rattle.aeth_base.proofs.Members.{flat_map-Contains, map-Contains}
use Rattle.aeth_group.proofs.ListLemmas.{any_from_passes, passes_from_any}
use Rattle.aeth_group.specs.Members.{GroupsData}
use Rattle.aeth_chip.specs.{Chip.ChipData, Joined.IsJoined, LeastDistance.link_ids, Paths.BeginsAt}
use Rattle.aeth_chip.specs.{Paths.to_of, declared.node.Link.Link, declared.node.Node.Node}
use Rattle.aeth_chip.specs.{declared.node.Node.TheVariants.Router}
use Rattle.aeth_chip.specs.{declared.node.Node.TheVariants.Ni}
use Rattle.aeth_paths.specs.{Task.links_from, Trials.TrialData}
use Rattle.aeth_explain.specs.TryPaths.{MayTake, is_dead, leaves_one, leaving_lists, may_take}
use Rattle.aeth_explain.specs.TryPaths.{onward_lists}
use Rattle.aeth_explain.specs.Certificate.{IsFirstCut, cuts_of, goes_on, is_first_cut}
use Rattle.aeth_explain.specs.Certificate.{shorter_fronts}
use Rattle.aeth_explain.specs.Cuts.{IsComplete, IsCut, begins_with}
use Rattle.aeth_explain.proofs.ListLemmas.{GoesOn, behind_link, front-among}

-- A list begins with another where something goes on from it.
pub begins-append : (front path : List LinkId) → begins_with front path ≡ true
    → (rest : List LinkId) × (path ≡ front ++ rest)
begins-append [] path begins = (path, refl)
begins-append (link ∷ front) [] begins = absurd (false≢true begins)
begins-append (link ∷ front) (first ∷ path) begins =
    let (same, later) = and_parts (eqb link.0 first.0) (begins_with front path) begins in
    let whole = begins-append front path later in
    let one : first ≡ link = ap (λ n. record { 0 = n }) (sym (eqb-true link.0 first.0 same)) in
    (whole.0, ap (λ l. l ∷ path) one ∙ ap (λ p. link ∷ p) whole.1)

-- What is among the lists that go on from a node goes on from it through routers.
pub onward-are : (links : List Link) (most : ℕ) (node : Node) (rest : List LinkId)
    → Contains (onward_lists links most node) rest → GoesOn links node rest
unfolding onward_lists
onward-are links zero node rest has = elim (Contains-cases [] [] rest has) [
  | inl same ↦ subst (GoesOn links node) same tt
  | inr none ↦ Contains-nil none
]
onward-are links (suc most) (Ni ni) rest has = elim (Contains-cases [] [] rest has) [
  | inl same ↦ subst (GoesOn links (Ni ni)) same tt
  | inr none ↦ Contains-nil none
]
onward-are links (suc most) (Router router) rest has =
    elim (Contains-cases [] (flat_map (behind_link links most) (links_from links (Router router)))
    rest has) [
      | inl same ↦ subst (GoesOn links (Router router)) same tt
      | inr later ↦
          let (link, among, inside) =
          flat_map-Contains (behind_link links most) (links_from links (Router router)) rest
          later in
          let (more, same, on) =
          map-Contains (λ rest. link ∷ rest) (onward_lists links most (to_of links link))
          rest inside in
          subst (GoesOn links (Router router)) same
          (among, onward-are links most (to_of links link) more on)
    ]

module _ (chip : ChipData) (groups : GroupsData) (trial : TrialData)
    (begins : (link : LinkId) (node : Node) → Contains (links_from chip.links node) link
    → BeginsAt chip.links link node) where
  goes-joined : (node : Node) (rest : List LinkId) → GoesOn chip.links node rest
      → IsJoined (BeginsAt chip.links) (to_of chip.links) node rest
  goes-joined node [] goes = tt
  goes-joined (Ni ni) (link ∷ rest) goes = absurd goes
  goes-joined (Router router) (link ∷ rest) goes =
      (begins link (Router router) goes.0, goes-joined (to_of chip.links link) rest goes.1)

  -- The sender that a list leaves, and that it is joined from there on.
  pub record Leaves (list : List LinkId) : Type 0 where
    pub sender : NiId
    pub allowed : Contains trial.from sender
    pub some : 1 ≤ length list
    pub joined : IsJoined (BeginsAt chip.links) (to_of chip.links) (Ni sender) list

  pub leaving-are : (list : List LinkId) → Contains (leaving_lists chip trial.from) list
      → Leaves list
  unfolding leaving_lists
  leaving-are list has =
      let lists : LinkId → List (List LinkId) = behind_link chip.links (max_path_links - 1) in
      let (link, kept, inside) = flat_map-Contains lists
      (filter (leaves_one chip.links trial.from) (link_ids chip.links)) list has in
      let leaves =
      (filter-Contains (leaves_one chip.links trial.from) (link_ids chip.links) link kept).1 in
      let at = passes_from_any (λ (ni : NiId). list_any (λ (other : LinkId). eqb other.0 link.0)
      (links_from chip.links (Ni ni))) trial.from leaves in
      let one = passes_from_any (λ (other : LinkId). eqb other.0 link.0)
      (links_from chip.links (Ni at.item)) at.passes in
      let same : one.item ≡ link = ap (λ n. record { 0 = n })
      (eqb-true one.item.0 link.0 one.passes) in
      let (rest, whole, on) = map-Contains (λ rest. link ∷ rest)
      (onward_lists chip.links (max_path_links - 1) (to_of chip.links link)) list inside in
      subst Leaves whole (record {
        sender = at.item;
        allowed = at.is_in;
        some = omega arith;
        joined = (
          begins link (Ni at.item) (subst (Contains (links_from chip.links (Ni at.item))) same
              one.is_in),
          goes-joined (to_of chip.links link) rest
              (onward-are chip.links (max_path_links - 1) (to_of chip.links link) rest on),
        );
      })

  -- Each of the shortest cuts is a cut.
  pub each-cut : (cut : List LinkId) → Contains (cuts_of chip groups trial) cut
      → IsCut chip groups trial cut
  unfolding cuts_of
  each-cut cut has =
      let (among, first) = filter-Contains (is_first_cut chip groups trial)
      (leaving_lists chip trial.from) cut has in
      let leaves = leaving-are cut among in
      let (shortest, goes) = and_parts _ (goes_on chip groups trial cut) first in
      let dead = and_parts (is_dead chip groups trial cut) _ shortest in
      record {
        sender = leaves.sender;
        allowed = leaves.allowed;
        some = leaves.some;
        joined = leaves.joined;
        dead = dead.0;
      }

  -- Each of them is a shortest cut as the fact has it.
  pub each-first : ((path : List LinkId) → may_take chip trial path ≡ true
      → MayTake chip trial path) → (cut : List LinkId) → Contains (cuts_of chip groups trial) cut
      → IsFirstCut chip groups trial cut
  unfolding cuts_of
  each-first told cut has =
      let (among, first) = filter-Contains (is_first_cut chip groups trial)
      (leaving_lists chip trial.from) cut has in
      let leaves = leaving-are cut among in
      let (shortest, goes) = and_parts _ (goes_on chip groups trial cut) first in
      let (dead, none) = and_parts (is_dead chip groups trial cut) _ shortest in
      let on = passes_from_any (λ path. may_take chip trial path && begins_with cut path)
      (leaving_lists chip trial.from) goes in
      let (may, begins) = and_parts (may_take chip trial on.item) _ on.passes in
      record {
        some = leaves.some;
        path = on.item;
        may_take = told on.item may;
        begins = begins;
        dead = dead;
        first = λ n some below. false_from_ne_true _ (λ is.
            both_ways _ (not-true _ none)
            (any_from_passes (is_dead chip groups trial) (shorter_fronts cut) (take n cut)
            (front-among n cut some below) is));
      }

  -- Where dead links stay dead, a path that the try may take is dead if there is a certificate.
  pub certified-dead : ((path rest : List LinkId) → is_dead chip groups trial path ≡ true
      → is_dead chip groups trial (path ++ rest) ≡ true) → (cuts : List (List LinkId))
      → ((cut : List LinkId) → Contains cuts cut → IsCut chip groups trial cut)
      → IsComplete chip groups trial cuts
      → (path : List LinkId) → MayTake chip trial path → is_dead chip groups trial path ≡ true
  certified-dead stays cuts are complete path may =
      let (cut, among, begin) = complete path may in
      let whole = begins-append cut path begin in
      ap (is_dead chip groups trial) whole.1 ∙ stays cut whole.0 (are cut among).dead

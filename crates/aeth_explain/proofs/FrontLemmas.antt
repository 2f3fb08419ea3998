-- How paths that a try may take begin: over new routers, and near enough to an interface to which the
-- try may lead.
use Rattle.std.proofs.Common.{◌≡◌, ◌∙◌, ◌<◌, ◌≤◌, ◌++◌, ℕ, true, not, List, [], ◌∷◌, false, All}
use Rattle.std.proofs.Common.{Contains, Option, None, Some, length, append_assoc, length-append}
use Rattle.std.proofs.Common.{refl, sym, ap, subst, inl, inr, arith, slice_index, append-nil}
use Rattle.std.proofs.lemmas.{Bool.and_parts, Bool.both_ways, Bool.or_right, List.Elements.All-push}
use Rattle.std.proofs.lemmas.{Option.same_Some, Option.slice_get_within}
use Rattle.aeth_base.specs.declared.ids.{LinkId.LinkId, NiId.NiId, RouterId.RouterId}
use Rattle.aeth_chip.specs.{Chip.ChipData, Chip.IsChip, Joined.IsJoined, Joined.end_of}
use Rattle.aeth_chip.specs.{LeastOnward.least_onward, Nodes.is_router, Nodes.same_node}
use Rattle.aeth_chip.specs.{Paths.BeginsAt, Paths.IsOnward, Paths.IsOnwardDistance, Paths.IsPath}
use Rattle.aeth_chip.specs.{Paths.Joins, Paths.to_of, declared.node.Link.Link}
use Rattle.aeth_chip.specs.{declared.node.Node.Node, declared.node.Node.TheVariants.Ni}
use Rattle.aeth_chip.specs.{declared.node.Node.TheVariants.Router}
use Rattle.aeth_chip.proofs.JoinedLaws.{end_of-append, end_of-ends, joined-by, joins-length}
use Rattle.aeth_chip.proofs.LeastOnwardLemmas.{least_onward_is_distance}
use Rattle.aeth_chip.proofs.NodeLemmas.{same_node-refl}
use Rattle.aeth_paths.specs.{Search.Field, Search.Walks, Search.is_new, Search.passes}
use Rattle.aeth_paths.specs.{Task.links_from, Trials.TrialData}
use Rattle.aeth_paths.proofs.JoinLemmas.{leaving-begins, onward-from-walk, passes-push}
use Rattle.aeth_paths.proofs.JoinLemmas.{walk-from-route, walks-first, walks-more, walks-one}
use Rattle.aeth_paths.proofs.StepLemmas.{link-below}
use Rattle.aeth_paths.proofs.UniqueLemmas.{one-end, one-start, same-ni}
use Rattle.aeth_explain.specs.{Cuts.begins_with, Fronts.IsFront, Fronts.over, Places.AreWithin}
use Rattle.aeth_explain.specs.{Senders.IsReach, Senders.most_to, TryPaths.MayTake}
use Rattle.aeth_explain.specs.{Verdict.is_covered, declared.open_paths.Front.Front}
use Rattle.aeth_explain.specs.{declared.open_paths.Listed.Listed, declared.places.Places.Places}
use Rattle.aeth_explain.proofs.SenderLemmas.{may-most, most-may}

nothing-more : {X P : Type 0} (front : List X) (x : X) (rest : List X) → front ++ x ∷ rest ≡ [] → P
nothing-more [] x rest none = absurd (cc none)
nothing-more (y ∷ front) x rest none = absurd (cc none)

-- What walks on walks on behind each list with which it begins.
walks-drop : (f : Field) (node : Node) (path front : List LinkId) (link : LinkId) (rest : List LinkId)
    → Walks f node path (front ++ link ∷ rest)
    → Walks f (end_of f.to node front) (path ++ front) (link ∷ rest)
walks-drop f node path [] link rest walks =
    subst (λ p. Walks f node p (link ∷ rest)) (sym (append-nil path)) walks
walks-drop f node path (first ∷ front) link rest walks =
    elim (walks-first f node path first (front ++ link ∷ rest) walks) [
      | inl (none, ends) ↦ nothing-more front link rest none
      | inr more ↦
          subst (λ p. Walks f (end_of f.to (f.to first) front) p (link ∷ rest))
          (append_assoc path (first ∷ []) front)
          (walks-drop f (f.to first) (path ++ first ∷ []) front link rest more.walks)
    ]

-- Where links end is told by the links alone, if there are any.
end-any : (to : LinkId → Node) (m n : Node) (path : List LinkId) → 1 ≤ length path
    → end_of to m path ≡ end_of to n path
end-any to m n [] some = absurd (omega (arith, some))
end-any to m n (link ∷ path) some = refl

-- A link begins at one interface.
one-begin : (links : List Link) (link : LinkId) (a b : NiId) → BeginsAt links link (Ni a)
    → BeginsAt links link (Ni b) → a ≡ b
one-begin links link a b first second =
    let same : first.link ≡ second.link = same_Some _ _ (sym first.is ∙ second.is) in
    same-ni a b (sym first.begins ∙ ap (λ (l : Link). l.from) same ∙ second.begins)

-- So do joined links, however they go on.
one-sender : (links : List Link) (a b : NiId) (path rest : List LinkId) → 1 ≤ length path
    → IsJoined (BeginsAt links) (to_of links) (Ni a) path
    → IsJoined (BeginsAt links) (to_of links) (Ni b) (path ++ rest) → a ≡ b
one-sender links a b [] rest some first second = absurd (omega (arith, some))
one-sender links a b (link ∷ path) rest some first second =
    one-begin links link a b first.0 second.0

module _ (listed : Listed) (a : NiId) (front : Front) (is : IsFront listed a front) where
  abbrev chip : ChipData
  chip = listed.chip.now

  abbrev trial : TrialData
  trial = listed.trial.now

  abbrev to : LinkId → Node
  to = to_of chip.links

  -- Where the list ends.
  ends : (n : Node) → end_of to n front.path ≡ Router front.router
  ends n = end-any to n (Ni a) front.path is.some ∙ is.end

  -- A path that the try may take and that goes on from the list walks on from its router.
  goes-on : (link : LinkId) (rest : List LinkId)
      → (may : MayTake chip trial (front.path ++ link ∷ rest))
      → Walks (over chip trial may.to) (Router front.router) front.path (link ∷ rest)
  goes-on link rest may =
      subst (λ n. Walks (over chip trial may.to) n front.path (link ∷ rest)) (ends (Ni may.from))
      (walks-drop (over chip trial may.to) (Ni may.from) [] front.path link rest
      (walk-from-route (record {
        size = chip.slots;
        links = chip.links;
        groups = record { connections = 0; count = 0; uses = [] };
        grants = [];
      }) [] trial.ask may.to 0 may.from (front.path ++ link ∷ rest) may.admissible.is_path))

  -- It leaves the sender.
  pub from-sender : (rest : List LinkId) → (may : MayTake chip trial (front.path ++ rest))
      → may.from ≡ a
  from-sender rest may =
      sym (one-sender chip.links a may.from front.path rest is.some is.joined
      may.admissible.is_path.joins.joined)

  -- The list is no such path, since it ends at a router.
  pub no-path : MayTake chip trial front.path → ⊥
  no-path may =
      let at = end_of-ends to (Ni may.from) front.path _ (Ni may.to)
      may.admissible.is_path.joins.ends in
      cc (sym (ends (Ni may.from)) ∙ at)

  module _ (link : LinkId) (r : RouterId) (comes : to link ≡ Router r) where
    more-goes : (rest : List LinkId) → (may : MayTake chip trial (front.path ++ link ∷ rest))
        → (is_new (over chip trial may.to) front.path (Router r) ≡ true)
        × Walks (over chip trial may.to) (Router r) (front.path ++ link ∷ []) rest
    more-goes rest may =
        elim (walks-first (over chip trial may.to) (Router front.router) front.path link rest
        (goes-on link rest may)) [
          | inl (none, goal) ↦ absurd (cc (sym comes ∙ goal))
          | inr more ↦ (
            subst (λ n. is_new (over chip trial may.to) front.path n ≡ true) comes more.new,
            subst (λ n. Walks (over chip trial may.to) n (front.path ++ link ∷ []) rest) comes
                more.walks,
          )
        ]

    -- No such path comes to a router again.
    pub not-again : passes to front.path (Router r) ≡ true → (rest : List LinkId)
        → MayTake chip trial (front.path ++ link ∷ rest) → ⊥
    not-again passed rest may =
        let (router, fresh) = and_parts (is_router (Router r)) _ (more-goes rest may).0 in
        both_ways (not (passes to front.path (Router r))) (ap not passed) fresh

    -- The longer list comes to the router.
    pub passes-here : passes to (front.path ++ link ∷ []) (Router r) ≡ true
    passes-here = passes-push to front.path link (Router r)
        ∙ or_right (passes to front.path (Router r)) _
        (ap (λ n. same_node n (Router r)) comes ∙ same_node-refl (Router r))

    least-by : (b : NiId) (path : List LinkId) → IsOnward chip.links r b path → (o : Option ℕ)
        → IsOnwardDistance chip.links r b o
        → (more : ℕ) × IsOnwardDistance chip.links r b (Some more) × (more ≤ length path)
    least-by b path onward None distance = absurd (distance path onward)
    least-by b path onward (Some more) distance =
        (more, distance, distance.none_shorter path onward)

    -- No such path comes to a router with more links than the table has for it.
    pub too-far : IsChip chip → (to_table at_table : List ℕ) → IsReach chip trial a to_table at_table
        → All (λ (ni : NiId). ni.0 < length chip.nis) trial.to → r.0 < length chip.routers
        → slice_index at_table r.0 < length (front.path ++ link ∷ []) → (rest : List LinkId)
        → MayTake chip trial (front.path ++ link ∷ rest) → ⊥
    too-far is_chip to_table at_table reach below known far rest may =
        let same = from-sender (link ∷ rest) may in
        let walks = (more-goes rest may).1 in
        let onward = onward-from-walk (record {
          size = chip.slots;
          links = chip.links;
          groups = record { connections = 0; count = 0; uses = [] };
          grants = [];
        }) [] trial.ask may.to 0 r (front.path ++ link ∷ []) rest passes-here walks in
        let (more, distance, few) = least-by may.to rest onward (least_onward chip r may.to)
        (least_onward_is_distance chip is_chip r may.to) in
        let most = subst (λ n. length (front.path ++ link ∷ rest) ≤ most_to chip trial n may.to) same
        (may-most chip trial is_chip (front.path ++ link ∷ rest) may) in
        let (k, low, at) = may.allowed.receiver in
        let inside = subst (λ (n : NiId). n.0 < length chip.nis) at (below k may.to low) in
        let size = length-append front.path (link ∷ rest) in
        let short = length-append front.path (link ∷ []) in
        let near = reach.near r may.to more known inside (omega (arith, most, size)) distance in
        omega (arith, near, most, size, short, few, far)

  -- ---- a path to an interface

  module _ (link : LinkId) (n : NiId) (leaves : Contains (links_from chip.links (Router front.router)) link)
      (comes : to link ≡ Ni n) where
    abbrev path : List LinkId
    path = front.path ++ link ∷ []

    walks-there : Walks (over chip trial n) (Ni a) [] path
    walks-there =
        is.leads n (link ∷ []) (walks-one (over chip trial n) (Router front.router) front.path link
        leaves (ap (λ m. same_node m (Ni n)) comes ∙ same_node-refl (Ni n)))

    -- The longer list is a path from the sender to the interface.
    pub path-there : IsPath chip.links a n path
    path-there =
        let walks = walks-there in
        let joins : Joins chip.links (Ni a) walks.routers (Ni n) path = record {
          joined = joined-by (λ link from. Contains (links_from chip.links from) link) to
              (BeginsAt chip.links) (leaving-begins chip.links) (Ni a) path walks.joined;
          ends = walks.ends;
        } in
        let size = joins-length chip.links (Ni a) walks.routers (Ni n) path joins in
        let long = length-append front.path (link ∷ []) in
        record {
          routers = walks.routers;
          joins = joins;
          distinct = walks.distinct;
          some = omega (arith, size, long, is.some);
        }

    -- The try may take it exactly where it has no more links than lead there.
    pub may-there : IsChip chip → Contains trial.from a → length path ≤ most_to chip trial a n
        → MayTake chip trial path
    may-there is_chip sender few =
        most-may chip trial is_chip a n path sender path-there
        (omega (arith, length-append front.path (link ∷ []))) few

    pub there-may : IsChip chip → MayTake chip trial path → length path ≤ most_to chip trial a n
    there-may is_chip may =
        let starts = one-start chip.links may.from may.to a n path may.admissible.is_path path-there
        in
        let stops = one-end chip.links may.from may.to a n path may.admissible.is_path path-there in
        subst (λ m. length path ≤ most_to chip trial m n) starts
        (subst (λ m. length path ≤ most_to chip trial may.from m) stops
        (may-most chip trial is_chip path may))

-- ---- one more link to a new router

joined-push : (links : List Link) (node : Node) (path : List LinkId) (link : LinkId)
    → IsJoined (BeginsAt links) (to_of links) node path
    → BeginsAt links link (end_of (to_of links) node path)
    → IsJoined (BeginsAt links) (to_of links) node (path ++ link ∷ [])
joined-push links node [] link joined begins = (begins, tt)
joined-push links node (first ∷ path) link joined begins =
    (joined.0, joined-push links (to_of links first) path link joined.1 begins)

module _ (listed : Listed) (a : NiId) (front : Front) (is : IsFront listed a front) (link : LinkId)
    (r : RouterId)
    (leaves : Contains (links_from listed.chip.now.links (Router front.router)) link)
    (comes : to_of listed.chip.now.links link ≡ Router r)
    (new : passes (to_of listed.chip.now.links) front.path (Router r) ≡ false)
    (known : r.0 < length listed.chip.now.routers)
    (bare : is_covered listed.cuts.now (front.path ++ link ∷ []) ≡ false)
    (places : Places) (inside : places.to ≤ length listed.cuts.now)
    (within : AreWithin (begins_with (front.path ++ link ∷ [])) listed.cuts.now places) where
  abbrev longer : Front
  longer = record { path = front.path ++ link ∷ []; router = r; places = places }

  -- The longer list is one that leads over new routers.
  pub longer-front : IsFront listed a longer
  longer-front =
      let links = listed.chip.now.links in
      let to : LinkId → Node = to_of links in
      let begins : BeginsAt links link (end_of to (Ni a) front.path) =
      subst (BeginsAt links link) (sym is.end)
      (leaving-begins links link (Router front.router) leaves) in
      let low = slice_get_within links link.0 begins.link begins.is in
      record {
        some = omega (arith, length-append front.path (link ∷ []));
        joined = joined-push links (Ni a) front.path link is.joined begins;
        links = All-push (λ (l : LinkId). l.0 < length links) front.path link is.links low;
        end = end_of-append to (Ni a) front.path (link ∷ []) ∙ comes;
        known = known;
        here = passes-here listed a front is link r comes;
        bare = bare;
        inside = inside;
        within = within;
        leads = λ b rest walks.
            let f = over listed.chip.now listed.trial.now b in
            let on : Walks f (to link) (front.path ++ link ∷ []) rest =
            subst (λ n. Walks f n (front.path ++ link ∷ []) rest) (sym comes) walks in
            let fresh : is_new f front.path (to link) ≡ true =
            subst (λ n. is_new f front.path n ≡ true) (sym comes) (ap not new) in
            subst (Walks f (Ni a) []) (sym (append_assoc front.path (link ∷ []) rest))
            (is.leads b (link ∷ rest)
            (walks-more f (Router front.router) front.path link rest leaves fresh on));
      }

-- ---- the first link

-- A link that leads from a sender to an interface is no path.
pub no-single : (chip : ChipData) (trial : TrialData) (link : LinkId)
    → MayTake chip trial (link ∷ []) → ⊥
no-single chip trial link may =
    let route = may.admissible.is_path in
    let size = joins-length chip.links (Ni may.from) route.routers (Ni may.to) (link ∷ [])
    route.joins in
    omega (arith, size, route.some)

module _ (listed : Listed) (a : NiId) (link : LinkId) (r : RouterId)
    (leaves : Contains (links_from listed.chip.now.links (Ni a)) link)
    (comes : to_of listed.chip.now.links link ≡ Router r)
    (known : r.0 < length listed.chip.now.routers)
    (bare : is_covered listed.cuts.now (link ∷ []) ≡ false)
    (places : Places) (inside : places.to ≤ length listed.cuts.now)
    (within : AreWithin (begins_with (link ∷ [])) listed.cuts.now places) where
  -- One that leads to a router is a list from the sender.
  pub first-front : IsFront listed a (record { path = link ∷ []; router = r; places = places })
  first-front =
      let links = listed.chip.now.links in
      let to : LinkId → Node = to_of links in
      let begins = leaving-begins links link (Ni a) leaves in
      record {
        some = omega arith;
        joined = (begins, tt);
        links = All-push (λ (l : LinkId). l.0 < length links) [] link
            (λ k d low. absurd (omega (arith, low))) (link-below links (Ni a) link leaves);
        end = comes;
        known = known;
        here = passes-push to [] link (Router r)
            ∙ ap (λ n. same_node n (Router r)) comes ∙ same_node-refl (Router r);
        bare = bare;
        inside = inside;
        within = within;
        leads = λ b rest walks.
            let f = over listed.chip.now listed.trial.now b in
            let on : Walks f (to link) (link ∷ []) rest =
            subst (λ n. Walks f n (link ∷ []) rest) (sym comes) walks in
            let fresh : is_new f [] (to link) ≡ true =
            subst (λ n. is_new f [] n ≡ true) (sym comes) refl in
            walks-more f (Ni a) [] link rest leaves fresh on;
      }

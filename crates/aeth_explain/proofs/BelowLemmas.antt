-- What the lists that begin with a list come to for a walk: where no path that the try may take is one
-- of them, where the list is dead, and where it is live.
use Rattle.std.proofs.Common.{◌≡◌, ◌∙◌, ◌+◌, ◌-◌, ◌≤◌, ◌++◌, ◌&&◌, ℕ, zero, suc, Bool, true, false}
use Rattle.std.proofs.Common.{not, List, [], ◌∷◌, Contains, None, Some, append_assoc, ap, arith}
use Rattle.std.proofs.Common.{drop, filter, inl, inr, length, length-append, refl, subst, sym, take}
use Rattle.std.proofs.Common.{slice_get, eq-eqb, take-append-drop}
use Rattle.std.proofs.Math.Bool.{and-false}
use Rattle.std.proofs.lemmas.Bool.{and_from, and_parts, both_ways, false_from_ne_true, not-false}
use Rattle.std.proofs.lemmas.Bool.{not-true}
use Rattle.std.proofs.lemmas.List.{take-append-le}
use Rattle.std.specs.List.{flat_map, list_any, range_with_len}
use Rattle.aeth_base.proofs.Filters.{filter-all_fail, filter-yes}
use Rattle.aeth_base.proofs.Members.{Contains-cases, Contains-filter, Contains-here, Contains-map}
use Rattle.aeth_base.proofs.Members.{Contains-nil, Contains-slice_get, filter-Contains}
use Rattle.aeth_base.proofs.Members.{flat_map-Contains, map-Contains}
use Rattle.aeth_base.proofs.Ranges.{range-Contains}
use Rattle.aeth_base.specs.{Limits.max_path_links, declared.ids.LinkId.LinkId}
use Rattle.aeth_chip.specs.{Chip.ChipData, Chip.IsChip, Joined.end_of, LeastDistance.link_ids}
use Rattle.aeth_chip.specs.{Paths.to_of, declared.node.Link.Link, declared.node.Node.Node}
use Rattle.aeth_chip.specs.{declared.node.Node.TheVariants.Ni}
use Rattle.aeth_chip.specs.{declared.node.Node.TheVariants.Router}
use Rattle.aeth_group.specs.Members.{GroupsData}
use Rattle.aeth_group.proofs.ListLemmas.{any_from_passes, passes_from_any}
use Rattle.aeth_paths.specs.{Candidates.is_live, Task.links_from, Trials.TrialData, Trials.book_of}
use Rattle.aeth_explain.specs.{Certificate.goes_on, Certificate.is_first_cut}
use Rattle.aeth_explain.specs.{Certificate.shorter_fronts, Cuts.begins_with, Fronts.first_open}
use Rattle.aeth_explain.specs.{Fronts.lists_below, TryPaths.MayTake, TryPaths.is_dead}
use Rattle.aeth_explain.specs.{TryPaths.leaves_one, TryPaths.leaving_lists, TryPaths.may_take}
use Rattle.aeth_explain.specs.{TryPaths.onward_lists, Verdict.is_open, Walks.IsWalked}
use Rattle.aeth_explain.specs.{Walks.may_have}
use Rattle.aeth_explain.proofs.CutLemmas.{begins-append, onward-are}
use Rattle.aeth_explain.proofs.ListLemmas.{GoesOn, behind_link, dead-passed, onward-has}
use Rattle.aeth_explain.proofs.OpenLemmas.{below-ni, below-none, below-router}
use Rattle.aeth_explain.proofs.RefusalLemmas.{front-dead, path-listed}
use Rattle.aeth_explain.proofs.TryPathLemmas.{may_take-Decides}
use Rattle.aeth_explain.proofs.WalkLemmas.{none-has, walked-none}

-- ---- lists that go on

-- Links that go on behind others go on from where those end.
goes-behind : (links : List Link) (node : Node) (front rest : List LinkId)
    → GoesOn links node (front ++ rest) → GoesOn links (end_of (to_of links) node front) rest
goes-behind links node [] rest goes = goes
goes-behind links (Ni ni) (link ∷ front) rest goes = absurd goes
goes-behind links (Router router) (link ∷ front) rest goes =
    goes-behind links (to_of links link) front rest goes.1

-- What goes on from the first link of a list.
abbrev GoesBehind : List Link → List LinkId → Type 0
GoesBehind links [] = Unit {0}
GoesBehind links (link ∷ rest) = GoesOn links (to_of links link) rest

begins-own : (front rest : List LinkId) → begins_with front (front ++ rest) ≡ true
begins-own [] rest = refl
begins-own (link ∷ front) rest =
    and_from _ _ (eq-eqb link.0 link.0 refl) (begins-own front rest)

-- The first of no list is none of it.
none-first : {X : Type 0} (xs : List X) (x : X) → slice_get xs 0 ≡ None → Contains xs x → ⊥
none-first [] x none has = Contains-nil has
none-first (y ∷ xs) x none has = cc none

module _ (chip : ChipData) (groups : GroupsData) (trial : TrialData) (is : IsChip chip) where
  abbrev Walked : List (List LinkId) → List (List LinkId) → Bool → List (List LinkId) → Type 0
  Walked = IsWalked chip groups trial

  abbrev dead : List LinkId → Bool
  dead = is_dead chip groups trial

  -- A path that the try may take goes on from its first link through routers.
  pub path-goes : (link : LinkId) (rest : List LinkId) → MayTake chip trial (link ∷ rest)
      → GoesOn chip.links (to_of chip.links link) rest
  unfolding leaving_lists
  path-goes link rest may =
      let (first, kept, inside) = flat_map-Contains (behind_link chip.links (max_path_links - 1))
      (filter (leaves_one chip.links trial.from) (link_ids chip.links)) (link ∷ rest)
      (path-listed chip groups trial is (link ∷ rest) may) in
      let (more, same, on) = map-Contains (λ rest. first ∷ rest)
      (onward_lists chip.links (max_path_links - 1) (to_of chip.links first)) (link ∷ rest)
      inside in
      subst (GoesBehind chip.links) same
      (onward-are chip.links (max_path_links - 1) (to_of chip.links first) more on)

  -- A path that the try may take is among the lists below each list with which it begins.
  pub below-has : (n node : Node) (path rest : List LinkId) (left : ℕ) → 1 ≤ length path
      → end_of (to_of chip.links) n path ≡ node → length path + left ≡ max_path_links
      → MayTake chip trial (path ++ rest)
      → Contains (lists_below chip.links left node path) (path ++ rest)
  below-has n node [] rest left some ends room may = absurd (omega (arith, some))
  below-has n node (link ∷ front) rest left some ends room may =
      let fits = may.admissible.fits in
      let size = length-append (link ∷ front) rest in
      let goes = goes-behind chip.links (to_of chip.links link) front rest
      (path-goes link (front ++ rest) may) in
      Contains-map (λ rest. (link ∷ front) ++ rest) (onward_lists chip.links left node) rest
      (onward-has chip.links left node rest (omega (arith, fits, size, room))
      (subst (λ (m : Node). GoesOn chip.links m rest) ends goes))

  -- ---- whether a path goes on from a list

  goes-told : (front : List LinkId) → goes_on chip groups trial front ≡ true
      → (rest : List LinkId) × MayTake chip trial (front ++ rest)
  goes-told front goes =
      let found = passes_from_any (λ path. may_take chip trial path && begins_with front path)
      (leaving_lists chip trial.from) goes in
      let (may, begins) = and_parts (may_take chip trial found.item) _ found.passes in
      let (rest, same) = begins-append front found.item begins in (
        rest,
        subst (MayTake chip trial) same ((may_take-Decides chip trial is found.item).0 may),
      )

  tell-goes : (front rest : List LinkId) → MayTake chip trial (front ++ rest)
      → goes_on chip groups trial front ≡ true
  tell-goes front rest may =
      any_from_passes (λ path. may_take chip trial path && begins_with front path)
      (leaving_lists chip trial.from) (front ++ rest)
      (path-listed chip groups trial is (front ++ rest) may)
      (and_from _ _ ((may_take-Decides chip trial is (front ++ rest)).1 may)
      (begins-own front rest))

  no-cut : (path : List LinkId) → ((rest : List LinkId) → MayTake chip trial (path ++ rest) → ⊥)
      → is_first_cut chip groups trial path ≡ false
  no-cut path never =
      ap (λ goes. (dead path && not (list_any dead (shorter_fronts path))) && goes)
      (false_from_ne_true (goes_on chip groups trial path) (λ goes.
      let (rest, may) = goes-told path goes in never rest may))
      ∙ and-false (dead path && not (list_any dead (shorter_fronts path)))

  lacks : (path : List LinkId) → (MayTake chip trial path → ⊥)
      → may_have chip groups trial path ≡ false
  lacks path never =
      ap (λ may. may && is_live (book_of chip groups trial) trial.ask path)
      (false_from_ne_true (may_take chip trial path) (λ told.
      never ((may_take-Decides chip trial is path).0 told)))

  -- Where no path that the try may take begins with a list, nothing is put down below it.
  pub walked-never : (path : List LinkId)
      → ((rest : List LinkId) → MayTake chip trial (path ++ rest) → ⊥)
      → (left : ℕ) (node : Node) (cuts : List (List LinkId))
      → Walked (lists_below chip.links left node path) cuts false cuts
  walked-never path never left node cuts =
      walked-none chip groups trial (lists_below chip.links left node path) cuts
      (λ p has.
      let (rest, same, among) = map-Contains (λ rest. path ++ rest)
      (onward_lists chip.links left node) p has in
      lacks p (λ may. never rest (subst (MayTake chip trial) (sym same) may)))
      (λ p has.
      let (rest, same, among) = map-Contains (λ rest. path ++ rest)
      (onward_lists chip.links left node) p has in
      no-cut p (λ more may. never (rest ++ more) (subst (MayTake chip trial)
      (ap (λ q. q ++ more) (sym same) ∙ append_assoc path rest more) may)))

  -- Where none of the lists below a list is such a path, none begins with it.
  pub walked-closed : (n node : Node) (path : List LinkId) (left : ℕ) → 1 ≤ length path
      → end_of (to_of chip.links) n path ≡ node → length path + left ≡ max_path_links
      → first_open chip trial [] (lists_below chip.links left node path) ≡ None
      → (cuts : List (List LinkId)) → Walked (lists_below chip.links left node path) cuts false cuts
  walked-closed n node path left some ends room none cuts =
      walked-never path (λ rest may.
      none-first (filter (is_open chip trial []) (lists_below chip.links left node path))
      (path ++ rest) none
      (Contains-filter (is_open chip trial []) (lists_below chip.links left node path)
      (path ++ rest) (below-has n node path rest left some ends room may)
      (and_from _ _ ((may_take-Decides chip trial is (path ++ rest)).1 may) refl)))
      left node cuts

  -- The first of some lists that is such a path is one of them.
  pub first-is : (lists : List (List LinkId)) (path : List LinkId)
      → first_open chip trial [] lists ≡ Some path
      → Contains lists path × (may_take chip trial path ≡ true)
  first-is lists path at =
      let (among, open_is) = filter-Contains (is_open chip trial []) lists path
      (Contains-slice_get (filter (is_open chip trial []) lists) 0 path at) in
      (among, (and_parts (may_take chip trial path) _ open_is).0)

  -- ---- a dead list, and a live one

  -- The lists below a list are the list and longer ones.
  pub record Below (left : ℕ) (node : Node) (path : List LinkId) : Type 0 where
    pub others : List (List LinkId)
    pub are : lists_below chip.links left node path ≡ path ∷ others
    pub longer : (p : List LinkId) → Contains others p
        → (link : LinkId) × (rest : List LinkId) × (p ≡ path ++ link ∷ rest)

  below-split : (left : ℕ) (node : Node) (path : List LinkId) → Below left node path
  below-split zero node path = record {
    others = [];
    are = below-none chip trial [] node path;
    longer = λ p has. Contains-nil has;
  }
  below-split (suc left) (Ni ni) path = record {
    others = [];
    are = below-ni chip trial [] (suc left) ni path;
    longer = λ p has. Contains-nil has;
  }
  below-split (suc left) (Router router) path = record {
    others = flat_map (λ link. lists_below chip.links left (to_of chip.links link)
        (path ++ link ∷ [])) (links_from chip.links (Router router));
    are = below-router chip trial [] left router path;
    longer = λ p has.
        let (link, among, inside) = flat_map-Contains (λ link. lists_below chip.links left
        (to_of chip.links link) (path ++ link ∷ [])) (links_from chip.links (Router router)) p
        has in
        let (rest, same, on) = map-Contains (λ rest. (path ++ link ∷ []) ++ rest)
        (onward_lists chip.links left (to_of chip.links link)) p inside in
        (link, rest, sym same ∙ append_assoc path (link ∷ []) rest);
  }

  dead-lacks : (path rest : List LinkId) → dead path ≡ true
      → may_have chip groups trial (path ++ rest) ≡ false
  dead-lacks path rest is_dead_is =
      ap (λ live. may_take chip trial (path ++ rest) && live)
      (not-true (is_live (book_of chip groups trial) trial.ask (path ++ rest))
      (front-dead chip groups trial is path rest is_dead_is))
      ∙ and-false (may_take chip trial (path ++ rest))

  -- A dead list of which no shorter one is dead and from which such a path goes on is put down, and
  -- nothing below it.
  pub walked-cut : (path : List LinkId) → 1 ≤ length path → dead path ≡ true
      → list_any dead (shorter_fronts path) ≡ false
      → (rest : List LinkId) → MayTake chip trial (path ++ rest)
      → (left : ℕ) (node : Node) (old : List (List LinkId))
      → Walked (lists_below chip.links left node path) old false (old ++ path ∷ [])
  walked-cut path some is_dead_is fronts rest may left node old =
      let below = below-split left node path in
      let test : List LinkId → Bool = is_first_cut chip groups trial in
      let first : test path ≡ true =
      and_from _ _ (and_from _ _ is_dead_is (ap not fronts)) (tell-goes path rest may) in
      let kept : filter test (lists_below chip.links left node path) ≡ path ∷ [] =
      ap (filter test) below.are ∙ filter-yes test path below.others first
      ∙ ap (λ ps. path ∷ ps) (filter-all_fail test below.others (λ p has.
      let (link, more, same) = below.longer p has in
      ap test same
      ∙ dead-passed chip groups trial path (link ∷ more) some (omega arith) is_dead_is)) in (
        none-has chip groups trial (lists_below chip.links left node path) (λ p has.
            let (more, same, among) = map-Contains (λ rest. path ++ rest)
            (onward_lists chip.links left node) p has in
            ap (may_have chip groups trial) (sym same) ∙ dead-lacks path more is_dead_is),
        sym (ap (λ cs. old ++ cs) kept),
      )

  -- A live path that the try may take is found.
  pub walked-live : (path : List LinkId) → may_take chip trial path ≡ true → dead path ≡ false
      → (left : ℕ) (node : Node)
      → list_any (may_have chip groups trial) (lists_below chip.links left node path) ≡ true
  walked-live path may live left node =
      let below = below-split left node path in
      any_from_passes (may_have chip groups trial) (lists_below chip.links left node path) path
      (subst (λ lists. Contains lists path) (sym below.are) (Contains-here path below.others))
      (and_from _ _ may (not-false (is_live (book_of chip groups trial) trial.ask path) live))

  -- A live list that is no such path is passed.
  pub walked-alone : (path : List LinkId) → (MayTake chip trial path → ⊥) → dead path ≡ false
      → (cuts : List (List LinkId)) → Walked (path ∷ []) cuts false cuts
  walked-alone path never live cuts =
      walked-none chip groups trial (path ∷ []) cuts
      (λ p has. elim (Contains-cases path [] p has) [
        | inl same ↦
            ap (may_have chip groups trial) (sym same) ∙ lacks path never
        | inr none ↦ Contains-nil none
      ])
      (λ p has. elim (Contains-cases path [] p has) [
        | inl same ↦
            ap (is_first_cut chip groups trial) (sym same)
            ∙ ap (λ d. (d && not (list_any dead (shorter_fronts path)))
            && goes_on chip groups trial path) live
        | inr none ↦ Contains-nil none
      ])

  -- No shorter list is dead than a live one with one more link.
  pub live-fronts : (front : List LinkId) (link : LinkId) → dead front ≡ false
      → list_any dead (shorter_fronts (front ++ link ∷ [])) ≡ false
  live-fronts front link live =
      false_from_ne_true (list_any dead (shorter_fronts (front ++ link ∷ []))) (λ told.
      let found = passes_from_any dead (shorter_fronts (front ++ link ∷ [])) told in
      let count = length (front ++ link ∷ []) - 1 in
      let (n, same, among) = map-Contains (λ n. take (n + 1) (front ++ link ∷ []))
      (range_with_len 0 count) found.item found.is_in in
      let size = length-append front (link ∷ []) in
      let low = range-Contains count n among in
      let few : n + 1 ≤ length front = omega (arith, low, size) in
      let item : found.item ≡ take (n + 1) front =
      sym same ∙ take-append-le (n + 1) front (link ∷ []) few in
      let part : dead (take (n + 1) front) ≡ true = ap dead (sym item) ∙ found.passes in
      both_ways (dead front) live
      (ap dead (sym (take-append-drop (n + 1) front))
      ∙ front-dead chip groups trial is (take (n + 1) front) (drop (n + 1) front) part))

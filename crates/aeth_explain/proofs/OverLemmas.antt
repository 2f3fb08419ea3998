-- What comes of one more link: what is open over it.
use Rattle.std.proofs.Common.{◌-◌, suc, Option, sym, take, inl, inr, slice_get, take_all, ◌≡◌, ◌∙◌}
use Rattle.std.proofs.Common.{◌<◌, ◌≤◌, ◌++◌, ◌&&◌, ℕ, true, false, not, List, [], ◌∷◌, Contains}
use Rattle.std.proofs.Common.{None, Some, length, append_assoc, ap, subst, arith, slice_index}
use Rattle.std.proofs.lemmas.Option.{none-some, slice_get_cases}
use Rattle.std.proofs.lemmas.Bool.{and_from, false_from_ne_true}
use Rattle.std.specs.List.{flat_map}
use Rattle.aeth_explain.specs.Fronts.{IsOver, IsFront, IsListed, first_open, lists_below, open_over}
use Rattle.aeth_explain.specs.declared.open_paths.{Over.Over, Over.TheVariants.Away}
use Rattle.aeth_explain.specs.declared.open_paths.{Over.TheVariants.Onward, Over.TheVariants.Open}
use Rattle.aeth_explain.specs.declared.open_paths.{Front.Front, Listed.Listed}
use Rattle.aeth_explain.specs.Senders.{IsReach, most_to}
use Rattle.aeth_explain.specs.TryPaths.{MayTake, may_take}
use Rattle.aeth_explain.specs.Verdict.{is_covered, is_open}
use Rattle.aeth_explain.proofs.FrontLemmas.{no-path, no-single, may-there, not-again, there-may}
use Rattle.aeth_explain.proofs.FrontLemmas.{too-far}
use Rattle.aeth_explain.proofs.OpenLemmas.{below-none, below-router, below-ni, covered-closed}
use Rattle.aeth_explain.proofs.OpenLemmas.{first-behind, first-here, none-below}
use Rattle.aeth_explain.proofs.TryPathLemmas.{may_take-Decides}
use Rattle.aeth_base.specs.declared.ids.{LinkId.LinkId, NiId.NiId, RouterId.RouterId}
use Rattle.aeth_chip.specs.Chip.{ChipData}
use Rattle.aeth_chip.specs.Paths.{to_of}
use Rattle.aeth_chip.specs.declared.node.Node.{Node, TheVariants.Ni, TheVariants.Router}
use Rattle.aeth_paths.specs.{Search.passes, Task.links_from, Trials.TrialData}

-- What the try may not take isn't open.
pub closed : (chip : ChipData) (trial : TrialData) (cuts : List (List LinkId)) (path : List LinkId)
    → (may_take chip trial path ≡ true → ⊥) → is_open chip trial cuts path ≡ false
closed chip trial cuts path never =
    ap (λ may. may && not (is_covered cuts path))
    (false_from_ne_true (may_take chip trial path) never)

module _ (listed : Listed) (is : IsListed listed) (a : NiId) (front : Front)
    (at : IsFront listed a front) (link : LinkId)
    (leaves : Contains (links_from listed.chip.now.links (Router front.router)) link) (left : ℕ) where
  abbrev chip : ChipData
  chip = listed.chip.now

  abbrev trial : TrialData
  trial = listed.trial.now

  abbrev cuts : List (List LinkId)
  cuts = listed.cuts.now

  abbrev path : List LinkId
  path = front.path ++ link ∷ []

  -- Nothing that goes on from the list over the link is a path that the try may take.
  none-over : ((rest : List LinkId) → MayTake chip trial (front.path ++ link ∷ rest) → ⊥)
      → open_over listed front link left ≡ None
  none-over never =
      none-below chip trial cuts left (to_of chip.links link) path (λ rest.
      closed chip trial cuts (path ++ rest) (λ may.
      never rest (subst (MayTake chip trial) (append_assoc front.path (link ∷ []) rest)
      ((may_take-Decides chip trial is.is_chip (path ++ rest)).0 may))))

  -- The list is covered.
  pub over-covered : is_covered cuts path ≡ true → open_over listed front link left ≡ None
  over-covered covered =
      none-below chip trial cuts left (to_of chip.links link) path
      (covered-closed chip trial cuts path covered)

  module _ (n : NiId) (comes : to_of chip.links link ≡ Ni n) where
    alone : open_over listed front link left ≡ first_open chip trial cuts (path ∷ [])
    alone =
        ap (λ (m : Node). first_open chip trial cuts (lists_below chip.links left m path)) comes
        ∙ ap (first_open chip trial cuts) (below-ni chip trial cuts left n path)

    -- It is a path that the try may take.
    pub over-there : Contains trial.from a → is_covered cuts path ≡ false
        → length path ≤ most_to chip trial a n → open_over listed front link left ≡ Some path
    over-there sender bare few =
        alone ∙ first-here chip trial cuts path []
        (and_from _ _ ((may_take-Decides chip trial is.is_chip path).1
        (may-there listed a front at link n leaves comes is.is_chip sender few)) (ap not bare))

    -- It has more links than such a path.
    pub over-long : most_to chip trial a n < length path → open_over listed front link left ≡ None
    over-long long =
        alone ∙ first-behind chip trial cuts path [] (closed chip trial cuts path (λ may.
        let few = there-may listed a front at link n leaves comes is.is_chip
        ((may_take-Decides chip trial is.is_chip path).0 may) in
        absurd (omega (arith, few, long))))

  module _ (r : RouterId) (comes : to_of chip.links link ≡ Router r) where
    -- It comes to a router again.
    pub over-again : passes (to_of chip.links) front.path (Router r) ≡ true
        → open_over listed front link left ≡ None
    over-again again =
        none-over (λ rest. not-again listed a front at link r comes again rest)

    -- It comes to a router with more links than any path.
    pub over-far : (to_table at_table : List ℕ) → IsReach chip trial a to_table at_table
        → r.0 < length chip.routers → slice_index at_table r.0 < length path
        → open_over listed front link left ≡ None
    over-far to_table at_table reach known far =
        none-over (λ rest. too-far listed a front at link r comes is.is_chip to_table at_table reach
        is.is_trial.to known far rest)

-- ---- all that goes on from a list

-- What is found where a link comes to this.
abbrev pub IsFound : Listed → ℕ → Over → Option (List LinkId) → Type 0
IsFound listed left Away found = found ≡ None
IsFound listed left (Open path) found = found ≡ Some path
IsFound listed left (Onward longer) found =
    found ≡ first_open listed.chip.now listed.trial.now listed.cuts.now
    (lists_below listed.chip.now.links left (Router longer.router) longer.path)

-- Where a list has nothing at a place, it ends before.
pub none-past : {X : Type 0} (xs : List X) (place : ℕ) → slice_get xs place ≡ None
    → length xs ≤ place
none-past xs place none = elim (slice_get_cases xs place).1 [
  | inl found ↦ absurd (none-some found.0 (sym none ∙ found.2))
  | inr past ↦ past.0
]

module _ (listed : Listed) (is : IsListed listed) (a : NiId) (front : Front)
    (at : IsFront listed a front) where
  abbrev pub below : ℕ → LinkId → List (List LinkId)
  below left link = lists_below listed.chip.now.links left (to_of listed.chip.now.links link)
      (front.path ++ link ∷ [])

  abbrev first : List (List LinkId) → Option (List LinkId)
  first = first_open listed.chip.now listed.trial.now listed.cuts.now

  -- The list itself isn't open.
  front-closed : is_open listed.chip.now listed.trial.now listed.cuts.now front.path ≡ false
  front-closed =
      closed listed.chip.now listed.trial.now listed.cuts.now front.path (λ may.
      no-path listed a front at
      ((may_take-Decides listed.chip.now listed.trial.now is.is_chip front.path).0 may))

  -- Where no link may follow nothing is open.
  pub none-left : (left : ℕ) → left ≡ 0
      → None ≡ first (lists_below listed.chip.now.links left (Router front.router) front.path)
  none-left left none =
      sym (ap (λ n. first (lists_below listed.chip.now.links n (Router front.router) front.path)) none
      ∙ ap first (below-none listed.chip.now listed.trial.now listed.cuts.now (Router front.router)
      front.path)
      ∙ first-behind listed.chip.now listed.trial.now listed.cuts.now front.path [] front-closed)

  -- Else what is first is first over some link.
  pub over-links : (left : ℕ) → 1 ≤ left
      → first (lists_below listed.chip.now.links left (Router front.router) front.path)
      ≡ first (flat_map (below (left - 1)) (links_from listed.chip.now.links (Router front.router)))
  over-links left some =
      let more : left ≡ suc (left - 1) = omega (arith, some) in
      ap (λ n. first (lists_below listed.chip.now.links n (Router front.router) front.path)) more
      ∙ ap first (below-router listed.chip.now listed.trial.now listed.cuts.now (left - 1)
      front.router front.path)
      ∙ first-behind listed.chip.now listed.trial.now listed.cuts.now front.path
      (flat_map (below (left - 1)) (links_from listed.chip.now.links (Router front.router)))
      front-closed

  -- After all links nothing is.
  pub none-over-all : (left place : ℕ) → 1 ≤ left
      → length (links_from listed.chip.now.links (Router front.router)) ≤ place
      → first (flat_map (below (left - 1))
      (take place (links_from listed.chip.now.links (Router front.router)))) ≡ None
      → None ≡ first (lists_below listed.chip.now.links left (Router front.router) front.path)
  none-over-all left place some all none =
      sym (over-links left some
      ∙ ap (λ ls. first (flat_map (below (left - 1)) ls))
      (sym (take_all place (links_from listed.chip.now.links (Router front.router)) all)) ∙ none)

  -- What comes of a link is first over it.
  pub over-is : (link : LinkId) (left : ℕ) (over : Over) (found : Option (List LinkId))
      → IsOver listed a front link left over → IsFound listed left over found
      → found ≡ first (below left link)
  over-is link left Away found is' its = its ∙ sym is'
  over-is link left (Open whole) found is' its = its ∙ sym is'.0
  over-is link left (Onward longer) found is' its =
      its ∙ ap (λ (n : Node). first (lists_below listed.chip.now.links left n longer.path))
      (sym is'.ends)
      ∙ ap (λ p. first (lists_below listed.chip.now.links left (to_of listed.chip.now.links link) p))
      is'.path

-- ---- the first link

module _ (listed : Listed) (is : IsListed listed) (link : LinkId) (left : ℕ) where
  abbrev over-first : Option (List LinkId)
  over-first = first_open listed.chip.now listed.trial.now listed.cuts.now
      (lists_below listed.chip.now.links left (to_of listed.chip.now.links link) (link ∷ []))

  -- It is covered.
  pub first-covered : is_covered listed.cuts.now (link ∷ []) ≡ true → None ≡ over-first
  first-covered covered =
      sym (none-below listed.chip.now listed.trial.now listed.cuts.now left
      (to_of listed.chip.now.links link) (link ∷ [])
      (covered-closed listed.chip.now listed.trial.now listed.cuts.now (link ∷ []) covered))

  -- It leads to an interface.
  pub first-there : (n : NiId) → to_of listed.chip.now.links link ≡ Ni n → None ≡ over-first
  first-there n comes =
      let chip : ChipData = listed.chip.now in
      let trial : TrialData = listed.trial.now in
      let cuts : List (List LinkId) = listed.cuts.now in
      sym (ap (λ (m : Node). first_open chip trial cuts (lists_below chip.links left m (link ∷ [])))
      comes
      ∙ ap (first_open chip trial cuts) (below-ni chip trial cuts left n (link ∷ []))
      ∙ first-behind chip trial cuts (link ∷ []) [] (closed chip trial cuts (link ∷ []) (λ may.
      no-single chip trial link ((may_take-Decides chip trial is.is_chip (link ∷ [])).0 may))))

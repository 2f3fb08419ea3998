-- A walk that certifies, step by step: a list that has come to a router, and one more link.
use Rattle.std.proofs.Common.{◌≡◌, ◌∙◌, ◌+◌, ◌-◌, ◌<◌, ◌≤◌, ◌++◌, ℕ, suc, Bool, true, false, List}
use Rattle.std.proofs.Common.{[], ◌∷◌, All, Contains, Err, None, Ok, Option, Result, Some, ap}
use Rattle.std.proofs.Common.{arith, cond, filter, length, length-append, subst, sym, take, IfOk}
use Rattle.std.proofs.Common.{MatchOption, option_map, slice_get, take_all}
use Rattle.std.specs.List.{flat_map, list_any}
use Rattle.aeth_base.specs.Limits.{max_path_links}
use Rattle.aeth_base.specs.declared.ids.{LinkId.LinkId, NiId.NiId, RouterId.RouterId}
use Rattle.aeth_base.proofs.Members.{Contains-slice_get}
use Rattle.aeth_chip.{specs.Chip.ChipData, specs.Chip.IsChip, specs.Nodes.sends_on}
use Rattle.aeth_chip.{specs.Paths.to_of, specs.declared.node.Link.Link}
use Rattle.aeth_chip.{specs.declared.node.Node.Node, specs.declared.node.Node.TheVariants.Ni}
use Rattle.aeth_chip.{specs.declared.node.Node.TheVariants.Router, proofs.JoinedLaws.end_of-append}
use Rattle.aeth_group.specs.Members.{GroupsData}
use Rattle.aeth_paths.{specs.Task.links_from, specs.Trials.TrialData, proofs.PrefixLemmas.link-at}
use Rattle.aeth_explain.specs.Certificate.{certificate_of, cuts_of, is_first_cut, shorter_fronts}
use Rattle.aeth_explain.specs.Cuts.{HasCandidate, IsCertificate}
use Rattle.aeth_explain.specs.Fronts.{IsFront, IsLonger, first_open, lists_below, open_over}
use Rattle.aeth_explain.specs.Masks.{TryJudgeData}
use Rattle.aeth_explain.specs.TryPaths.{MayTake, is_dead, leaving_lists, may_take}
use Rattle.aeth_explain.specs.Walks.{IsTried, IsWalked, may_have}
use Rattle.aeth_explain.specs.declared.open_paths.{Front.Front, Listed.Listed}
use Rattle.aeth_explain.proofs.{BelowLemmas.first-is, BelowLemmas.live-fronts}
use Rattle.aeth_explain.proofs.{BelowLemmas.path-goes, BelowLemmas.walked-alone}
use Rattle.aeth_explain.proofs.{BelowLemmas.walked-closed, BelowLemmas.walked-never}
use Rattle.aeth_explain.proofs.{FrontLemmas.no-path, FrontLemmas.no-single, ListLemmas.GoesOn}
use Rattle.aeth_explain.proofs.{OpenLemmas.below-none, OpenLemmas.below-router}
use Rattle.aeth_explain.proofs.{OverLemmas.none-past, RefusalLemmas.certificate-is}
use Rattle.aeth_explain.proofs.{WalkLemmas.walked-on}

module _ (judge : TryJudgeData) (listed : Listed) (is : IsTried judge listed) where
  abbrev chip : ChipData
  chip = listed.chip.now

  abbrev groups : GroupsData
  groups = judge.groups

  abbrev trial : TrialData
  trial = listed.trial.now

  abbrev is_chip : IsChip chip
  is_chip = is.is_listed.is_chip

  abbrev dead : List LinkId → Bool
  dead = is_dead chip groups trial

  abbrev Walked : List (List LinkId) → List (List LinkId) → Bool → List (List LinkId) → Type 0
  Walked = IsWalked chip groups trial

  alone-or : (link : LinkId) (n : NiId) (rest : List LinkId) → MayTake chip trial (link ∷ rest)
      → GoesOn chip.links (Ni n) rest → ⊥
  alone-or link n [] may on = no-single chip trial link may
  alone-or link n (next ∷ rest) may on = on

  -- The judge is that of the try.
  pub tried-dead : (path : List LinkId) → is_dead judge.chip judge.groups judge.trial path ≡ dead path
  tried-dead path =
      ap (λ (c : ChipData). is_dead c judge.groups judge.trial path) is.chip
      ∙ ap (λ (t : TrialData). is_dead chip judge.groups t path) is.trial

  pub tried-links : (path : List LinkId) → All (λ (link : LinkId). link.0 < length chip.links) path
      → All (λ (link : LinkId). link.0 < length judge.chip.links) path
  tried-links path links =
      subst (λ (c : ChipData). All (λ (link : LinkId). link.0 < length c.links) path) (sym is.chip)
      links

  -- What is open where nothing is listed is a path that the try may take.
  pub tried-open : (lists : List (List LinkId)) (o : Option (List LinkId))
      → first_open chip trial listed.cuts.now lists ≡ o → first_open chip trial [] lists ≡ o
  tried-open lists o at =
      subst (λ (cuts : List (List LinkId)). first_open chip trial cuts lists ≡ o) is.none at

  pub open-may : (lists : List (List LinkId)) (path : List LinkId)
      → first_open chip trial listed.cuts.now lists ≡ Some path
      → Contains lists path × (may_take chip trial path ≡ true)
  open-may lists path at =
      first-is chip groups trial is_chip lists path (tried-open lists (Some path) at)

  -- What was found and put down, by other names.
  pub walked-as : (lists old new other : List (List LinkId)) (b c : Bool) → Walked lists old b new
      → b ≡ c → new ≡ other → Walked lists old c other
  walked-as lists old new other b c walked found same =
      subst (λ (x : Bool). Walked lists old x other) found
      (subst (λ (n : List (List LinkId)). Walked lists old b n) same walked)

  -- No path that the try may take begins with a link that leads from a sender to an interface.
  pub walked-there : (link : LinkId) (n : NiId) → to_of chip.links link ≡ Ni n → (left : ℕ)
      (cuts : List (List LinkId))
      → Walked (lists_below chip.links left (to_of chip.links link) (link ∷ [])) cuts false cuts
  walked-there link n comes left cuts =
      walked-never chip groups trial is_chip (link ∷ []) (λ rest may.
      let on = subst (λ (m : Node). GoesOn chip.links m rest) comes
      (path-goes chip groups trial is_chip link rest may) in
      alone-or link n rest may on) left (to_of chip.links link) cuts

  module _ (a : NiId) (front : Front) (at : IsFront listed a front) where
    abbrev pub lists : ℕ → List (List LinkId)
    lists left = lists_below chip.links left (Router front.router) front.path

    abbrev pub below : ℕ → LinkId → List (List LinkId)
    below left link =
        lists_below chip.links left (to_of chip.links link) (front.path ++ link ∷ [])

    abbrev out : List LinkId
    out = links_from chip.links (Router front.router)

    alone : dead front.path ≡ false → (cuts : List (List LinkId))
        → Walked (front.path ∷ []) cuts false cuts
    alone live cuts =
        walked-alone chip groups trial is_chip front.path (no-path listed a front at) live cuts

    -- No link may follow.
    pub walked-end : (left : ℕ) → left ≡ 0 → dead front.path ≡ false
        → (cuts : List (List LinkId)) → Walked (lists left) cuts false cuts
    walked-end left none live cuts =
        subst (λ ls. Walked ls cuts false cuts)
        (sym (ap (λ n. lists n) none ∙ below-none chip trial [] (Router front.router) front.path))
        (alone live cuts)

    -- Some may: what the walk comes to over all of them it comes to.
    pub walked-links : (left : ℕ) → 1 ≤ left → dead front.path ≡ false
        → (old new : List (List LinkId)) (b : Bool)
        → Walked (flat_map (below (left - 1)) out) old b new → Walked (lists left) old b new
    walked-links left some live old new b over =
        let more : left ≡ suc (left - 1) = omega (arith, some) in
        let split : lists left ≡ front.path ∷ flat_map (below (left - 1)) out =
        ap (λ n. lists n) more ∙ below-router chip trial [] (left - 1) front.router front.path in
        subst (λ ls. Walked ls old b new) (sym split)
        (walked-on chip groups trial (front.path ∷ []) (flat_map (below (left - 1)) out) old old
        new b (alone live old) over)

    -- There is no further link.
    pub walked-past : (left place : ℕ) → 1 ≤ left → dead front.path ≡ false → length out ≤ place
        → (old new : List (List LinkId))
        → Walked (flat_map (below (left - 1)) (take place out)) old false new
        → Walked (lists left) old false new
    walked-past left place some live all old new over =
        walked-links left some live old new false
        (subst (λ ls. Walked (flat_map (below (left - 1)) ls) old false new)
        (take_all place out all) over)

    -- ---- one link

    module _ (link : LinkId) (leaves : Contains out link) (left : ℕ)
        (room : length front.path + (left + 1) ≡ max_path_links) where
      abbrev path : List LinkId
      path = front.path ++ link ∷ []

      pub path-room : length path + left ≡ max_path_links
      path-room = omega (arith, length-append front.path (link ∷ []), room)

      -- No path that the try may take goes on over the link.
      pub walked-away : open_over listed front link left ≡ None → (cuts : List (List LinkId))
          → Walked (below left link) cuts false cuts
      walked-away none cuts =
          walked-closed chip groups trial is_chip (Ni a) (to_of chip.links link) path left
          (omega (arith, length-append front.path (link ∷ [])))
          (end_of-append (to_of chip.links) (Ni a) front.path (link ∷ [])) path-room
          (tried-open (below left link) None none) cuts

      -- No shorter list is dead.
      pub path-fronts : dead front.path ≡ false → list_any dead (shorter_fronts path) ≡ false
      path-fronts live = live-fronts chip groups trial is_chip front.path link live

      -- What a walk over the longer list comes to it comes to over the link.
      pub walked-longer : (longer : Front) → IsLonger listed a front link longer
          → (old new : List (List LinkId)) (b : Bool)
          → Walked (lists_below chip.links left (Router longer.router) longer.path) old b new
          → Walked (below left link) old b new
      walked-longer longer is_longer old new b walked =
          subst (λ ls. Walked ls old b new)
          (ap (λ (n : Node). lists_below chip.links left n longer.path) (sym is_longer.ends)
          ∙ ap (λ (p : List LinkId). lists_below chip.links left (to_of chip.links link) p)
          is_longer.path) walked

-- The link at a port leaves the router.
pub port-at : (links : List Link) (r : RouterId) (port : ℕ) (o : Option LinkId) (link : LinkId)
    → option_map (λ (l : LinkId). l.0) o ≡ slice_get (sends_on (Router r) links) port
    → o ≡ Some link → slice_get (links_from links (Router r)) port ≡ Some link
port-at links r port o link told at =
    sym (link-at (sends_on (Router r) links) port o told) ∙ at

pub link-leaves : (links : List Link) (r : RouterId) (port : ℕ) (o : Option LinkId) (link : LinkId)
    → option_map (λ (l : LinkId). l.0) o ≡ slice_get (sends_on (Router r) links) port
    → o ≡ Some link → Contains (links_from links (Router r)) link
link-leaves links r port o link told at =
    Contains-slice_get (links_from links (Router r)) port link (port-at links r port o link told at)

-- There is none.
pub links-past : (links : List Link) (r : RouterId) (port : ℕ) (o : Option LinkId)
    → option_map (λ (l : LinkId). l.0) o ≡ slice_get (sends_on (Router r) links) port
    → o ≡ None → length (links_from links (Router r)) ≤ port
links-past links r port o told none =
    none-past (links_from links (Router r)) port
    (sym (link-at (sends_on (Router r) links) port o told) ∙ none)

-- What holds of the value that was given.
pub told-ok : {X E : Type 0} (P : X → Type 0) (came : Result X E) (x : X) → came ≡ Ok x
    → IfOk came P → P x
told-ok {X} {E} P came x is holds = subst (λ (r : Result X E). IfOk r P) is holds

pub same-ok : {X E : Type 0} (came : Result X E) (x y : X) → came ≡ Ok x → came ≡ Ok y → x ≡ y
same-ok came x y one other = cc

-- ---- the whole walk

module _ (chip : ChipData) (groups : GroupsData) (trial : TrialData) where
  -- A candidate was found.
  pub certificate-none : list_any (may_have chip groups trial) (leaving_lists chip trial.from) ≡ true
      → None ≡ certificate_of chip groups trial
  certificate-none found =
      sym (ap (λ b. cond b None (Some (cuts_of chip groups trial))) found)

  -- None was, and what was put down are the shortest cuts.
  pub certificate-some : (old new : List (List LinkId)) → old ≡ []
      → IsWalked chip groups trial (leaving_lists chip trial.from) old false new
      → Some new ≡ certificate_of chip groups trial
  unfolding cuts_of
  certificate-some old new none walked =
      let all : new ≡ cuts_of chip groups trial =
      walked.1 ∙ ap (λ (cuts : List (List LinkId)). cuts
      ++ filter (is_first_cut chip groups trial) (leaving_lists chip trial.from)) none in
      ap Some all ∙ sym (ap (λ b. cond b None (Some (cuts_of chip groups trial))) walked.0)

  -- Of what is a certificate, where there is one, it is known what it is.
  pub certificate-told : {E : Type 0} (came : Result (Option (List (List LinkId))) E) → IsChip chip
      → IfOk came (λ cuts. cuts ≡ certificate_of chip groups trial)
      → IfOk came (λ cuts. MatchOption cuts (HasCandidate chip groups trial)
      (IsCertificate chip groups trial))
  certificate-told (Ok cuts) right gives =
      subst (λ (o : Option (List (List LinkId))). MatchOption o (HasCandidate chip groups trial)
      (IsCertificate chip groups trial)) (sym gives) (certificate-is chip groups trial right)
  certificate-told (Err cause) right gives = tt

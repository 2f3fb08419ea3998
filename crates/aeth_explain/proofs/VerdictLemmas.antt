-- What is found of a certificate: that it is complete exactly where it is one; else the first list
-- that is no cut, or an open path.
use Rattle.std.proofs.Common.{◌+◌, drop, ◌≡◌, ◌∙◌, ◌&&◌, ◌↔◌, ℕ, Bool, true, false, not, List, []}
use Rattle.std.proofs.Common.{◌∷◌, Option, None, Some, Contains, length, slice_get, filter, refl}
use Rattle.std.proofs.Common.{sym, ap, subst, get_or, leb, position, le-leb, leb-true}
use Rattle.std.proofs.lemmas.List.{Elements.Contains-get_or, Sorted.list_any-IsPermutation}
use Rattle.std.proofs.lemmas.Bool.{and_from, and_parts, both_ways, false≢true, not-false, not-true}
use Rattle.std.proofs.lemmas.Option.{same_Some}
use Rattle.std.specs.{Bool.Decides, List.list_any, List.Sorted.IsPermutation}
use Rattle.aeth_base.proofs.Lists.{drop-slice_get}
use Rattle.aeth_base.proofs.Members.{Contains-filter, Contains-here, Contains-nil, filter-Contains}
use Rattle.aeth_base.specs.declared.ids.{LinkId.LinkId, NiId.NiId}
use Rattle.aeth_chip.specs.{Chip.ChipData, Chip.IsChip, Joined.IsJoined, Nodes.begins_at}
use Rattle.aeth_chip.specs.{PathTests.link_passes, Paths.BeginsAt, Paths.to_in, Paths.to_of}
use Rattle.aeth_chip.specs.{declared.node.Link.Link, declared.node.Node.Node}
use Rattle.aeth_chip.specs.{declared.node.Node.TheVariants.Ni}
use Rattle.aeth_chip.proofs.NodeLemmas.{same_node-refl, same_node-true}
use Rattle.aeth_group.specs.Members.{GroupsData}
use Rattle.aeth_group.proofs.ListLemmas.{any_from_passes, passes_from_any}
use Rattle.aeth_paths.specs.Trials.{TrialData}
use Rattle.aeth_explain.specs.Cuts.{IsCertificate, IsComplete, IsCut, are_joined, begins_with}
use Rattle.aeth_explain.specs.Cuts.{is_cut}
use Rattle.aeth_explain.specs.TryPaths.{MayTake, leaving_lists, may_take}
use Rattle.aeth_explain.specs.Verdict.{by_cut, by_open, is_covered, open_paths, verdict_of}
use Rattle.aeth_explain.specs.declared.verdict.CutVerdict.TheVariants.{Complete, NotDead, Open}
use Rattle.aeth_explain.proofs.{PositionLemmas.none-passes, PositionLemmas.passes-none}
use Rattle.aeth_explain.proofs.{RefusalLemmas.path-listed, TryPathLemmas.may_take-Decides}

-- ---- cuts

begins-told : (links : List Link) (link : LinkId) (node : Node) (found : Option Link)
    → slice_get links link.0 ≡ found → link_passes (begins_at node) found ≡ true
    → BeginsAt links link node
begins-told links link node None at told = absurd (false≢true told)
begins-told links link node (Some one) at told = record {
  link = one;
  is = at;
  begins = same_node-true one.from node told;
  ends = sym (ap to_in at);
}

-- The test decides whether links are joined.
pub are_joined-Decides : (links : List Link) (node : Node) (path : List LinkId)
    → Decides (are_joined links node path) (IsJoined (BeginsAt links) (to_of links) node path)
are_joined-Decides links node [] = (λ told. tt, λ is. refl)
are_joined-Decides links node (link ∷ rest) = (
  (λ told.
      let (begins, later) =
      and_parts (link_passes (begins_at node) (slice_get links link.0)) _ told in (
        begins-told links link node (slice_get links link.0) refl begins,
        (are_joined-Decides links (to_of links link) rest).0 later,
      )),
  (λ (begins, later).
      let its : link_passes (begins_at node) (slice_get links link.0) ≡ true =
      rw (begins.is, begins.begins) (same_node-refl node) in
      and_from _ _ its ((are_joined-Decides links (to_of links link) rest).1 later)),
)

-- One link after the other.
pub joined-step : (links : List Link) (at : Node) (path : List LinkId) (i : ℕ) (link : LinkId)
    (one : Link) → slice_get path i ≡ Some link → slice_get links link.0 ≡ Some one
    → are_joined links at (drop i path)
    ≡ (begins_at at one && are_joined links one.to (drop (i + 1) path))
joined-step links at path i link one on is =
    ap (are_joined links at) (drop-slice_get path i link on)
    ∙ ap (λ (o : Option Link). link_passes (begins_at at) o
    && are_joined links (to_in o) (drop (i + 1) path)) is

module _ (chip : ChipData) (groups : GroupsData) (trial : TrialData) where
  abbrev joined_from : List LinkId → NiId → Bool
  joined_from cut ni = are_joined chip.links (Ni ni) cut

  -- The test decides whether a list is a cut.
  pub is_cut-Decides : (cut : List LinkId)
      → Decides (is_cut chip groups trial cut) (IsCut chip groups trial cut)
  is_cut-Decides cut = (
    (λ told.
        let (some, rest) = and_parts (leb 1 (length cut)) _ told in
        let (from, dead) = and_parts (list_any (joined_from cut) trial.from) _ rest in
        let sender = passes_from_any (joined_from cut) trial.from from in
        record {
          sender = sender.item;
          allowed = sender.is_in;
          some = leb-true 1 (length cut) some;
          joined = (are_joined-Decides chip.links (Ni sender.item) cut).0 sender.passes;
          dead = dead;
        }),
    (λ is. and_from _ _ (le-leb 1 (length cut) is.some)
        (and_from _ _ (any_from_passes (joined_from cut) trial.from is.sender is.allowed
        ((are_joined-Decides chip.links (Ni is.sender) cut).1 is.joined)) is.dead)),
  )

-- ---- verdicts

module _ (chip : ChipData) (groups : GroupsData) (trial : TrialData) (is : IsChip chip) where
  abbrev no_cut : List LinkId → Bool
  no_cut cut = not (is_cut chip groups trial cut)

  abbrev takes_open : List (List LinkId) → List LinkId → Bool
  takes_open cuts path = may_take chip trial path && not (is_covered cuts path)

  -- A path that the try may take and that begins with none of the lists is open.
  open-listed : (cuts : List (List LinkId)) (path : List LinkId) → MayTake chip trial path
      → is_covered cuts path ≡ false → Contains (open_paths chip trial cuts) path
  open-listed cuts path may bare =
      Contains-filter (takes_open cuts) (leaving_lists chip trial.from) path
      (path-listed chip groups trial is path may)
      (and_from _ _ ((may_take-Decides chip trial is path).1 may) (ap not bare))

  covered-by : (cuts : List (List LinkId)) (path : List LinkId) (b : Bool)
      → is_covered cuts path ≡ b → (b ≡ false → ⊥)
      → (cut : List LinkId) × Contains cuts cut × (begins_with cut path ≡ true)
  covered-by cuts path true told other =
      let found = passes_from_any (λ cut. begins_with cut path) cuts told in
      (found.item, found.is_in, found.passes)
  covered-by cuts path false told other = absurd (other refl)

  -- Without open paths the lists are complete.
  complete-from : (cuts : List (List LinkId)) → open_paths chip trial cuts ≡ []
      → IsComplete chip groups trial cuts
  complete-from cuts none path may =
      covered-by cuts path (is_covered cuts path) refl (λ bare.
      Contains-nil (subst (λ ps. Contains ps path) none (open-listed cuts path may bare)))

  -- An open path is one that the try may take, and begins with none of the lists.
  pub open-is : (cuts : List (List LinkId)) (path : List LinkId)
      → Contains (open_paths chip trial cuts) path
      → MayTake chip trial path × (is_covered cuts path ≡ false)
  open-is cuts path has =
      let (among, passes) =
      filter-Contains (takes_open cuts) (leaving_lists chip trial.from) path has in
      let (may, bare) = and_parts (may_take chip trial path) _ passes in
      ((may_take-Decides chip trial is path).0 may, not-true _ bare)

  by-open-complete : (cuts : List (List LinkId)) (paths : List (List LinkId))
      → open_paths chip trial cuts ≡ paths → by_open paths ≡ Complete → paths ≡ []
  by-open-complete cuts [] at complete = refl
  by-open-complete cuts (path ∷ paths) at complete = absurd (cc complete)

  from-complete : (cuts : List (List LinkId)) (place : Option ℕ)
      → position no_cut cuts ≡ place
      → by_cut place (open_paths chip trial cuts) ≡ Complete
      → IsCertificate chip groups trial cuts
  from-complete cuts (Some n) at complete = absurd (cc complete)
  from-complete cuts None at complete = record {
    cuts_are = λ i d low. (is_cut-Decides chip groups trial (get_or cuts i d)).0
        (not-false _ (none-passes no_cut cuts at (get_or cuts i d)
        (Contains-get_or cuts i d low)));
    complete = complete-from cuts
        (by-open-complete cuts (open_paths chip trial cuts) refl complete);
  }

  none-open : (cuts : List (List LinkId)) → IsCertificate chip groups trial cuts
      → (paths : List (List LinkId)) → open_paths chip trial cuts ≡ paths → paths ≡ []
  none-open cuts certificate [] at = refl
  none-open cuts certificate (path ∷ paths) at =
      let (may, bare) = open-is cuts path
      (subst (λ ps. Contains ps path) (sym at) (Contains-here path paths)) in
      let (cut, among, begins) = certificate.complete path may in
      absurd (both_ways _ bare
      (any_from_passes (λ cut. begins_with cut path) cuts cut among begins))

  to-complete : (cuts : List (List LinkId)) → IsCertificate chip groups trial cuts
      → by_cut (position no_cut cuts) (open_paths chip trial cuts) ≡ Complete
  to-complete cuts certificate =
      let none : position no_cut cuts ≡ None =
      passes-none no_cut cuts (λ cut (i, low, at).
      ap not ((is_cut-Decides chip groups trial cut).1
      (subst (IsCut chip groups trial) at (certificate.cuts_are i cut low)))) in
      ap (λ place. by_cut place (open_paths chip trial cuts)) none
      ∙ ap by_open (none-open cuts certificate (open_paths chip trial cuts) refl)

  -- The verdict is that lists are complete exactly where they are a certificate.
  pub verdict-complete : (cuts : List (List LinkId))
      → (verdict_of chip groups trial cuts ≡ Complete) ↔ IsCertificate chip groups trial cuts
  unfolding verdict_of
  verdict-complete cuts = (
    from-complete cuts (position no_cut cuts) refl,
    to-complete cuts,
  )

-- ---- what is found, step by step

module _ (chip : ChipData) (groups : GroupsData) (trial : TrialData) (cuts : List (List LinkId)) where
  -- The first list that is no cut.
  pub verdict-no : (place : ℕ)
      → position (λ cut. not (is_cut chip groups trial cut)) cuts ≡ Some place
      → NotDead (place + 1) ≡ verdict_of chip groups trial cuts
  unfolding verdict_of
  verdict-no place at = sym (ap (λ o. by_cut o (open_paths chip trial cuts)) at)

  by-first : (paths : List (List LinkId)) → slice_get paths 0 ≡ None → Complete ≡ by_open paths
  by-first [] none = refl
  by-first (path ∷ paths) none = absurd (cc none)

  -- All are cuts, and no path is open.
  pub verdict-all : position (λ cut. not (is_cut chip groups trial cut)) cuts ≡ None
      → slice_get (open_paths chip trial cuts) 0 ≡ None → Complete ≡ verdict_of chip groups trial cuts
  unfolding verdict_of
  verdict-all at none =
      by-first (open_paths chip trial cuts) none
      ∙ sym (ap (λ o. by_cut o (open_paths chip trial cuts)) at)

  by-one : (path : List LinkId) (paths : List (List LinkId)) → slice_get paths 0 ≡ Some path
      → Open path ≡ by_open paths
  by-one path [] some = absurd (cc some)
  by-one path (first ∷ paths) some = ap Open (sym (same_Some first path some))

  -- All are cuts, and a path is open.
  pub verdict-open : (path : List LinkId)
      → position (λ cut. not (is_cut chip groups trial cut)) cuts ≡ None
      → slice_get (open_paths chip trial cuts) 0 ≡ Some path
      → Open path ≡ verdict_of chip groups trial cuts
  unfolding verdict_of
  verdict-open path at some =
      by-one path (open_paths chip trial cuts) some
      ∙ sym (ap (λ o. by_cut o (open_paths chip trial cuts)) at)

-- ---- the same lists in another order

-- Which paths are open rests on which lists there are, and not on their order.
pub open-reordered : (chip : ChipData) (trial : TrialData) (cuts index : List (List LinkId))
    → IsPermutation cuts index → open_paths chip trial index ≡ open_paths chip trial cuts
open-reordered chip trial cuts index same =
    let covered : (path : List LinkId) → is_covered index path ≡ is_covered cuts path =
    λ path. sym (list_any-IsPermutation (λ cut. begins_with cut path) cuts index same) in
    λ i. filter (λ path. may_take chip trial path && not (covered path i)) (leaving_lists chip trial.from)

-- So is the first one, of the same chip and try.
pub first-reordered : (own chip : ChipData) (tried trial : TrialData) (cuts index : List (List LinkId))
    (found : Option (List LinkId)) → own ≡ chip → tried ≡ trial → IsPermutation cuts index
    → found ≡ slice_get (open_paths own tried index) 0
    → found ≡ slice_get (open_paths chip trial cuts) 0
first-reordered own chip tried trial cuts index found first second same is =
    is ∙ ap (λ (c : ChipData). slice_get (open_paths c tried index) 0) first
    ∙ ap (λ (t : TrialData). slice_get (open_paths chip t index) 0) second
    ∙ ap (λ (paths : List (List LinkId)). slice_get paths 0) (open-reordered chip trial cuts index same)

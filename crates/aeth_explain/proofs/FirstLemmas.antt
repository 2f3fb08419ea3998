-- The first open path of all lists, by the links with which they begin.
use Rattle.std.proofs.Common.{◌≡◌, ◌∙◌, ◌+◌, ◌-◌, ◌<◌, ◌++◌, ℕ, Bool, true, false, List, [], ◌∷◌}
use Rattle.std.proofs.Common.{Contains, None, Option, Some, arith, drop, eqb, filter, length, map}
use Rattle.std.proofs.Common.{refl, sym, ap, subst, take, slice_get, eq-eqb, eqb-true, append-nil}
use Rattle.std.proofs.Common.{take-append-drop}
use Rattle.std.proofs.lemmas.{Bool.false_from_ne_true, Grind.flat_map-append}
use Rattle.std.proofs.lemmas.{List.Elements.filter-append, List.FromFn.map-range_with_len_more}
use Rattle.std.proofs.lemmas.{List.FromFn.take-map-range_with_len, Option.same_Some}
use Rattle.std.specs.List.{flat_map, list_any, range_with_len}
use Rattle.aeth_base.proofs.{ExtremeLemmas.true_and_false, Filters.filter-no, Filters.filter-yes}
use Rattle.aeth_base.specs.Limits.{max_path_links}
use Rattle.aeth_base.specs.declared.ids.{LinkId.LinkId, NiId.NiId, RouterId.RouterId}
use Rattle.aeth_chip.specs.{Chip.ChipData, LeastDistance.link_ids, Paths.BeginsAt, Paths.to_in}
use Rattle.aeth_chip.specs.{Paths.to_of, declared.node.Link.Link, declared.node.Node.Node}
use Rattle.aeth_chip.specs.{declared.node.Node.TheVariants.Ni}
use Rattle.aeth_chip.specs.{declared.node.Node.TheVariants.Router}
use Rattle.aeth_group.proofs.ListLemmas.{any_from_passes, passes_from_any}
use Rattle.aeth_paths.specs.{Task.links_from, Trials.TrialData}
use Rattle.aeth_paths.proofs.JoinLemmas.{begins-leaving, leaving-begins}
use Rattle.aeth_paths.proofs.UniqueLemmas.{same-ni}
use Rattle.aeth_explain.specs.Fronts.{first_open, first_so_far, lists_below, lists_so_far, so_far}
use Rattle.aeth_explain.specs.TryPaths.{leaves_one, leaving_lists}
use Rattle.aeth_explain.specs.Verdict.{is_open, open_paths}
use Rattle.aeth_explain.proofs.OpenLemmas.{first-none, first-some}

-- ---- links that leave a sender

-- Where a link of a chip begins.
pub begins-told : (links : List Link) (link : LinkId) (l : Link) (n : Node)
    → slice_get links link.0 ≡ Some l → l.from ≡ n → BeginsAt links link n
begins-told links link l n at from =
    record { link = l; is = at; begins = from; ends = sym (ap to_in at) }

from-told : (links : List Link) (link : LinkId) (l : Link) (n : Node)
    → slice_get links link.0 ≡ Some l → BeginsAt links link n → l.from ≡ n
from-told links link l n at begins =
    ap (λ (l : Link). l.from) (same_Some _ _ (sym at ∙ begins.is)) ∙ begins.begins

-- What a list contains is among it.
pub is-among : (list : List NiId) (ni : NiId) → Contains list ni
    → list_any (λ (n : NiId). eqb n.0 ni.0) list ≡ true
is-among list ni has =
    any_from_passes (λ (n : NiId). eqb n.0 ni.0) list ni has (eq-eqb ni.0 ni.0 refl)

pub from-among : (list : List NiId) (ni : NiId)
    → list_any (λ (n : NiId). eqb n.0 ni.0) list ≡ true → Contains list ni
from-among list ni is =
    let found = passes_from_any (λ (n : NiId). eqb n.0 ni.0) list is in
    let same : found.item ≡ ni =
    ap (λ n. record { 0 = n }) (eqb-true found.item.0 ni.0 found.passes) in
    subst (Contains list) same found.is_in

module _ (links : List Link) (from : List NiId) (link : LinkId) where
  abbrev sends : NiId → Bool
  sends n = list_any (λ (other : LinkId). eqb other.0 link.0) (links_from links (Ni n))

  -- A link that begins at a sender leaves one.
  pub leaves-yes : (ni : NiId) → Contains from ni → BeginsAt links link (Ni ni)
      → leaves_one links from link ≡ true
  leaves-yes ni among begins =
      any_from_passes sends from ni among
      (any_from_passes (λ (other : LinkId). eqb other.0 link.0) (links_from links (Ni ni)) link
      (begins-leaving links link (Ni ni) begins) (eq-eqb link.0 link.0 refl))

  leaves-no : ((ni : NiId) → Contains from ni → BeginsAt links link (Ni ni) → ⊥)
      → leaves_one links from link ≡ false
  leaves-no never = false_from_ne_true (leaves_one links from link) (λ sends-it.
      let one = passes_from_any sends from sends-it in
      let other = passes_from_any (λ (other : LinkId). eqb other.0 link.0)
      (links_from links (Ni one.item)) one.passes in
      let same : other.item ≡ link =
      ap (λ l. record { 0 = l }) (eqb-true other.item.0 link.0 other.passes) in
      never one.item one.is_in (subst (λ l. BeginsAt links l (Ni one.item)) same
      (leaving-begins links other.item (Ni one.item) other.is_in)))

  -- One that begins at another interface leaves none.
  pub leaves-other : (l : Link) (ni : NiId) → slice_get links link.0 ≡ Some l → l.from ≡ Ni ni
      → list_any (λ (n : NiId). eqb n.0 ni.0) from ≡ false → leaves_one links from link ≡ false
  leaves-other l ni at begins none = leaves-no (λ other among its.
      let same : other ≡ ni =
      same-ni other ni (sym (from-told links link l (Ni other) at its) ∙ begins) in
      absurd (true_and_false _ (is-among from ni (subst (Contains from) same among)) none))

  -- Nor does one that begins at a router.
  pub leaves-router : (l : Link) (r : RouterId) → slice_get links link.0 ≡ Some l
      → l.from ≡ Router r → leaves_one links from link ≡ false
  leaves-router l r at begins = leaves-no (λ other among its.
      cc (sym begins ∙ from-told links link l (Ni other) at its))

-- ---- one link after the other

module _ (chip : ChipData) (trial : TrialData) where
  -- The lists over a link.
  abbrev pub below : LinkId → List (List LinkId)
  below link = lists_below chip.links (max_path_links - 1) (to_of chip.links link) (link ∷ [])

  abbrev leaves : LinkId → Bool
  leaves = leaves_one chip.links trial.from

  one-more : (n : ℕ) → so_far chip trial (n + 1)
      ≡ so_far chip trial n ++ filter leaves (record { 0 = n } ∷ [])
  one-more n =
      ap (filter leaves) (map-range_with_len_more (λ l. record { 0 = l }) 0 n n (omega arith))
      ∙ filter-append leaves (map (λ l. record { 0 = l }) (range_with_len 0 n))
      (record { 0 = n } ∷ [])

  -- The next link leaves no sender, or it leaves one.
  pub lists-no : (n : ℕ) → leaves (record { 0 = n }) ≡ false
      → lists_so_far chip trial (n + 1) ≡ lists_so_far chip trial n
  lists-no n not-sent =
      ap (flat_map below)
      (one-more n
      ∙ ap (λ ls. so_far chip trial n ++ ls) (filter-no leaves (record { 0 = n }) [] not-sent)
      ∙ append-nil (so_far chip trial n))

  pub lists-yes : (n : ℕ) → leaves (record { 0 = n }) ≡ true
      → lists_so_far chip trial (n + 1) ≡ lists_so_far chip trial n ++ below (record { 0 = n })
  lists-yes n sends-it =
      ap (flat_map below) (one-more n
      ∙ ap (λ ls. so_far chip trial n ++ ls) (filter-yes leaves (record { 0 = n }) [] sends-it))
      ∙ flat_map-append below (so_far chip trial n) (record { 0 = n } ∷ [])
      ∙ ap (λ ls. lists_so_far chip trial n ++ ls) (append-nil (below (record { 0 = n })))

  -- What leaves senders begins with the lists so far.
  pub lists-rest : (n : ℕ) → n < length chip.links
      → (later : List (List LinkId))
      × (leaving_lists chip trial.from ≡ lists_so_far chip trial (n + 1) ++ later)
  unfolding leaving_lists
  lists-rest n low =
      let ids : List LinkId = link_ids chip.links in
      let later : List LinkId = filter leaves (drop (n + 1) ids) in
      let split : filter leaves ids ≡ so_far chip trial (n + 1) ++ later =
      ap (filter leaves) (sym (take-append-drop (n + 1) ids))
      ∙ filter-append leaves (take (n + 1) ids) (drop (n + 1) ids)
      ∙ ap (λ ls. filter leaves ls ++ later)
      (take-map-range_with_len (λ l. record { 0 = l }) 0 (length chip.links) (n + 1)
      (omega (arith, low))) in (
        flat_map below later,
        ap (flat_map below) split ∙ flat_map-append below (so_far chip trial (n + 1)) later,
      )

  -- There are no more links.
  pub lists-all : (n : ℕ) → n ≡ length chip.links
      → lists_so_far chip trial n ≡ leaving_lists chip trial.from
  unfolding leaving_lists
  lists-all n all = ap (lists_so_far chip trial) all

module _ (chip : ChipData) (trial : TrialData) (cuts : List (List LinkId)) where
  abbrev first : List (List LinkId) → Option (List LinkId)
  first = first_open chip trial cuts

  -- The next link leaves no sender.
  pub so-far-no : (n : ℕ) → leaves chip trial (record { 0 = n }) ≡ false
      → first_so_far chip trial cuts n ≡ None → first_so_far chip trial cuts (n + 1) ≡ None
  so-far-no n not-sent none = ap first (lists-no chip trial n not-sent) ∙ none

  with-one : (n : ℕ) (found : Option (List LinkId)) → leaves chip trial (record { 0 = n }) ≡ true
      → first_so_far chip trial cuts n ≡ None
      → first (below chip trial (record { 0 = n })) ≡ found
      → first_so_far chip trial cuts (n + 1) ≡ found
  with-one n found sends-it before now =
      ap first (lists-yes chip trial n sends-it)
      ∙ first-none (is_open chip trial cuts) (lists_so_far chip trial n)
      (below chip trial (record { 0 = n })) before ∙ now

  -- It leaves one, and nothing is open over it.
  pub so-far-none : (n : ℕ) → leaves chip trial (record { 0 = n }) ≡ true
      → first_so_far chip trial cuts n ≡ None
      → first (below chip trial (record { 0 = n })) ≡ None
      → first_so_far chip trial cuts (n + 1) ≡ None
  so-far-none n sends-it before now = with-one n None sends-it before now

  -- A path is.
  pub so-far-some : (n : ℕ) (path : List LinkId) → n < length chip.links
      → leaves chip trial (record { 0 = n }) ≡ true → first_so_far chip trial cuts n ≡ None
      → first (below chip trial (record { 0 = n })) ≡ Some path
      → slice_get (open_paths chip trial cuts) 0 ≡ Some path
  so-far-some n path low sends-it before now =
      let (later, split) = lists-rest chip trial n low in
      ap first split
      ∙ first-some (is_open chip trial cuts) (lists_so_far chip trial (n + 1)) later path
      (with-one n (Some path) sends-it before now)

  -- There are no more links.
  pub so-far-all : (n : ℕ) → n ≡ length chip.links → first_so_far chip trial cuts n ≡ None
      → None ≡ slice_get (open_paths chip trial cuts) 0
  so-far-all n all none = sym (ap first (sym (lists-all chip trial n all)) ∙ none)

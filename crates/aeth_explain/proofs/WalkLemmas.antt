-- What a walk comes to over lists one after another, as over the links that leave a router.
use Rattle.std.proofs.Common.{◌≡◌, ◌∙◌, ◌+◌, ◌++◌, ◌||◌, ℕ, Bool, true, false, List, Contains, Some}
use Rattle.std.proofs.Common.{append_assoc, ap, drop, filter, subst, sym, take, slice_get}
use Rattle.std.proofs.Common.{append-nil, take-append-drop}
use Rattle.std.proofs.lemmas.Bool.{both_ways, false_from_ne_true, or_left, or_right}
use Rattle.std.proofs.lemmas.Grind.{flat_map-append}
use Rattle.std.proofs.lemmas.List.{Elements.filter-append, Folds.list_any-append}
use Rattle.std.specs.List.{flat_map, list_any}
use Rattle.aeth_base.{specs.declared.ids.LinkId.LinkId, proofs.Filters.filter-all_fail}
use Rattle.aeth_chip.specs.Chip.{ChipData}
use Rattle.aeth_group.{specs.Members.GroupsData, proofs.ListLemmas.passes_from_any}
use Rattle.aeth_paths.specs.Trials.{TrialData}
use Rattle.aeth_explain.specs.{Certificate.is_first_cut, Walks.IsWalked, Walks.may_have}
use Rattle.aeth_explain.proofs.OpenLemmas.{one-more}

module _ (chip : ChipData) (groups : GroupsData) (trial : TrialData) where
  abbrev has : List LinkId → Bool
  has = may_have chip groups trial

  abbrev cut : List LinkId → Bool
  cut = is_first_cut chip groups trial

  abbrev Walked : List (List LinkId) → List (List LinkId) → Bool → List (List LinkId) → Type 0
  Walked = IsWalked chip groups trial

  -- Lists of which none is a path that the try may have, and then others.
  pub walked-on : (xs ys old mid new : List (List LinkId)) (b : Bool) → Walked xs old false mid
      → Walked ys mid b new → Walked (xs ++ ys) old b new
  walked-on xs ys old mid new true before now =
      list_any-append has xs ys ∙ or_right (list_any has xs) (list_any has ys) now
  walked-on xs ys old mid new false before now = (
    list_any-append has xs ys ∙ ap (λ b. b || list_any has ys) before.0 ∙ now.0,
    now.1 ∙ ap (λ cs. cs ++ filter cut ys) before.1
        ∙ append_assoc old (filter cut xs) (filter cut ys)
        ∙ ap (λ cs. old ++ cs) (sym (filter-append cut xs ys)),
  )

  -- Where one of some lists is such a path, one of more lists is.
  pub found-on : (xs ys : List (List LinkId)) → list_any has xs ≡ true
      → list_any has (xs ++ ys) ≡ true
  found-on xs ys found =
      list_any-append has xs ys ∙ or_left (list_any has xs) (list_any has ys) found

  -- Where none of some lists is one, a test of all is false.
  pub none-has : (lists : List (List LinkId))
      → ((p : List LinkId) → Contains lists p → has p ≡ false) → list_any has lists ≡ false
  none-has lists lacks = false_from_ne_true (list_any has lists) (λ told.
      let found = passes_from_any has lists told in
      both_ways (has found.item) (lacks found.item found.is_in) found.passes)

  -- Lists of which none is such a path nor a shortest cut.
  pub walked-none : (lists cuts : List (List LinkId))
      → ((p : List LinkId) → Contains lists p → has p ≡ false)
      → ((p : List LinkId) → Contains lists p → cut p ≡ false) → Walked lists cuts false cuts
  walked-none lists cuts lacks fails = (
    none-has lists lacks,
    sym (ap (λ cs. cuts ++ cs) (filter-all_fail cut lists fails) ∙ append-nil cuts),
  )

  module _ (f : LinkId → List (List LinkId)) (links : List LinkId) where
    -- The lists over one link more.
    pub walked-next : (i : ℕ) (link : LinkId) (old mid new : List (List LinkId)) (b : Bool)
        → slice_get links i ≡ Some link → Walked (flat_map f (take i links)) old false mid
        → Walked (f link) mid b new → Walked (flat_map f (take (i + 1) links)) old b new
    walked-next i link old mid new b at before now =
        subst (λ lists. Walked lists old b new) (sym (one-more has f links i link at))
        (walked-on (flat_map f (take i links)) (f link) old mid new b before now)

    -- What is found over some links is found over all.
    pub found-over : (i : ℕ) → list_any has (flat_map f (take i links)) ≡ true
        → list_any has (flat_map f links) ≡ true
    found-over i found =
        ap (λ ls. list_any has (flat_map f ls)) (sym (take-append-drop i links))
        ∙ ap (list_any has) (flat_map-append f (take i links) (drop i links))
        ∙ found-on (flat_map f (take i links)) (flat_map f (drop i links)) found

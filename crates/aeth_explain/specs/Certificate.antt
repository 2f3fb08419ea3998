-- The certificate with the shortest cuts. This project's own.
--
--   IsFirstCut, is_first_cut      a shortest cut, as a fact and as a test
--   cuts_of      all of them, in the order of a dictionary
--   has_candidate, certificate_of      the certificate of a try that has no candidate
use Rattle.std.proofs.Common.{◌≡◌, ◌≤◌, ◌<◌, ◌+◌, ◌-◌, ◌&&◌, ℕ, Bool, true, false, not, List}
use Rattle.std.proofs.Common.{length, filter, if◌then◌else◌, map, Option, Some, None, take}
use Rattle.std.specs.List.{list_any, range_with_len}
use Rattle.aeth_base.specs.declared.ids.LinkId.{LinkId}
use Rattle.aeth_chip.specs.Chip.{ChipData}
use Rattle.aeth_group.specs.Members.{GroupsData}
use Rattle.aeth_paths.specs.{Candidates.is_live, Trials.TrialData, Trials.book_of}
use Rattle.aeth_explain.specs.Cuts.{begins_with}
use Rattle.aeth_explain.specs.TryPaths.{MayTake, is_dead, leaving_lists, may_take}

-- The fronts of a list that are shorter and not empty.
abbrev pub shorter_fronts : List LinkId → List (List LinkId)
shorter_fronts path = map (λ n. take (n + 1) path) (range_with_len 0 (length path - 1))

module _ (chip : ChipData) (groups : GroupsData) (trial : TrialData) where
  -- A shortest cut: a path that the try may take begins with it, and it is dead, but no shorter
  -- front that isn't empty.
  pub record IsFirstCut (cut : List LinkId) : Type 0 where
    pub some : 1 ≤ length cut
    pub path : List LinkId
    pub may_take : MayTake chip trial path
    pub begins : begins_with cut path ≡ true
    pub dead : is_dead chip groups trial cut ≡ true
    pub first : (n : ℕ) → 1 ≤ n → n < length cut → is_dead chip groups trial (take n cut) ≡ false

  -- Whether a path that the try may take begins with a list.
  abbrev pub goes_on : List LinkId → Bool
  goes_on front = list_any (λ path. may_take chip trial path && begins_with front path)
      (leaving_lists chip trial.from)

  -- The same as a test of a list that isn't empty.
  abbrev pub is_first_cut : List LinkId → Bool
  is_first_cut cut = (is_dead chip groups trial cut
      && not (list_any (is_dead chip groups trial) (shorter_fronts cut))) && goes_on cut

  -- All shortest cuts, in the order of a dictionary.
  unfoldable pub cuts_of : List (List LinkId)
  cuts_of = filter is_first_cut (leaving_lists chip trial.from)

  -- Whether the try has a candidate: a path that it may take is live.
  abbrev pub has_candidate : Bool
  has_candidate = list_any (λ path. may_take chip trial path
      && is_live (book_of chip groups trial) trial.ask path) (leaving_lists chip trial.from)

  -- The certificate of the try, where it has no candidate.
  abbrev pub certificate_of : Option (List (List LinkId))
  certificate_of = if has_candidate then None else Some cuts_of

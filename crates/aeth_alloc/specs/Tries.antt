-- Tries as they are kept: beside the grants of all turns, of which those before a try are the first so
-- many. This project's own.
--
--   TryData, IsTry, trial_over      a try without the grants, what holds of it, and the trial with them
--   AreWithin      there are so many grants
use Rattle.std.proofs.Common.{ℕ, ◌++◌, ◌≤◌, List, All, Option, option_to_list, take}
use Rattle.aeth_base.specs.declared.ids.NiId.{NiId}
use Rattle.aeth_group.specs.declared.grant.Grant.{Grant}
use Rattle.aeth_paths.specs.{Trials.Ascend, Trials.TrialData, declared.request.Request.Request}

-- A try: what is asked, its turn, how many grants were made before its unit's turn, the `fwd` grant of
-- the unit where it is the `back` channel that was tried, and the lists of interfaces.
pub record TryData : Type 0 where
  pub ask : Request
  pub turn : ℕ
  pub before : ℕ
  pub fwd : Option Grant
  pub from : List NiId
  pub to : List NiId
  pub crowded : List NiId

-- The interfaces of each list ascend.
pub record IsTry (one : TryData) : Type 0 where
  pub from : Ascend one.from
  pub to : Ascend one.to
  pub crowded : Ascend one.crowded

-- The trial of a try, over the grants of all turns.
abbrev pub trial_over : List Grant → TryData → TrialData
trial_over grants one = record {
  ask = one.ask;
  turn = one.turn;
  grants = take one.before grants ++ option_to_list one.fwd;
  from = one.from;
  to = one.to;
  crowded = one.crowded;
}

-- The grants before each try are among so many.
abbrev pub AreWithin : ℕ → List TryData → Type 0
AreWithin count tries = All (λ (one : TryData). one.before ≤ count) tries

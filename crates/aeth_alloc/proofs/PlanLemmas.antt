-- The plan of the last state breaks no rule but the one on missing sides, and that for refused units
-- alone; and it is the plan that is made of the seats and grants.
use Rattle.std.proofs.Common.{◌≡◌, ◌≢◌, ◌∙◌, ℕ, List, [], Contains, Option, Some, length, get_or}
use Rattle.std.proofs.Common.{slice_get, refl, sym, ap, subst, inl, inr, true, arith, option_map}
use Rattle.std.proofs.lemmas.{Bool.cases_eq, Bool.cases_lt, List.get_or_default}
use Rattle.std.proofs.lemmas.{Option.slice_get-map}
use Rattle.aeth_base.proofs.Members.{Contains-nil}
use Rattle.aeth_base.specs.declared.ids.{CoreId.CoreId, NiId.NiId, Side.Side}
use Rattle.aeth_base.specs.declared.ids.{Unit.Unit as GroupUnit}
use Rattle.aeth_chip.specs.{Chip.ChipData, Chip.IsChip, declared.node.Link.Link}
use Rattle.aeth_app.specs.{App.AppData, App.IsApp, App.IsAppOf, declared.connection.Core.Core}
use Rattle.aeth_app.specs.{Connections.receiver, Connections.sender}
use Rattle.aeth_group.specs.{Conflict.Conflict, Members.GroupsData, Members.groups_of}
use Rattle.aeth_group.specs.{Members.units_of, declared.grant.Grant.Grant}
use Rattle.aeth_group.proofs.{ConflictLemmas.held_from_conflict, UnitLemmas.unit_from_units}
use Rattle.aeth_book.specs.Book.{AreApart, BookData, IsBook}
use Rattle.aeth_plan.proofs.{MadePlans.before_irrefl, SeatedCores.seated_cores_rise}
use Rattle.aeth_plan.specs.{Making.IsPlanWith, Making.seated_cores, Plan.PlanData}
use Rattle.aeth_plan.specs.{Plan.grant_before, Accepted.HasGrant, Accepted.HasSlots}
use Rattle.aeth_plan.specs.{Accepted.IsAccepted, Accepted.IsOnPath, Accepted.NoTwo, Seated.ni_of}
use Rattle.aeth_seats.specs.First.{fixed_of}
use Rattle.aeth_alloc.specs.{Allocation.OutcomeData, Allocation.allocation, Allocation.in_order}
use Rattle.aeth_alloc.specs.{Allocation.last_state, Allocation.outcome_of, Channels.Design}
use Rattle.aeth_alloc.specs.{Channels.Reserved, Refusals.IsAmong, Refusals.LacksOnlyRefused}
use Rattle.aeth_alloc.specs.{Turns.State, declared.outcome.Refused.Refused}
use Rattle.aeth_alloc.proofs.InOrderLemmas.{Contains-in_order, in_order-Contains, in_order-ordered}
use Rattle.aeth_alloc.proofs.InOrderLemmas.{in_order-permutation, in_order-rises}
use Rattle.aeth_alloc.proofs.LastStateLemmas.{none-waits-last, sound-turns}
use Rattle.aeth_alloc.proofs.OrderedLists.{no_two-ordered, ordered-weaker}
use Rattle.aeth_alloc.proofs.SeatLineLemmas.{ni-seated, seats-apart}
use Rattle.aeth_alloc.proofs.SoundLemmas.{IsSound}
use Rattle.aeth_alloc.proofs.StateLemmas.{IsSoundState}

-- Two grants of a book don't conflict.
grants-clear : (book : BookData) → IsBook book → (a b : Grant) → Contains book.grants a
    → Contains book.grants b → (a ≡ b → ⊥) → Conflict book.groups book.links a b → ⊥
grants-clear book is a b (i, first, at_i) (j, second, at_j) other conflict =
    let held = held_from_conflict book.groups book.links a b conflict in
    let here : get_or book.grants j a ≡ b = get_or_default book.grants j a b second ∙ at_j in
    let there : get_or book.grants i b ≡ a = get_or_default book.grants i b a first ∙ at_i in
    elim (cases_lt i j) [
      | inl less ↦
          let apart : AreApart book.groups book.links a b =
          subst (λ (g : Grant). AreApart book.groups book.links g b) at_i
          (subst (AreApart book.groups book.links (get_or book.grants i a)) here
          (is.apart i j a less second)) in
          apart held.use_case held.link held.slot held.first held.second
      | inr more ↦ elim (cases_eq i j) [
        | inl same ↦ other (sym at_i ∙ ap (λ k. get_or book.grants k a) same ∙ here)
        | inr differ ↦
            let apart : AreApart book.groups book.links b a =
            subst (λ (g : Grant). AreApart book.groups book.links g a) at_j
            (subst (AreApart book.groups book.links (get_or book.grants j b)) there
            (is.apart j i b (omega (arith, more, differ)) first)) in
            apart held.use_case held.link held.slot held.second held.first
      ]
    ]

-- The cores that are fixed are in their list.
fixed-at : (app : AppData) (core : CoreId) (one : Core) (ni : NiId)
    → slice_get app.cores core.0 ≡ Some one → one.fixed ≡ Some ni
    → slice_get (fixed_of app) core.0 ≡ Some (Some ni)
fixed-at app core one ni at fixed =
    slice_get-map (λ core. core.fixed) app.cores core.0
    ∙ ap (option_map (λ (core : Core). core.fixed)) at ∙ ap Some fixed

module _ (design : Design) (groups : GroupsData) (reserved : Reserved)
    (sound : IsSound design groups reserved) where
  abbrev grants : List Grant
  grants = reserved.book.grants

  -- No two grants of the plan conflict.
  plan-clear : NoTwo (Conflict groups design.chip.links) (in_order groups grants)
  plan-clear =
      no_two-ordered (Conflict groups design.chip.links) (in_order groups grants)
      (ordered-weaker (λ a b. grant_before a b ≡ true)
      (λ a b. Conflict groups design.chip.links a b → ⊥) (in_order groups grants)
      (in_order-ordered groups grants sound.apart) (λ a b has has' before conflict.
      grants-clear reserved.book sound.book a b (in_order-Contains groups grants a has)
      (in_order-Contains groups grants b has')
      (λ same. before_irrefl b (subst (λ c. grant_before c b ≡ true) same before))
      (subst (λ (gs : GroupsData). Conflict gs reserved.book.links a b) (sym sound.groups_are)
      (subst (λ (ls : List Link). Conflict groups ls a b) (sym sound.of.links) conflict))))

  -- Its paths lead from seat to seat.
  plan-path : (grant : Grant) → Contains (in_order groups grants) grant
      → IsOnPath design.chip design.app (seated_cores reserved.seats.places) grant
  plan-path grant has =
      let is = sound.granted grant (in_order-Contains groups grants grant has) in
      record {
        connection = is.connection;
        is = is.is;
        from = is.from;
        to = is.to;
        sends = ni-seated reserved.seats.places (sender is.connection grant.side) is.from is.sends;
        receives = ni-seated reserved.seats.places (receiver is.connection grant.side) is.to
            is.receives;
        admissible = is.admissible;
      }

  -- Its slots suffice.
  plan-slots : (grant : Grant) → Contains (in_order groups grants) grant
      → HasSlots design.chip design.app grant
  plan-slots grant has =
      let is = sound.granted grant (in_order-Contains groups grants grant has) in
      record { connection = is.connection; is = is.is; suitable = is.suitable }

  -- The fixed cores sit on their interfaces.
  plan-fixed : (core : CoreId) (one : Core) (ni : NiId)
      → slice_get design.app.cores core.0 ≡ Some one → one.fixed ≡ Some ni
      → ni_of (seated_cores reserved.seats.places) core ≡ Some ni
  plan-fixed core one ni at fixed =
      ni-seated reserved.seats.places core ni
      (sound.seats.stay core.0 ni
      (ap (λ (f : List (Option NiId)). slice_get f core.0) sound.of.fixed
      ∙ fixed-at design.app core one ni at fixed))

  -- The plan of what is reserved.
  abbrev pub plan : PlanData
  plan = record {
    slots = design.chip.slots;
    seats = seated_cores reserved.seats.places;
    grants = in_order groups reserved.book.grants;
  }

  -- It is made of the seats and the grants.
  pub plan-with : IsPlanWith design.chip reserved.seats reserved.book.grants plan
  plan-with = record {
    slots = refl;
    seats = refl;
    grants = in_order-permutation groups grants sound.apart
        (λ grant has. (sound.granted grant has).unit);
    in_order = record {
      seats = seated_cores_rise reserved.seats.places;
      grants = in_order-rises groups grants sound.apart;
    };
  }

module _ (design : Design) (chip : IsChip design.chip) (app : IsApp design.app)
    (of : IsAppOf design.chip design.app) where
  abbrev groups_are : GroupsData
  groups_are = groups_of design.app

  abbrev last : State
  last = last_state design groups_are

  sound-last : IsSoundState design groups_are last
  sound-last = sound-turns design chip app of (length (units_of (groups_of design.app)))

  -- A unit that isn't refused has a grant for each side.
  plan-whole : (unit : GroupUnit) (side : Side) → Contains (units_of groups_are) unit
      → (IsAmong (outcome_of design.chip groups_are last) unit → ⊥)
      → HasGrant (outcome_of design.chip groups_are last).plan unit side
  plan-whole unit side among kept = elim (sound-last.fates unit among) [
    | inl waits ↦ Contains-nil (subst (λ ks. Contains ks waits.keys)
        (none-waits-last design groups_are) waits.listed)
    | inr (inl both) ↦
        let one = both side in
        record {
          grant = one.grant;
          granted = Contains-in_order groups_are last.reserved.book.grants one.grant one.listed
              (subst (Contains (units_of groups_are)) (sym one.unit_is) among);
          unit_is = one.unit_is;
          side_is = one.side_is;
        }
    | inr (inr refused) ↦ absurd (kept (record {
      refused = refused.one;
      listed = refused.listed;
      unit_is = refused.unit_is;
    }))
  ]

  -- The plan of the last state.
  plan-lacks : LacksOnlyRefused design.chip design.app groups_are
      (outcome_of design.chip groups_are last)
  plan-lacks =
      let sound = sound-last.reserved in
      let reserved = last.reserved in
      record {
        apart = seats-apart reserved.seats sound.seats;
        fixed = plan-fixed design groups_are reserved sound;
        member = λ grant has.
            let is = sound.granted grant
            (in_order-Contains groups_are reserved.book.grants grant has) in
            (unit_from_units groups_are grant.unit is.unit).member;
        whole = plan-whole;
        paths = plan-path design groups_are reserved sound;
        slots = plan-slots design groups_are reserved sound;
        clear = plan-clear design groups_are reserved sound;
      }

-- The plan of an allocation breaks no rule but the one on missing sides, and that one for refused
-- units alone.
pub allocation-lacks : (chip : ChipData) (app : AppData) (prices : List ℕ) → IsChip chip
    → IsApp app → IsAppOf chip app
    → LacksOnlyRefused chip app (groups_of app) (allocation chip app (groups_of app) prices)
unfolding allocation
allocation-lacks chip app prices is_chip is_app of =
    plan-lacks (record { chip = chip; app = app; prices = prices }) is_chip is_app of

-- It has no grant for a refused unit.
pub allocation-bare : (chip : ChipData) (app : AppData) (prices : List ℕ) → IsChip chip
    → IsApp app → IsAppOf chip app → (refused : Refused)
    → Contains (allocation chip app (groups_of app) prices).refused refused → (grant : Grant)
    → Contains (allocation chip app (groups_of app) prices).plan.grants grant
    → grant.unit ≢ refused.unit
unfolding allocation
allocation-bare chip app prices is_chip is_app of refused has grant among =
    let design : Design = record { chip = chip; app = app; prices = prices } in
    (sound-last design is_chip is_app of).bare refused has grant
    (in_order-Contains (groups_of app)
    (last_state design (groups_of app)).reserved.book.grants grant among)

-- A plan that lacks nothing is accepted.
accepted-from : (chip : ChipData) (app : AppData) (groups : GroupsData) (outcome : OutcomeData)
    → LacksOnlyRefused chip app groups outcome → outcome.refused ≡ []
    → IsAccepted chip app groups outcome.plan
accepted-from chip app groups outcome lacks none = record {
  apart = lacks.apart;
  fixed = lacks.fixed;
  member = lacks.member;
  whole = λ unit side among. lacks.whole unit side among (λ is.
      Contains-nil (subst (λ (rs : List Refused). Contains rs is.refused) none is.listed));
  paths = lacks.paths;
  slots = lacks.slots;
  clear = lacks.clear;
}

-- With no refusal it is accepted.
pub allocation-accepted : (chip : ChipData) (app : AppData) (prices : List ℕ) → IsChip chip
    → IsApp app → IsAppOf chip app
    → (allocation chip app (groups_of app) prices).refused ≡ []
    → IsAccepted chip app (groups_of app) (allocation chip app (groups_of app) prices).plan
allocation-accepted chip app prices is_chip is_app of none =
    accepted-from chip app (groups_of app) (allocation chip app (groups_of app) prices)
    (allocation-lacks chip app prices is_chip is_app of) none

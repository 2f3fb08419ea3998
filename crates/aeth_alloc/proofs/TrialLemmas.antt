-- The trials of an allocation: each is one on the chip, none has a candidate, and they tell of the
-- refusals one by one.
use Rattle.std.proofs.Common.{◌≡◌, ◌∙◌, ◌<◌, ◌≤◌, ◌+◌, ◌++◌, ℕ, zero, suc, List, [], ◌∷◌, Contains}
use Rattle.std.proofs.Common.{Option, None, Some, length, map, refl, sym, ap, subst, arith, All}
use Rattle.std.proofs.Common.{Bool, true, false, cond, ◌&&◌, IfSome, is_none, option_and_then}
use Rattle.std.proofs.Common.{option_map, option_to_list}
use Rattle.std.proofs.lemmas.List.{map-append, Elements.Contains-get_or, Elements.filter_map-append}
use Rattle.std.proofs.lemmas.Option.{none-some, same_Some}
use Rattle.std.specs.List.{cons_option, filter_map, range_with_len}
use Rattle.aeth_base.proofs.Members.{Contains-slice_get, filter_map-Contains}
use Rattle.aeth_base.proofs.Ranges.{range-Contains, range_with_len-more}
use Rattle.aeth_base.specs.declared.ids.{NiId.NiId, Side.Side, Side.TheVariants.Back}
use Rattle.aeth_base.specs.declared.ids.{Side.TheVariants.Fwd, Unit.Unit as GroupUnit}
use Rattle.aeth_chip.specs.{Chip.IsChip, declared.node.Link.Link}
use Rattle.aeth_app.specs.{App.IsApp, App.IsAppOf, Limits.seats_per_ni}
use Rattle.aeth_app.specs.{declared.connection.Connection.Connection, Connections.receiver}
use Rattle.aeth_app.specs.{Connections.sender}
use Rattle.aeth_group.specs.Members.{GroupsData, groups_of, units_of}
use Rattle.aeth_book.specs.Book.{BookData, IsFit}
use Rattle.aeth_order.specs.Units.{next_unit}
use Rattle.aeth_seats.specs.Places.{Place, has_free, seat_of}
use Rattle.aeth_seats.specs.Seats.{IsSeats, SeatsData, candidates_of, crowded_of, interfaces}
use Rattle.aeth_seats.specs.Seats.{interfaces_from, is_crowded}
use Rattle.aeth_paths.specs.{Candidates.IsCandidate, Trials.IsTrialOf, Trials.TrialData}
use Rattle.aeth_paths.specs.{Trials.book_of, declared.request.Found.Found}
use Rattle.aeth_alloc.specs.Allocation.{after_turns, last_state}
use Rattle.aeth_alloc.specs.Channels.{Design, Reserved, request_of}
use Rattle.aeth_alloc.specs.Refusals.{HasNoCandidate, IsBeforeTry, IsRefused}
use Rattle.aeth_alloc.specs.Trials.{refusal_by, refusal_in, refused_of, reserved_for, trial_after}
use Rattle.aeth_alloc.specs.Trials.{trial_for, trial_of, trials_of}
use Rattle.aeth_alloc.specs.Turns.{State, after_turn, unit_tried}
use Rattle.aeth_alloc.specs.declared.outcome.Refused.{Refused}
use Rattle.aeth_alloc.proofs.{LastStateLemmas.sound-turns, NextUnitLemmas.next-waits}
use Rattle.aeth_alloc.proofs.{PlaceLemmas.interface-passes, RefusalLemmas.refused-turns}
use Rattle.aeth_alloc.proofs.{SoundLemmas.IsSound, TryLemmas.refusal-listed}
use Rattle.aeth_alloc.proofs.{TryLemmas.refused-grows, TurnLemmas.after_turns-next}
use Rattle.aeth_alloc.proofs.{UnitTryLemmas.sound-one}

-- ---- lists

one-told : (o : Option TrialData) → map refused_of (cons_option o []) ≡ option_to_list (option_map refused_of o)
one-told None = refl
one-told (Some trial) = refl

-- ---- interfaces are of the chip

interfaces-within : (nis : ℕ) (test : ℕ → Bool)
    → All (λ (ni : NiId). ni.0 < nis) (interfaces nis test)
interfaces-within nis test = λ i d low.
    (interface-passes nis test _ (Contains-get_or (interfaces nis test) i d low)).0

from-within : (seats : SeatsData) (place : Option Place)
    → IfSome place (λ place. (place.0.0 < seats.nis) × (place.1 < seats_per_ni))
    → All (λ (ni : NiId). ni.0 < seats.nis) (interfaces_from seats place)
from-within seats None within = interfaces-within seats.nis (has_free seats.places)
from-within seats (Some place) within = λ i d low.
    let first : i ≡ 0 = omega (arith, low) in
    rw first within.0

-- The candidates for a core are.
candidates-within : (seats : SeatsData) (core : ℕ) → IsSeats seats
    → All (λ (ni : NiId). ni.0 < seats.nis) (candidates_of seats core)
candidates-within seats core are = from-within seats (seat_of seats.places core) (are.within core)

-- So are those that are crowded.
crowded-within : (seats : SeatsData) (a b : ℕ)
    → All (λ (ni : NiId). ni.0 < seats.nis) (crowded_of seats a b)
crowded-within seats a b =
    let go : (both : Bool) → All (λ (ni : NiId). ni.0 < seats.nis)
    (cond both (interfaces seats.nis (is_crowded seats.places)) []) =
    elim [
      | true ↦ interfaces-within seats.nis (is_crowded seats.places)
      | false ↦ λ i d low. absurd (omega (arith, low))
    ]
    in go (is_none (seat_of seats.places a) && is_none (seat_of seats.places b))

-- ---- the trial of a turn

-- What a trial is: the try of a refused channel beside what is reserved then, which is sound, and the
-- channel has no candidate.
pub record IsTrialFor (design : Design) (groups : GroupsData) (refused : Refused)
    (trial : TrialData) : Type 0 where
  pub connection : Connection
  pub reserved : Reserved
  pub is : trial_for design refused connection reserved ≡ trial
  pub sound : IsSound design groups reserved
  pub none : HasNoCandidate design reserved connection refused.unit refused.side

reserved-is : (design : Design) (before reserved : Reserved) (unit : GroupUnit) (side : Side)
    → IsBeforeTry design before unit side reserved
    → reserved_for design before unit side ≡ Some reserved
reserved-is design before reserved unit Fwd same = ap Some (sym same)
reserved-is design before reserved unit Back granted = granted

by-turn : (design : Design) (turn : ℕ) (state : State) (unit : Option GroupUnit) (refused : Refused)
    → refusal_by design turn state unit ≡ Some refused → refused.turn ≡ turn
by-turn design turn state None refused is = absurd (none-some refused is)
by-turn design turn state (Some unit) refused is =
    let go : (side : Option Side)
    → option_map (λ side. record { unit = unit; side = side; turn = turn }) side ≡ Some refused
    → refused.turn ≡ turn =
    elim [
      | None ↦ λ is. absurd (none-some refused is)
      | Some side ↦ λ is. ap (λ (r : Refused). r.turn) (sym (same_Some _ _ is))
    ]
    in go (unit_tried design state.reserved unit).refused is

module _ (design : Design) (chip : IsChip design.chip) (app : IsApp design.app)
    (of : IsAppOf design.chip design.app) where
  abbrev groups : GroupsData
  groups = groups_of design.app

  abbrev state : ℕ → State
  state turns = after_turns design groups turns

  -- A refusal of a turn is one of the allocation's.
  refused-is : (turns : ℕ) → turns < length (units_of groups) → (refused : Refused)
      → refusal_in design (turns + 1) (state turns) ≡ Some refused
      → IsRefused design groups refused
  refused-is turns few refused is =
      refused-turns design chip app of (turns + 1) (omega (arith, few)) refused
      (subst (λ (s : State). Contains s.refused refused) (sym (after_turns-next design groups turns))
      (Contains-slice_get _ (length (state turns).refused) refused
      (refusal-listed design (turns + 1) (state turns) ∙ is)))

  -- What was reserved when the side was tried is sound.
  sound-before : (turns : ℕ) (unit : GroupUnit)
      → next_unit (state turns).units (state turns).reserved.seats.places ≡ Some unit
      → (side : Side) (reserved : Reserved)
      → IsBeforeTry design (state turns).reserved unit side reserved
      → IsSound design groups reserved
  sound-before turns unit next Fwd reserved same =
      subst (IsSound design groups) (sym same) (sound-turns design chip app of turns).reserved
  sound-before turns unit next Back reserved granted =
      let was = state turns in
      let sound = sound-turns design chip app of turns in
      let waits = next-waits was.units was.reserved.seats.places unit next in
      let among : Contains (units_of groups) unit =
      subst (Contains (units_of groups)) waits.unit_is (sound.waiting waits.keys waits.listed) in
      sound-one design groups chip app was.reserved sound.reserved unit among
      (λ grant has same. sound.unmet grant has (record {
        keys = waits.keys;
        listed = waits.listed;
        unit_is = waits.unit_is ∙ sym same;
      })) reserved granted

  -- Each refusal of a turn has its trial.
  pub trial-told : (turns : ℕ) → turns < length (units_of groups) → (refused : Refused)
      → refusal_in design (turns + 1) (state turns) ≡ Some refused
      → (trial : TrialData) × (trial_of design (state turns).reserved refused ≡ Some trial)
      × IsTrialFor design groups refused trial
  trial-told turns few refused at =
      let is = refused-is turns few refused at in
      let turn = by-turn design (turns + 1) (state turns)
      (next_unit (state turns).units (state turns).reserved.seats.places) refused at in
      let same : is.before ≡ turns = omega (arith, turn, is.turn) in
      let before = subst (λ n. IsBeforeTry design (state n).reserved refused.unit refused.side
      is.reserved) same is.tried in
      let next = subst (λ n. next_unit (state n).units (state n).reserved.seats.places
      ≡ Some refused.unit) same is.next in (
        trial_for design refused is.connection is.reserved,
        ap (option_and_then (λ connection. option_map (trial_for design refused connection)
            (reserved_for design (state turns).reserved refused.unit refused.side))) is.is
            ∙ ap (option_map (trial_for design refused is.connection))
            (reserved-is design (state turns).reserved is.reserved refused.unit refused.side before),
        record {
          connection = is.connection;
          reserved = is.reserved;
          is = refl;
          sound = sound-before turns refused.unit next refused.side is.reserved before;
          none = is.none;
        },
      )

  -- ---- each trial

  by-refusal : (turns : ℕ) → turns < length (units_of groups) → (trial : TrialData)
      → (refusal : Option Refused) → refusal_in design (turns + 1) (state turns) ≡ refusal
      → option_and_then (trial_of design (state turns).reserved) refusal ≡ Some trial
      → (refused : Refused) × IsTrialFor design groups refused trial
  by-refusal turns few trial None at told = absurd (none-some trial told)
  by-refusal turns few trial (Some refused) at told =
      let (one, is, its) = trial-told turns few refused at in
      (refused, subst (IsTrialFor design groups refused) (same_Some _ _ (sym is ∙ told)) its)

  -- A trial of a turn is one.
  pub trial-after-is : (turns : ℕ) → turns < length (units_of groups) → (trial : TrialData)
      → trial_after design groups turns ≡ Some trial
      → (refused : Refused) × IsTrialFor design groups refused trial
  trial-after-is turns few trial told =
      by-refusal turns few trial (refusal_in design (turns + 1) (state turns)) refl told

  -- It is one on the chip.
  trial-fits : (refused : Refused) (trial : TrialData) → IsTrialFor design groups refused trial
      → IsTrialOf design.chip trial
  trial-fits refused trial is =
      let seats : SeatsData = is.reserved.seats in
      let a : ℕ = (sender is.connection refused.side).0 in
      let b : ℕ = (receiver is.connection refused.side).0 in
      let own = is.sound.of in
      subst (IsTrialOf design.chip) is.is (record {
        grants = subst (λ n. All (IsFit n (length design.chip.links)) is.reserved.book.grants)
            own.size (subst (λ (ls : List Link). All (IsFit is.reserved.book.size (length ls))
            is.reserved.book.grants) own.links is.sound.book.fit);
        from = subst (λ n. All (λ (ni : NiId). ni.0 < n) (candidates_of seats a)) own.nis
            (candidates-within seats a is.sound.seats);
        to = subst (λ n. All (λ (ni : NiId). ni.0 < n) (candidates_of seats b)) own.nis
            (candidates-within seats b is.sound.seats);
        crowded = subst (λ n. All (λ (ni : NiId). ni.0 < n) (crowded_of seats a b)) own.nis
            (crowded-within seats a b);
      })

  -- It has no candidate.
  trial-lacks : (refused : Refused) (trial : TrialData) → IsTrialFor design groups refused trial
      → (found : Found) → IsCandidate (book_of design.chip groups trial) trial.ask trial.from trial.to
      trial.crowded found → ⊥
  trial-lacks refused trial is =
      let own = is.sound.of in
      let book : is.reserved.book ≡ book_of design.chip groups
      (trial_for design refused is.connection is.reserved) =
      λ i. record {
        size = own.size i;
        links = own.links i;
        groups = is.sound.groups_are i;
        grants = is.reserved.book.grants;
      } in
      let ask = request_of design.app is.connection refused.unit refused.side in
      let a : ℕ = (sender is.connection refused.side).0 in
      let b : ℕ = (receiver is.connection refused.side).0 in
      subst (λ (t : TrialData). (found : Found) → IsCandidate (book_of design.chip groups t) t.ask
      t.from t.to t.crowded found → ⊥) is.is
      (λ found candidate. is.none found
      (subst (λ (other : BookData). IsCandidate other ask (candidates_of is.reserved.seats a)
      (candidates_of is.reserved.seats b) (crowded_of is.reserved.seats a b) found) (sym book)
      candidate))

  -- ---- all trials

  among-trials : (trial : TrialData) → Contains (trials_of design.chip design.app groups design.prices) trial
      → (refused : Refused) × IsTrialFor design groups refused trial
  unfolding trials_of
  among-trials trial has =
      let (turns, among, told) = filter_map-Contains (trial_after design groups)
      (range_with_len 0 (length (units_of groups))) trial has in
      trial-after-is turns (range-Contains (length (units_of groups)) turns among) trial told

  -- Each is one on the chip.
  pub trials-fit : All (IsTrialOf design.chip)
      (trials_of design.chip design.app groups design.prices)
  trials-fit i d low =
      let (refused, is) = among-trials _ (Contains-get_or _ i d low) in trial-fits refused _ is

  -- None has a candidate.
  pub trials-lack : (trial : TrialData)
      → Contains (trials_of design.chip design.app groups design.prices) trial
      → (found : Found) → IsCandidate (book_of design.chip groups trial) trial.ask trial.from trial.to
      trial.crowded found → ⊥
  trials-lack trial has = let (refused, is) = among-trials trial has in trial-lacks refused trial is

  tells-by : (turns : ℕ) → turns < length (units_of groups) → (refusal : Option Refused)
      → refusal_in design (turns + 1) (state turns) ≡ refusal
      → option_map refused_of (option_and_then (trial_of design (state turns).reserved) refusal)
      ≡ refusal
  tells-by turns few None at = refl
  tells-by turns few (Some refused) at =
      let (trial, is, its) = trial-told turns few refused at in
      ap (option_map refused_of) is ∙ ap (λ t. Some (refused_of t)) (sym its.is)

  -- The trial of a turn tells of its refusal.
  tells : (turns : ℕ) → turns < length (units_of groups)
      → option_map refused_of (trial_after design groups turns)
      ≡ refusal_in design (turns + 1) (state turns)
  tells turns few = tells-by turns few (refusal_in design (turns + 1) (state turns)) refl

  told-first : (n : ℕ) → n ≤ length (units_of groups)
      → map refused_of (filter_map (trial_after design groups) (range_with_len 0 n))
      ≡ (state n).refused
  unfolding after_turns
  told-first zero few = refl
  told-first (suc n) few =
      let next : n + 1 ≡ suc n = omega arith in
      ap (λ ns. map refused_of (filter_map (trial_after design groups) ns))
      (range_with_len-more 0 n n (omega arith))
      ∙ ap (map refused_of) (filter_map-append (trial_after design groups) (range_with_len 0 n) (n ∷ []))
      ∙ map-append refused_of (filter_map (trial_after design groups) (range_with_len 0 n))
      (filter_map (trial_after design groups) (n ∷ []))
      ∙ ap (λ rs. rs ++ map refused_of (filter_map (trial_after design groups) (n ∷ [])))
      (told-first n (omega (arith, few)))
      ∙ ap (λ rs. (state n).refused ++ rs) (one-told (trial_after design groups n)
      ∙ ap option_to_list (tells n (omega (arith, few))))
      ∙ sym (refused-grows design (n + 1) (state n))
      ∙ ap (λ turn. (after_turn design turn (state n)).refused) next

  -- They tell of the refusals, one by one.
  pub trials-tell : map refused_of (trials_of design.chip design.app groups design.prices)
      ≡ (last_state design groups).refused
  unfolding trials_of
  trials-tell = told-first (length (units_of groups)) (omega arith)

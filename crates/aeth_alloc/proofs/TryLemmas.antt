-- Tries of refusals: that of a `back` channel beside the `fwd` channel of its unit, and what a refusal
-- leaves.
use Rattle.std.proofs.Common.{◌≡◌, ◌∙◌, ◌<◌, ◌++◌, ℕ, List, [], ◌∷◌, Option, None, Some, length}
use Rattle.std.proofs.Common.{take, refl, sym, ap, subst, Err, IfOk, Ok, Result, option_and_then}
use Rattle.std.proofs.Common.{option_map, option_to_list, slice_get, append-nil}
use Rattle.std.proofs.Math.Seq.{take-length}
use Rattle.std.proofs.lemmas.Option.{none-some, same_Some}
use Rattle.aeth_base.specs.declared.ids.Side.{Side, TheVariants.Back, TheVariants.Fwd}
use Rattle.aeth_base.specs.declared.ids.Unit.{Unit as GroupUnit}
use Rattle.aeth_app.specs.{App.IsConnection, declared.connection.Connection.Connection}
use Rattle.aeth_order.specs.Units.{next_unit}
use Rattle.aeth_seats.specs.Seats.{IsSeats}
use Rattle.aeth_paths.specs.{declared.request.Found.Found, Trials.TrialData}
use Rattle.aeth_alloc.specs.Channels.{Design, Reserved, grant_of, request_of, tried, with_found}
use Rattle.aeth_alloc.specs.Holds.{IsCandidateFor, IsReservedOf}
use Rattle.aeth_alloc.specs.Trials.{refusal_by, refusal_in, trial_for, trial_in, trial_of}
use Rattle.aeth_alloc.specs.Tries.{TryData, trial_over}
use Rattle.aeth_alloc.specs.Turns.{State, after_turn, after_turn_of, refusals_of, unit_tried}
use Rattle.aeth_alloc.specs.declared.outcome.Refused.{Refused}
use Rattle.aeth_alloc.proofs.RefusalLemmas.{kept-fwd}
use Rattle.aeth_alloc.proofs.SeatedLemmas.{AreSeated, both-seated}
use Rattle.aeth_alloc.proofs.TrialLists.{candidates-seated, crowded-seated}

-- ---- the `back` channel beside its `fwd` channel

-- The try of a unit's `back` channel where its `fwd` channel is granted what was found for it.
abbrev pub back_try : Design → Reserved → Connection → Refused → Found → TryData
back_try design before connection refused found = record {
  ask = request_of design.app connection refused.unit Back;
  turn = refused.turn;
  before = length before.book.grants;
  fwd = Some (grant_of refused.unit Fwd found);
  from = found.to ∷ [];
  to = found.from ∷ [];
  crowded = [];
}

module _ (design : Design) (before : Reserved) (are : IsSeats before.seats)
    (of : IsReservedOf design before) (connection : Connection)
    (joined : IsConnection (length design.app.cores) connection) (refused : Refused)
    (side : refused.side ≡ Back) (found : Found)
    (candidate : IsCandidateFor design before connection refused.unit Fwd found) where
  abbrev both : Reserved
  both = with_found before connection refused.unit Fwd found

  -- The cores sit where the path begins and ends.
  sit : AreSeated before.seats both.seats connection.from.0 connection.to.0 found.from found.to
  sit = both-seated before.seats connection.from.0 connection.to.0 found.from found.to are
      (λ same. joined.apart (sym same))
      (subst (λ n. connection.from.0 < n) (sym of.cores) joined.from)
      (subst (λ n. connection.to.0 < n) (sym of.cores) joined.to) candidate.allowed

  -- It is the try beside what is reserved then.
  pub back-try-is : trial_over before.book.grants (back_try design before connection refused found)
      ≡ trial_for design refused connection both
  back-try-is =
      let grants : take (length before.book.grants) before.book.grants
      ++ grant_of refused.unit Fwd found ∷ [] ≡ both.book.grants =
      ap (λ gs. gs ++ grant_of refused.unit Fwd found ∷ []) (take-length before.book.grants) in
      let from = candidates-seated both.seats connection.to.0 found.to sit.receives in
      let to = candidates-seated both.seats connection.from.0 found.from sit.sends in
      let none = crowded-seated both.seats connection.to.0 connection.from.0 found.to sit.receives in
      subst (λ (s : Side). trial_over before.book.grants
      (back_try design before connection refused found)
      ≡ trial_for design (record { unit = refused.unit; side = s; turn = refused.turn }) connection
      both) (sym side)
      (λ i. record {
        ask = request_of design.app connection refused.unit Back;
        turn = refused.turn;
        grants = grants i;
        from = sym from i;
        to = sym to i;
        crowded = sym none i;
      })

-- ---- what a refusal leaves

-- What comes of a unit that is refused leaves what was reserved.
kept-unit : (design : Design) (before : Reserved) (unit : GroupUnit) (side : Side)
    → (unit_tried design before unit).refused ≡ Some side
    → (unit_tried design before unit).reserved ≡ before
kept-unit design before unit side = kept-fwd design before unit (tried design before unit Fwd) side

-- What is told of a turn in which a unit is refused.
pub record IsRefusal (design : Design) (turn : ℕ) (state new : State) (refused : Refused)
    : Type 0 where
  pub kept : new.reserved ≡ state.reserved
  pub next : next_unit state.units state.reserved.seats.places ≡ Some refused.unit

module _ (design : Design) (turn : ℕ) (state : State) where
  by-side : (unit : GroupUnit) (refused : Refused) (side : Option Side)
      → (unit_tried design state.reserved unit).refused ≡ side
      → option_map (λ side. record { unit = unit; side = side; turn = turn }) side ≡ Some refused
      → ((unit_tried design state.reserved unit).reserved ≡ state.reserved)
      × (unit ≡ refused.unit)
  by-side unit refused None at is = absurd (none-some refused is)
  by-side unit refused (Some side) at is = (
    kept-unit design state.reserved unit side at,
    ap (λ (r : Refused). r.unit) (same_Some _ _ is),
  )

  by-next : (unit : Option GroupUnit) (refused : Refused)
      → next_unit state.units state.reserved.seats.places ≡ unit
      → refusal_by design turn state unit ≡ Some refused
      → IsRefusal design turn state (after_turn_of design turn state unit) refused
  by-next None refused next is = absurd (none-some refused is)
  by-next (Some unit) refused next is =
      let its = by-side unit refused (unit_tried design state.reserved unit).refused refl is in
      record { kept = its.0; next = next ∙ ap Some its.1 }

  -- It is so of each refusal.
  pub refusal-is : (refused : Refused) → refusal_in design turn state ≡ Some refused
      → IsRefusal design turn state (after_turn design turn state) refused
  unfolding after_turn
  refusal-is refused is =
      by-next (next_unit state.units state.reserved.seats.places) refused refl is

  -- A turn puts its refusal, if there is one, behind those before it.
  refusals-by : (unit : GroupUnit) (side : Option Side) → refusals_of unit turn side
      ≡ option_to_list (option_map (λ side. record { unit = unit; side = side; turn = turn }) side)
  refusals-by unit None = refl
  refusals-by unit (Some side) = refl

  refused-by : (unit : Option GroupUnit) → (after_turn_of design turn state unit).refused
      ≡ state.refused ++ option_to_list (refusal_by design turn state unit)
  refused-by None = sym (append-nil state.refused)
  refused-by (Some unit) =
      ap (λ rs. state.refused ++ rs) (refusals-by unit (unit_tried design state.reserved unit).refused)

  pub refused-grows : (after_turn design turn state).refused
      ≡ state.refused ++ option_to_list (refusal_in design turn state)
  unfolding after_turn
  refused-grows = refused-by (next_unit state.units state.reserved.seats.places)

  behind : {X : Type 0} (xs : List X) (o : Option X)
      → slice_get (xs ++ option_to_list o) (length xs) ≡ o
  behind [] None = refl
  behind [] (Some x) = refl
  behind (x ∷ xs) o = behind xs o

  -- So it is found at the place that was past the last.
  pub refusal-listed : slice_get (after_turn design turn state).refused (length state.refused)
      ≡ refusal_in design turn state
  refusal-listed =
      ap (λ rs. slice_get rs (length state.refused)) refused-grows
      ∙ behind state.refused (refusal_in design turn state)

  -- The try that is made of a refusal after its turn is that of the turn.
  pub noted-some : {E : Type 0} (new : State) (refused : Refused) (answer : Result (Option TryData) E)
      → new ≡ after_turn design turn state → refusal_in design turn state ≡ Some refused
      → IfOk answer (λ one. option_map (trial_over new.reserved.book.grants) one
      ≡ trial_of design new.reserved refused)
      → IfOk answer (λ one. option_map (trial_over new.reserved.book.grants) one
      ≡ trial_in design turn state)
  noted-some new refused answer after at told =
      let kept : new.reserved ≡ state.reserved =
      ap (λ (s : State). s.reserved) after ∙ (refusal-is refused at).kept in
      subst (λ (o : Option TrialData). IfOk answer (λ one.
      option_map (trial_over new.reserved.book.grants) one ≡ o))
      (ap (λ (r : Reserved). trial_of design r refused) kept
      ∙ sym (ap (option_and_then (trial_of design state.reserved)) at)) told

-- What holds of an answer holds of it with what follows from that.
pub if-ok : {T E : Type 0} {P Q : T → Type 0} (answer : Result T E) → ((x : T) → P x → Q x)
    → IfOk answer P → IfOk answer Q
if-ok (Ok x) follows holds = follows x holds
if-ok (Err e) follows holds = tt

-- Laws of the channels that a phase passes over, since they have nothing to do in it.
use Rattle.std.proofs.Common.{ℕ, zero, suc, ◌≡◌, ◌≤◌, ◌+◌, ◌-◌, ◌∙◌, refl, sym, ap, arith, List, []}
use Rattle.std.proofs.Common.{◌∷◌, fold, length, length-set, map, set, Option, Some, None}
use Rattle.std.proofs.Common.{slice_get}
use Rattle.std.proofs.lemmas.{List.set-get_or, List.Sums.fold_push, Option.get_or_from_slice_get}
use Rattle.std.specs.List.{All, range_with_len}
use Rattle.aeth_base.proofs.Ranges.{range_with_len-more}
use Rattle.aeth_router.specs.declared.part.Part.{Part}
use Rattle.aeth_components.specs.{declared.channel_state.ChannelState.ChannelState}
use Rattle.aeth_components.specs.{Channels.AreStill, Wirings.wiring_of}
use Rattle.aeth_components.specs.{ChannelStates.IsChannelState, Phases.Moment, Phases.in_turn}
use Rattle.aeth_components.specs.{Phases.turned, Phases.turned_at, Phases.turned_by}
use Rattle.aeth_components.proofs.TurnLemmas.{All-turns, wirings-turns}

-- What stands at a place already is written there.
pub set-there : (channel_states : List ChannelState) (number : ℕ) (channel_state : ChannelState)
    → slice_get channel_states number ≡ Some channel_state
    → set channel_states number channel_state ≡ channel_states
set-there channel_states number channel_state at =
    ap (set channel_states number)
    (sym (get_or_from_slice_get channel_states number channel_state channel_state at))
    ∙ set-get_or channel_states number channel_state

module _ (turn : List Part → ChannelState → List Part × ChannelState) where
  -- One more channel has had its turn.
  turned-more : (before now new : Moment) (number : ℕ)
      → now ≡ fold (turned turn) before (range_with_len 0 number)
      → new ≡ turned turn now number
      → new ≡ fold (turned turn) before (range_with_len 0 (number + 1))
  turned-more before now new number so_far did =
      let next : suc number ≡ number + 1 = omega arith in
      did ∙ ap (λ (moment : Moment). turned turn moment number) so_far
      ∙ sym (fold_push (turned turn) before (range_with_len 0 number) number)
      ∙ ap (fold (turned turn) before) (sym (range_with_len-more 0 number number (omega arith)))
      ∙ ap (λ n. fold (turned turn) before (range_with_len 0 n)) next

  -- A channel that is there has its turn.
  pub turned-there : (moment : Moment) (number : ℕ) (channel_state : ChannelState)
      (done : List Part × ChannelState)
      → slice_get moment.channel_states number ≡ Some channel_state
      → done ≡ turn moment.parts channel_state
      → turned_by moment number done ≡ turned turn moment number
  turned-there moment number channel_state done at did =
      ap (turned_by moment number) did ∙ sym (ap (turned_at turn moment number) at)

  -- Turns keep the number of channels.
  length-turned_at : (moment : Moment) (number : ℕ) (found : Option ChannelState)
      → length (turned_at turn moment number found).channel_states ≡ length moment.channel_states
  length-turned_at moment number None = refl
  length-turned_at moment number (Some channel_state) =
      length-set moment.channel_states number (turn moment.parts channel_state).1

  pub length-turns : (numbers : List ℕ) (moment : Moment)
      → length (fold (turned turn) moment numbers).channel_states ≡ length moment.channel_states
  length-turns [] moment = refl
  length-turns (number ∷ numbers) moment =
      length-turns numbers (turned turn moment number)
      ∙ length-turned_at moment number (slice_get moment.channel_states number)

  -- A channel with nothing to do is left alone.
  turned-still : (moment : Moment) (number : ℕ) (found : Option ChannelState)
      → slice_get moment.channel_states number ≡ found
      → ((channel_state : ChannelState) → found ≡ Some channel_state
      → turn moment.parts channel_state ≡ (moment.parts, channel_state))
      → turned turn moment number ≡ moment
  turned-still moment number None at none = ap (turned_at turn moment number) at
  turned-still moment number (Some channel_state) at none =
      ap (turned_at turn moment number) at ∙ ap (turned_by moment number) (none channel_state refl)
      ∙ ap (λ (channel_states : List ChannelState).
      record { parts = moment.parts; channel_states = channel_states })
      (set-there moment.channel_states number channel_state at)

  turns-skipped : (before now : Moment) (number gap : ℕ)
      → now ≡ fold (turned turn) before (range_with_len 0 number)
      → AreStill (λ channel_state. turn now.parts channel_state ≡ (now.parts, channel_state))
      now.channel_states number (number + gap)
      → now ≡ fold (turned turn) before (range_with_len 0 (number + gap))
  turns-skipped before now number zero so_far none =
      let same : number ≡ number + 0 = omega arith in
      so_far ∙ ap (λ n. fold (turned turn) before (range_with_len 0 n)) same
  turns-skipped before now number (suc gap) so_far none =
      let place = number + gap in
      let next : place + 1 ≡ number + suc gap = omega arith in
      let less = turns-skipped before now number gap so_far
      (λ other channel_state from below. none other channel_state from (omega arith)) in
      turned-more before now now place less
      (sym (turned-still now place (slice_get now.channel_states place) refl
      (λ channel_state. none place channel_state (omega arith) (omega arith))))
      ∙ ap (λ n. fold (turned turn) before (range_with_len 0 n)) next

  -- So turns up to the next channel with something to do change nothing.
  turns-until : (before now : Moment) (number next : ℕ) → number ≤ next
      → now ≡ fold (turned turn) before (range_with_len 0 number)
      → AreStill (λ channel_state. turn now.parts channel_state ≡ (now.parts, channel_state))
      now.channel_states number next
      → now ≡ fold (turned turn) before (range_with_len 0 next)
  turns-until before now number next order so_far none =
      let there : number + (next - number) ≡ next = omega arith in
      turns-skipped before now number (next - number) so_far
      (λ other channel_state from below. none other channel_state from (omega arith))
      ∙ ap (λ n. fold (turned turn) before (range_with_len 0 n)) there

-- The channels below a number have had their turns.
pub record HaveTurned (turn : List Part → ChannelState → List Part × ChannelState)
    (before now : Moment) (number : ℕ)
    : Type 0 where
  pub are : now ≡ fold (turned turn) before (range_with_len 0 number)
  pub within : number ≤ length now.channel_states

-- Those before the first with something to do are left alone.
pub HaveTurned-first : {turn : List Part → ChannelState
    → List Part × ChannelState} {before : Moment} {next : ℕ}
    → next ≤ length before.channel_states
    → AreStill (λ channel_state. turn before.parts channel_state ≡ (before.parts, channel_state))
    before.channel_states 0 next
    → HaveTurned turn before before next
HaveTurned-first {turn} {before} {next} within still = record {
  are = turns-until turn before before 0 next (omega arith) refl still;
  within = within;
}

module _ {turn : List Part → ChannelState
    → List Part × ChannelState} {before now : Moment} {number : ℕ}
    (had : HaveTurned turn before now number) where
  -- One more has its turn, and those up to the next with something to do are left alone.
  pub HaveTurned-next : {new : Moment} {next : ℕ} → new ≡ turned turn now number → number + 1 ≤ next
      → next ≤ length new.channel_states
      → AreStill (λ channel_state. turn new.parts channel_state ≡ (new.parts, channel_state))
      new.channel_states (number + 1) next
      → HaveTurned turn before new next
  HaveTurned-next {new} {next} did order within still = record {
    are = turns-until turn before new (number + 1) next order
        (turned-more turn before now new number had.are did) still;
    within = within;
  }

  -- Channels stay sound where each turn keeps its own so.
  pub HaveTurned-sound : {words count : ℕ}
      → ((parts : List Part) (channel_state : ChannelState)
      → IsChannelState words count channel_state
      → IsChannelState words count (turn parts channel_state).1)
      → All (IsChannelState words count) before.channel_states
      → All (IsChannelState words count) now.channel_states
  HaveTurned-sound {words} {count} kept sound =
      rw had.are (All-turns turn (IsChannelState words count) kept (range_with_len 0 number) before
      sound)

  -- The wirings stay where each turn keeps them.
  pub HaveTurned-wirings : ((parts : List Part) (channel_state : ChannelState)
      → map wiring_of (turn parts channel_state).0 ≡ map wiring_of parts)
      → map wiring_of now.parts ≡ map wiring_of before.parts
  HaveTurned-wirings kept =
      ap (λ (moment : Moment). map wiring_of moment.parts) had.are
      ∙ wirings-turns turn kept (range_with_len 0 number) before

  -- Behind the last channel all have had their turns.
  pub HaveTurned-all : length now.channel_states ≤ number → now ≡ in_turn turn before
  HaveTurned-all over =
      let size = ap (λ (moment : Moment). length moment.channel_states) had.are
      ∙ length-turns turn (range_with_len 0 number) before in
      let last : number ≡ length before.channel_states = omega (arith, size, over, had.within) in
      had.are ∙ ap (λ n. fold (turned turn) before (range_with_len 0 n)) last

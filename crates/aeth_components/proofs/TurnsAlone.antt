-- Where no two active channel states share a queue, what each does in its turn it does alone: to
-- its own queue as it was before all turns, whatever the others do.
use Rattle.std.proofs.Common.{ℕ, zero, suc, ◌≡◌, ◌≢◌, ◌<◌, ◌≤◌, ◌+◌, refl, sym, ◌∙◌, ap, subst}
use Rattle.std.proofs.Common.{arith, inl, inr, Bool, true, false, map, fold, List, [], ◌∷◌, Option}
use Rattle.std.proofs.Common.{Some, None, slice_get, ◌⊎◌}
use Rattle.std.proofs.lemmas.Bool.{cases_Bool, cases_eq}
use Rattle.std.proofs.lemmas.Option.{same_Some, slice_get_within}
use Rattle.std.specs.List.{range_with_len, slice_set}
use Rattle.aeth_base.proofs.Lists.{slice_get-slice_set_same, slice_get-slice_set_other}
use Rattle.aeth_router.specs.declared.part.Part.{Part}
use Rattle.aeth_components.specs.{declared.channel_state.ChannelEnd.ChannelEnd}
use Rattle.aeth_components.specs.{declared.channel_state.ChannelState.ChannelState, Alone.Acts}
use Rattle.aeth_components.specs.{Alone.Done, Alone.IsAlone, Alone.IsAt, Alone.Stays}
use Rattle.aeth_components.specs.{Changes.at_end, Changes.told_at, Wirings.Wiring}
use Rattle.aeth_components.specs.{Wirings.wiring_of, Phases.Moment, Phases.turned, Phases.turned_at}
use Rattle.aeth_components.specs.{Phases.turned_by, View.HasQueue, View.queue_of}
use Rattle.aeth_components.proofs.AloneLemmas.{queue_of-at_end_other, queue_of-at_end_same}
use Rattle.aeth_components.proofs.AloneLemmas.{told_at-queue_of}
use Rattle.aeth_ni.specs.Queue.{QueueState}

module _ {turn : List Part → ChannelState → List Part × ChannelState} {active : ChannelState → Bool}
    {end_of : ChannelState → ChannelEnd} {change : ChannelState → QueueState → QueueState}
    {tells : ChannelState → QueueState → ℕ} {counted : ChannelState → ℕ → ChannelState}
    (so : Acts turn active end_of change tells counted) where
  -- A channel state keeps its end, and stays active or not.
  active-turn : (parts : List Part) (channel_state : ChannelState)
      → active (turn parts channel_state).1 ≡ active channel_state
  active-turn parts channel_state =
      elim (cases_Bool (active channel_state)) [
        | inl is ↦ ap (λ (done : List Part × ChannelState). active done.1)
            (so.acts parts channel_state is)
            ∙ so.keeps_active channel_state _
        | inr not ↦ ap (λ (done : List Part × ChannelState). active done.1)
            (so.rests parts channel_state not)
      ]

  end_of-turn : (parts : List Part) (channel_state : ChannelState)
      → end_of (turn parts channel_state).1 ≡ end_of channel_state
  end_of-turn parts channel_state =
      elim (cases_Bool (active channel_state)) [
        | inl is ↦ ap (λ (done : List Part × ChannelState). end_of done.1)
            (so.acts parts channel_state is)
            ∙ so.keeps_end channel_state _
        | inr not ↦ ap (λ (done : List Part × ChannelState). end_of done.1)
            (so.rests parts channel_state not)
      ]

  -- No turn changes whose a queue is.
  IsAlone-turned_at : (moment : Moment) (number own ni queue : ℕ) (found : Option ChannelState)
      → slice_get moment.channel_states number ≡ found
      → IsAlone active end_of moment.channel_states own ni queue
      → IsAlone active end_of (turned_at turn moment number found).channel_states own ni queue
  IsAlone-turned_at moment number own ni queue None at alone i other there is uses =
      alone i other there is uses
  IsAlone-turned_at moment number own ni queue (Some channel_state) at alone i other there is uses =
      let done = (turn moment.parts channel_state).1 in
      elim (cases_eq i number) [
        | inl same ↦
            let within = slice_get_within moment.channel_states number channel_state at in
            let now : slice_get (slice_set moment.channel_states number done) i ≡ Some done =
            rw same (slice_get-slice_set_same moment.channel_states number done within) in
            let is_done : done ≡ other = same_Some done other (sym now ∙ there) in
            let was : active channel_state ≡ true =
            sym (active-turn moment.parts channel_state) ∙ ap active is_done ∙ is in
            let end_was : end_of other ≡ end_of channel_state =
            ap end_of (sym is_done) ∙ end_of-turn moment.parts channel_state in
            same ∙ alone number channel_state at was
            (subst (λ (end : ChannelEnd). IsAt ni queue end) end_was uses)
        | inr apart ↦
            alone i other
            (sym (slice_get-slice_set_other moment.channel_states number i done apart) ∙ there) is
            uses
      ]

  -- Another channel state's turn changes neither.
  Stays-turned_at : (moment : Moment) (number own ni queue : ℕ) (found : Option ChannelState)
      → slice_get moment.channel_states number ≡ found → own ≢ number
      → IsAlone active end_of moment.channel_states own ni queue
      → Stays moment (turned_at turn moment number found) own ni queue
  Stays-turned_at moment number own ni queue None at apart alone =
      record { queue_is = refl; channel_state = refl }
  Stays-turned_at moment number own ni queue (Some channel_state) at apart alone = record {
    queue_is = elim (cases_Bool (active channel_state)) [
      | inl is ↦
          ap (λ (done : List Part × ChannelState). queue_of done.0 ni queue)
          (so.acts moment.parts channel_state is)
          ∙ queue_of-at_end_other moment.parts (end_of channel_state) (change channel_state) ni
          queue
          (λ uses. apart (sym (alone number channel_state at is uses)))
      | inr not ↦
          ap (λ (done : List Part × ChannelState). queue_of done.0 ni queue)
          (so.rests moment.parts channel_state not)
    ];
    channel_state =
        slice_get-slice_set_other moment.channel_states number own
        (turn moment.parts channel_state).1
        apart;
  }

  -- Nor do those of many others.
  pub Stays-turns : (size start : ℕ) (moment : Moment) (own ni queue : ℕ)
      → ((own < start) ⊎ (start + size ≤ own))
      → IsAlone active end_of moment.channel_states own ni queue
      → Stays moment (fold (turned turn) moment (range_with_len start size)) own ni queue
  Stays-turns zero start moment own ni queue outside alone =
      record { queue_is = refl; channel_state = refl }
  Stays-turns (suc size) start moment own ni queue outside alone =
      let found = slice_get moment.channel_states start in
      let later : (own < start + 1) ⊎ (start + 1 + size ≤ own) =
      elim outside [
        | inl before ↦ inl (omega arith)
        | inr behind ↦ inr (omega arith)
      ] in
      let apart : own ≢ start =
      elim outside [
        | inl before ↦ λ same. omega arith
        | inr behind ↦ λ same. omega arith
      ] in
      let first = Stays-turned_at moment start own ni queue found refl apart alone in
      let rest = Stays-turns size (start + 1) (turned turn moment start) own ni queue later
      (IsAlone-turned_at moment start own ni queue found refl alone) in
      record {
        queue_is = rest.queue_is ∙ first.queue_is;
        channel_state = rest.channel_state ∙ first.channel_state;
      }

  Done-turned : (moment : Moment) (own : ℕ) (channel_state : ChannelState)
      → slice_get moment.channel_states own ≡ Some channel_state → active channel_state ≡ true
      → HasQueue (map wiring_of moment.parts) (end_of channel_state)
      → Done end_of change tells counted moment (turned turn moment own) own channel_state
  Done-turned moment own channel_state at is has =
      let within = slice_get_within moment.channel_states own channel_state at in
      let acts : turned turn moment own
      ≡ turned_by moment own (
        at_end (end_of channel_state) (change channel_state) moment.parts,
        counted channel_state (told_at (end_of channel_state) (tells channel_state) moment.parts),
      ) =
      ap (turned_at turn moment own) at
      ∙ ap (turned_by moment own) (so.acts moment.parts channel_state is) in
      record {
        queue_is = ap (λ (new : Moment).
            queue_of new.parts (end_of channel_state).ni.0 (end_of channel_state).queue) acts
            ∙ queue_of-at_end_same moment.parts (end_of channel_state) (change channel_state) has;
        counted_is = ap (λ (new : Moment). slice_get new.channel_states own) acts
            ∙ slice_get-slice_set_same moment.channel_states own _ within
            ∙ ap (λ n. Some (counted channel_state n))
            (told_at-queue_of moment.parts (end_of channel_state) (tells channel_state) has);
      }

  wirings-turned_at : (moment : Moment) (number : ℕ) (found : Option ChannelState)
      → map wiring_of (turned_at turn moment number found).parts ≡ map wiring_of moment.parts
  wirings-turned_at moment number None = refl
  wirings-turned_at moment number (Some channel_state) = so.keeps_wirings moment.parts channel_state

  -- Among many turns it is as it would be alone.
  pub Done-turns : (size start : ℕ) (moment : Moment) (own : ℕ) (channel_state : ChannelState)
      → start ≤ own → own < start + size
      → slice_get moment.channel_states own ≡ Some channel_state → active channel_state ≡ true
      → HasQueue (map wiring_of moment.parts) (end_of channel_state)
      → IsAlone active end_of moment.channel_states own (end_of channel_state).ni.0
      (end_of channel_state).queue
      → Done end_of change tells counted moment
      (fold (turned turn) moment (range_with_len start size)) own channel_state
  Done-turns zero start moment own channel_state from to at is has alone = absurd (omega arith)
  Done-turns (suc size) start moment own channel_state from to at is has alone =
      let ni = (end_of channel_state).ni.0 in
      let queue = (end_of channel_state).queue in
      let found = slice_get moment.channel_states start in
      let still = IsAlone-turned_at moment start own ni queue found refl alone in
      elim (cases_eq own start) [
        | inl same ↦
            let done : Done end_of change tells counted moment (turned turn moment start) own
            channel_state =
            subst (λ n. Done end_of change tells counted moment (turned turn moment n) own
            channel_state) same
            (Done-turned moment own channel_state at is has) in
            let rest = Stays-turns size (start + 1) (turned turn moment start) own ni queue
            (inl (omega arith)) still in
            record {
              queue_is = rest.queue_is ∙ done.queue_is;
              counted_is = rest.channel_state ∙ done.counted_is;
            }
        | inr apart ↦
            let first = Stays-turned_at moment start own ni queue found refl apart alone in
            let has_still =
            subst (λ (wirings : List Wiring). HasQueue wirings (end_of channel_state))
            (sym (wirings-turned_at moment start found)) has in
            let done = Done-turns size (start + 1) (turned turn moment start) own channel_state
            (omega arith) (omega arith) (first.channel_state ∙ at) is has_still still in
            record {
              queue_is = done.queue_is ∙ ap (change channel_state) first.queue_is;
              counted_is = done.counted_is
                  ∙ ap (λ (queue : QueueState). Some
                  (counted channel_state (tells channel_state queue)))
                  first.queue_is;
            }
      ]

  -- A channel state that isn't active stays.
  kept-turned_at : (moment : Moment) (number own : ℕ) (channel_state : ChannelState)
      (found : Option ChannelState)
      → slice_get moment.channel_states number ≡ found
      → slice_get moment.channel_states own ≡ Some channel_state
      → active channel_state ≡ false
      → slice_get (turned_at turn moment number found).channel_states own ≡ Some channel_state
  kept-turned_at moment number own channel_state None at there not = there
  kept-turned_at moment number own channel_state (Some found) at there not =
      let within = slice_get_within moment.channel_states number found at in
      elim (cases_eq own number) [
        | inl same ↦
            let is : found ≡ channel_state =
            same_Some found channel_state
            (sym at ∙ ap (slice_get moment.channel_states) (sym same) ∙ there) in
            let rests : (turn moment.parts found).1 ≡ channel_state =
            ap (λ (channel_state : ChannelState). (turn moment.parts channel_state).1) is
            ∙ ap (λ (done : List Part × ChannelState). done.1)
            (so.rests moment.parts channel_state not) in
            ap (slice_get (slice_set moment.channel_states number (turn moment.parts found).1)) same
            ∙ slice_get-slice_set_same moment.channel_states number (turn moment.parts found).1
            within
            ∙ ap (λ (channel_state : ChannelState). Some channel_state) rests
        | inr apart ↦
            slice_get-slice_set_other moment.channel_states number own (turn moment.parts found).1
            apart
            ∙ there
      ]

  pub kept-turns : (numbers : List ℕ) (moment : Moment) (own : ℕ) (channel_state : ChannelState)
      → slice_get moment.channel_states own ≡ Some channel_state → active channel_state ≡ false
      → slice_get (fold (turned turn) moment numbers).channel_states own ≡ Some channel_state
  kept-turns [] moment own channel_state there not = there
  kept-turns (number ∷ numbers) moment own channel_state there not =
      kept-turns numbers (turned turn moment number) own channel_state
      (kept-turned_at moment number own channel_state (slice_get moment.channel_states number) refl
      there not)
      not

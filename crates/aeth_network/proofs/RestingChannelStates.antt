-- Channels in a stretch of cycles that leave their network: only how their receivers take changes.
use Rattle.std.proofs.Common.{◌≡◌, ◌≤◌, ◌<◌, ◌+◌, ◌-◌, ◌==◌, ◌∙◌, ℕ, zero, suc, List, [], ◌∷◌, Some}
use Rattle.std.proofs.Common.{ap, arith, fold, get_or, inl, inr, min, slice_get, sym, true, All}
use Rattle.std.proofs.Common.{slice_range, eq-eqb, eqb-true}
use Rattle.std.proofs.lemmas.Bool.{cases_Bool, cases_lt}
use Rattle.std.proofs.lemmas.List.Elements.{All-head, All-tail}
use Rattle.std.proofs.lemmas.Option.{same_Some, slice_get-get_or, slice_get_within}
use Rattle.std.specs.List.Sorted.{IsNonDecreasingBy}
use Rattle.aeth_components.proofs.ChannelStateLemmas.{each-with_channel_state}
use Rattle.aeth_components.proofs.ChannelStateLemmas.{with_channel_state-other}
use Rattle.aeth_components.proofs.ChannelStateLemmas.{with_channel_state-own}
use Rattle.aeth_components.specs.{ChannelStates.is_open, Phases.asked_of}
use Rattle.aeth_components.specs.{declared.channel_state.ChannelState.ChannelState}
use Rattle.aeth_trace.specs.Channels.{channel_number}
use Rattle.aeth_schedule.specs.declared.session_start.SessionStart.{SessionStart}
use Rattle.aeth_stimuli.specs.Stimuli.{Take}
use Rattle.aeth_running.specs.Network.{NetworkState, accepted_with, gone_with, session_starts_in}
use Rattle.aeth_running.specs.Network.{offers_in, takes_in, taking_with, untils_in}
use Rattle.aeth_running.specs.Quiet.{ready_channel_states}
use Rattle.aeth_network.specs.{Behind.passed, Next.HasAsker, Next.pull_behind}
use Rattle.aeth_network.proofs.{Firsts.fold-slices, ChannelStateCounts.length-taking}
use Rattle.aeth_network.proofs.{Passed.passed-more, Passed.passed-range}

-- A row changes how the receiver of its channel takes, and of no other.
taking-own : (row : Take) (channel_states : List ChannelState) (k : ℕ)
    (channel_state : ChannelState)
    → slice_get channel_states k ≡ Some channel_state
    → slice_get (taking_with channel_states row) k
    ≡ Some (record channel_state { pull = pull_behind k channel_state.pull (row ∷ []) })
taking-own row channel_states k channel_state at = elim (cases_Bool (row.number == k)) [
  | inl same ↦
      let is = eqb-true row.number k same in
      let change = λ (one : ChannelState). record one { pull = row.pull } in
      rw same
      (ap (slice_get (taking_with channel_states row)) (sym is)
      ∙ with_channel_state-own row.number change channel_states channel_state
      (ap (slice_get channel_states) is ∙ at))
  | inr other ↦
      let change = λ (one : ChannelState). record one { pull = row.pull } in
      rw other
      (with_channel_state-other row.number k change channel_states
      (λ is. let same = eq-eqb row.number k is in cc (sym same ∙ other)) ∙ at)
]

-- So do all of some rows.
pub takes-own : (rows : List Take) (channel_states : List ChannelState) (k : ℕ)
    (channel_state : ChannelState)
    → slice_get channel_states k ≡ Some channel_state
    → slice_get (fold taking_with channel_states rows) k
    ≡ Some (record channel_state { pull = pull_behind k channel_state.pull rows })
takes-own [] channel_states k channel_state at = at
takes-own (row ∷ rows) channel_states k channel_state at =
    takes-own rows (taking_with channel_states row) k
    (record channel_state { pull = pull_behind k channel_state.pull (row ∷ []) })
    (taking-own row channel_states k channel_state at)

-- A channel behind rows, as it was before them.
record IsBehindRows (rows : List Take) (channel_states : List ChannelState) (k : ℕ)
    (channel_state : ChannelState) : Type 0 where
  was : ChannelState
  at : slice_get channel_states k ≡ Some was
  is : channel_state ≡ record was { pull = pull_behind k was.pull rows }

takes-found : (rows : List Take) (channel_states : List ChannelState) (k : ℕ)
    (channel_state : ChannelState)
    → slice_get (fold taking_with channel_states rows) k ≡ Some channel_state
    → IsBehindRows rows channel_states k channel_state
takes-found rows channel_states k channel_state at =
    let size = length-taking rows channel_states in
    let within = slice_get_within (fold taking_with channel_states rows) k channel_state at in
    let was = get_or channel_states k channel_state in
    let there = slice_get-get_or channel_states k channel_state (omega arith) in
    record {
      was = was;
      at = there;
      is = same_Some channel_state _ (sym at ∙ takes-own rows channel_states k was there);
    }

-- More rows lie before a later cycle.
pub passed-rises : {X : Type 0} (key : X → ℕ) (t k : ℕ) (xs : List X)
    → passed key t xs ≤ passed key (t + k) xs
passed-rises key t zero xs =
    let same : t + zero ≡ t = omega arith in
    let is = ap (λ n. passed key n xs) same in
    omega arith
passed-rises key t (suc k) xs =
    let before = passed-rises key t k xs in
    let more = passed-more key (t + k) xs in
    let next : t + suc k ≡ (t + k) + 1 = omega arith in
    let is = ap (λ n. passed key n xs) next in
    omega arith

module _ (all : NetworkState)
    (rises : IsNonDecreasingBy (λ (one : Take). one.cycle) all.stimuli.takes) where
  abbrev key : Take → ℕ
  key one = one.cycle

  abbrev takes : List Take
  takes = all.stimuli.takes

  -- The rows of so many cycles and one more.
  abbrev rows : ℕ → List Take
  rows k = slice_range takes (passed key all.time takes) (passed key (all.time + k + 1) takes)

  -- The channels once sessions have gone and words are accepted.
  abbrev pub begun : List ChannelState
  begun =
      fold (accepted_with all.time (untils_in all.stimuli all.time all.untils))
      (fold gone_with all.components.channel_states (session_starts_in all.stimuli all.time))
      (offers_in all.stimuli all.time)

  -- Then only rows of receivers count.
  pub ready-are : (k : ℕ) → ready_channel_states k all ≡ fold taking_with begun (rows k)
  unfolding ready_channel_states
  ready-are zero =
      let same : all.time + 0 + 1 ≡ all.time + 1 = omega arith in
      ap (fold taking_with begun)
      (sym (ap (λ n. slice_range takes (passed key all.time takes) (passed key n takes)) same
      ∙ passed-range key all.time takes rises))
  ready-are (suc k) =
      let t = all.time + suc k in
      let next : all.time + k + 1 ≡ t = omega arith in
      let from = passed key all.time takes in
      let low : from ≤ passed key t takes = passed-rises key all.time (suc k) takes in
      let high = passed-more key t takes in
      ap (λ (channel_states : List ChannelState). fold taking_with channel_states
      (takes_in all.stimuli t)) (ready-are k)
      ∙ ap (λ n. fold taking_with
      (fold taking_with begun (slice_range takes from (passed key n takes)))
      (takes_in all.stimuli t)) next
      ∙ ap (fold taking_with (fold taking_with begun (slice_range takes from (passed key t takes))))
      (sym (passed-range key t takes rises))
      ∙ fold-slices taking_with begun takes from (passed key t takes) (passed key (t + 1) takes) low
      high

  module _ (k : ℕ) (same : begun ≡ all.components.channel_states) where
    -- So a channel asks just where it is seen to.
    pub asks-seen :
        (HasAsker all.components.channel_states takes (passed key all.time takes) (all.time + k)
        → ⊥)
        → (number : ℕ) (channel_state : ChannelState)
        → slice_get (ready_channel_states k all) number ≡ Some channel_state
        → is_open channel_state (all.time + k) ≡ true → asked_of channel_state ≡ 0
    asks-seen none number channel_state at opened =
        let found = takes-found (rows k) begun number channel_state
        (ap (λ (channel_states : List ChannelState). slice_get channel_states number)
        (sym (ready-are k)) ∙ at) in
        let was = found.was in
        let pull = pull_behind number was.pull (rows k) in
        let now : ChannelState = record was { pull = pull } in
        let there = ap (λ (channel_states : List ChannelState). slice_get channel_states number)
        (sym same) ∙ found.at in
        let open_was : is_open was (all.time + k) ≡ true =
        ap (λ (one : ChannelState). is_open one (all.time + k)) (sym found.is) ∙ opened in
        ap asked_of found.is ∙ (elim (cases_lt was.taken was.landed) [
          | inr idle ↦ omega arith
          | inl waits ↦ elim (cases_lt 0 pull) [
            | inr nothing ↦ omega arith
            | inl some ↦ absurd (none (record {
              number = number;
              channel_state = was;
              at = there;
              asks = record { waits = waits; opened = open_was; pulls = some };
            }))
          ]
        ])

    pub seen-asks :
        ((number : ℕ) (channel_state : ChannelState)
        → slice_get (ready_channel_states k all) number ≡ Some channel_state
        → is_open channel_state (all.time + k) ≡ true → asked_of channel_state ≡ 0)
        → HasAsker all.components.channel_states takes (passed key all.time takes) (all.time + k)
        → ⊥
    seen-asks none has =
        let channel_state = has.channel_state in
        let number = has.number in
        let pull = pull_behind number channel_state.pull (rows k) in
        let at = ap (λ (channel_states : List ChannelState). slice_get channel_states number)
        (ready-are k)
        ∙ takes-own (rows k) begun number channel_state
        (ap (λ (channel_states : List ChannelState). slice_get channel_states number) same ∙ has.at)
        in
        let zero : min pull (channel_state.landed - channel_state.taken) ≡ 0 =
        none number (record channel_state { pull = pull }) at has.asks.opened in
        let waits = has.asks.waits in
        let some : 0 < pull = has.asks.pulls in
        omega arith

  -- Channels of which nothing has landed ask for nothing.
  module _ (landed : (number : ℕ) (channel_state : ChannelState)
      → slice_get begun number ≡ Some channel_state
      → channel_state.landed ≡ 0) where
    pub asks-first : (k number : ℕ) (channel_state : ChannelState)
        → slice_get (ready_channel_states k all) number ≡ Some channel_state
        → asked_of channel_state ≡ 0
    asks-first k number channel_state at =
        let found = takes-found (rows k) begun number channel_state
        (ap (λ (channel_states : List ChannelState). slice_get channel_states number)
        (sym (ready-are k)) ∙ at) in
        let none = landed number found.was found.at in
        let pull = pull_behind number found.was.pull (rows k) in
        ap asked_of found.is ∙ omega (arith, none)

-- Sessions that go have nothing that has landed.
pub gone-landed : (session_starts : List SessionStart) (channel_states : List ChannelState)
    → All (λ session_start. session_start.channel_state.landed ≡ 0) session_starts
    → ((number : ℕ) (channel_state : ChannelState)
    → slice_get channel_states number ≡ Some channel_state → channel_state.landed ≡ 0)
    → (number : ℕ) (channel_state : ChannelState)
    → slice_get (fold gone_with channel_states session_starts) number ≡ Some channel_state
    → channel_state.landed ≡ 0
gone-landed [] channel_states fresh none = none
gone-landed (session_start ∷ session_starts) channel_states fresh none =
    let P = λ (one : SessionStart). one.channel_state.landed ≡ 0 in
    gone-landed session_starts (gone_with channel_states session_start)
    (All-tail P session_start session_starts fresh)
    (each-with_channel_state (λ (k : ℕ) (channel_state : ChannelState). channel_state.landed ≡ 0)
    (channel_number session_start.channel)
    (λ channel_state. record session_start.channel_state { pull = channel_state.pull })
    channel_states
    (λ k channel_state at same. All-head P session_start session_starts fresh)
    (λ k channel_state at other. none k channel_state at))

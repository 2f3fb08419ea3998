-- How many words a receiver takes, from row to row.
use Rattle.std.proofs.Common.{◌≡◌, ◌≤◌, ◌<◌, ◌⊎◌, ◌+◌, ◌-◌, ◌==◌, ◌∙◌, ℕ, List, [], ◌∷◌, ap, arith}
use Rattle.std.proofs.Common.{drop, false, get_or, inl, inr, length, max, min, refl, sym, take}
use Rattle.std.proofs.Common.{true, slice_range}
use Rattle.std.proofs.lemmas.Bool.{cases_lt, Decides.nat_tests}
use Rattle.std.proofs.lemmas.List.{drop_more, Sums.fold-append}
use Rattle.std.specs.List.Sorted.{IsNonDecreasingBy}
use Rattle.aeth_components.specs.{First.IsFirst, ChannelStates.is_open}
use Rattle.aeth_components.specs.{declared.channel_state.ChannelState.ChannelState}
use Rattle.aeth_stimuli.specs.Stimuli.{Take}
use Rattle.aeth_network.specs.{Behind.passed, Next.AsksIn, Next.pull_behind}
use Rattle.aeth_network.proofs.{Firsts.slice-append, KnownFirsts.first-of, KnownFirsts.known-none}
use Rattle.aeth_network.proofs.{Passed.passed-at, RestingChannelStates.passed-rises}

-- The cycle of a row.
abbrev pub cycle_of : Take → ℕ
cycle_of one = one.cycle

-- The receiver of a channel takes so many words since a cycle, by the rows up to a place, and took none
-- before in which its session had gone.
pub record IsPulled (number first : ℕ) (takes : List Take) (time place go since at pull : ℕ) : Type 0
  where
    pub from : place ≤ at
    pub within : at ≤ length takes
    pub late : time ≤ since
    pub gone : go ≤ since
    pub now : pull ≡ pull_behind number first (slice_range takes place at)
    pub none : (t : ℕ) → time ≤ t → go ≤ t → t < since
        → pull_behind number first (slice_range takes place (passed cycle_of (t + 1) takes)) ≡ 0
    pub held : (t : ℕ) → since ≤ t → passed cycle_of (t + 1) takes ≤ at
        → pull_behind number first (slice_range takes place (passed cycle_of (t + 1) takes)) ≡ pull

-- One row more counts where it is of the channel.
one-more : (number first : ℕ) (takes : List Take) (place at : ℕ) (row : Take) → place ≤ at
    → at < length takes → get_or takes at row ≡ row
    → pull_behind number first (slice_range takes place (at + 1))
    ≡ pull_behind number (pull_behind number first (slice_range takes place at)) (row ∷ [])
one-more number first takes place at row le within is =
    let one : (at + 1) - at ≡ 1 = omega arith in
    let last : slice_range takes at (at + 1) ≡ row ∷ [] =
    ap (λ n. take n (drop at takes)) one
    ∙ ap (take 1) (drop_more takes at row within)
    ∙ ap (λ (x : Take). x ∷ []) is in
    ap (pull_behind number first) (sym (slice-append takes place at (at + 1) le (omega arith)))
    ∙ fold-append _ first (slice_range takes place at) (slice_range takes at (at + 1))
    ∙ ap (pull_behind number (pull_behind number first (slice_range takes place at))) last

module _ (number first : ℕ) (takes : List Take) (rises : IsNonDecreasingBy cycle_of takes)
    (time place go since at pull : ℕ) (so : IsPulled number first takes time place go since at pull)
    (row : Take) (within : at < length takes) (is : get_or takes at row ≡ row) where
  -- A row of another channel changes nothing.
  pub pulled-other : (row.number == number) ≡ false
      → IsPulled number first takes time place go since (at + 1) pull
  pulled-other other =
      let from = so.from in
      let same : pull_behind number pull (row ∷ []) ≡ pull = rw other refl in
      let next : pull ≡ pull_behind number first (slice_range takes place (at + 1)) =
      sym (one-more number first takes place at row from within is
      ∙ ap (λ n. pull_behind number n (row ∷ [])) (sym so.now) ∙ same) in
      record {
        from = omega arith;
        within = omega arith;
        late = so.late;
        gone = so.gone;
        now = next;
        none = so.none;
        held = λ t since most. elim (cases_lt at (passed cycle_of (t + 1) takes)) [
          | inr before ↦ so.held t since before
          | inl behind ↦
              let place_is : passed cycle_of (t + 1) takes ≡ at + 1 = omega arith in
              ap (λ n. pull_behind number first (slice_range takes place n)) place_is ∙ sym next
        ];
      }

  -- A row of the channel counts from its cycle on.
  pub pulled-own : (row.number == number) ≡ true → (pull ≡ 0) ⊎ (row.cycle ≤ since)
      → (then : ℕ) → then ≡ max since row.cycle
      → IsPulled number first takes time place go then (at + 1) row.pull
  pulled-own own rests then then_is =
      let from = so.from in
      let late = so.late in
      let gone = so.gone in
      let same : pull_behind number pull (row ∷ []) ≡ row.pull = rw own refl in
      let next : row.pull ≡ pull_behind number first (slice_range takes place (at + 1)) =
      sym (one-more number first takes place at row from within is
      ∙ ap (λ n. pull_behind number n (row ∷ [])) (sym so.now) ∙ same) in
      let cycle : cycle_of (get_or takes at row) ≡ row.cycle = ap cycle_of is in
      record {
        from = omega arith;
        within = omega arith;
        late = omega arith;
        gone = omega arith;
        now = next;
        none = λ t early session_start less. elim (cases_lt t since) [
          | inl before ↦ so.none t early session_start before
          | inr since_then ↦ elim rests [
            | inr soon ↦ absurd (omega arith)
            | inl nothing ↦
                let here = (passed-at cycle_of (t + 1) takes at row rises within).1 (omega arith) in
                so.held t since_then here ∙ nothing
          ]
        ];
        held = λ t since_then most.
            let here = (passed-at cycle_of (t + 1) takes at row rises within).0 (omega arith) in
            let place_is : passed cycle_of (t + 1) takes ≡ at + 1 = omega arith in
            ap (λ n. pull_behind number first (slice_range takes place n)) place_is ∙ sym next;
      }

-- At the first row.
pub pulled-first : (number first : ℕ) (takes : List Take) (rises : IsNonDecreasingBy cycle_of takes)
    (time place go since : ℕ) → place ≡ passed cycle_of time takes → place ≤ length takes
    → since ≡ max time go → IsPulled number first takes time place go since place first
pulled-first number first takes rises time place go since is within since_is =
    let none : place - place ≡ 0 = omega arith in
    let empty : pull_behind number first (slice_range takes place place) ≡ first =
    ap (λ n. pull_behind number first (take n (drop place takes))) none in
    record {
      from = omega arith;
      within = within;
      late = omega arith;
      gone = omega arith;
      now = sym empty;
      none = λ t early session_start less. absurd (omega arith);
      held = λ t since most.
          let next : (t + 1 - time) + time ≡ t + 1 = omega arith in
          let more = passed-rises cycle_of time (t + 1 - time) takes in
          let sum : time + (t + 1 - time) ≡ t + 1 = omega arith in
          let here = ap (λ n. passed cycle_of n takes) sum in
          let place_is : passed cycle_of (t + 1) takes ≡ place = omega arith in
          ap (λ n. pull_behind number first (slice_range takes place n)) place_is ∙ empty;
    }

-- Behind the last row that counts.
module _ (channel_state : ChannelState) (number : ℕ) (takes : List Take)
    (time to place since at pull : ℕ)
    (le : time ≤ to) (waits : channel_state.taken < channel_state.landed)
    (so : IsPulled number channel_state.pull takes time place channel_state.go since at pull) where
  abbrev end : ℕ
  end = min to channel_state.fin

  open-from : (t : ℕ) → is_open channel_state t ≡ true → channel_state.go ≤ t
  open-from t opened = grind (arith, nat_tests)

  open-below : (t : ℕ) → is_open channel_state t ≡ true → t < channel_state.fin
  open-below t opened = grind (arith, nat_tests)

  -- The receiver takes none.
  pub pulls-never : (0 < pull → end ≤ since) → (pull ≡ 0 → passed cycle_of end takes ≤ at)
      → IsFirst (AsksIn channel_state number takes place) time to to
  pulls-never late all = first-of (known-none le (λ t from less asks.
      let go = open-from t asks.opened in
      let fin = open-below t asks.opened in
      let pulls = asks.pulls in
      elim (cases_lt t since) [
        | inl before ↦
            let none = so.none t from go before in
            absurd (omega (arith, none, pulls))
        | inr behind ↦ elim (cases_lt 0 pull) [
          | inl some ↦ let past = late some in absurd (omega arith)
          | inr nothing ↦
              let most = all (omega arith) in
              let sum : (t + 1) + (end - (t + 1)) ≡ end = omega arith in
              let more = passed-rises cycle_of (t + 1) (end - (t + 1)) takes in
              let here = ap (λ n. passed cycle_of n takes) sum in
              let none = so.held t behind (omega arith) in
              absurd (omega (arith, none, pulls, nothing))
        ]
      ]))

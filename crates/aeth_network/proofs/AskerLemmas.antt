-- Channels that have words which their receivers take: these take some as they stand, or by rows.
use Rattle.std.proofs.Common.{◌≡◌, ◌≤◌, ◌<◌, ◌⊎◌, ◌+◌, ◌-◌, ◌==◌, ◌∙◌, ℕ, List, [], ◌∷◌, Some, ap}
use Rattle.std.proofs.Common.{arith, drop, get_or, inl, inr, length, refl, slice_get, subst, suc}
use Rattle.std.proofs.Common.{sym, slice_range, eqb-true, length-take}
use Rattle.std.proofs.lemmas.Bool.{cases_Bool, cases_lt}
use Rattle.std.proofs.lemmas.Option.{slice_get-get_or, slice_get_within}
use Rattle.std.specs.List.Sorted.{IsNonDecreasingBy}
use Rattle.aeth_base.proofs.Lists.{slice_get-take}
use Rattle.aeth_running.proofs.LandedWords.{slice_get-drop}
use Rattle.aeth_components.specs.declared.channel_state.ChannelState.{ChannelState}
use Rattle.aeth_stimuli.specs.Stimuli.{Take}
use Rattle.aeth_network.specs.Behind.{passed}
use Rattle.aeth_network.specs.Next.{AsksIn, HasAsker, HasRowTaker, HasTaker, pull_behind}
use Rattle.aeth_network.proofs.{Passed.passed-of, PullLemmas.cycle_of}

-- A channel that asks, at its place.
pub asker-at : (channel_states : List ChannelState) (takes : List Take) (place number t : ℕ)
    (d : ChannelState)
    → number < length channel_states → AsksIn (get_or channel_states number d) number takes place t
    → HasAsker channel_states takes place t
asker-at channel_states takes place number t d within asks = record {
  number = number;
  channel_state = get_or channel_states number d;
  at = slice_get-get_or channel_states number d within;
  asks = asks;
}

-- A channel has a word in a cycle that its receiver takes as it stands.
abbrev pub IsTaker : List Take → ℕ → ℕ → ChannelState → ℕ → Type 0
IsTaker takes place number channel_state t = (0 < channel_state.pull)
    × AsksIn channel_state number takes place t

-- A row among some by which the receiver of a channel takes some.
record IsPulledBy (number : ℕ) (rows : List Take) : Type 0 where
  pub place : ℕ
  pub row : Take
  pub at : slice_get rows place ≡ Some row
  pub own : row.number ≡ number
  pub some : 0 < row.pull

later : (number : ℕ) (row : Take) (rows : List Take) → IsPulledBy number rows
    → IsPulledBy number (row ∷ rows)
later number row rows by = record {
  place = suc by.place;
  row = by.row;
  at = by.at;
  own = by.own;
  some = by.some;
}

-- Where it took none before, it takes some by a row.
pulled-by : (number first : ℕ) (rows : List Take) → first ≡ 0 → 0 < pull_behind number first rows
    → IsPulledBy number rows
pulled-by number first [] none some = absurd (omega (arith, none, some))
pulled-by number first (row ∷ rows) none some = elim (cases_Bool (row.number == number)) [
  | inl own ↦
      let same : pull_behind number first (row ∷ rows) ≡ pull_behind number row.pull rows =
      rw own refl in
      elim (cases_lt 0 row.pull) [
        | inl more ↦ record {
          place = 0;
          row = row;
          at = refl;
          own = eqb-true row.number number own;
          some = more;
        }
        | inr nothing ↦
            later number row rows
            (pulled-by number row.pull rows (omega arith) (omega (arith, same, some)))
      ]
  | inr other ↦
      let same : pull_behind number first (row ∷ rows) ≡ pull_behind number first rows =
      rw other refl in
      later number row rows (pulled-by number first rows none (omega (arith, same, some)))
]

-- What stands among the rows between two places stands behind the first and before the second.
slice-at : {X : Type 0} (xs : List X) (a b i : ℕ) (x : X) → slice_get (slice_range xs a b) i ≡ Some x
    → (slice_get xs (a + i) ≡ Some x) × (a + i < b)
slice-at xs a b i x at =
    let within = slice_get_within (slice_range xs a b) i x at in
    let size = length-take (b - a) (drop a xs) in
    let before : i < b - a = omega arith in (
      sym (slice_get-drop a xs i) ∙ sym (slice_get-take (b - a) (drop a xs) i before) ∙ at,
      omega arith,
    )

module _ (channel_states : List ChannelState) (takes : List Take)
    (rises : IsNonDecreasingBy cycle_of takes)
    (place : ℕ) where
  -- So a receiver that takes does as it stands, or by a row from the place on.
  pub asker-known : (t : ℕ) → HasAsker channel_states takes place t
      → HasTaker channel_states takes place t ⊎ HasRowTaker channel_states takes place t
  asker-known t has = elim (cases_lt 0 has.channel_state.pull) [
    | inl some ↦ inl (record {
      number = has.number;
      channel_state = has.channel_state;
      at = has.at;
      some = some;
      asks = has.asks;
    })
    | inr none ↦
        let by = pulled-by has.number has.channel_state.pull
        (slice_range takes place (passed cycle_of (t + 1) takes)) (omega arith) has.asks.pulls in
        let at = slice-at takes place (passed cycle_of (t + 1) takes) by.place by.row by.at in
        let number = place + by.place in
        let before = at.1 in
        let since : by.row.cycle ≤ t = elim (cases_lt t by.row.cycle) [
          | inr low ↦ low
          | inl high ↦
              let past = (passed-of cycle_of (t + 1) takes number by.row rises at.0).1 (omega arith) in
              absurd (omega arith)
        ] in
        inr (record {
          number = number;
          row = by.row;
          at = at.0;
          from = omega arith;
          since = since;
          asked = record {
            channel_state = has.channel_state;
            at = ap (slice_get channel_states) by.own ∙ has.at;
            some = by.some;
            asks = subst (λ n. AsksIn has.channel_state n takes place t) (sym by.own) has.asks;
          };
        })
  ]

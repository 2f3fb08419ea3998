-- A session accepts no more of the words that are offered within a run than its channel has in its
-- cycles; and rows of traces in order.
use Rattle.std.proofs.Common.{◌≡◌, ◌≤◌, ◌<◌, ◌&&◌, ◌∙◌, ℕ, suc, Bool, List, [], ◌∷◌, ap, arith}
use Rattle.std.proofs.Common.{count_by, false, filter, inl, inr, length, map, true, nat_lt}
use Rattle.std.proofs.lemmas.{Bool.and_parts, Bool.cases_Bool, List.get_or-map, List.length-map}
use Rattle.std.specs.List.Sorted.{IsNonDecreasingBy}
use Rattle.aeth_base.proofs.Lists.{count_by-no, count_by-yes}
use Rattle.aeth_base.proofs.Filters.{filter-no, filter-yes}
use Rattle.aeth_trace.specs.{Channels.is_channel, Words.words_on, declared.words.WordRow.WordRow}
use Rattle.aeth_report.specs.Flows.{is_within}
use Rattle.aeth_schedule.specs.declared.session_start.SessionStart.{SessionStart}
use Rattle.aeth_stimuli.specs.Stimuli.{is_offered_in, offer_of}
use Rattle.aeth_stimuli.proofs.ChannelLists.{same_numbers}

-- Mapped items are in order where their numbers are.
pub rise-map : {X Y : Type 0} (n : Y → ℕ) (f : X → Y) (xs : List X)
    → IsNonDecreasingBy (λ x. n (f x)) xs → IsNonDecreasingBy n (map f xs)
rise-map n f [] rises i j d le within = absurd (omega arith)
rise-map n f (x ∷ xs) rises i j d le within =
    let size = length-map (x ∷ xs) f in
    let below : j < length (x ∷ xs) = omega (arith, within, size) in
    let one = ap n (get_or-map f (x ∷ xs) i x d (omega (arith, le, below))) in
    let two = ap n (get_or-map f (x ∷ xs) j x d below) in
    let order = rises i j x le below in
    omega (arith, one, two, order)

module _ (session_start : SessionStart) where
  -- Whether a row is of the session's channel, in its cycles.
  abbrev own : WordRow → Bool
  own row = is_channel session_start.channel row.channel

  abbrev in_time : WordRow → Bool
  in_time row = is_within session_start.channel_state.go session_start.until row

  -- A session accepts an offered word where it is.
  accepts : (row : WordRow) → is_offered_in session_start (offer_of row) ≡ (own row && in_time row)
  accepts row = ap (λ (b : Bool). b && in_time row) (same_numbers session_start.channel row.channel)

  -- The words of a list of rows that are so.
  abbrev kept : List WordRow → List WordRow
  kept rows = filter in_time (words_on rows session_start.channel)

  -- One row more keeps no fewer, and one more where it is so.
  kept-other : (row : WordRow) (rows : List WordRow) → own row ≡ false
      → kept (row ∷ rows) ≡ kept rows
  kept-other row rows other = ap (filter in_time) (filter-no own row rows other)

  kept-own : (row : WordRow) (rows : List WordRow) → own row ≡ true
      → kept (row ∷ rows) ≡ filter in_time (row ∷ words_on rows session_start.channel)
  kept-own row rows is_own = ap (filter in_time) (filter-yes own row rows is_own)

  kept-grows : (row : WordRow) (rows : List WordRow)
      → length (kept rows) ≤ length (kept (row ∷ rows))
  kept-grows row rows =
      let count = λ (list : List WordRow). length list in
      let words = words_on rows session_start.channel in
      elim (cases_Bool (own row)) [
        | inr other ↦ let same = ap count (kept-other row rows other) in omega (arith, same)
        | inl is_own ↦
            let here = kept-own row rows is_own in
            elim (cases_Bool (in_time row)) [
              | inl both ↦
                  let more = ap count (here ∙ filter-yes in_time row words both) in
                  omega (arith, more)
              | inr half ↦
                  let same = ap count (here ∙ filter-no in_time row words half) in
                  omega (arith, same)
            ]
      ]

  kept-more : (row : WordRow) (rows : List WordRow) → (own row && in_time row) ≡ true
      → length (kept (row ∷ rows)) ≡ suc (length (kept rows))
  kept-more row rows both =
      let (is_own, time) = and_parts (own row) (in_time row) both in
      ap (λ (list : List WordRow). length list) (kept-own row rows is_own
      ∙ filter-yes in_time row (words_on rows session_start.channel) time)

  -- So of the words below the end of a run it accepts no more.
  pub offered-few : (cycles : ℕ) (rows : List WordRow)
      → count_by (is_offered_in session_start)
      (map offer_of (filter (λ row. nat_lt row.cycle cycles) rows))
      ≤ length (filter (is_within session_start.channel_state.go session_start.until)
      (words_on rows session_start.channel))
  offered-few cycles [] = omega arith
  offered-few cycles (row ∷ rows) =
      let rest = offered-few cycles rows in
      let grows = kept-grows row rows in
      let below = λ (one : WordRow). nat_lt one.cycle cycles in
      let offered = is_offered_in session_start in
      let count = λ (list : List WordRow). count_by offered (map offer_of list) in
      let later = map offer_of (filter below rows) in
      elim (cases_Bool (nat_lt row.cycle cycles)) [
        | inr late ↦
            let same = ap count (filter-no below row rows late) in
            omega (arith, rest, grows, same)
        | inl early ↦
            let one = ap count (filter-yes below row rows early) in
            elim (cases_Bool (own row && in_time row)) [
              | inl both ↦
                  let more = kept-more row rows both in
                  let yes = count_by-yes offered (offer_of row) later (accepts row ∙ both) in
                  omega (arith, rest, one, more, yes)
              | inr none ↦
                  let no = count_by-no offered (offer_of row) later (accepts row ∙ none) in
                  omega (arith, rest, grows, one, no)
            ]
      ]

-- What the last of a channel's rows says, and how long.
use Rattle.std.proofs.Common.{◌≡◌, ◌∙◌, ◌≤◌, ◌<◌, ◌+◌, ◌++◌, ℕ, List, [], ◌∷◌, Option, Some, None}
use Rattle.std.proofs.Common.{length, map, take, slice_get, refl, sym, ap, arith, unwrap_or}
use Rattle.std.proofs.lemmas.List.{map-append, take_more}
use Rattle.std.proofs.lemmas.Option.{get_or_from_slice_get, slice_get_past, slice_get_within}
use Rattle.std.specs.List.{last_or, Sorted.IsNonDecreasingBy}
use Rattle.aeth_base.specs.declared.ids.Channel.{Channel}
use Rattle.aeth_trace.specs.{Channels.is_channel, Limits.usual_pull, Receivers.IsSteady}
use Rattle.aeth_trace.specs.{Receivers.pull_at, Receivers.pull_of, Receivers.pulls_on}
use Rattle.aeth_trace.specs.{Receivers.pulls_until, declared.receivers.PullRow.PullRow}
use Rattle.aeth_trace.proofs.OrderLemmas.{rise-filter, until_next, until_steady, until_take}

-- What was put last is last.
last-push : {A : Type 0} (before : Option A) (xs : List A) (x : A)
    → last_or before (xs ++ x ∷ []) ≡ Some x
last-push before [] x = refl
last-push before (y ∷ xs) x = last-push (Some y) xs x

-- Of the rows up to a place the one there says what is taken.
pub pull_of-last : (rows : List PullRow) (place : ℕ) (row : PullRow)
    → slice_get rows place ≡ Some row → pull_of (take (place + 1) rows) ≡ row.pull
pull_of-last rows place row at =
    let more : take (place + 1) rows ≡ take place rows ++ row ∷ [] =
    take_more rows place row (slice_get_within rows place row at)
    ∙ ap (λ one. take place rows ++ one ∷ []) (get_or_from_slice_get rows place row row at) in
    rw (more, map-append (λ (one : PullRow). one.pull) (take place rows) (row ∷ []))
    (ap (λ one. unwrap_or one usual_pull)
    (last-push None (map (λ (one : PullRow). one.pull) (take place rows)) row.pull))

-- The rows of a channel that aren't later are its first ones.
pub pull_of-first : (rows : List PullRow) (channel : Channel) (cycle : ℕ)
    → IsNonDecreasingBy (λ row. row.cycle) rows
    → pull_of (take (length (pulls_until rows channel cycle)) (pulls_on rows channel))
    ≡ pull_at rows channel cycle
pull_of-first rows channel cycle rises =
    let kept = rise-filter (λ (row : PullRow). row.cycle)
    (λ row. is_channel channel row.channel) rows rises in
    ap pull_of (sym (until_take (λ (row : PullRow). row.cycle) cycle (pulls_on rows channel) kept))

-- ---- the next row, behind those that aren't later
module _ (rows : List PullRow) (channel : Channel) (from known : ℕ)
    (rises : IsNonDecreasingBy (λ row. row.cycle) rows)
    (count : known ≡ length (pulls_until rows channel from)) where
  kept : IsNonDecreasingBy (λ row. row.cycle) (pulls_on rows channel)
  kept = rise-filter (λ (row : PullRow). row.cycle) (λ row. is_channel channel row.channel) rows
      rises

  -- its cycle is later
  pub change-later : (row : PullRow) → slice_get (pulls_on rows channel) known ≡ Some row
      → from < row.cycle
  change-later row at =
      until_next (λ (row : PullRow). row.cycle) from (pulls_on rows channel) row kept (rw count at at)

  -- before it the receiver takes the same
  pub change-steady : (row : PullRow) → slice_get (pulls_on rows channel) known ≡ Some row
      → IsSteady rows channel from row.cycle
  change-steady row at t late early =
      ap pull_of (until_steady (λ (row : PullRow). row.cycle) from t (pulls_on rows channel) kept late
      (rw (rw count at at) early))

  -- and for ever where there is none
  pub change-last : length (pulls_on rows channel) ≤ known → (end : ℕ) → IsSteady rows channel from end
  change-last past end t late early =
      ap pull_of (until_steady (λ (row : PullRow). row.cycle) from t (pulls_on rows channel) kept late
      (rw (slice_get_past (pulls_on rows channel) (length (pulls_until rows channel from))
      (omega arith)) tt))

-- How many writes come before those of a channel, and which they are.
use Rattle.std.proofs.Common.{◌≡◌, ◌≤◌, ◌<◌, ◌∙◌, ◌++◌, ◌+◌, ℕ, zero, suc, List, [], ◌∷◌, Contains}
use Rattle.std.proofs.Common.{length, map, slice_get, refl, sym, ap, inl, inr, arith, sum_by}
use Rattle.std.proofs.Common.{length-append}
use Rattle.std.proofs.lemmas.Bool.{both_ways, cases_Bool}
use Rattle.std.proofs.lemmas.List.{Concat.flat_map-cons, Sums.sum_by-cons}
use Rattle.std.specs.List.{flat_map}
use Rattle.aeth_base.specs.declared.ids.Channel.{Channel}
use Rattle.aeth_base.proofs.Members.{Contains-cases, Contains-nil}
use Rattle.aeth_ni.specs.Program.{write_count}
use Rattle.aeth_ni.specs.declared.{row.ChannelRow.ChannelRow, write.Write.Write}
use Rattle.aeth_trace.specs.Channels.{is_channel}
use Rattle.aeth_reconf.specs.{Rows.RowOf, Windows.ahead_of}
use Rattle.aeth_report.proofs.ChannelLemmas.{is_channel-itself, same_channel}

-- What comes at a place of one list behind another.
pub behind : {X : Type 0} (xs ys : List X) (i : ℕ) → slice_get (xs ++ ys) (length xs + i) ≡ slice_get ys i
behind [] ys i = let none : 0 + i ≡ i = omega arith in ap (slice_get ys) none
behind (x ∷ xs) ys i =
    let more : length (x ∷ xs) + i ≡ suc (length xs + i) = omega arith in
    rw more (behind xs ys i)

-- And of the first.
pub before : {X : Type 0} (xs ys : List X) (i : ℕ) → i < length xs
    → slice_get (xs ++ ys) i ≡ slice_get xs i
before [] ys i within = absurd (omega arith)
before (x ∷ xs) ys zero within = refl
before (x ∷ xs) ys (suc i) within = before xs ys i (omega arith)

module _ (row_of : RowOf) (group : ℕ) where
  -- The writes of a channel and those before it are no more than all.
  pub ahead_of-within : (channels : List Channel) (channel : Channel) → Contains channels channel
      → ahead_of row_of group channels channel + write_count (row_of group channel)
      ≤ sum_by write_count (map (row_of group) channels)
  ahead_of-within [] channel has = Contains-nil has
  ahead_of-within (one ∷ channels) channel has =
      let count = λ (ch : Channel). write_count (row_of group ch) in
      let later = ahead_of row_of group channels channel in
      let sum = sum_by-cons write_count (row_of group one) (map (row_of group) channels) in
      elim (cases_Bool (is_channel one channel)) [
        | inl is ↦
            let same = same_channel one channel is in
            let counts : count channel ≡ count one = ap count (sym same) in
            rw is (omega arith)
        | inr other ↦ elim (Contains-cases one channels channel has) [
          | inl same ↦ absurd (both_ways (is_channel one channel) other
              (ap (λ (ch : Channel). is_channel ch channel) same ∙ is_channel-itself channel))
          | inr there ↦
              let within = ahead_of-within channels channel there in
              rw other (omega arith)
        ]
      ]

  module _ (writes : ChannelRow → List Write)
      (counted : (row : ChannelRow) → length (writes row) ≡ write_count row) where
    -- All have as many writes.
    pub length-writes : (rows : List ChannelRow)
        → length (flat_map writes rows) ≡ sum_by write_count rows
    length-writes [] = refl
    length-writes (row ∷ rows) =
        let more = ap length (flat_map-cons writes row rows)
        ∙ length-append (writes row) (flat_map writes rows) in
        let sum = sum_by-cons write_count row rows in
        let here = counted row in
        let rest = length-writes rows in
        omega arith

    -- Behind the writes of the channels before it come those of a channel.
    pub write_at : (channels : List Channel) (channel : Channel) → Contains channels channel
        → (i : ℕ) → i < write_count (row_of group channel)
        → slice_get (flat_map writes (map (row_of group) channels))
        (ahead_of row_of group channels channel + i) ≡ slice_get (writes (row_of group channel)) i
    write_at [] channel has i within = Contains-nil has
    write_at (one ∷ channels) channel has i within =
        let row = row_of group one in
        let later = flat_map writes (map (row_of group) channels) in
        let split : flat_map writes (map (row_of group) (one ∷ channels)) ≡ writes row ++ later =
        flat_map-cons writes row (map (row_of group) channels) in
        let here = counted row in
        elim (cases_Bool (is_channel one channel)) [
          | inl is ↦
              let same = same_channel one channel is in
              let own : row ≡ row_of group channel = ap (row_of group) same in
              let counts : write_count row ≡ write_count (row_of group channel) =
              ap write_count own in
              let none : 0 + i ≡ i = omega arith in
              rw (is, none, split) (before (writes row) later i (omega arith)
              ∙ ap (λ (r : ChannelRow). slice_get (writes r) i) own)
          | inr other ↦ elim (Contains-cases one channels channel has) [
            | inl same ↦ absurd (both_ways (is_channel one channel) other
                (ap (λ (ch : Channel). is_channel ch channel) same ∙ is_channel-itself channel))
            | inr there ↦
                let ahead = ahead_of row_of group channels channel in
                let place : write_count row + ahead + i ≡ length (writes row) + (ahead + i) =
                omega arith in
                rw (other, place, split) (behind (writes row) later (ahead + i)
                ∙ write_at channels channel there i within)
          ]
        ]

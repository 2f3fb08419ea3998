-- Where the words of a channel stand among those of all channels.
use Rattle.std.proofs.Common.{◌≡◌, ◌≤◌, ◌<◌, ◌+◌, ◌-◌, ◌++◌, ◌∙◌, ℕ, zero, suc, List, [], ap, arith}
use Rattle.std.proofs.Common.{inl, inr, length, refl, subst, sym, append-nil, append_assoc}
use Rattle.std.proofs.Common.{length-append}
use Rattle.std.proofs.lemmas.{Bool.cases_eq, Bool.cases_order, List.length-map}
use Rattle.aeth_base.specs.declared.ids.Channel.{Channel}
use Rattle.aeth_base.specs.declared.ids.Side.{Side, TheVariants.Back, TheVariants.Fwd}
use Rattle.aeth_trace.specs.{Words.words_on, declared.words.WordRow.WordRow}
use Rattle.aeth_schedule.proofs.Places.{values-more}
use Rattle.aeth_schedule.specs.Values.{start_of, values_of, values_on, values_with}

-- The channel of a connection on a side.
abbrev channel_on : ℕ → Side → Channel
channel_on c side = record { conn = record { 0 = c }; side = side }

module _ (words : List WordRow) where
  -- How many words the channel of a connection on a side has.
  abbrev count_on : ℕ → Side → ℕ
  count_on c side = length (words_on words (channel_on c side))

  count-values : (c : ℕ) (side : Side)
      → length (values_on words (channel_on c side)) ≡ count_on c side
  count-values c side = length-map (words_on words (channel_on c side)) (λ (row : WordRow). row.value)

  values-count : (n : ℕ) → length (values_of words (n + 1))
      ≡ length (values_of words n) + (count_on n Fwd + count_on n Back)
  values-count n =
      let all = ap (λ (list : List ℕ). length list) (values-more words n) in
      let both = length-append (values_of words n) (values_with words n) in
      let pair = length-append (values_on words (channel_on n Fwd))
      (values_on words (channel_on n Back)) in
      let fwd = count-values n Fwd in
      let back = count-values n Back in
      omega (arith, all, both, pair, fwd, back)

  -- More connections have no fewer words.
  values-grow : (n more : ℕ) → length (values_of words n) ≤ length (values_of words (n + more))
  values-grow n zero =
      let same : n + 0 ≡ n = omega arith in
      let count = ap (λ (k : ℕ). length (values_of words k)) same in
      omega (arith, count)
  values-grow n (suc more) =
      let rest = values-grow n more in
      let next : n + suc more ≡ (n + more) + 1 = omega arith in
      let same = ap (λ (k : ℕ). length (values_of words k)) next in
      let count = values-count (n + more) in
      omega (arith, rest, same, count)

  -- The words of a channel end before those of later connections.
  ends-before : (c : ℕ) (side : Side) → start_of words (channel_on c side) + count_on c side
      ≤ length (values_of words (c + 1))
  ends-before c Fwd = let count = values-count c in omega (arith, count)
  ends-before c Back = let count = values-count c in omega (arith, count)

  -- So those of an earlier connection stand before those of a later one.
  earlier : (c d : ℕ) (one other : Side) → c < d
      → start_of words (channel_on c one) + count_on c one ≤ start_of words (channel_on d other)
  earlier c d one other less =
      let ends = ends-before c one in
      let grow = values-grow (c + 1) (d - (c + 1)) in
      let same : (c + 1) + (d - (c + 1)) ≡ d = omega arith in
      let count = ap (λ (k : ℕ). length (values_of words k)) same in
      omega (arith, ends, grow, count)

  -- And those of one side of a connection before those of the other.
  sides-apart : (c : ℕ) (one other : Side) (i j : ℕ) → i < count_on c one → j < count_on c other
      → start_of words (channel_on c one) + i ≡ start_of words (channel_on c other) + j
      → one ≡ other
  sides-apart c Fwd Fwd i j first second same = refl
  sides-apart c Fwd Back i j first second same = absurd (omega arith)
  sides-apart c Back Fwd i j first second same = absurd (omega arith)
  sides-apart c Back Back i j first second same = refl

  -- A place is one of one channel's words alone.
  pub places-apart : (one other : Channel) (i j : ℕ) → i < length (words_on words one)
      → j < length (words_on words other) → start_of words one + i ≡ start_of words other + j
      → one ≡ other
  places-apart one other i j first second same = elim (cases_order one.conn.0 other.conn.0) [
    | inr apart ↦ elim apart [
      | inl less ↦
          let ahead = earlier one.conn.0 other.conn.0 one.side other.side less in
          absurd (omega (arith, ahead, first, same))
      | inr more ↦
          let ahead = earlier other.conn.0 one.conn.0 other.side one.side more in
          absurd (omega (arith, ahead, second, same))
    ]
    | inl conn ↦
        let side = subst (λ (d : ℕ). j < count_on d other.side
        → start_of words one + i ≡ start_of words (channel_on d other.side) + j
        → one.side ≡ other.side) conn (sides-apart one.conn.0 one.side other.side i j first) second same
        in λ k. record { conn = record { 0 = conn k }; side = side k }
  ]

  -- The words of a channel stand from its start on among those of so many connections.
  pub record Stands (connections : ℕ) (channel : Channel) : Type 0 where
    pub front : List ℕ
    pub rest : List ℕ
    pub is : values_of words connections ≡ front ++ (values_on words channel ++ rest)
    pub start : length front ≡ start_of words channel

  -- Also where there is a connection more.
  stands-more : (n : ℕ) (channel : Channel) → Stands n channel → Stands (n + 1) channel
  stands-more n channel stands =
      let own = values_on words channel in
      let more = values_with words n in
      record {
        front = stands.front;
        rest = stands.rest ++ more;
        is = values-more words n
            ∙ ap (λ (list : List ℕ). list ++ more) stands.is
            ∙ append_assoc stands.front (own ++ stands.rest) more
            ∙ ap (λ (list : List ℕ). stands.front ++ list) (append_assoc own stands.rest more);
        start = stands.start;
      }

  -- Where its connection is the last.
  stands-last : (c : ℕ) (side : Side) → Stands (c + 1) (channel_on c side)
  stands-last c Fwd = record {
    front = values_of words c;
    rest = values_on words (channel_on c Back);
    is = values-more words c;
    start = omega arith;
  }
  stands-last c Back =
      let ahead = values_of words c in
      let fwd = values_on words (channel_on c Fwd) in
      let back = values_on words (channel_on c Back) in
      let len = length-append ahead fwd in
      let count = count-values c Fwd in
      record {
        front = ahead ++ fwd;
        rest = [];
        is = values-more words c
            ∙ sym (append_assoc ahead fwd back)
            ∙ ap (λ (list : List ℕ). (ahead ++ fwd) ++ list) (sym (append-nil back));
        start = omega (arith, len, count);
      }

  -- And so where it is any.
  pub stands-among : (n : ℕ) (channel : Channel) → channel.conn.0 < n → Stands n channel
  stands-among zero channel known = absurd (omega arith)
  stands-among (suc n) channel known =
      let next : n + 1 ≡ suc n = omega arith in
      subst (λ (k : ℕ). Stands k channel) next (elim (cases_eq channel.conn.0 n) [
        | inl last ↦ subst (λ (k : ℕ). Stands (k + 1) channel) last
            (stands-last channel.conn.0 channel.side)
        | inr other ↦
            stands-more n channel (stands-among n channel (omega arith))
      ])

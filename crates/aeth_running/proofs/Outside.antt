-- The words of a channel that no session takes, and those that are counted for it, offer by offer.
use Rattle.std.proofs.Common.{◌≡◌, ◌<◌, ◌∙◌, ℕ, suc, ◌+◌, ◌&&◌, Bool, true, false, List, [], ◌∷◌}
use Rattle.std.proofs.Common.{cond, filter, fold, length, map, not, sym, ap, inl, inr, arith, ◌==◌}
use Rattle.std.proofs.Common.{nat_lt, slice_index, slice_set, eq-eqb, eqb-true, le-ltb, lt-ltb}
use Rattle.std.proofs.Common.{ne_eqb, get_or-set_other, get_or-set_same, length-set}
use Rattle.std.proofs.lemmas.Bool.{cases_Bool, cases_order, eqb-false}
use Rattle.aeth_base.specs.declared.ids.Channel.{Channel}
use Rattle.aeth_trace.specs.{Channels.channel_number, Channels.is_channel, Words.words_on}
use Rattle.aeth_trace.specs.{declared.words.WordRow.WordRow}
use Rattle.aeth_running.{specs.Network.outside_with, proofs.ChannelsByNumber.number-test}
use Rattle.aeth_stimuli.specs.Stimuli.{Offer, offer_of}

-- A list is written, or an item is counted.
chosen : {X : Type 0} (c : Bool) (f : List ℕ → ℕ) (kept written : List ℕ) (n : ℕ) (x : X) (xs : List X)
    → f kept ≡ n + length xs → f written ≡ n + suc (length xs)
    → f (cond c kept written) ≡ n + length (cond (not c) (x ∷ xs) xs)
chosen true f kept written n x xs one other = one
chosen false f kept written n x xs one other = other

-- One item more on both sides, or on neither.
grown : {X Y : Type 0} (c : Bool) (n : ℕ) (x : X) (xs : List X) (y : Y) (ys : List Y)
    → n + length xs ≡ length ys → n + length (cond c (x ∷ xs) xs) ≡ length (cond c (y ∷ ys) ys)
grown true n x xs y ys same = omega arith
grown false n x xs y ys same = same

-- The words outside of a channel, with those of some offers.
pub counted-outside : (t number : ℕ) (untils : List ℕ) (offers : List Offer) (outside : List ℕ)
    → number < length outside
    → slice_index (fold (outside_with t untils) outside offers) number
    ≡ slice_index outside number + length (filter (λ (offer : Offer). offer.number == number
    && not (nat_lt t (slice_index untils number))) offers)
counted-outside t number untils [] outside within = omega arith
counted-outside t number untils (offer ∷ offers) outside within =
    let own = offer.number in
    let more = slice_index outside own + 1 in
    let written = slice_set outside own more in
    let size = length-set outside own more in
    let rest = counted-outside t number untils offers outside within in
    let later = counted-outside t number untils offers written (omega arith) in
    elim (cases_Bool (own == number)) [
      | inr other ↦
          let differs = eqb-false own number other in
          let kept = get_or-set_other outside own number more 0 (λ e. differs (sym e)) in
          elim (cases_Bool (nat_lt t (slice_index untils own))) [
            | inl is ↦ rw (is, other) rest
            | inr isnt ↦ rw (isnt, other) (omega arith)
          ]
      | inl here ↦
          let same : own ≡ number = eqb-true own number here in
          let read : slice_index written number ≡ more =
          ap (λ n. slice_index (slice_set outside n more) number) same
          ∙ get_or-set_same outside number more 0 within in
          let value : more ≡ slice_index outside number + 1 =
          ap (λ n. slice_index outside n + 1) same in
          let tests : nat_lt t (slice_index untils own) ≡ nat_lt t (slice_index untils number) =
          ap (λ n. nat_lt t (slice_index untils n)) same in
          rw (tests, here) (chosen (nat_lt t (slice_index untils number))
          (λ (list : List ℕ). slice_index (fold (outside_with t untils) list offers) number) outside
          written (slice_index outside number) offer _ rest (omega arith))
    ]

module _ (t cycles u : ℕ) (inside : t < cycles) (channel : Channel) (takes : WordRow → Bool)
    (late : (row : WordRow) → row.cycle ≡ t → takes row ≡ nat_lt t u) where
  -- The words of the channel before a cycle that no session takes.
  abbrev pub lost : ℕ → List WordRow → ℕ
  lost end rows = length (filter (λ (row : WordRow). nat_lt row.cycle end && not (takes row))
      (words_on rows channel))

  -- Those that are offered in the cycle.
  abbrev pub lost_in : List WordRow → ℕ
  lost_in rows = length (filter (λ (offer : Offer). offer.number == channel_number channel
      && not (nat_lt t u)) (filter (λ (offer : Offer). offer.cycle == t)
      (map offer_of (filter (λ (row : WordRow). nat_lt row.cycle cycles) rows))))

  -- One cycle more.
  pub lost-next : (rows : List WordRow) → lost t rows + lost_in rows ≡ lost (t + 1) rows
  lost-next [] = omega arith
  lost-next (row ∷ rows) =
      let rest = lost-next rows in
      let number = number-test channel row.channel in
      elim (cases_order row.cycle t) [
        | inr (inl less) ↦
            let skipped = ne_eqb row.cycle t (λ e. absurd (omega arith)) in
            let early = lt-ltb row.cycle cycles (omega arith) in
            let before = lt-ltb row.cycle t less in
            let after = lt-ltb row.cycle (t + 1) (omega arith) in
            elim (cases_Bool (is_channel channel row.channel)) [
              | inl own ↦ elim (cases_Bool (takes row)) [
                | inl taken ↦ rw (early, skipped, own, before, after, taken) rest
                | inr untaken ↦ rw (early, skipped, own, before, after, untaken) (omega arith)
              ]
              | inr other ↦ rw (early, skipped, other) rest
            ]
        | inr (inr more) ↦
            let skipped = ne_eqb row.cycle t (λ e. absurd (omega arith)) in
            let before = le-ltb row.cycle t (omega arith) in
            let after = le-ltb row.cycle (t + 1) (omega arith) in
            elim (cases_Bool (nat_lt row.cycle cycles)) [
              | inl early ↦ elim (cases_Bool (is_channel channel row.channel)) [
                | inl own ↦ rw (early, skipped, own, before, after) rest
                | inr other ↦ rw (early, skipped, other) rest
              ]
              | inr past ↦ elim (cases_Bool (is_channel channel row.channel)) [
                | inl own ↦ rw (past, own, before, after) rest
                | inr other ↦ rw (past, other) rest
              ]
            ]
        | inl same ↦
            let goes = eq-eqb row.cycle t same in
            let early = lt-ltb row.cycle cycles (omega arith) in
            let before = le-ltb row.cycle t (omega arith) in
            let after = lt-ltb row.cycle (t + 1) (omega arith) in
            let its = late row same in
            elim (cases_Bool (is_channel channel row.channel)) [
              | inr other ↦
                  let off = sym number ∙ other in rw (early, goes, off, other) rest
              | inl own ↦
                  let on = sym number ∙ own in
                  rw (early, goes, on, own, before, after, its)
                  (grown (not (nat_lt t u)) (lost t rows) (offer_of row) _ row _ rest)
            ]
      ]

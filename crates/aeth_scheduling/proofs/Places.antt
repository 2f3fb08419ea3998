-- How many words channels have.
use Rattle.std.proofs.Common.{◌≡◌, ◌≤◌, ◌<◌, ◌+◌, ◌*◌, ◌∙◌, ℕ, zero, suc, List, arith, ap, length}
use Rattle.std.proofs.Common.{get_or, map, refl, length-append}
use Rattle.std.proofs.lemmas.List.{length-map, FromFn.get_or-map-range_with_len}
use Rattle.std.specs.List.{range_with_len}
use Rattle.aeth_base.specs.declared.ids.Channel.{Channel}
use Rattle.aeth_base.specs.declared.ids.Side.TheVariants.{Back, Fwd}
use Rattle.aeth_trace.specs.{Limits.max_rows, Words.words_on, declared.words.WordRow.WordRow}
use Rattle.aeth_schedule.specs.Values.{values_of, values_on, values_with}
use Rattle.aeth_schedule.proofs.Places.{on-few, values-more}

-- The words of a connection's two channels.
pub with-count : (words : List WordRow) (c : ℕ) → length (values_with words c)
    ≡ length (words_on words (record { conn = record { 0 = c }; side = Fwd }))
    + length (words_on words (record { conn = record { 0 = c }; side = Back }))
with-count words c =
    let fwd : Channel = record { conn = record { 0 = c }; side = Fwd } in
    let back : Channel = record { conn = record { 0 = c }; side = Back } in
    rw (
      length-append (values_on words fwd) (values_on words back),
      length-map (words_on words fwd) (λ (row : WordRow). row.value),
      length-map (words_on words back) (λ (row : WordRow). row.value),
    ) refl

-- The words of one connection more.
pub values-count : (words : List WordRow) (n : ℕ) → length (values_of words (n + 1))
    ≡ length (values_of words n)
    + (length (words_on words (record { conn = record { 0 = n }; side = Fwd }))
    + length (words_on words (record { conn = record { 0 = n }; side = Back })))
values-count words n = rw (
  values-more words n,
  length-append (values_of words n) (values_with words n),
  with-count words n,
) refl

-- The channels of so many connections have no more words than twice so often the most rows.
pub values-few : (words : List WordRow) (n : ℕ) → length words ≤ max_rows
    → length (values_of words n) ≤ n * (2 * max_rows)
values-few words zero few = omega arith
values-few words (suc n) few =
    let before = values-few words n few in
    let fwd = on-few words (record { conn = record { 0 = n }; side = Fwd }) in
    let back = on-few words (record { conn = record { 0 = n }; side = Back }) in
    let next : suc n ≡ n + 1 = omega arith in
    let count = ap (λ (m : ℕ). length (values_of words m)) next ∙ values-count words n in
    omega arith

-- The place of a connection's words among the places of all.
pub place-at : (words : List WordRow) (starts : List ℕ) (c : ℕ)
    → starts ≡ map (λ d. length (values_of words d)) (range_with_len 0 (length starts))
    → c < length starts → get_or starts c 0 ≡ length (values_of words c)
place-at words starts c same within =
    ap (λ (xs : List ℕ). get_or xs c 0) same
    ∙ get_or-map-range_with_len (λ d. length (values_of words d)) 0 (length starts) c c 0 within (omega arith)

-- How many words the channels of one connection more have.
pub values-next : (words : List WordRow) (n : ℕ) → length (values_of words (n + 1))
    ≡ length (values_of words n) + length (values_with words n)
values-next words n = rw (values-more words n) (length-append (values_of words n) (values_with words n))

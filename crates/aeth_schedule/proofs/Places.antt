-- The words of channels, one more at a time.
use Rattle.std.proofs.Common.{◌≡◌, ◌≤◌, ◌++◌, ◌+◌, ◌∙◌, ℕ, suc, List, [], ◌∷◌, Some, ap, arith}
use Rattle.std.proofs.Common.{length, map, slice_get, sym, take, flat_map, append_assoc}
use Rattle.std.proofs.lemmas.List.{flat_map_more, map-append}
use Rattle.std.proofs.lemmas.List.Sums.{count_by-le-length, length-filter}
use Rattle.std.specs.List.{range_with_len}
use Rattle.aeth_base.{specs.declared.ids.Channel.Channel, proofs.Ranges.range_with_len-more}
use Rattle.aeth_group.proofs.ListLemmas.{take-at}
use Rattle.aeth_trace.specs.{Channels.is_channel, Words.words_on, declared.words.WordRow.WordRow}
use Rattle.aeth_schedule.specs.Values.{values_of, values_with}

-- A channel has no more words than there are.
pub on-few : (words : List WordRow) (channel : Channel)
    → length (words_on words channel) ≤ length words
on-few words channel = rw (length-filter (λ row. is_channel channel row.channel) words)
    (count_by-le-length (λ row. is_channel channel row.channel) words)

-- One connection more.
pub values-more : (words : List WordRow) (n : ℕ)
    → values_of words (n + 1) ≡ values_of words n ++ values_with words n
values-more words n =
    let more = range_with_len-more 0 n n (omega arith) in
    let next : n + 1 ≡ suc n = omega arith in
    let split = flat_map_more (values_with words) [] (range_with_len 0 n) n in
    rw next (ap (flat_map (values_with words)) more ∙ sym split)

-- One element more of a list is mapped.
pub map-take-more : {X Y : Type 0} (f : X → Y) (olds : List Y) (xs : List X) (k : ℕ) (x : X)
    → slice_get xs k ≡ Some x
    → (olds ++ map f (take k xs)) ++ f x ∷ [] ≡ olds ++ map f (take (k + 1) xs)
map-take-more f olds xs k x at =
    rw (take-at xs k x at, map-append f (take k xs) (x ∷ []))
    (append_assoc olds (map f (take k xs)) (f x ∷ []))

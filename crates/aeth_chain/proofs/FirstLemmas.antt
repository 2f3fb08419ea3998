-- What is offered on the first channel of a chain.
use Rattle.std.proofs.Common.{◌≡◌, ◌∙◌, ◌++◌, ◌<◌, ◌≤◌, ◌+◌, ℕ, Bool, true, List, [], ◌∷◌, Some}
use Rattle.std.proofs.Common.{cond, filter, length, map, slice_get, take, get_or, refl, sym, ap}
use Rattle.std.proofs.Common.{subst, inl, inr, arith, All, nat_lt, ltb-true, take_all}
use Rattle.std.proofs.lemmas.{Bool.cases_Bool, List.get_or-map, List.length-map, List.map-append}
use Rattle.std.proofs.lemmas.{List.Elements.All-cons, List.Elements.All-head, List.Elements.All-nil}
use Rattle.std.proofs.lemmas.{List.Elements.All-tail, List.Elements.filter-append}
use Rattle.std.proofs.lemmas.{List.Elements.filter_passes, List.Kept.IsNonDecreasingBy-filter}
use Rattle.std.proofs.lemmas.{List.Sums.length-filter, List.Sums.count_by-le-length}
use Rattle.std.specs.List.Sorted.{IsNonDecreasing, IsNonDecreasingBy}
use Rattle.aeth_base.specs.declared.ids.{Channel.Channel, Side.TheVariants.Fwd}
use Rattle.aeth_base.proofs.Lists.{take-slice_get}
use Rattle.aeth_trace.specs.{Channels.is_channel, Limits.max_rows, Words.words_on}
use Rattle.aeth_trace.specs.{declared.words.WordRow.WordRow}
use Rattle.aeth_chain.specs.{ChainRun.cycles_of, ChainRun.offer_of, Lanes.AreOffers}
use Rattle.aeth_chain.specs.{declared.passing.Offer.Offer}

module _ (cycles : ℕ) where
  abbrev early : WordRow → Bool
  early row = nat_lt row.cycle cycles

  -- one more word
  pub first-more : (words : List WordRow) (old new : List Offer) (place : ℕ) (row : WordRow)
      → slice_get words place ≡ Some row → old ≡ map offer_of (filter early (take place words))
      → new ≡ old ++ cond (early row) (offer_of row ∷ []) []
      → new ≡ map offer_of (filter early (take (place + 1) words))
  first-more words old new place row at same pushed =
      let one : map offer_of (filter early (row ∷ [])) ≡ cond (early row) (offer_of row ∷ []) [] =
      elim (cases_Bool (early row)) [
        | inl passes ↦ rw passes refl
        | inr fails ↦ rw fails refl
      ] in
      pushed ∙ ap (λ xs. xs ++ cond (early row) (offer_of row ∷ []) []) same
      ∙ ap (λ xs. map offer_of (filter early (take place words)) ++ xs) (sym one)
      ∙ sym (map-append offer_of (filter early (take place words)) (filter early (row ∷ [])))
      ∙ ap (map offer_of) (sym (filter-append early (take place words) (row ∷ [])))
      ∙ ap (λ xs. map offer_of (filter early xs)) (sym (take-slice_get words place row at))

  -- rows before the end are offers before it
  all-early : (rows : List WordRow) → All (λ row. early row ≡ true) rows
      → All (λ (offer : Offer). offer.cycle < cycles) (map offer_of rows)
  all-early [] are = All-nil (λ (offer : Offer). offer.cycle < cycles)
  all-early (row ∷ rows) are =
      All-cons (λ (offer : Offer). offer.cycle < cycles) (offer_of row) (map offer_of rows)
      (ltb-true row.cycle cycles (All-head (λ row. early row ≡ true) row rows are))
      (all-early rows (All-tail (λ row. early row ≡ true) row rows are))

  -- in their order
  rows-order : (rows : List WordRow) → IsNonDecreasingBy (λ row. row.cycle) rows
      → IsNonDecreasing (cycles_of (map offer_of rows))
  rows-order rows order i j default up within =
      let filler : WordRow = record {
        channel = record { conn = record { 0 = 0 }; side = Fwd };
        cycle = 0;
        value = 0;
      } in
      let size = length-map (map offer_of rows) (λ (offer : Offer). offer.cycle) in
      let count = length-map rows offer_of in
      let at : (k : ℕ) → k < length rows
      → get_or (cycles_of (map offer_of rows)) k default ≡ (get_or rows k filler).cycle = λ k low.
      get_or-map (λ (offer : Offer). offer.cycle) (map offer_of rows) k (offer_of filler) default
      (omega (arith, count, low))
      ∙ ap (λ (offer : Offer). offer.cycle) (get_or-map offer_of rows k filler (offer_of filler) low) in
      let one = at i (omega (arith, size, count, up, within)) in
      let other = at j (omega (arith, size, count, within)) in
      let rises = order i j filler up (omega (arith, size, count, within)) in
      omega (arith, one, other, rises)

  -- so they are offers of the run
  pub first-are : (words : List WordRow) (channel : Channel)
      → IsNonDecreasingBy (λ row. row.cycle) words → length words ≤ max_rows
      → AreOffers cycles (map offer_of (filter early (words_on words channel)))
  first-are words channel order few =
      let own = words_on words channel in
      let rises = IsNonDecreasingBy-filter (λ (row : WordRow). row.cycle) early
      (words_on words channel) (IsNonDecreasingBy-filter (λ (row : WordRow). row.cycle)
      (λ row. is_channel channel row.channel) words order) in
      let one = length-filter (λ (row : WordRow). is_channel channel row.channel) words in
      let ones = count_by-le-length (λ (row : WordRow). is_channel channel row.channel) words in
      let other = length-filter early (words_on words channel) in
      let others = count_by-le-length early (words_on words channel) in
      let size = length-map (filter early (words_on words channel)) offer_of in
      record {
        within = all-early (filter early (words_on words channel))
            (filter_passes early (words_on words channel));
        order = rows-order (filter early (words_on words channel)) rises;
        few = omega (arith, few, one, ones, other, others, size);
      }

  -- and so are all words of a channel, once they are gone through
  pub first-whole : (words : List WordRow) (channel : Channel) (offers : List Offer) (place : ℕ)
      → offers ≡ map offer_of (filter early (take place (words_on words channel)))
      → length (words_on words channel) ≤ place → IsNonDecreasingBy (λ row. row.cycle) words
      → length words ≤ max_rows → AreOffers cycles offers
  first-whole words channel offers place same all order few =
      let whole = same ∙ ap (λ rows. map offer_of (filter early rows))
      (take_all place (words_on words channel) all) in
      subst (AreOffers cycles) (sym whole) (first-are words channel order few)

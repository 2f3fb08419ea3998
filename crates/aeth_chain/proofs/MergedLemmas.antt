-- The rows of a channel among those that a chain offers: what is offered on it.
use Rattle.std.proofs.Common.{◌≡◌, ◌∙◌, ◌<◌, ◌≤◌, ◌+◌, ◌++◌, ℕ, zero, suc, true, false, List, []}
use Rattle.std.proofs.Common.{◌∷◌, Some, filter, flat_map, map, slice_get, refl, sym, ap, inl, inr}
use Rattle.std.proofs.Common.{arith, ◌==◌, All, nat_lt, eq-eqb, le-ltb, lt-ltb, ne_eqb, append-nil}
use Rattle.std.proofs.lemmas.Bool.{cases_eq, cases_lt, false_from_ne_true}
use Rattle.std.proofs.lemmas.List.{get_or-map, length-map, map-append}
use Rattle.std.proofs.lemmas.List.Elements.{All-head, All-tail, All-weaker, filter-append}
use Rattle.std.proofs.lemmas.Option.{same_Some}
use Rattle.std.proofs.lemmas.Grind.{flat_map-append}
use Rattle.std.specs.List.{range_with_len, Sorted.IsNonDecreasing, Sorted.IsNonDecreasingBy}
use Rattle.aeth_base.{specs.declared.ids.Channel.Channel, proofs.Ranges.range_with_len-more}
use Rattle.aeth_trace.specs.{Channels.is_channel, Words.words_on, declared.words.WordRow.WordRow}
use Rattle.aeth_trace.proofs.OrderLemmas.{first_least, later_rise}
use Rattle.aeth_report.proofs.ChannelLemmas.{is_channel-itself, same_channel}
use Rattle.aeth_chain.specs.{ChainInputs.offered_rows, ChainInputs.row_of, ChainInputs.rows_at}
use Rattle.aeth_chain.specs.{ChainRun.cycles_of, Chain.AreDistinct, Lanes.AreOffers}
use Rattle.aeth_chain.specs.{declared.item.ChainItem.ChainItem, declared.passing.Offer.Offer}

-- ---- offers by their cycles
abbrev at : Offer → ℕ
at offer = offer.cycle

abbrev early : ℕ → List Offer → List Offer
early n own = filter (λ offer. nat_lt offer.cycle n) own

abbrev now : ℕ → List Offer → List Offer
now n own = filter (λ offer. offer.cycle == n) own

-- None comes before the first.
none-early : (n : ℕ) (own : List Offer) → All (λ offer. n ≤ offer.cycle) own → early n own ≡ []
none-early n [] late = refl
none-early n (offer ∷ own) late =
    let here = All-head (λ (offer : Offer). n ≤ offer.cycle) offer own late in
    let rest = none-early n own (All-tail (λ (offer : Offer). n ≤ offer.cycle) offer own late) in
    rw (le-ltb offer.cycle n here) rest

none-now : (n : ℕ) (own : List Offer) → All (λ offer. n < offer.cycle) own → now n own ≡ []
none-now n [] late = refl
none-now n (offer ∷ own) late =
    let here = All-head (λ (offer : Offer). n < offer.cycle) offer own late in
    let rest = none-now n own (All-tail (λ (offer : Offer). n < offer.cycle) offer own late) in
    rw (ne_eqb offer.cycle n (λ same. omega (arith, here, same))) rest

-- Offers in their order up to a cycle are those before it and those in it.
early-next : (n : ℕ) (own : List Offer) → IsNonDecreasingBy at own
    → early n own ++ now n own ≡ early (n + 1) own
early-next n [] rises = refl
early-next n (offer ∷ own) rises =
    let rest = early-next n own (later_rise at offer own rises) in
    let least = first_least at offer own rises in
    elim (cases_lt offer.cycle n) [
      | inl before ↦
          rw (
            lt-ltb offer.cycle n before,
            lt-ltb offer.cycle (n + 1) (omega arith),
            ne_eqb offer.cycle n (λ same. omega (arith, before, same)),
          ) (ap (λ xs. offer ∷ xs) rest)
      | inr later ↦
          let none = none-early n own (All-weaker (λ (one : Offer). offer.cycle ≤ one.cycle)
          (λ one. n ≤ one.cycle) (λ one up. omega (arith, up, later)) own least) in
          elim (cases_eq offer.cycle n) [
            | inl here ↦
                let same : now n own ≡ early (n + 1) own =
                sym (ap (λ xs. xs ++ now n own) none) ∙ rest in
                rw (
                  le-ltb offer.cycle n later,
                  lt-ltb offer.cycle (n + 1) (omega arith),
                  eq-eqb offer.cycle n here,
                  none,
                ) (ap (λ xs. offer ∷ xs) same)
            | inr past ↦
                let nothing = none-now n own (All-weaker (λ (one : Offer). offer.cycle ≤ one.cycle)
                (λ one. n < one.cycle) (λ one up. omega (arith, up, later, past)) own least) in
                let same : now n own ≡ early (n + 1) own =
                sym (ap (λ xs. xs ++ now n own) none) ∙ rest in
                rw (
                  le-ltb offer.cycle n later,
                  le-ltb offer.cycle (n + 1) (omega arith),
                  ne_eqb offer.cycle n past,
                  none,
                ) same
          ]
    ]

-- So the offers of all cycles before one, cycle by cycle, are those before it.
by-cycle : (n : ℕ) (own : List Offer) → IsNonDecreasingBy at own
    → flat_map (λ t. now t own) (range_with_len 0 n) ≡ early n own
by-cycle zero own rises = sym (none-early 0 own (λ k d within. omega arith))
by-cycle (suc n) own rises =
    let next : suc n ≡ n + 1 = omega arith in
    let before = by-cycle n own rises in
    ap (flat_map (λ t. now t own)) (range_with_len-more 0 n n (omega arith))
    ∙ flat_map-append (λ t. now t own) (range_with_len 0 n) (n ∷ [])
    ∙ ap (λ xs. xs ++ (now n own ++ [])) before
    ∙ ap (λ xs. early n own ++ xs) (append-nil (now n own))
    ∙ early-next n own rises ∙ ap (λ m. early m own) (sym next)

-- All offers of a run are before its end.
all-early : (n : ℕ) (own : List Offer) → All (λ offer. offer.cycle < n) own → early n own ≡ own
all-early n [] within = refl
all-early n (offer ∷ own) within =
    let here = All-head (λ (offer : Offer). offer.cycle < n) offer own within in
    let rest = all-early n own (All-tail (λ (offer : Offer). offer.cycle < n) offer own within) in
    rw (lt-ltb offer.cycle n here) (ap (λ xs. offer ∷ xs) rest)

-- Offers in the order of their cycles.
offers-order : (own : List Offer) → IsNonDecreasing (cycles_of own) → IsNonDecreasingBy at own
offers-order own order i j none up within =
    let size = length-map own at in
    let one = get_or-map at own i none 0 (omega (arith, up, within)) in
    let other = get_or-map at own j none 0 within in
    let rises = order i j 0 up (omega (arith, size, within)) in
    omega (arith, one, other, rises)

-- ---- rows by their channels
abbrev on : Channel → List WordRow → List WordRow
on channel rows = words_on rows channel

-- rows of one channel are on it
on-own : (channel : Channel) (own : List Offer)
    → on channel (map (row_of channel) own) ≡ map (row_of channel) own
on-own channel [] = refl
on-own channel (offer ∷ own) =
    rw (is_channel-itself channel) (ap (λ xs. row_of channel offer ∷ xs) (on-own channel own))

-- and on no other
on-other : (channel other : Channel) (own : List Offer) → is_channel channel other ≡ false
    → on channel (map (row_of other) own) ≡ []
on-other channel other [] is = refl
on-other channel other (offer ∷ own) is = rw is (on-other channel other own is)

-- A channel that stands in no item has no rows.
on-none : (channel : Channel) (t : ℕ) (items : List ChainItem) (offers : List (List Offer))
    → ((i : ℕ) (item : ChainItem) → slice_get items i ≡ Some item
    → is_channel channel item.channel ≡ false) → on channel (rows_at t items offers) ≡ []
on-none channel t [] offers none = refl
on-none channel t (item ∷ items) [] none = refl
on-none channel t (item ∷ items) (own ∷ offers) none =
    filter-append (λ row. is_channel channel row.channel)
    (map (row_of item.channel) (now t own)) (rows_at t items offers)
    ∙ ap (λ xs. xs ++ on channel (rows_at t items offers))
    (on-other channel item.channel (now t own) (none 0 item refl))
    ∙ on-none channel t items offers (λ i one at. none (suc i) one at)

-- Rows of an item's channel in a cycle, where no two items have one channel.
on-item : (t : ℕ) (items : List ChainItem) (offers : List (List Offer)) (i : ℕ) (item : ChainItem)
    (own : List Offer) → slice_get items i ≡ Some item → slice_get offers i ≡ Some own
    → ((j : ℕ) (other : ChainItem) → slice_get items j ≡ Some other
    → is_channel item.channel other.channel ≡ true → j ≡ i)
    → on item.channel (rows_at t items offers) ≡ map (row_of item.channel) (now t own)
on-item t [] offers i item own at owns once = absurd (cc at)
on-item t (first ∷ items) [] i item own at owns once = absurd (cc owns)
on-item t (first ∷ items) (some ∷ offers) zero item own at owns once =
    let same : first ≡ item = same_Some first item at in
    let same_own : some ≡ own = same_Some some own owns in
    filter-append (λ row. is_channel item.channel row.channel)
    (map (row_of first.channel) (now t some)) (rows_at t items offers)
    ∙ ap (λ xs. on item.channel (map (row_of first.channel) (now t some)) ++ xs)
    (on-none item.channel t items offers (λ j other there.
    false_from_ne_true _ (λ is. absurd (omega (arith, once (suc j) other there is)))))
    ∙ append-nil (on item.channel (map (row_of first.channel) (now t some)))
    ∙ ap (λ (one : ChainItem). on item.channel (map (row_of one.channel) (now t some))) same
    ∙ ap (λ xs. on item.channel (map (row_of item.channel) (now t xs))) same_own
    ∙ on-own item.channel (now t own)
on-item t (first ∷ items) (some ∷ offers) (suc i) item own at owns once =
    filter-append (λ row. is_channel item.channel row.channel)
    (map (row_of first.channel) (now t some)) (rows_at t items offers)
    ∙ ap (λ xs. xs ++ on item.channel (rows_at t items offers))
    (on-other item.channel first.channel (now t some)
    (false_from_ne_true _ (λ is. absurd (omega (arith, once 0 first refl is)))))
    ∙ on-item t items offers i item own at owns (λ j other there is.
    let found = once (suc j) other there is in omega (arith, found))

-- Rows of a channel, cycle by cycle.
on-cycles : (channel : Channel) (rows : ℕ → List WordRow) (own : ℕ → List Offer)
    → ((t : ℕ) → on channel (rows t) ≡ map (row_of channel) (own t)) → (ts : List ℕ)
    → on channel (flat_map rows ts) ≡ map (row_of channel) (flat_map own ts)
on-cycles channel rows own same [] = refl
on-cycles channel rows own same (t ∷ ts) =
    filter-append (λ row. is_channel channel row.channel) (rows t) (flat_map rows ts)
    ∙ ap (λ xs. xs ++ on channel (flat_map rows ts)) (same t)
    ∙ ap (λ xs. map (row_of channel) (own t) ++ xs) (on-cycles channel rows own same ts)
    ∙ sym (map-append (row_of channel) (own t) (flat_map own ts))

-- The words of an item's channel are what is offered on it.
pub words-merged : (cycles : ℕ) (items : List ChainItem) (offers : List (List Offer)) (i : ℕ)
    (item : ChainItem) (own : List Offer) → slice_get items i ≡ Some item
    → slice_get offers i ≡ Some own → AreDistinct items → AreOffers cycles own
    → words_on (offered_rows cycles items offers) item.channel ≡ map (row_of item.channel) own
words-merged cycles items offers i item own at owns distinct are =
    on-cycles item.channel (λ t. rows_at t items offers) (λ t. now t own)
    (λ t. on-item t items offers i item own at owns
    (λ j other there is. distinct j i other item there at
    (sym (same_channel item.channel other.channel is)))) (range_with_len 0 cycles)
    ∙ ap (map (row_of item.channel))
    (by-cycle cycles own (offers-order own are.order) ∙ all-early cycles own are.within)

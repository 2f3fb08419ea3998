-- What the rules of a chain's items give.
use Rattle.std.proofs.Common.{◌≡◌, ◌∙◌, ◌<◌, ◌+◌, ℕ, zero, suc, Bool, true, false, List, [], ◌∷◌}
use Rattle.std.proofs.Common.{Some, cond, length, map, slice_get, take, refl, sym, ap, subst, inl}
use Rattle.std.proofs.Common.{inr, get_or, add-zero, arith, Ok, Err, ltb-true, get_or-take}
use Rattle.std.proofs.Common.{length-take}
use Rattle.std.proofs.lemmas.{Bool.both_ways, Bool.cases_order, Bool.not-true, List.get_or_default}
use Rattle.std.proofs.lemmas.{List.length-map, Option.get_or_from_slice_get}
use Rattle.std.proofs.lemmas.{Option.slice_get_within, Simd.map-map}
use Rattle.aeth_app.specs.App.{AppData}
use Rattle.aeth_group.proofs.ListLemmas.{any_from_passes}
use Rattle.aeth_trace.specs.Channels.{is_channel}
use Rattle.aeth_report.proofs.ChannelLemmas.{is_channel-itself}
use Rattle.aeth_chain.specs.{Chain.AreDistinct, declared.item.ChainItem.ChainItem}
use Rattle.aeth_chain.specs.{ChainItems.AreItemsOf, ChainItems.are_kept, ChainItems.channel_at}
use Rattle.aeth_chain.specs.{ChainItems.item_of, ChainItems.judged_by, ChainItems.keeps}
use Rattle.aeth_chain.specs.{ChainItems.no_item, Fault.broken_at, ItemNames.AreItemNames}
use Rattle.aeth_chain.specs.{ItemNames.AreWorks, declared.fault.ItemRule.ItemRule}
use Rattle.aeth_chain.specs.{declared.fault.ItemRule.TheVariants.NotInUse}
use Rattle.aeth_chain.specs.{declared.fault.ItemRule.TheVariants.Repeated}
use Rattle.aeth_chain.specs.{declared.fault.ItemRule.TheVariants.UnknownConnection}
use Rattle.aeth_chain.specs.{declared.names.ItemName.ItemName}

-- A rule that all keep holds at each place.
kept-all : (rule : ItemRule) (test : ℕ → Bool) (place : ℕ) (names : List ItemName)
    → are_kept rule test place names ≡ Ok tt → (i : ℕ) → i < length names
    → test (place + i) ≡ true
kept-all rule test place [] all i within = absurd (omega arith)
kept-all rule test place (one ∷ names) all i within =
    let cases : (b : Bool) → test place ≡ b
    → cond b (are_kept rule test (place + 1) names) (Err (broken_at rule (place + 1) one.name))
    ≡ Ok tt → (i : ℕ) → i < length (one ∷ names) → test (place + i) ≡ true =
    elim [
      | true ↦ λ here later. elim [
        | zero ↦ λ low. rw (add-zero place) here
        | suc k ↦ λ low. subst (λ n. test n ≡ true) (omega arith)
            (kept-all rule test (place + 1) names later k (omega arith))
      ]
      | false ↦ λ here later. cc
    ]
    in cases (test place) refl all i within

-- An item whose channel stands in an earlier one breaks the last rule.
earlier-breaks : (app : AppData) (u : ℕ) (items : List ChainItem) (i j : ℕ) (a b : ChainItem)
    → slice_get items i ≡ Some a → slice_get items j ≡ Some b → a.channel ≡ b.channel → i < j
    → keeps Repeated app u items j ≡ true → ⊥
earlier-breaks app u items i j a b at beside same before keeps =
    let own : channel_at items j ≡ a.channel =
    ap (λ (item : ChainItem). item.channel) (get_or_from_slice_get items j b no_item beside)
    ∙ sym same in
    let within = slice_get_within items j b beside in
    let size = length-take j items in
    let here : get_or (take j items) i a ≡ a =
    get_or-take j items i a before ∙ get_or_from_slice_get items i a a at in
    let found = any_from_passes (λ item. is_channel (channel_at items j) item.channel)
    (take j items) a (i, omega arith, here)
    (rw own (is_channel-itself a.channel)) in
    both_ways _ (not-true _ keeps) found

module _ (app : AppData) (u : ℕ) (names : List ItemName) (few : AreItemNames names)
    (known : judged_by UnknownConnection app u (map (item_of app) names) names ≡ Ok tt)
    (used : judged_by NotInUse app u (map (item_of app) names) names ≡ Ok tt)
    (once : judged_by Repeated app u (map (item_of app) names) names ≡ Ok tt) where
  abbrev items : List ChainItem
  items = map (item_of app) names

  -- What all items keep holds of each.
  each : (rule : ItemRule) → judged_by rule app u items names ≡ Ok tt → (i : ℕ)
      → i < length items → keeps rule app u items i ≡ true
  each rule all i within =
      let size = length-map names (item_of app) in
      let same : 0 + i ≡ i = omega arith in
      subst (λ n. keeps rule app u items n ≡ true) same
      (kept-all rule (keeps rule app u items) 0 names all i (omega arith))

  once-distinct : AreDistinct items
  once-distinct i j a b at beside same = elim (cases_order i j) [
    | inl equal ↦ equal
    | inr apart ↦ elim apart [
      | inl before ↦ absurd (earlier-breaks app u items i j a b at beside same before
          (each Repeated once j (slice_get_within items j b beside)))
      | inr behind ↦ absurd (earlier-breaks app u items j i b a beside at (sym same) behind
          (each Repeated once i (slice_get_within items i a at)))
    ]
  ]

  -- Items that keep the rules are items of the use case.
  pub kept-items : AreItemsOf app u items
  kept-items = record {
    few = let size = length-map names (item_of app) in let most = few.few in omega arith;
    works = subst AreWorks (sym (map-map (λ (item : ChainItem). item.work) (item_of app) names))
        few.works;
    known = λ k d within. rw (get_or_default items k d no_item within)
        (ltb-true _ _ (each UnknownConnection known k within));
    used = λ k d within. rw (get_or_default items k d no_item within)
        (each NotInUse used k within);
    distinct = once-distinct;
  }

-- Masks of taken slots: without grants, with one more, and with all; and those of slot tables.
use Rattle.std.proofs.Common.{◌≡◌, ◌∙◌, ◌<◌, ◌+◌, ◌*◌, ◌&&◌, ◌||◌, ℕ, zero, suc, Bool, true, false}
use Rattle.std.proofs.Common.{cond, List, [], ◌∷◌, All, Some, length, take, eqb, refl, sym, ap}
use Rattle.std.proofs.Common.{arith, ◌≤◌, ◌++◌, drop, get_or, inl, inr, map, subst, slice_get}
use Rattle.std.proofs.Common.{lt-ltb}
use Rattle.std.proofs.Math.{Bool.or-false, Nat.mul-le-mul_right}
use Rattle.std.proofs.lemmas.{Bool.cases_lt, List.Elements.Contains-get_or}
use Rattle.std.proofs.lemmas.{List.Folds.list_any-append, List.FromFn.get_or-map-range_with_len}
use Rattle.std.proofs.lemmas.{List.FromFn.length-map-range_with_len, Option.slice_get-get_or}
use Rattle.std.specs.List.{list_any, range_with_len}
use Rattle.aeth_base.proofs.{Filters.filter-none, Lists.take-slice_get, Lists.written_back}
use Rattle.aeth_base.proofs.{Members.filter-Contains, Ranges.range-Contains}
use Rattle.aeth_base.proofs.{Ranges.range_with_len-more}
use Rattle.aeth_base.specs.declared.ids.Unit.{Unit as GroupUnit}
use Rattle.aeth_slots.specs.SlotSet.{Slots, has_slot, joined, slots_where}
use Rattle.aeth_slots.proofs.TestLemmas.{has_slot-where, where-same}
use Rattle.aeth_chip.specs.{Chip.ChipData, declared.node.Link.Link}
use Rattle.aeth_group.specs.{Members.GroupsData, Members.has_unit, Occupation.enters}
use Rattle.aeth_group.specs.{Occupation.holds_in, Tables.Changes, Tables.IsTable, Tables.hits_row}
use Rattle.aeth_group.specs.{Tables.hits_uses, declared.grant.Grant.Grant}
use Rattle.aeth_group.proofs.TableLemmas.{either, table-same}
use Rattle.aeth_book.specs.{Book.BookData, Free.is_rival, Free.uses_with}
use Rattle.aeth_book.proofs.UseLemmas.{taken-uses}
use Rattle.aeth_paths.specs.Trials.{TrialData, book_of}
use Rattle.aeth_explain.specs.Masks.{AreTaken, is_held, takes}
use Rattle.aeth_explain.specs.SlotTables.{is_occupied, taken_by}

-- Masks without slots are those of no grant.
pub empty-table : (size links : ℕ) (masks : List Slots)
    → All (λ (mask : Slots). mask ≡ record { size = size; slots = [] }) masks
    → IsTable size links (λ (u l s : ℕ). false) masks
empty-table size links masks empty u l low within =
    let nothing : Slots = record { size = size; slots = [] } in
    slice_get-get_or masks (u * links + l) nothing within
    ∙ ap Some (empty (u * links + l) nothing within)
    ∙ ap (λ slots. Some (record { size = size; slots = slots }))
    (sym (filter-none (range_with_len 0 size)))

-- A table of one row has no other.
one-row : (u l links : ℕ) → l < links → u * links + l < links → u ≡ 0
one-row zero l links low within = refl
one-row (suc u) l links low within =
    let more : suc u * links ≡ links + u * links = omega arith in
    absurd (omega (arith, within, more))

module _ (links : List Link) (groups : GroupsData) (unit : GroupUnit) where
  only : (held hit : Bool) → (held || ((true && hit) || false)) ≡ cond hit true held
  only true true = refl
  only true false = refl
  only false true = refl
  only false false = refl

  none : (held hit : Bool) → (held || ((false && hit) || false)) ≡ held
  none true hit = refl
  none false hit = refl

  -- With one more grant that is a rival.
  pub held-more : (size : ℕ) (grants : List Grant) (i : ℕ) (grant : Grant) (old new : List Slots)
      → slice_get grants i ≡ Some grant → is_rival groups unit grant ≡ true
      → length new ≡ length links
      → Changes size (length links) (hits_row grant.slots links 0 grant.path) true old new
      → IsTable size (length links) (is_held links groups unit (take i grants)) old
      → IsTable size (length links) (is_held links groups unit (take (i + 1) grants)) new
  held-more size grants i grant old new at rival count puts table =
      table-same size (length links) _ (is_held links groups unit (take (i + 1) grants)) new
      (puts.table (is_held links groups unit (take i grants)) table)
      (λ u l s low within below.
      let first : u ≡ 0 = one-row u l (length links) low (omega (arith, within, count)) in
      let hit : Bool = enters grant.slots links 0 grant.path l s in
      let held : Bool = list_any (takes links groups unit l s) (take i grants) in
      ap (λ v. cond (eqb v 0 && hit) true held) first
      ∙ sym (ap (list_any (takes links groups unit l s)) (take-slice_get grants i grant at)
      ∙ list_any-append (takes links groups unit l s) (take i grants) (grant ∷ [])
      ∙ ap (λ r. held || ((r && hit) || false)) rival ∙ only held hit))

  -- With one more that isn't.
  pub held-same : (size : ℕ) (grants : List Grant) (i : ℕ) (grant : Grant) (masks : List Slots)
      → slice_get grants i ≡ Some grant → is_rival groups unit grant ≡ false
      → IsTable size (length links) (is_held links groups unit (take i grants)) masks
      → IsTable size (length links) (is_held links groups unit (take (i + 1) grants)) masks
  held-same size grants i grant masks at other table =
      table-same size (length links) (is_held links groups unit (take i grants))
      (is_held links groups unit (take (i + 1) grants)) masks
      table (λ u l s low within below.
      let hit : Bool = enters grant.slots links 0 grant.path l s in
      let held : Bool = list_any (takes links groups unit l s) (take i grants) in
      sym (ap (list_any (takes links groups unit l s)) (take-slice_get grants i grant at)
      ∙ list_any-append (takes links groups unit l s) (take i grants) (grant ∷ [])
      ∙ ap (λ r. held || ((r && hit) || false)) other ∙ none held hit))

module _ (links : List Link) (groups : GroupsData) where
  -- The row of a place within a table is one of its use cases.
  row-below : (u l rows : ℕ) → u * length links + l < rows * length links → u < rows
  row-below u l rows within = elim (cases_lt u rows) [
    | inl before ↦ before
    | inr past ↦ absurd (omega (arith, within, mul-le-mul_right (length links) past))
  ]

  -- Slot tables with one grant more.
  pub occupied-more : (size : ℕ) (grants : List Grant) (i : ℕ) (grant : Grant) (old new : List Slots)
      → slice_get grants i ≡ Some grant → length new ≡ length groups.uses * length links
      → Changes size (length links)
      (hits_uses grant.slots links groups grant.unit grant.path (length groups.uses)) true old new
      → IsTable size (length links) (is_occupied links groups (take i grants)) old
      → IsTable size (length links) (is_occupied links groups (take (i + 1) grants)) new
  occupied-more size grants i grant old new at rows puts table =
      table-same size (length links) _ (is_occupied links groups (take (i + 1) grants)) new
      (puts.table (is_occupied links groups (take i grants)) table)
      (λ u l s low within below.
      let holds : Bool = holds_in groups links u l s grant in
      let so_far : Bool = is_occupied links groups (take i grants) u l s in
      let row : u < length groups.uses =
      row-below u l (length groups.uses) (omega (arith, within, rows)) in
      ap (λ b. cond (b && holds) true so_far) (lt-ltb u (length groups.uses) row)
      ∙ sym (ap (list_any (holds_in groups links u l s)) (take-slice_get grants i grant at)
      ∙ list_any-append (holds_in groups links u l s) (take i grants) (grant ∷ [])
      ∙ ap (λ b. so_far || b) (or-false holds) ∙ either so_far holds))

  -- The use cases of a unit have a row each.
  pub rows-within : (unit : GroupUnit) (masks : List Slots)
      → length masks ≡ length groups.uses * length links
      → All (λ (u : ℕ). u * length links + length links ≤ length masks) (uses_with groups unit)
  rows-within unit masks rows k d low =
      let all : List ℕ = range_with_len 0 (length groups.uses) in
      let u : ℕ = get_or (uses_with groups unit) k d in
      let (among, has) = filter-Contains (has_unit groups unit) all u
      (Contains-get_or (uses_with groups unit) k d low) in
      let below : u < length groups.uses = range-Contains (length groups.uses) u among in
      let more : suc u * length links ≡ length links + u * length links = omega arith in
      let most = mul-le-mul_right (length links) below in
      omega (arith, more, most, rows)

  -- What they have are the slots of rivals.
  pub taken-rivals : (size : ℕ) (unit : GroupUnit) (grants : List Grant) (masks : List Slots)
      → length masks ≡ length links
      → IsTable size (length links)
      (λ (v l s : ℕ). list_any (λ u. is_occupied links groups grants u l s) (uses_with groups unit)) masks
      → IsTable size (length links) (is_held links groups unit grants) masks
  taken-rivals size unit grants masks count table =
      table-same size (length links) _ (is_held links groups unit grants) masks table
      (λ u l s low within below. taken-uses (record {
        size = size;
        links = links;
        groups = groups;
        grants = grants;
      }) unit l s)

-- The slots of a link in one use case more.
pub taken-more : (size : ℕ) (test : ℕ → ℕ → ℕ → Bool) (uses : List ℕ) (i u l : ℕ)
    → slice_get uses i ≡ Some u
    → joined (taken_by size test (take i uses) l) (slots_where size (test u l))
    ≡ taken_by size test (take (i + 1) uses) l
taken-more size test uses i u l at =
    let now : ℕ → Bool = λ s. list_any (λ v. test v l s) (take i uses) in
    where-same size
    (λ s. has_slot (slots_where size now) s || has_slot (slots_where size (test u l)) s)
    (λ s. list_any (λ v. test v l s) (take (i + 1) uses))
    (λ s below.
    ap (λ b. b || has_slot (slots_where size (test u l)) s) (has_slot-where size now s below)
    ∙ ap (λ b. now s || b) (has_slot-where size (test u l) s below ∙ sym (or-false (test u l s)))
    ∙ sym (list_any-append (λ v. test v l s) (take i uses) (u ∷ []))
    ∙ ap (list_any (λ v. test v l s)) (sym (take-slice_get uses i u at)))

-- One number more.
pub range-next : (n : ℕ) → range_with_len 0 (n + 1) ≡ range_with_len 0 n ++ n ∷ []
range-next n =
    let next : n + 1 ≡ suc n = omega arith in
    ap (range_with_len 0) next ∙ range_with_len-more 0 n n (omega arith)

-- No use case has any.
pub taken-none : (size : ℕ) (test : ℕ → ℕ → ℕ → Bool) (l : ℕ)
    → record { size = size; slots = [] } ≡ taken_by size test [] l
taken-none size test l = λ i. record {
  size = size;
  slots = sym (filter-none (range_with_len 0 size)) i;
}

-- Masks of all links are a table of one row.
pub row-table : (size links : ℕ) (test : ℕ → ℕ → ℕ → Bool) (uses : List ℕ) (masks : List Slots)
    (count : ℕ) → count ≡ links → masks ≡ map (taken_by size test uses) (range_with_len 0 count)
    → IsTable size links (λ (v l s : ℕ). list_any (λ u. test u l s) uses) masks
row-table size links test uses masks count all is u l low within =
    let size-of = length-map-range_with_len (taken_by size test uses) 0 count in
    let first : u ≡ 0 = one-row u l links low (omega (arith, within, ap length is, size-of, all)) in
    let none : 0 * links + l ≡ l = omega arith in
    let place : u * links + l ≡ l = ap (λ v. v * links + l) first ∙ none in
    let at : l < count = omega (arith, low, all) in
    ap (slice_get masks) place
    ∙ ap (λ ms. slice_get ms l) is
    ∙ slice_get-get_or (map (taken_by size test uses) (range_with_len 0 count)) l
    (taken_by size test uses l) (omega (arith, at, size-of))
    ∙ ap Some (get_or-map-range_with_len (taken_by size test uses) 0 count l l
    (taken_by size test uses l) at (omega arith))

-- With all grants of a book the masks have what is taken.
pub taken-from : (book : BookData) (unit : GroupUnit) (masks : List Slots)
    → length masks ≡ length book.links
    → IsTable book.size (length book.links) (is_held book.links book.groups unit book.grants) masks
    → AreTaken book unit masks
taken-from book unit masks count table = record {
  count = count;
  each = λ l low.
      let place : 0 * length book.links + l ≡ l = omega arith in
      ap (slice_get masks) (sym place) ∙ table 0 l low (omega (arith, low, count, place));
}

-- So they have once they are written back in a vector, with the grants of a try.
pub taken-after : (chip : ChipData) (groups : GroupsData) (trial : TrialData) (unit : GroupUnit)
    (grants : List Grant) (old new : List Slots) (count : ℕ) → unit ≡ trial.ask.unit
    → grants ≡ trial.grants → count ≡ length old → length old ≡ length chip.links
    → length new ≡ length chip.links
    → IsTable chip.slots (length chip.links) (is_held chip.links groups unit grants) new
    → AreTaken (book_of chip groups trial) trial.ask.unit
    (take count (new ++ drop (length new) old))
taken-after chip groups trial unit grants old new count own all size before after table =
    let book : BookData = book_of chip groups trial in
    subst (AreTaken book trial.ask.unit) (sym (written_back old new count size (after ∙ sym before)))
    (taken-from book trial.ask.unit new after
    (subst (λ (u : GroupUnit). IsTable chip.slots (length chip.links)
    (is_held chip.links groups u trial.grants) new) own
    (subst (λ (gs : List Grant). IsTable chip.slots (length chip.links)
    (is_held chip.links groups unit gs) new) all table)))

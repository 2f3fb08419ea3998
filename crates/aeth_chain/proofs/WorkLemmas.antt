-- The works of the items that a word tells.
use Rattle.std.proofs.Common.{◌≡◌, ◌∙◌, ◌==◌, ◌≤◌, ◌<◌, ◌+◌, ℕ, zero, suc, true, false, List, []}
use Rattle.std.proofs.Common.{◌∷◌, Option, Some, None, length, map, slice_get, refl, sym, ap, subst}
use Rattle.std.proofs.Common.{arith, nat_le, option_map, leb-true, ne_eqb}
use Rattle.std.proofs.lemmas.{Bool.and_parts, Option.none-some, Option.same_Some}
use Rattle.aeth_base.specs.{Name.name_of, declared.ids.Side.Side}
use Rattle.aeth_text.{specs.Fields.number_in, specs.Fields.side_in, specs.Grammar.both}
use Rattle.aeth_text.{specs.Grammar.parts, specs.Limits.comma, proofs.Readers.kept_some}
use Rattle.aeth_chain.specs.Limits.{colon, max_chain_items, max_work}
use Rattle.aeth_chain.specs.ItemNames.{AreItemNames, AreWorks, is_work, item_in, item_names_of}
use Rattle.aeth_chain.specs.ItemNames.{items_in, named_item, work_in}
use Rattle.aeth_chain.specs.declared.names.ItemName.{ItemName}
use Rattle.aeth_chain.proofs.WordLemmas.{few, parts-some}

-- ---- one item

-- A work between two others is 1 to 4,096.
work-inner : (words : List (List ℕ)) (work : ℕ) → work_in false words ≡ Some work
    → (1 ≤ work) × (work ≤ max_work)
work-inner [] work is = absurd (none-some work is)
work-inner (word ∷ []) work is =
    let passes = (kept_some is_work (number_in word) work is).1 in
    let both_ends = and_parts (nat_le 1 work) (nat_le work max_work) passes in
    (leb-true 1 work both_ends.0, leb-true work max_work both_ends.1)
work-inner (word ∷ other ∷ words) work is = absurd (none-some work is)

-- The last has none.
work-last : (words : List (List ℕ)) (work : ℕ) → work_in true words ≡ Some work → work ≡ 0
work-last [] work is = sym (same_Some 0 work is)
work-last (word ∷ words) work is = absurd (none-some work is)

-- An item has the work of its words.
named-work : (name : Option (List ℕ)) (side : Option Side) (work : Option ℕ) (one : ItemName)
    → named_item name side work ≡ Some one → work ≡ Some one.work
named-work None side work one is = absurd (none-some one is)
named-work (Some name) None work one is = absurd (none-some one is)
named-work (Some name) (Some side) None one is = absurd (none-some one is)
named-work (Some name) (Some side) (Some work) one is =
    ap (λ (it : ItemName). Some it.work) (same_Some _ one is)

item-inner : (words : List (List ℕ)) (one : ItemName) → item_in false words ≡ Some one
    → (1 ≤ one.work) × (one.work ≤ max_work)
item-inner [] one is = absurd (none-some one is)
item-inner (name ∷ []) one is = absurd (none-some one is)
item-inner (name ∷ side ∷ words) one is =
    work-inner words one.work
    (named-work (name_of name) (side_in side) (work_in false words) one is)

item-last : (words : List (List ℕ)) (one : ItemName) → item_in true words ≡ Some one
    → one.work ≡ 0
item-last [] one is = absurd (none-some one is)
item-last (name ∷ []) one is = absurd (none-some one is)
item-last (name ∷ side ∷ words) one is =
    work-last words one.work (named-work (name_of name) (side_in side) (work_in true words) one is)

-- ---- all items

-- Items that are told have a first one, and others behind it.
record Told (first : Option ItemName) (later : Option (List ItemName)) (names : List ItemName)
    : Type 0 where
  one : ItemName
  rest : List ItemName
  first_is : first ≡ Some one
  later_is : later ≡ Some rest
  names_are : names ≡ one ∷ rest

told : (first : Option ItemName) (later : Option (List ItemName)) (names : List ItemName)
    → option_map (λ p. p.0 ∷ p.1) (both first later) ≡ Some names → Told first later names
told None later names is = absurd (none-some names is)
told (Some one) None names is = absurd (none-some names is)
told (Some one) (Some rest) names is = record {
  one = one;
  rest = rest;
  first_is = refl;
  later_is = refl;
  names_are = sym (same_Some (one ∷ rest) names is);
}

-- An item before others.
works-more : (one : ItemName) (rest : List ItemName) → (1 ≤ one.work) × (one.work ≤ max_work)
    → AreWorks (map (λ (it : ItemName). it.work) rest)
    → AreWorks (map (λ (it : ItemName). it.work) (one ∷ rest))
works-more one [] inner works = absurd works
works-more one (next ∷ rest) inner works = (inner.0, inner.1, works)

items-works : (pieces : List (List ℕ)) (names : List ItemName) → 1 ≤ length pieces
    → items_in pieces ≡ Some names → AreWorks (map (λ (it : ItemName). it.work) names)
items-works [] names some is = absurd (omega arith)
items-works (piece ∷ []) names some is =
    let its = told (item_in true (parts colon piece)) (Some []) names is in
    let rest = same_Some [] its.rest its.later_is in
    subst (λ xs. AreWorks (map (λ (it : ItemName). it.work) xs))
    (ap (λ xs. its.one ∷ xs) rest ∙ sym its.names_are)
    (item-last (parts colon piece) its.one its.first_is)
items-works (piece ∷ next ∷ pieces) names some is =
    let its = told (item_in (length (next ∷ pieces) == 0) (parts colon piece))
    (items_in (next ∷ pieces)) names is in
    let inner : (length (next ∷ pieces) == 0) ≡ false =
    ne_eqb (length (next ∷ pieces)) 0 (λ none. absurd (omega (arith, none))) in
    let first : item_in false (parts colon piece) ≡ Some its.one =
    ap (λ last. item_in last (parts colon piece)) (sym inner) ∙ its.first_is in
    subst (λ xs. AreWorks (map (λ (it : ItemName). it.work) xs)) (sym its.names_are)
    (works-more its.one its.rest (item-inner (parts colon piece) its.one first)
    (items-works (next ∷ pieces) its.rest (omega arith) its.later_is))

-- What a word tells are items of a chain.
pub word-items : (word : List ℕ) (names : List ItemName) → item_names_of word ≡ Some names
    → AreItemNames names
unfolding item_names_of
word-items word names is =
    let (items, small) = kept_some few (items_in (parts comma word)) names is in
    record {
      few = leb-true (length names) max_chain_items small;
      works = items-works (parts comma word) names (parts-some comma word) items;
    }

-- ---- works at their places

-- Each work but the last is 1 to 4,096.
pub works-inner : (works : List ℕ) (i work : ℕ) → AreWorks works → slice_get works i ≡ Some work
    → i + 1 < length works → (1 ≤ work) × (work ≤ max_work)
works-inner [] i work are at inner = absurd are
works-inner (first ∷ []) i work are at inner = absurd (omega arith)
works-inner (first ∷ next ∷ works) zero work are at inner =
    let same = same_Some first work at in
    (subst (λ n. 1 ≤ n) same are.0, subst (λ n. n ≤ max_work) same are.1)
works-inner (first ∷ next ∷ works) (suc i) work are at inner =
    works-inner (next ∷ works) i work are.2 at (omega arith)

-- The last is 0.
pub works-last : (works : List ℕ) (i work : ℕ) → AreWorks works → slice_get works i ≡ Some work
    → i + 1 ≡ length works → work ≡ 0
works-last [] i work are at last = absurd are
works-last (first ∷ []) zero work are at last = sym (same_Some first work at) ∙ are
works-last (first ∷ []) (suc i) work are at last = absurd (omega arith)
works-last (first ∷ next ∷ works) zero work are at last = absurd (omega arith)
works-last (first ∷ next ∷ works) (suc i) work are at last =
    works-last (next ∷ works) i work are.2 at (omega arith)

-- There is one.
pub works-some : (works : List ℕ) → AreWorks works → 1 ≤ length works
works-some [] are = absurd are
works-some (first ∷ works) are = omega arith

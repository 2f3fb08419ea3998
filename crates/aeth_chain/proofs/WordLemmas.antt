-- The pieces of a word, and the items that they tell.
use Rattle.std.proofs.Common.{◌≡◌, ◌∙◌, ◌==◌, ◌++◌, ◌≤◌, ℕ, Bool, true, false, List, [], ◌∷◌}
use Rattle.std.proofs.Common.{Option, Some, None, length, not, refl, sym, ap, arith, append_assoc}
use Rattle.std.proofs.Common.{append-nil, length-append, is_none, is_some, nat_le, option_map}
use Rattle.std.proofs.Common.{le-leb, ne_eqb, true≢false}
use Rattle.std.proofs.lemmas.Bool.{cond-false, cond-true, false≢true, lt-leb}
use Rattle.std.proofs.lemmas.List.Splits.{length-slice_split}
use Rattle.std.specs.Borrow.{Bor}
use Rattle.aeth_text.{specs.Grammar.both, specs.Grammar.kept, specs.Grammar.parts}
use Rattle.aeth_text.{specs.Grammar.words_left, proofs.Fronts.with_front, specs.Limits.comma}
use Rattle.aeth_chain.specs.{Limits.colon, Limits.max_chain_items, ItemNames.item_in}
use Rattle.aeth_chain.specs.{ItemNames.items_in, declared.names.ItemName.ItemName}

-- A text has a part at least.
pub parts-some : (separator : ℕ) (text : List ℕ) → 1 ≤ length (parts separator text)
parts-some separator text =
    let count = length-slice_split (λ byte. byte == separator) text in omega (arith, count)

-- No word is left exactly where no text is.
pub last-is : (separator : ℕ) (rest : Option (Bor (List ℕ)))
    → is_none rest ≡ (length (words_left separator rest) == 0)
last-is separator None = refl
last-is separator (Some text) =
    let some = parts-some separator text.now in
    sym (ne_eqb (length (parts separator text.now)) 0 (λ none. absurd (omega (arith, none, some))))

-- The test of a rest that is none.
pub none-is : (rest : Option (Bor (List ℕ))) (test : Bool) → is_some rest ≡ not test
    → test ≡ is_none rest
none-is None true is = refl
none-is None false is = absurd (false≢true is)
none-is (Some text) true is = absurd (true≢false is)
none-is (Some text) false is = refl

-- One more item is read behind the front.
pub front-more : (front : List ItemName) (item : ItemName) (later : Option (List ItemName))
    → with_front front (option_map (λ p. p.0 ∷ p.1) (both (Some item) later))
    ≡ with_front (front ++ item ∷ []) later
front-more front item None = refl
front-more front item (Some items) = ap Some (sym (append_assoc front (item ∷ []) items))

-- Nothing stands in front of all.
pub front-nil : (later : Option (List ItemName)) → with_front [] later ≡ later
front-nil None = refl
front-nil (Some items) = refl

-- What is told by the piece that comes next, and by those behind it.
next-told : (front : List ItemName) (left rest : Option (Bor (List ℕ))) (piece : List ℕ)
    (told : Option ItemName) → words_left comma left ≡ piece ∷ words_left comma rest
    → told ≡ item_in (is_none rest) (parts colon piece)
    → with_front front (items_in (words_left comma left)) ≡ with_front front
    (option_map (λ p. p.0 ∷ p.1) (both told (items_in (words_left comma rest))))
next-told front left rest piece told is tells =
    ap (λ pieces. with_front front (items_in pieces)) is
    ∙ ap (λ one. with_front front
    (option_map (λ p. p.0 ∷ p.1) (both one (items_in (words_left comma rest)))))
    (ap (λ last. item_in last (parts colon piece)) (sym (last-is comma rest)) ∙ sym tells)

-- An item comes next.
pub next-item : (front : List ItemName) (left rest : Option (Bor (List ℕ))) (piece : List ℕ)
    (item : ItemName) → words_left comma left ≡ piece ∷ words_left comma rest
    → Some item ≡ item_in (is_none rest) (parts colon piece)
    → with_front front (items_in (words_left comma left))
    ≡ with_front (front ++ item ∷ []) (items_in (words_left comma rest))
next-item front left rest piece item is tells =
    next-told front left rest piece (Some item) is tells
    ∙ front-more front item (items_in (words_left comma rest))

-- The next piece is no item.
pub next-none : (front : List ItemName) (left rest : Option (Bor (List ℕ))) (piece : List ℕ)
    → words_left comma left ≡ piece ∷ words_left comma rest
    → None ≡ item_in (is_none rest) (parts colon piece)
    → with_front front (items_in (words_left comma left)) ≡ None
next-none front left rest piece is tells = next-told front left rest piece None is tells

-- Items that are few enough are kept, and others aren't.
abbrev pub few : List ItemName → Bool
few names = nat_le (length names) max_chain_items

pub kept-few : (names : List ItemName) → length names ≤ max_chain_items
    → kept few (with_front names (Some [])) ≡ Some names
kept-few names small =
    rw (append-nil names)
    (cond-true (few names) (Some names) None (le-leb (length names) max_chain_items small))

kept-more : (front : List ItemName) (item : ItemName) (later : Option (List ItemName))
    → max_chain_items ≤ length front → kept few (with_front (front ++ item ∷ []) later) ≡ None
kept-more front item None many = refl
kept-more front item (Some items) many =
    let all = (front ++ item ∷ []) ++ items in
    let size = length-append (front ++ item ∷ []) items in
    let own = length-append front (item ∷ []) in
    cond-false (few all) (Some all) None
    (lt-leb (length all) max_chain_items (omega (arith, size, own, many)))

pub kept-many : (front : List ItemName) (left rest : Option (Bor (List ℕ))) (piece : List ℕ)
    (item : ItemName) → words_left comma left ≡ piece ∷ words_left comma rest
    → Some item ≡ item_in (is_none rest) (parts colon piece) → max_chain_items ≤ length front
    → kept few (with_front front (items_in (words_left comma left))) ≡ None
kept-many front left rest piece item is tells many =
    ap (kept few) (next-item front left rest piece item is tells)
    ∙ kept-more front item (items_in (words_left comma rest)) many

-- Where a text is left there is a word.
first-word : (words : List (List ℕ)) → 1 ≤ length words
    → (word : List ℕ) × (others : List (List ℕ)) × (words ≡ word ∷ others)
first-word [] more = absurd (omega arith)
first-word (word ∷ others) more = (word, others, refl)

pub words-some : (separator : ℕ) (rest : Option (Bor (List ℕ))) → is_none rest ≡ false
    → (word : List ℕ) × (others : List (List ℕ)) × (words_left separator rest ≡ word ∷ others)
words-some separator None some = absurd (true≢false some)
words-some separator (Some text) some =
    first-word (parts separator text.now) (parts-some separator text.now)

pub words-more : (separator : ℕ) (rest : Option (Bor (List ℕ))) → is_some rest ≡ true
    → (word : List ℕ) × (others : List (List ℕ)) × (words_left separator rest ≡ word ∷ others)
words-more separator None some = absurd (false≢true some)
words-more separator (Some text) some =
    first-word (parts separator text.now) (parts-some separator text.now)

-- Laws of stretches of values.
use Rattle.std.proofs.Common.{◌≡◌, ◌≤◌, ◌∙◌, ℕ, ◌+◌, ◌-◌, List, ◌++◌, length, take, drop, sym, ap}
use Rattle.std.proofs.Common.{arith, drop-drop, length-drop, length-take, take-take}
use Rattle.std.proofs.Math.Seq.{take-add}
use Rattle.std.proofs.lemmas.List.{drop-take}
use Rattle.aeth_invariant.specs.Carried.{words_from}

-- So many values are there.
pub length-words_from : (values : List ℕ) (first count : ℕ) → first + count ≤ length values
    → length (words_from values first count) ≡ count
length-words_from values first count within =
    let some = length-take count (drop first values) in
    let left = length-drop first values in
    omega arith

-- The same stretch.
pub same_words : (values : List ℕ) (first count other number : ℕ) → first ≡ other → count ≡ number
    → words_from values first count ≡ words_from values other number
same_words values first count other number firsts counts =
    ap (λ (n : ℕ). words_from values n count) firsts
    ∙ ap (λ (n : ℕ). words_from values other n) counts

-- A stretch and the next one.
pub words_from-append : (values : List ℕ) (first count next more all : ℕ) → next ≡ first + count
    → all ≡ count + more
    → words_from values first count ++ words_from values next more ≡ words_from values first all
words_from-append values first count next more all ahead sum =
    ap (λ (n : ℕ). words_from values first count ++ take more (drop n values)) ahead
    ∙ ap (λ (ws : List ℕ). words_from values first count ++ take more ws)
    (sym (drop-drop count first values))
    ∙ sym (take-add count more (drop first values))
    ∙ ap (λ (n : ℕ). words_from values first n) (sym sum)

-- What is left of a stretch behind some values.
pub drop-words_from : (gone : ℕ) (values : List ℕ) (first count next left : ℕ) → next ≡ first + gone
    → left ≡ count - gone → gone ≤ count
    → drop gone (words_from values first count) ≡ words_from values next left
drop-words_from gone values first count next left ahead rest within =
    let parts : count ≡ gone + left = omega arith in
    ap (λ (n : ℕ). drop gone (words_from values first n)) parts
    ∙ drop-take gone left (drop first values)
    ∙ ap (λ (ws : List ℕ). take left ws) (drop-drop gone first values)
    ∙ ap (λ (n : ℕ). words_from values n left) (sym ahead)

-- The first values of a stretch.
pub take-words_from : (few : ℕ) (values : List ℕ) (first count : ℕ) → few ≤ count
    → take few (words_from values first count) ≡ words_from values first few
take-words_from few values first count within = take-take few count (drop first values) within

-- Laws of texts that are put behind each other, one for each number below a count.
use Rattle.std.proofs.Common.{◌≡◌, ◌∙◌, ◌<◌, ◌≤◌, ◌+◌, ◌-◌, ℕ, ◌++◌, List, ap, sym, append_assoc}
use Rattle.std.proofs.Common.{append-nil, arith}
use Rattle.std.specs.List.{flat_map, range_with_len}
use Rattle.aeth_base.proofs.Ranges.{range_more}
use Rattle.aeth_demo.specs.Pieces.{texts_below}

-- The texts of the numbers from i on and below n.
unfoldable pub texts_from : (ℕ → List ℕ) → ℕ → ℕ → List ℕ
texts_from f n i = flat_map f (range_with_len i (n - i))

-- At first all texts are still to come.
pub text-begin : (f : ℕ → List ℕ) (before : List ℕ) (n : ℕ)
    → before ++ texts_from f n 0 ≡ before ++ texts_below f n
unfolding texts_from texts_below
text-begin f before n =
    let all : n - 0 ≡ n = omega arith in
    ap (λ count. before ++ flat_map f (range_with_len 0 count)) all

-- Once the text of the next number was put behind a text, the others are still to come.
pub text-more : (f : ℕ → List ℕ) (before after whole : List ℕ) (n i : ℕ) → i < n
    → before ++ texts_from f n i ≡ whole → after ≡ before ++ f i
    → after ++ texts_from f n (i + 1) ≡ whole
unfolding texts_from
text-more f before after whole n i within so_far put =
    let rest = texts_from f n (i + 1) in
    ap (λ text. text ++ rest) put ∙ append_assoc before (f i) rest
    ∙ sym (ap (λ numbers. before ++ flat_map f numbers) (range_more i n within)) ∙ so_far

-- Where no number is left, all texts are there.
pub text-end : (f : ℕ → List ℕ) (before whole : List ℕ) (n i : ℕ) → n ≤ i
    → before ++ texts_from f n i ≡ whole → before ≡ whole
unfolding texts_from
text-end f before whole n i past so_far =
    let none : n - i ≡ 0 = omega (arith, past) in
    sym (append-nil before) ∙ (rw none at so_far)

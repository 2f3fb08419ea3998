-- Laws of a file that is read piece by piece.
use Rattle.std.proofs.Common.{◌≡◌, ◌∙◌, ◌+◌, ◌≤◌, ◌++◌, ℕ, List, length, take, drop, ap, sym, arith}
use Rattle.std.proofs.Common.{length-append, length-take, take_all}
use Rattle.std.proofs.Math.Seq.{take-add}
use Rattle.aeth_io.specs.Shelf.{ReadsFrom}

-- The text is the first bytes of the file.
pub record IsReadSoFar (bytes text : List ℕ) : Type 0 where
  pub front : take (length text) bytes ≡ text

-- What is read is no longer than the file.
pub read_so_far-le : (bytes text : List ℕ) → IsReadSoFar bytes text → length text ≤ length bytes
read_so_far-le bytes text read =
    omega (arith, length-take (length text) bytes, ap length read.front)

-- The next bytes are put behind it.
pub read_so_far-more : (bytes text into : List ℕ) (n : ℕ) → IsReadSoFar bytes text
    → n ≤ length into → ReadsFrom bytes (length text) n into
    → IsReadSoFar bytes (text ++ take n into)
read_so_far-more bytes text into n read within reads =
    let taken : length (take n into) ≡ n = omega (arith, length-take n into) in
    let longer : length (text ++ take n into) ≡ length text + n =
    length-append text (take n into) ∙ ap (λ k. length text + k) taken in
    record {
      front = ap (λ k. take k bytes) longer ∙ take-add (length text) n bytes
          ∙ ap (λ front. front ++ take n (drop (length text) bytes)) read.front
          ∙ ap (λ next. text ++ next) (sym reads);
    }

-- At the end it is the file.
pub read_so_far-end : (bytes text : List ℕ) → IsReadSoFar bytes text
    → length bytes ≤ length text → text ≡ bytes
read_so_far-end bytes text read ended = sym read.front ∙ take_all (length text) bytes ended

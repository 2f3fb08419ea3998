use Rattle.std.proofs.Common.{◌≡◌, ◌<◌, ◌++◌, ℕ, List}
use Rattle.aeth_demo.specs.{Draws.generator_modulus, Draws.number_after, Limits.demo_words}
use Rattle.aeth_demo.specs.{Traces.word_text, Pieces.texts_below}
use Rattle.aeth_demo.proofs.Loops.{texts_from}
use Rattle.aeth_demo.proofs.traces.push_words.Given as goal

-- The number after so many draws, and the words: what is there and what is still to come.
pub record Drawing (first i x : ℕ) (before text : List ℕ) : Type 0 where
  pub number : x ≡ number_after first i
  pub below : x < generator_modulus
  pub words : text ++ texts_from (word_text first) demo_words i
      ≡ before ++ texts_below (word_text first) demo_words

abbrev pub invariant-loop-i : goal.invariant-loop-i
invariant-loop-i l = Drawing l.first l.i l.x l.fn.text.items l.text.items

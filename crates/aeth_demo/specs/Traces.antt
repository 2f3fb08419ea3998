-- The traces: a word in every other cycle on a connection that is drawn, receivers as usual, and a
-- switch in every 5,000 cycles.
-- This project's own.
use Rattle.std.proofs.Common.{ℕ, ◌*◌, ◌++◌, List, codes, decimal}
use Rattle.aeth_demo.specs.{Draws.drawn, Draws.number_after, Limits.demo_connections}
use Rattle.aeth_demo.specs.{Limits.demo_words, Pieces.texts_below}

-- The row of word i on a connection.
abbrev pub word_row : ℕ → ℕ → List ℕ
word_row connection i =
    codes "c" ++ decimal connection ++ codes ",fwd," ++ decimal (2 * i) ++ codes "," ++ decimal i
    ++ codes "\n"

-- Word i, of draw i from a number on.
abbrev pub word_text : ℕ → ℕ → List ℕ
word_text x i = word_row (drawn x i demo_connections) i

-- The file of words that are drawn from a number on.
unfoldable pub words_from : ℕ → List ℕ
words_from x =
    codes "connection,side,cycle,value\n" ++ texts_below (word_text x) demo_words

-- The file of words: their draws come after those of the four shifts.
abbrev pub words_text : ℕ → List ℕ
words_text n = words_from (number_after n 4)

-- The receivers' file has its header alone.
abbrev pub receivers_text : List ℕ
receivers_text = codes "connection,side,cycle,pull\n"

-- The file of switches.
abbrev pub switches_text : List ℕ
switches_text = codes "cycle,use,drain\n0,u0,0\n5000,u1,16\n10000,u2,16\n15000,u3,16\n"

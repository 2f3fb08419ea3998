use Rattle.std.proofs.Common.{◌≡◌, ◌∙◌, ◌+◌, ◌++◌, refl, ap, sym, arith}
use Rattle.aeth_demo.{specs.Draws.next_number, specs.Draws.number_after, specs.Draws.part_of}
use Rattle.aeth_demo.{specs.Limits.demo_connections, specs.Limits.demo_words, specs.Traces.word_row}
use Rattle.aeth_demo.{specs.Traces.word_text, proofs.DrawLemmas.number_after-more}
use Rattle.aeth_demo.{proofs.Loops.text-begin, proofs.Loops.text-end, proofs.Loops.text-more}
use Rattle.aeth_demo.proofs.traces.push_words.Goals as goal

-- No draw was made yet.
pub loop-i-init : goal.loop-i-init
unfolding number_after
loop-i-init c = record {
  number = refl;
  below = c.requires;
  words = text-begin (word_text c.args.first) c.args.text.now.items demo_words;
}

-- One draw and one word more.
pub loop-i-preserved : goal.loop-i-preserved
loop-i-preserved c =
    let within = c.loop-i-test.true in
    let i = c.loop-i.i in
    let first = c.args.first in
    let so_far = c.loop-i.invariant in
    let number : c.next_number-x.result ≡ number_after first (i + 1) =
    c.next_number-x.ensures.next ∙ ap next_number so_far.number
    ∙ sym (number_after-more first i) in
    let drawn = c.part_of.ensures.part ∙ ap (part_of demo_connections) number in
    record {
      number = number;
      below = c.next_number-x.ensures.below;
      words = text-more (word_text first) _ _ _ demo_words i (omega arith) so_far.words
          (c.in_ok-push_word.ensures
          ∙ ap (λ connection. c.loop-i.text.items ++ word_row connection i) drawn);
    }

-- All words are there.
pub returns : goal.returns
returns c =
    let past = c.loop-i-test.false in
    text-end (word_text c.args.first) _ _ demo_words c.loop-i.i (omega arith)
    c.loop-i.invariant.words

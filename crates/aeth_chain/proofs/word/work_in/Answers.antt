use Rattle.std.proofs.Common.{◌∙◌, refl, sym}
use Rattle.aeth_chain.specs.Limits.{colon}
use Rattle.aeth_chain.proofs.WordLemmas.{none-is, words-more, words-some}
use Rattle.aeth_chain.proofs.word.work_in.Goals as goal

-- The last item has a word behind its side.
pub returns-else-is_none : goal.returns-else-is_none
returns-else-is_none c =
    let (word, others, left) = words-some colon c.args.words
    (sym (none-is c.args.words c.is_none.result c.is_none.ensures) ∙ c.if-is_none.false) in
    rw (c.if-last.true, left) refl

-- Another item has two.
pub returns-then-is_some : goal.returns-then-is_some
returns-then-is_some c =
    let (word, others, left) = words-more colon c.in_ok-work.rest
    (sym c.is_some.ensures ∙ c.if-is_some.true) in
    rw (c.if-last.false, c.in_ok-work.ensures, left) refl

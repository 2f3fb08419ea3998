use Rattle.std.proofs.Common.{◌∙◌, ◌++◌, ◌∷◌, [], arith, length, length-append, map, sym}
use Rattle.std.proofs.Common.{append_assoc}
use Rattle.aeth_document.specs.{Arrays.texts_in, Walks.repeats}
use Rattle.aeth_document.proofs.TextLemmas.{front_kept}
use Rattle.aeth_document.proofs.WalkLemmas.{goes_on-none, walked-append, walked-ended, walked-nil}
use Rattle.aeth_document.proofs.names.repeats.Goals as goal

-- Where the walk has stopped, the texts that are left don't change it.
pub returns-then-not-goes_on-clause-walk : goal.returns-then-not-goes_on-clause-walk
returns-then-not-goes_on-clause-walk c =
    let seen = map (λ t. t.now) c.loop-text.seen.keys in
    let more = repeats (seen ++ c.in-Some.text.now ∷ []) (texts_in c.next.new.self) in
    let before = rw c.in-Some.ensures.steps at c.loop-text.invariant.walk in
    let ended = rw c.check-walk.ensures at (sym c.if-not-goes_on.ensures) in
    c.check-walk.ensures ∙ walked-ended c.loop-text.walk c.in_ok-repeated.field-0 more ended
    ∙ rw c.in_ok-repeated.ensures.shown before

-- Where it goes on, the text is new, and stands at the end of the set.
pub loop-text-preserved : goal.loop-text-preserved
loop-text-preserved c =
    let seen = map (λ t. t.now) c.loop-text.seen.keys in
    let before = rw c.in-Some.ensures.steps at c.loop-text.invariant in
    let going = rw c.check-walk.ensures at (sym c.if-not-goes_on.ensures) in
    let new = goes_on-none c.loop-text.walk c.in_ok-repeated.field-0 going in
    let set = c.in_ok-repeated.ensures.seen new in
    record {
      walk = rw (c.check-walk.ensures, set, walked-append, c.in_ok-repeated.ensures.shown)
          before.walk;
      seen = rw (set, append_assoc seen (c.in-Some.text.now ∷ []) (texts_in c.next.new.self))
          before.seen;
      within =
          rw (set, length-append seen (c.in-Some.text.now ∷ [])) (omega (arith, before.within));
      front = front_kept c.in_ok-repeated.field-0 (length c.args.seen.now.keys) _ seen _ c.in-Some.text.now
          c.in_ok-repeated.ensures.seen c.in_ok-repeated.ensures.known before.within before.front;
    }

-- No text is left.
pub returns-clause-walk : goal.returns-clause-walk
returns-clause-walk c =
    sym (walked-nil c.loop-text.walk) ∙ rw c.in-None.ensures.steps.0 at c.loop-text.invariant.walk

-- The first texts stay where the walk has stopped.
pub returns-then-not-goes_on-clause-front : goal.returns-then-not-goes_on-clause-front
returns-then-not-goes_on-clause-front c =
    let seen = map (λ t. t.now) c.loop-text.seen.keys in
    front_kept c.in_ok-repeated.field-0 (length c.args.seen.now.keys) _ seen _ c.in-Some.text.now
    c.in_ok-repeated.ensures.seen c.in_ok-repeated.ensures.known c.loop-text.invariant.within
    c.loop-text.invariant.front

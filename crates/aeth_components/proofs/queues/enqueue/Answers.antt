use Rattle.std.proofs.Common.{◌≡◌, ◌<◌, ◌+◌, ◌++◌, ◌∙◌, ℕ, List, [], ◌∷◌, length, take, get_or, ap}
use Rattle.std.proofs.Common.{append_assoc, arith, length-append, sym, true, false, length-take-le}
use Rattle.std.proofs.lemmas.List.{take_more}
use Rattle.aeth_ni.proofs.InterfaceLemmas.{length-with_queue}
use Rattle.aeth_ni.specs.{Interface.InterfaceState, Interface.changed, Interface.queue_at}
use Rattle.aeth_ni.specs.{Limits.waiting_words, Queue.offered}
use Rattle.aeth_components.proofs.QueueLemmas.{changed-changed, length-with_waiting, with_waiting}
use Rattle.aeth_components.proofs.queues.enqueue.Goals as goal

-- One word more is enqueued.
pub loop-word-preserved : goal.loop-word-preserved
loop-word-preserved c =
    let ni = c.args.ni.now in
    let number = c.args.queue in
    let place = c.loop-word.word-index in
    let words = c.args.words.now in
    let before = (queue_at ni.queues number).waiting in
    let now = before ++ take place words in
    let word = get_or words place 0 in
    let here = c.if-not-offer.ensures in
    let size = here.interface.count in
    let same = ap (λ (state : InterfaceState). length state.queues) c.loop-word.invariant.ni
    ∙ length-with_queue number (with_waiting now) ni.queues in
    let within : number < length ni.queues = omega arith in
    let waiting : length (queue_at c.loop-word.ni.queues number).waiting
    ≡ length before + place =
    length-with_waiting number now ni c.loop-word.ni within c.loop-word.invariant.ni
    ∙ length-append before (take place words)
    ∙ ap (λ n. length before + n) (length-take-le place words (omega arith)) in
    let free : length before + place ≡ waiting_words → ⊥ =
    λ full. absurd (let no : true ≡ false = here.full.1 (waiting ∙ full) in cc) in
    let few = here.few in
    record {
      count = omega arith;
      ni = here.offered ∙ ap (changed number (offered word)) c.loop-word.invariant.ni
          ∙ changed-changed number (with_waiting now) (offered word) ni within
          ∙ ap (λ (all : List ℕ). changed number (with_waiting all) ni)
          (append_assoc before (take place words) (word ∷ [])
          ∙ ap (λ (rest : List ℕ). before ++ rest)
          (sym (take_more words place 0 c.loop-word-test.true)));
      fitting = omega (arith, free);
    }

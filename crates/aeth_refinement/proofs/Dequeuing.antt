-- Taking words out of a queue, one after the other.
use Rattle.std.proofs.Common.{◌≡◌, ◌≤◌, ◌∙◌, ℕ, zero, suc, ◌+◌, ◌-◌, min, refl, sym, ap, arith, inl}
use Rattle.std.proofs.Common.{inr, Bool, true, false, cond, length, drop, ◌==◌}
use Rattle.std.proofs.lemmas.Bool.{cases_lt}
use Rattle.aeth_ni.specs.Queue.{QueueState, capped, word_taken}
use Rattle.aeth_components.{proofs.QueueLemmas.dequeued-more, specs.Queues.dequeued}
use Rattle.aeth_invariant.specs.Components.{words_taken}

-- The first take may come last.
dequeued-first : (count : ℕ) (queue : QueueState)
    → dequeued count (word_taken queue) ≡ word_taken (dequeued count queue)
dequeued-first zero queue = refl
dequeued-first (suc count) queue = ap word_taken (dequeued-first count queue)

pub taken-dequeued : (count : ℕ) (queue : QueueState)
    → words_taken count queue ≡ dequeued count queue
taken-dequeued zero queue = refl
taken-dequeued (suc count) queue =
    taken-dequeued count (word_taken queue) ∙ dequeued-first count queue

-- No more are taken than are there.
pub dequeued-few : (pull few : ℕ) (queue : QueueState) → length queue.received ≤ few
    → dequeued (min pull few) queue ≡ dequeued pull queue
dequeued-few pull few queue all = elim (cases_lt few pull) [
  | inl less ↦
      let is : min pull few ≡ few = omega (arith, less) in
      let more : few + (pull - few) ≡ pull = omega (arith, less) in
      ap (λ n. dequeued n queue) is ∙ sym (dequeued-more few (pull - few) queue all)
      ∙ ap (λ n. dequeued n queue) more
  | inr most ↦ let is : min pull few ≡ pull = omega (arith, most) in ap (λ n. dequeued n queue) is
]

-- Taking changes what was received and what is owed alone.
abbrev once : QueueState → QueueState
once queue = record queue { received = drop 1 queue.received; owed = capped (queue.owed + 1) }

kept-cond : (b : Bool) (queue : QueueState)
    → let new = cond b queue (once queue) in
    new ≡ record queue { received = new.received; owed = new.owed }
kept-cond true queue = refl
kept-cond false queue = refl

pub dequeued-kept : (count : ℕ) (queue : QueueState)
    → let new = dequeued count queue in
    new ≡ record queue { received = new.received; owed = new.owed }
dequeued-kept zero queue = refl
dequeued-kept (suc count) queue =
    let before = dequeued count queue in
    let new = word_taken before in
    kept-cond (length before.received == 0) before
    ∙ ap (λ (q : QueueState). record q { received = new.received; owed = new.owed })
    (dequeued-kept count queue)

-- Laws of what is done at one queue.
use Rattle.std.proofs.Common.{ℕ, zero, suc, ◌≡◌, ◌<◌, ◌≤◌, ◌+◌, ◌-◌, min, refl, sym, ◌∙◌, ap, ap₂}
use Rattle.std.proofs.Common.{arith, List, [], ◌∷◌, length, drop, set, inl, inr, length-drop}
use Rattle.std.proofs.Common.{Option, is_some, slice_get, true, false, eq-eqb, ne_eqb, set-set}
use Rattle.std.proofs.Common.{get_or-set_same, drop-drop}
use Rattle.std.proofs.lemmas.{Bool.cases_eq, List.set-get_or, List.drop_all}
use Rattle.aeth_components.specs.Queues.{dequeued}
use Rattle.aeth_ni.specs.Interface.{InterfaceState, changed, queue_at}
use Rattle.aeth_ni.specs.Limits.{max_count}
use Rattle.aeth_ni.specs.Queue.{QueueState, capped, empty_queue, word_taken}

-- The queue with these words waiting.
abbrev pub with_waiting : List ℕ → QueueState → QueueState
with_waiting words queue = record queue { waiting = words }

-- A change that changes nothing.
pub changed-same : (number : ℕ) (change : QueueState → QueueState) (ni : InterfaceState)
    → change (queue_at ni.queues number) ≡ queue_at ni.queues number → changed number change ni ≡ ni
changed-same number change ni same =
    ap (λ (queues : List QueueState). record ni { queues = queues })
    (ap (set ni.queues number) same ∙ set-get_or ni.queues number (empty_queue 0))

-- One change behind another.
pub changed-changed : (number : ℕ) (first second : QueueState → QueueState)
    (ni : InterfaceState) → number < length ni.queues
    → changed number second (changed number first ni)
    ≡ changed number (λ queue. second (first queue)) ni
changed-changed number first second ni within =
    let queue = queue_at ni.queues number in
    ap (λ (queues : List QueueState). record ni { queues = queues })
    (ap (λ (now : QueueState). set (set ni.queues number (first queue)) number (second now))
    (get_or-set_same ni.queues number (first queue) (empty_queue 0) within)
    ∙ set-set ni.queues number (first queue) (second (first queue)))

-- The queue behind a change.
pub queue_at-changed : (number : ℕ) (change : QueueState → QueueState)
    (ni : InterfaceState) → number < length ni.queues
    → queue_at (changed number change ni).queues number ≡ change (queue_at ni.queues number)
queue_at-changed number change ni within =
    get_or-set_same ni.queues number (change (queue_at ni.queues number)) (empty_queue 0) within

-- So many words wait behind those that did.
pub length-with_waiting : (number : ℕ) (words : List ℕ) (ni state : InterfaceState)
    → number < length ni.queues → state ≡ changed number (with_waiting words) ni
    → length (queue_at state.queues number).waiting ≡ length words
length-with_waiting number words ni state within is =
    ap (λ (state : InterfaceState). length (queue_at state.queues number).waiting) is
    ∙ ap (λ (queue : QueueState). length queue.waiting)
    (queue_at-changed number (with_waiting words) ni within)

-- A list is empty where it has no first element, and only there.
pub length-no_first : {X : Type 0} (first : Option X) (xs : List X) → first ≡ slice_get xs 0
    → is_some first ≡ false → length xs ≡ 0
length-no_first first [] at none = refl
length-no_first first (x ∷ xs) at none =
    absurd (let no : true ≡ false = sym (ap is_some at) ∙ none in cc)

pub length-some_first : {X : Type 0} (first : Option X) (xs : List X) → first ≡ slice_get xs 0
    → is_some first ≡ true → 0 < length xs
length-some_first first [] at some =
    absurd (let no : false ≡ true = sym (ap is_some at) ∙ some in cc)
length-some_first first (x ∷ xs) at some = omega arith

-- Where none is held, nothing changes.
pub taken-none : (queue : QueueState) → length queue.received ≡ 0 → word_taken queue ≡ queue
taken-none queue none = rw (eq-eqb (length queue.received) 0 none) refl

pub taken-some : (queue : QueueState) → (length queue.received ≡ 0 → ⊥)
    → word_taken queue
    ≡ record queue { received = drop 1 queue.received; owed = capped (queue.owed + 1) }
taken-some queue some = rw (ne_eqb (length queue.received) 0 some) refl

-- A turn takes a word, where one is held.
length-taken : (queue : QueueState)
    → length (word_taken queue).received ≡ length queue.received - 1
length-taken queue =
    elim (cases_eq (length queue.received) 0) [
      | inl none ↦ rw (eq-eqb (length queue.received) 0 none) (omega arith)
      | inr some ↦
          rw (ne_eqb (length queue.received) 0 some) (length-drop 1 queue.received)
    ]

pub length-dequeued : (times : ℕ) (queue : QueueState)
    → length (dequeued times queue).received ≡ length queue.received - times
length-dequeued zero queue = omega arith
length-dequeued (suc times) queue =
    let before = length-dequeued times queue in
    let here = length-taken (dequeued times queue) in
    omega arith

-- No further turn changes anything then.
pub dequeued-more : (times more : ℕ) (queue : QueueState) → length queue.received ≤ times
    → dequeued (times + more) queue ≡ dequeued times queue
dequeued-more times zero queue none =
    ap (λ n. dequeued n queue) (let same : times + 0 ≡ times = omega arith in same)
dequeued-more times (suc more) queue none =
    let size = length-dequeued (times + more) queue in
    ap (λ n. dequeued n queue)
    (let same : times + suc more ≡ suc (times + more) = omega arith in same)
    ∙ taken-none (dequeued (times + more) queue) (omega arith) ∙ dequeued-more times more queue none

-- How many are held once words were taken so many times.
pub held-dequeued : (number times : ℕ) (ni state : InterfaceState) → number < length ni.queues
    → state ≡ changed number (dequeued times) ni
    → length (queue_at state.queues number).received
    ≡ length (queue_at ni.queues number).received - times
held-dequeued number times ni state within is =
    ap (λ (state : InterfaceState). length (queue_at state.queues number).received) is
    ∙ ap (λ (queue : QueueState). length queue.received)
    (queue_at-changed number (dequeued times) ni within)
    ∙ length-dequeued times (queue_at ni.queues number)

-- Where all are taken, further turns change nothing.
pub changed-dequeued_more : (number times all : ℕ) (ni : InterfaceState) → times ≤ all
    → length (queue_at ni.queues number).received ≤ times
    → changed number (λ queue. word_taken (dequeued times queue)) ni
    ≡ changed number (dequeued all) ni
changed-dequeued_more number times all ni most none =
    let before = queue_at ni.queues number in
    let size = length-dequeued times before in
    ap (λ (queue : QueueState). changed number (λ _. queue) ni)
    (taken-none (dequeued times before) (omega arith)
    ∙ sym (dequeued-more times (all - times) before none)
    ∙ ap (λ n. dequeued n before) (let whole : times + (all - times) ≡ all = omega arith in whole))

-- The queue behind so many turns, in numbers.
pub dequeued-is : (times : ℕ) (queue : QueueState) → queue.owed ≤ max_count
    → dequeued times queue ≡ record queue {
      received = drop times queue.received;
      owed = capped (queue.owed + min times (length queue.received));
    }
dequeued-is zero queue within =
    let same : queue.owed ≡ capped (queue.owed + min 0 (length queue.received)) = omega arith in
    ap (λ n. record queue { owed = n }) same
dequeued-is (suc times) queue within =
    let received = queue.received in
    let before : QueueState = record queue {
      received = drop times received;
      owed = capped (queue.owed + min times (length received));
    } in
    let size : length before.received ≡ length received - times = length-drop times received in
    ap word_taken (dequeued-is times queue within)
    ∙ elim (cases_eq (length before.received) 0) [
      | inl none ↦
          let all : drop times received ≡ drop (suc times) received =
          drop_all times received (omega arith) ∙ sym (drop_all (suc times) received (omega arith))
          in
          let same : capped (queue.owed + min times (length received))
          ≡ capped (queue.owed + min (suc times) (length received)) = omega arith in
          taken-none before none
          ∙ ap₂ (λ (list : List ℕ) (n : ℕ). record queue { received = list; owed = n }) all same
      | inr some ↦
          let next : drop 1 (drop times received) ≡ drop (suc times) received =
          drop-drop 1 times received ∙ ap (λ n. drop n received)
          (let more : times + 1 ≡ suc times = omega arith in more) in
          let more : capped (capped (queue.owed + min times (length received)) + 1)
          ≡ capped (queue.owed + min (suc times) (length received)) = omega arith in
          taken-some before some
          ∙ ap₂ (λ (list : List ℕ) (n : ℕ). record queue { received = list; owed = n }) next more
    ]

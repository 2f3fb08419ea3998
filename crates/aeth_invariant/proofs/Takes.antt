-- What some takes leave of a queue.
use Rattle.std.proofs.Common.{◌≡◌, ◌≤◌, ◌∙◌, ℕ, zero, suc, ◌+◌, min, Bool, false, cond, List, []}
use Rattle.std.proofs.Common.{◌∷◌, length, drop, refl, sym, ap, subst, arith, ne_eqb, ◌==◌}
use Rattle.aeth_ni.specs.{Limits.max_count, Queue.QueueState, Queue.capped, Queue.word_taken}
use Rattle.aeth_invariant.specs.Components.{words_taken}

-- What some takes leave and what they make owed.
pub record IsTaken (count : ℕ) (old new : QueueState) : Type 0 where
  pub received : new.received ≡ drop (min count (length old.received)) old.received
  pub owed : new.owed ≡ old.owed + min count (length old.received)

abbrev once : QueueState → QueueState
once queue = record queue { received = drop 1 queue.received; owed = capped (queue.owed + 1) }

pub words_taken-is : (count : ℕ) (queue : QueueState)
    → queue.owed + min count (length queue.received) ≤ max_count
    → IsTaken count queue (words_taken count queue)
words_taken-is zero queue few =
    let none : 0 ≡ min 0 (length queue.received) = omega arith in
    record { received = ap (λ (n : ℕ). drop n queue.received) none; owed = omega arith }
words_taken-is (suc count) queue few =
    let next = once queue in
    let cases : (ws : List ℕ) → queue.received ≡ ws
    → IsTaken (suc count) queue (words_taken count (word_taken queue)) = elim [
      | [] ↦ λ none.
          let same : word_taken queue ≡ queue =
          ap (λ (ws : List ℕ). cond (length ws == 0) queue next) none in
          let size : length queue.received ≡ 0 = ap (λ (ws : List ℕ). length ws) none in
          let later = words_taken-is count queue (omega arith) in
          let nothing : min count (length queue.received)
          ≡ min (suc count) (length queue.received) =
          omega arith in
          let is : IsTaken (suc count) queue (words_taken count queue) = record {
            received = later.received ∙ ap (λ (n : ℕ). drop n queue.received) nothing;
            owed = omega (arith, later.owed, nothing);
          } in
          subst (λ (q : QueueState). IsTaken (suc count) queue (words_taken count q)) (sym same) is
      | first ∷ rest ↦ λ some.
          let size : length queue.received ≡ suc (length rest) =
          ap (λ (ws : List ℕ). length ws) some in
          let held : (length queue.received == 0) ≡ false =
          ne_eqb (length queue.received) 0 (λ none. absurd (omega (arith, none, size))) in
          let same : word_taken queue ≡ next = ap (λ (b : Bool). cond b queue next) held in
          let left : length next.received ≡ length rest =
          ap (λ (ws : List ℕ). length (drop 1 ws)) some in
          let later = words_taken-is count next (omega arith) in
          let one : min (suc count) (length queue.received) ≡ suc (min count (length rest)) =
          omega arith in
          let is : IsTaken (suc count) queue (words_taken count next) = record {
            received = later.received
                ∙ ap (λ (ws : List ℕ). drop (min count (length (drop 1 ws))) (drop 1 ws)) some
                ∙ sym (ap (λ (n : ℕ). drop n queue.received) one
                ∙ ap (λ (ws : List ℕ). drop (suc (min count (length rest))) ws) some);
            owed = omega (arith, later.owed, one, left);
          } in
          subst (λ (q : QueueState). IsTaken (suc count) queue (words_taken count q)) (sym same) is
    ] in
    cases queue.received refl

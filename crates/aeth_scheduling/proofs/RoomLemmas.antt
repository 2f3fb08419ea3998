-- The rooms of queues, for one channel more.
use Rattle.std.proofs.Common.{◌≡◌, ◌∙◌, ◌<◌, ◌++◌, ◌==◌, ℕ, true, false, List, [], ◌∷◌, arith}
use Rattle.std.proofs.Common.{filter, inl, inr, All, ap, get_or, map, max, refl, subst, sym}
use Rattle.std.proofs.Common.{replicate, slice_index, slice_set, eqb-true, append-nil, append_assoc}
use Rattle.std.proofs.Common.{get_or-set_other, get_or-set_same, length-set}
use Rattle.std.proofs.lemmas.Bool.{cases_Bool, eqb-false}
use Rattle.std.proofs.lemmas.Grind.{same_number_lists}
use Rattle.std.proofs.lemmas.List.{get_or-replicate, length-replicate, map-append}
use Rattle.std.proofs.lemmas.List.FromFn.{get_or-map-range_with_len, length-map-range_with_len}
use Rattle.std.proofs.lemmas.List.Elements.{All-head, All-tail, filter-append}
use Rattle.std.specs.List.{range_with_len}
use Rattle.aeth_slots.{specs.SlotSet.greatest, proofs.SlotSetLemmas.greatest-push}
use Rattle.aeth_tables.specs.declared.buffering.Buffer.{Buffer}
use Rattle.aeth_schedule.specs.Rooms.{landing_number, raised, raised_all}

-- The most words for which a queue must have room, of those channels that land at it.
abbrev pub need_at : List Buffer → ℕ → ℕ
need_at buffers number =
    greatest (map (λ one. one.words) (filter (λ one. landing_number one == number) buffers))

-- Of so many queues.
abbrev pub needs_in : List Buffer → ℕ → List ℕ
needs_in buffers count = map (need_at buffers) (range_with_len 0 count)

-- The queue at which a channel lands has room for it too.
pub need-own : (done : List Buffer) (line : Buffer) (k : ℕ) → (landing_number line == k) ≡ true
    → need_at (done ++ line ∷ []) k ≡ max (need_at done k) line.words
need-own done line k own =
    let lands = λ (one : Buffer). landing_number one == k in
    let words_of = λ (one : Buffer). one.words in
    rw (filter-append lands done (line ∷ []), own, map-append words_of (filter lands done) (line ∷ []))
    (greatest-push (map words_of (filter lands done)) line.words)

-- The others keep theirs.
pub need-other : (done : List Buffer) (line : Buffer) (k : ℕ) → (landing_number line == k) ≡ false
    → need_at (done ++ line ∷ []) k ≡ need_at done k
need-other done line k other =
    let lands = λ (one : Buffer). landing_number one == k in
    rw (filter-append lands done (line ∷ []), other, append-nil (filter lands done)) refl

-- A channel more has its room.
pub raised-in : (done : List Buffer) (line : Buffer) (n : ℕ) → landing_number line < n
    → raised (needs_in done n) line ≡ needs_in (done ++ line ∷ []) n
raised-in done line n within =
    let q = landing_number line in
    let behind = done ++ line ∷ [] in
    let value = max (slice_index (needs_in done n) q) line.words in
    let long = length-map-range_with_len (need_at done) 0 n in
    let longer = length-map-range_with_len (need_at behind) 0 n in
    let set = length-set (needs_in done n) q value in
    let at : (k : ℕ) → k < n → get_or (needs_in done n) k 0 ≡ need_at done k =
    λ k inside. get_or-map-range_with_len (need_at done) 0 n k k 0 inside (omega arith) in
    let then : (k : ℕ) → k < n → get_or (needs_in behind n) k 0 ≡ need_at behind k =
    λ k inside. get_or-map-range_with_len (need_at behind) 0 n k k 0 inside (omega arith) in
    same_number_lists (slice_set (needs_in done n) q value) (needs_in behind n) (omega arith)
    (λ k inside. elim (cases_Bool (q == k)) [
      | inl own ↦
          let here : q ≡ k = eqb-true q k own in
          let same : (q == q) ≡ true = rw (← here) at own in
          subst (λ (m : ℕ). get_or (slice_set (needs_in done n) q value) m 0
          ≡ get_or (needs_in behind n) m 0) here
          (get_or-set_same (needs_in done n) q value 0 (omega arith)
          ∙ (ap (λ (room : ℕ). max room line.words) (at q within)
          ∙ (sym (need-own done line q same) ∙ sym (then q within))))
      | inr other ↦ get_or-set_other (needs_in done n) q k value 0
          (λ same. eqb-false q k other (sym same))
          ∙ (at k (omega arith) ∙ (sym (need-other done line k other) ∙ sym (then k (omega arith))))
    ])

-- So have all of these.
pub raised_all-in : (done lines : List Buffer) (n : ℕ) → All (λ line. landing_number line < n) lines
    → raised_all (needs_in done n) lines ≡ needs_in (done ++ lines) n
raised_all-in done [] n within = rw (append-nil done) refl
raised_all-in done (line ∷ lines) n within =
    let first = All-head (λ (one : Buffer). landing_number one < n) line lines within in
    let rest = raised_all-in (done ++ line ∷ []) lines n
    (All-tail (λ (one : Buffer). landing_number one < n) line lines within) in
    rw (raised-in done line n first)
    (rest ∙ ap (λ (all : List Buffer). needs_in all n) (append_assoc done (line ∷ []) lines))

-- No channel needs no room.
pub none-in : (n : ℕ) → needs_in [] n ≡ replicate n 0
none-in n =
    same_number_lists (needs_in [] n) (replicate n 0)
    (length-map-range_with_len (need_at []) 0 n ∙ sym (length-replicate n 0))
    (λ k inside. get_or-map-range_with_len (need_at []) 0 n k k 0
    (omega (arith, length-map-range_with_len (need_at []) 0 n)) (omega arith)
    ∙ sym (get_or-replicate n k 0 0 (omega (arith, length-map-range_with_len (need_at []) 0 n))))

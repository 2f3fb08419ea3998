-- What one queue of an interface emits, is behind a flit, and is once words have come or were
-- taken.
use Rattle.std.proofs.Common.{◌≡◌, ◌≤◌, ◌<◌, ◌∙◌, ℕ, ◌+◌, ◌-◌, ◌||◌, Bool, true, false, cond, List}
use Rattle.std.proofs.Common.{[], ◌++◌, length, drop, Option, Some, None, is_some, refl, sym, ap}
use Rattle.std.proofs.Common.{subst, arith, inl, inr, ◌⊎◌, eq-eqb, eqb-true, ◌==◌, option_map}
use Rattle.std.proofs.Common.{append-nil}
use Rattle.std.proofs.lemmas.Bool.{cases_Bool, cases_lt, and_from, and_parts, both_ways}
use Rattle.std.proofs.lemmas.Option.{same_Some}
use Rattle.aeth_clocked.specs.declared.flit.Flit.{Flit}
use Rattle.aeth_ni.specs.{Limits.max_count, Queue.QueueState, Queue.flit_landed}
use Rattle.aeth_ni.specs.{Sending.behind_flit, Sending.credits_sent, Sending.emitted}
use Rattle.aeth_ni.specs.{Sending.flit_sent, Sending.is_idle, Sending.next_flit, Sending.sending}
use Rattle.aeth_ni.specs.{Sending.words_sent, declared.queue.Route.Route, Component.Arrival}
use Rattle.aeth_ni.proofs.QueueLemmas.{flit_landed-whole}
use Rattle.aeth_invariant.specs.Components.{brought_by, credits_for, is_entry, sent_from, words_for}

-- A queue without so many words and credits.
abbrev pub without : ℕ → ℕ → QueueState → QueueState
without words credits queue = record queue {
  waiting = drop words queue.waiting;
  counter = queue.counter - words;
  owed = queue.owed - credits;
}

-- Without none it is as it was.
pub without-none : (words credits : ℕ) (queue : QueueState) → words ≡ 0 → credits ≡ 0
    → without words credits queue ≡ queue
without-none words credits queue no_words no_credits =
    let count : queue.counter - 0 ≡ queue.counter = omega arith in
    let credit : queue.owed - 0 ≡ queue.owed = omega arith in
    ap (λ (n : ℕ). without n credits queue) no_words
    ∙ ap (λ (n : ℕ). without 0 n queue) no_credits
    ∙ ap (λ (n : ℕ). record queue { counter = n; owed = queue.owed - 0 }) count
    ∙ ap (λ (n : ℕ). record queue { owed = n }) credit

-- It has nothing to send exactly where words and credits are none.
pub busy : (queue : QueueState) → 0 < words_sent queue + credits_sent queue → is_idle queue ≡ false
busy queue some = elim (cases_Bool (is_idle queue)) [
  | inl idle ↦ absurd (
      let both = and_parts (words_sent queue == 0) (credits_sent queue == 0) idle in
      let words = eqb-true (words_sent queue) 0 both.0 in
      let credits = eqb-true (credits_sent queue) 0 both.1 in
      omega (arith, words, credits, some))
  | inr is ↦ is
]

pub idle : (queue : QueueState) → is_idle queue ≡ true
    → (words_sent queue ≡ 0) × (credits_sent queue ≡ 0)
idle queue is =
    let both = and_parts (words_sent queue == 0) (credits_sent queue == 0) is in
    (eqb-true (words_sent queue) 0 both.0, eqb-true (credits_sent queue) 0 both.1)

cases_some : (queue : QueueState)
    → (0 < words_sent queue + credits_sent queue) ⊎ (is_idle queue ≡ true)
cases_some queue = elim (cases_lt 0 (words_sent queue + credits_sent queue)) [
  | inl some ↦ inl some
  | inr none ↦
      let words : words_sent queue ≡ 0 = omega (arith, none) in
      let credits : credits_sent queue ≡ 0 = omega (arith, none) in
      inr (and_from (words_sent queue == 0) (credits_sent queue == 0)
      (eq-eqb (words_sent queue) 0 words) (eq-eqb (credits_sent queue) 0 credits))
]

-- A queue with a route that isn't halted emits its next flit, where it has something to send.
pub emitted-some : (queue : QueueState) (route : Route) → queue.halted ≡ false
    → queue.route ≡ Some route → 0 < words_sent queue + credits_sent queue
    → emitted queue ≡ Some (next_flit queue route)
emitted-some queue route runs routed some =
    ap (λ (b : Bool). option_map (next_flit queue) (cond (b || is_idle queue) None queue.route))
    runs
    ∙ ap (λ (b : Bool). option_map (next_flit queue) (cond b None queue.route)) (busy queue some)
    ∙ ap (λ (r : Option Route). option_map (next_flit queue) r) routed

-- Nothing else is emitted.
pub record IsEmitted (queue : QueueState) (flit : Flit) : Type 0 where
  pub route : Route
  pub runs : queue.halted ≡ false
  pub routed : queue.route ≡ Some route
  pub some : 0 < words_sent queue + credits_sent queue
  pub is : next_flit queue route ≡ flit

pub emitted-parts : (queue : QueueState) (flit : Flit) → emitted queue ≡ Some flit
    → IsEmitted queue flit
emitted-parts queue flit is =
    let cases : (h : Bool) → queue.halted ≡ h → (i : Bool) → is_idle queue ≡ i
    → (r : Option Route) → queue.route ≡ r
    → option_map (next_flit queue) (cond (h || i) None r) ≡ Some flit → IsEmitted queue flit =
    elim [
      | true ↦ λ halts i idles r routed none. absurd cc
      | false ↦ λ runs. elim [
        | true ↦ λ idles r routed none. absurd cc
        | false ↦ λ busies. elim [
          | None ↦ λ routed none. absurd cc
          | Some route ↦ λ routed there. record {
            route = route;
            runs = runs;
            routed = routed;
            some = elim (cases_some queue) [
              | inl some ↦ some
              | inr none ↦ absurd (both_ways (is_idle queue) busies none)
            ];
            is = same_Some (next_flit queue route) flit there;
          }
        ]
      ]
    ] in
    cases queue.halted refl (is_idle queue) refl queue.route refl is

-- Behind a slot of its own such a queue is without the words and credits of its next flit.
pub flit_sent-behind : (queue : QueueState) (route : Route) → queue.halted ≡ false
    → queue.route ≡ Some route
    → flit_sent queue ≡ without (words_sent queue) (credits_sent queue) queue
flit_sent-behind queue route runs routed =
    let behind = behind_flit queue in
    let halts : flit_sent queue
    ≡ cond (is_some (cond (is_idle queue) None queue.route)) behind queue =
    ap (λ (b : Bool). cond (is_some (cond (b || is_idle queue) None queue.route)) behind queue)
    runs in
    elim (cases_Bool (is_idle queue)) [
      | inl is ↦
          let none = idle queue is in
          halts
          ∙ ap (λ (b : Bool). cond (is_some (cond b None queue.route)) behind queue) is
          ∙ sym (without-none (words_sent queue) (credits_sent queue) queue none.0 none.1)
      | inr is ↦
          halts
          ∙ ap (λ (b : Bool). cond (is_some (cond b None queue.route)) behind queue) is
          ∙ ap (λ (r : Option Route). cond (is_some r) behind queue) routed
    ]

-- A halted queue stays.
pub flit_sent-halted : (queue : QueueState) → queue.halted ≡ true → flit_sent queue ≡ queue
flit_sent-halted queue halts =
    ap (λ (b : Bool). cond (is_some (cond (b || is_idle queue) None queue.route))
    (behind_flit queue) queue) halts

-- Driving changes no queue but in its words, its counter and its credits.
kept-cond : (b c : Bool) (words credits : ℕ) (queue : QueueState)
    → let new = cond b (cond c (without words credits queue) queue) queue in
    new ≡ record queue { waiting = new.waiting; counter = new.counter; owed = new.owed }
kept-cond true true words credits queue = refl
kept-cond true false words credits queue = refl
kept-cond false c words credits queue = refl

pub sent_from-kept : (entry : Option ℕ) (number : ℕ) (queue : QueueState)
    → let new = sent_from entry number queue in
    new ≡ record queue { waiting = new.waiting; counter = new.counter; owed = new.owed }
sent_from-kept entry number queue =
    kept-cond (is_entry entry number) (is_some (sending queue)) (words_sent queue)
    (credits_sent queue) queue

-- What comes changes no queue but in its received words and its counter.
pub brought_by-kept : (arrival : Option Arrival) (number : ℕ) (queue : QueueState)
    → let new = brought_by arrival number queue in
    new ≡ record queue { received = new.received; counter = new.counter }
brought_by-kept None number queue = refl
brought_by-kept (Some arrival) number queue =
    let cases : (b : Bool)
    → let new = cond b (flit_landed arrival.header.credits arrival.words queue) queue in
    new ≡ record queue { received = new.received; counter = new.counter } =
    elim [ true ↦ refl | false ↦ refl ] in
    cases (arrival.header.queue == number)

-- Words for a queue with room for them come behind those that it has.
pub brought_by-received : (arrival : Option Arrival) (number : ℕ) (queue : QueueState)
    → length (queue.received ++ words_for number arrival) ≤ queue.room
    → (brought_by arrival number queue).received ≡ queue.received ++ words_for number arrival
brought_by-received None number queue room = sym (append-nil queue.received)
brought_by-received (Some arrival) number queue room =
    let named = arrival.header.queue == number in
    let words = arrival.words in
    let landed = flit_landed arrival.header.credits words queue in
    elim (cases_Bool named) [
      | inl is ↦
          let there : words_for number (Some arrival) ≡ words =
          ap (λ (b : Bool). cond b words []) is in
          let few : length (queue.received ++ words) ≤ queue.room =
          subst (λ (ws : List ℕ). length (queue.received ++ ws) ≤ queue.room) there room in
          ap (λ (b : Bool). (cond b landed queue).received) is
          ∙ flit_landed-whole arrival.header.credits words queue few
          ∙ ap (λ (ws : List ℕ). queue.received ++ ws) (sym there)
      | inr other ↦
          ap (λ (b : Bool). (cond b landed queue).received) other
          ∙ sym (append-nil queue.received)
          ∙ ap (λ (b : Bool). queue.received ++ cond b words []) (sym other)
    ]

-- Credits for it are counted, where that is a count.
pub brought_by-counter : (arrival : Option Arrival) (number : ℕ) (queue : QueueState)
    → queue.counter + credits_for number arrival ≤ max_count
    → (brought_by arrival number queue).counter ≡ queue.counter + credits_for number arrival
brought_by-counter None number queue few = omega arith
brought_by-counter (Some arrival) number queue few =
    let named = arrival.header.queue == number in
    let credits = arrival.header.credits in
    let landed = flit_landed credits arrival.words queue in
    elim (cases_Bool named) [
      | inl is ↦
          let there : credits_for number (Some arrival) ≡ credits =
          ap (λ (b : Bool). cond b credits 0) is in
          ap (λ (b : Bool). (cond b landed queue).counter) is ∙ omega (arith, there, few)
      | inr other ↦
          let there : credits_for number (Some arrival) ≡ 0 =
          ap (λ (b : Bool). cond b credits 0) other in
          ap (λ (b : Bool). (cond b landed queue).counter) other ∙ omega (arith, there)
    ]

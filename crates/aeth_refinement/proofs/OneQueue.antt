-- One queue and one entry of all components, once these have driven or latched.
use Rattle.std.proofs.Common.{◌≡◌, ◌<◌, ◌∙◌, ℕ, ◌%◌, refl, sym, ap, subst, arith, inl, inr, Bool}
use Rattle.std.proofs.Common.{cond, List, Option, Some, None, length, map, slice_get, ◌⊎◌, ◌==◌}
use Rattle.std.proofs.Common.{option_map, eq-eqb, ne_eqb}
use Rattle.std.proofs.lemmas.{Bool.cases_eq, Bool.cases_lt, List.set_past, List.get_or_past}
use Rattle.std.proofs.lemmas.{Option.slice_get-map}
use Rattle.std.specs.List.{slice_index_or}
use Rattle.aeth_base.specs.declared.ids.{LinkId.LinkId, NiId.NiId}
use Rattle.aeth_clocked.specs.{Wires.flit_on, declared.flit.Flit.Flit}
use Rattle.aeth_ni.proofs.InterfaceLemmas.{queue_at-with_queue_other, queue_at-with_queue_same}
use Rattle.aeth_ni.specs.Component.{Arrival, arrival_of, flit_sent_by, landed_at, queue_at_cycle}
use Rattle.aeth_ni.specs.Interface.{InterfaceState, queue_at, with_queue}
use Rattle.aeth_ni.specs.Queue.{QueueState, empty_queue, flit_landed}
use Rattle.aeth_ni.specs.Sending.{flit_sent}
use Rattle.aeth_router.specs.Part.{absorb_of, after_of}
use Rattle.aeth_router.specs.declared.part.Part.{Part}
use Rattle.aeth_router.specs.declared.part.Part.TheVariants.{Interface, Router, Stage, TableRouter}
use Rattle.aeth_components.proofs.WiringLemmas.{from-map, views-map}
use Rattle.aeth_components.specs.Wirings.{Wiring, InterfaceWiring, wiring_of}
use Rattle.aeth_components.specs.Switching.{entry_in, entry_of}
use Rattle.aeth_components.specs.View.{queue_in, queue_of}
use Rattle.aeth_invariant.specs.Components.{brought, brought_by, sent_from}
use Rattle.aeth_refinement.proofs.Kept.{entries_in}

-- A change of a queue, seen at any.
with_queue-at : (k q : ℕ) (change : QueueState → QueueState) (queues : List QueueState)
    → (q < length queues) ⊎ (change (empty_queue 0) ≡ empty_queue 0)
    → queue_at (with_queue k change queues) q
    ≡ cond (k == q) (change (queue_at queues q)) (queue_at queues q)
with_queue-at k q change queues either = elim (cases_eq q k) [
  | inl same ↦
      let own : queue_at (with_queue k change queues) k ≡ change (queue_at queues k) =
      elim (cases_lt k (length queues)) [
        | inl within ↦ queue_at-with_queue_same k change queues within
        | inr past ↦ elim either [
          | inl within ↦ absurd (omega (arith, within, past, same))
          | inr nothing ↦
              let none : queue_at queues k ≡ empty_queue 0 =
              get_or_past queues k (empty_queue 0) past in
              ap (λ (qs : List QueueState). queue_at qs k)
              (set_past queues k (change (queue_at queues k)) past)
              ∙ none ∙ sym nothing ∙ ap change (sym none)
        ]
      ] in
      subst (λ (n : ℕ). queue_at (with_queue k change queues) n
      ≡ cond (k == n) (change (queue_at queues n)) (queue_at queues n)) (sym same)
      (own ∙ sym (ap (λ (b : Bool). cond b (change (queue_at queues k)) (queue_at queues k))
      (eq-eqb k k refl)))
  | inr apart ↦
      queue_at-with_queue_other k q change queues apart
      ∙ sym (ap (λ (b : Bool). cond b (change (queue_at queues q)) (queue_at queues q))
      (ne_eqb k q (λ same. apart (sym same))))
]

-- What an interface's queue is behind a drive, and once a flit has come.
flit_sent_by-at : (entry : Option ℕ) (queues : List QueueState) (q : ℕ)
    → queue_at (flit_sent_by entry queues) q ≡ sent_from entry q (queue_at queues q)
flit_sent_by-at None queues q = refl
flit_sent_by-at (Some k) queues q = with_queue-at k q flit_sent queues (inr refl)

landed_at-at : (arrival : Option Arrival) (queues : List QueueState) (q : ℕ) → q < length queues
    → queue_at (landed_at arrival queues) q ≡ brought_by arrival q (queue_at queues q)
landed_at-at None queues q within = refl
landed_at-at (Some arrival) queues q within =
    with_queue-at arrival.header.queue q (flit_landed arrival.header.credits arrival.words) queues
    (inl within)

-- All interfaces have so many slots.
abbrev pub HaveSlots : ℕ → List Wiring → Type 0
HaveSlots size wirings = (n : ℕ) (number : NiId) (leaving entering : LinkId) (slots queues : ℕ)
    → slice_get wirings n ≡ Some (InterfaceWiring number leaving entering slots queues)
    → slots ≡ size

-- Behind a drive.
queue_in-after : (part : Option Part) (cycle q size : ℕ)
    → ((ni : InterfaceState) → part ≡ Some (Interface ni) → length ni.entries ≡ size)
    → queue_in q (option_map (λ part. after_of part cycle) part)
    ≡ sent_from (entry_in (cycle % size) part) q (queue_in q part)
queue_in-after None cycle q size slots = refl
queue_in-after (Some (Interface ni)) cycle q size slots =
    flit_sent_by-at (queue_at_cycle ni.entries cycle) ni.queues q
    ∙ ap (λ (n : ℕ). sent_from (slice_index_or ni.entries (cycle % n) None) q
    (queue_at ni.queues q)) (slots ni refl)
queue_in-after (Some (Router router)) cycle q size slots = refl
queue_in-after (Some (TableRouter router)) cycle q size slots = refl
queue_in-after (Some (Stage stage)) cycle q size slots = refl

pub queue_of-after : (parts : List Part) (cycle n q size : ℕ) → HaveSlots size (map wiring_of parts)
    → queue_of (map (λ part. after_of part cycle) parts) n q
    ≡ sent_from (entry_of parts n (cycle % size)) q (queue_of parts n q)
queue_of-after parts cycle n q size slots =
    ap (queue_in q) (slice_get-map (λ part. after_of part cycle) parts n)
    ∙ queue_in-after (slice_get parts n) cycle q size (λ ni there.
    slots n ni.number ni.leaving ni.entering (length ni.entries) (length ni.queues)
    (slice_get-map wiring_of parts n ∙ ap (option_map wiring_of) there))

-- Once the components have latched.
pub queue_of-absorb : (parts : List Part) (wires : List (Option Flit)) (n q : ℕ) (number : NiId)
    (leaving entering : LinkId) (slots queues : ℕ)
    → slice_get (map wiring_of parts) n
    ≡ Some (InterfaceWiring number leaving entering slots queues) → q < queues
    → queue_of (map (λ part. absorb_of part wires) parts) n q
    ≡ brought (flit_on wires entering.0) q (queue_of parts n q)
queue_of-absorb parts wires n q number leaving entering slots queues face within =
    let found = from-map wiring_of parts n
    (InterfaceWiring number leaving entering slots queues) face in
    let cases : (part : Part) → slice_get parts n ≡ Some part
    → InterfaceWiring number leaving entering slots queues ≡ wiring_of part
    → queue_of (map (λ part. absorb_of part wires) parts) n q
    ≡ brought (flit_on wires entering.0) q (queue_of parts n q) = elim [
      | Interface ni ↦ λ at is.
          let size : queues ≡ length ni.queues = cc is in
          let wire : entering ≡ ni.entering = cc is in
          ap (queue_in q) (slice_get-map (λ part. absorb_of part wires) parts n
          ∙ ap (option_map (λ part. absorb_of part wires)) at)
          ∙ landed_at-at (arrival_of (flit_on wires ni.entering.0)) ni.queues q (omega arith)
          ∙ ap (λ (w : LinkId). brought (flit_on wires w.0) q (queue_at ni.queues q)) (sym wire)
          ∙ ap (λ (part : Option Part). brought (flit_on wires entering.0) q (queue_in q part))
          (sym at)
      | Router router ↦ λ at is. absurd (cc is)
      | TableRouter router ↦ λ at is. absurd (cc is)
      | Stage stage ↦ λ at is. absurd (cc is)
    ] in
    cases found.0 found.1 found.2

-- Entries go by those of each component.
entry_by : ℕ → Option (List (Option ℕ)) → Option ℕ
entry_by x None = None
entry_by x (Some entries) = slice_index_or entries x None

entry_in-by : (x : ℕ) (part : Option Part) → entry_in x part ≡ entry_by x (option_map entries_in part)
unfolding entry_by
entry_in-by x None = refl
entry_in-by x (Some (Interface ni)) = refl
entry_in-by x (Some (Router router)) = refl
entry_in-by x (Some (TableRouter router)) = refl
entry_in-by x (Some (Stage stage)) = refl

pub entry_of-same : (one other : List Part) → map entries_in one ≡ map entries_in other
    → (n x : ℕ) → entry_of one n x ≡ entry_of other n x
entry_of-same one other same n x =
    entry_in-by x (slice_get one n)
    ∙ ap (entry_by x) (sym (slice_get-map entries_in one n)
    ∙ ap (λ (es : List (List (Option ℕ))). slice_get es n) same
    ∙ slice_get-map entries_in other n)
    ∙ sym (entry_in-by x (slice_get other n))

entries_in-after : (cycle : ℕ) (part : Part) → entries_in (after_of part cycle) ≡ entries_in part
entries_in-after cycle (Interface ni) = refl
entries_in-after cycle (Router router) = refl
entries_in-after cycle (TableRouter router) = refl
entries_in-after cycle (Stage stage) = refl

entries_in-absorb : (wires : List (Option Flit)) (part : Part)
    → entries_in (absorb_of part wires) ≡ entries_in part
entries_in-absorb wires (Interface ni) = refl
entries_in-absorb wires (Router router) = refl
entries_in-absorb wires (TableRouter router) = refl
entries_in-absorb wires (Stage stage) = refl

pub entries-after : (cycle : ℕ) (parts : List Part)
    → map entries_in (map (λ part. after_of part cycle) parts) ≡ map entries_in parts
entries-after cycle parts =
    views-map entries_in (λ part. after_of part cycle) (entries_in-after cycle) parts

pub entries-absorb : (wires : List (Option Flit)) (parts : List Part)
    → map entries_in (map (λ part. absorb_of part wires) parts) ≡ map entries_in parts
entries-absorb wires parts =
    views-map entries_in (λ part. absorb_of part wires) (entries_in-absorb wires) parts

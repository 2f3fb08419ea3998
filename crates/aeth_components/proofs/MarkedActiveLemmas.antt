-- What keeps each interface marked in the slots in which it may send: a queue is marked active once
-- it has changed.
use Rattle.std.proofs.Common.{ℕ, ◌≡◌, ◌<◌, ◌%◌, ◌∙◌, refl, sym, ap, arith, inl, inr, List, []}
use Rattle.std.proofs.Common.{false, length, map, Option, Some, None, slice_get, true, get_or}
use Rattle.std.proofs.Common.{is_some, set, ◌⊎◌, option_map, get_or-set_other}
use Rattle.std.proofs.lemmas.{Bool.cases_eq, Bool.cases_Bool, List.length-map, Option.same_Some}
use Rattle.std.proofs.lemmas.{Option.slice_get-get_or, Option.slice_get_within}
use Rattle.std.specs.List.{slice_index_or}
use Rattle.aeth_base.proofs.Lists.{map-at, slice_get-slice_set_other, slice_get-slice_set_same}
use Rattle.aeth_base.specs.Marks.{bit_of, room_of}
use Rattle.aeth_clocked.specs.declared.flit.Flit.{Flit}
use Rattle.aeth_ni.specs.{Component.Arrival, Component.absorbed, Component.arrival_of}
use Rattle.aeth_ni.specs.{Component.emitted_by, Component.flit_sent_by, Component.last_of}
use Rattle.aeth_ni.specs.{Component.queue_at_cycle, Interface.InterfaceState, Interface.queue_at}
use Rattle.aeth_ni.specs.{Queue.QueueState, Queue.empty_queue, Sending.emitted}
use Rattle.aeth_router.specs.Part.{after_of}
use Rattle.aeth_router.specs.declared.part.Part.{Part}
use Rattle.aeth_router.specs.declared.part.Part.TheVariants.{Interface, Router, Stage, TableRouter}
use Rattle.aeth_components.specs.{declared.injecting.Injecting.Injecting}
use Rattle.aeth_components.specs.{declared.channel_state.ChannelEnd.ChannelEnd, Changes.at_end}
use Rattle.aeth_components.specs.{Changes.on_interface, Changes.with_part, Injecting.AreInjecting}
use Rattle.aeth_components.specs.{Injecting.MarksQueueActive, Injecting.MarksToldActive}
use Rattle.aeth_components.specs.{Injecting.entries_of, Injecting.may_send}
use Rattle.aeth_components.specs.{Injecting.place_of_entry, Injecting.queue_told, Injecting.IsTold}
use Rattle.aeth_components.specs.{SlotMarks.MarksLess, SlotMarks.MarksMore, SlotMarks.marks_at}
use Rattle.aeth_components.specs.{Seen.landed, Switching.entry_in, Switching.entry_of}
use Rattle.aeth_components.specs.{FlitsOnWires.sends_own, View.queue_in, View.queue_of}
use Rattle.aeth_components.proofs.AloneLemmas.{queue_of-at_end_other, slice_get-with_part_other}
use Rattle.aeth_components.proofs.AloneLemmas.{slice_get-with_part_same}
use Rattle.aeth_components.proofs.InjectingLemmas.{HasPlaces-moved, entry-below, entry-noted}
use Rattle.aeth_components.proofs.InjectingLemmas.{entry_at-parts, sends-entry}
use Rattle.aeth_components.proofs.AskedLemmas.{slot-own}
use Rattle.aeth_components.proofs.CycleLemmas.{views-slice_set}
use Rattle.aeth_components.proofs.OwnLemmas.{after-sends, own_driven}
use Rattle.aeth_components.proofs.PartLemmas.{set-with_part, views-with_part}
use Rattle.aeth_components.proofs.TableLemmas.{entries-changed}

-- The queues that have something to send had it before, or their component is marked.
pub AreInjecting-more : (number : ℕ) (parts now : List Part) (old new : Injecting)
    → AreInjecting parts old → MarksMore number old.slots new.slots
    → new.entries ≡ old.entries → number < length parts
    → map entries_of now ≡ map entries_of parts
    → ((other slot queue : ℕ) → entry_of parts other slot ≡ Some queue → may_send now other queue ≡ true
    → (may_send parts other queue ≡ true) ⊎ (bit_of (marks_at new.slots slot) other ≡ 1))
    → AreInjecting now new
AreInjecting-more number parts now old new are more entries within same sends = record {
  tables = rw same (record {
    places = HasPlaces-moved (length (map entries_of parts)) old new are.tables.places more.size more.room
        (ap room_of entries);
    size = λ other some. are.tables.size other some ∙ sym more.size;
    entered = λ other slot queue is.
        ap (λ (masks : List ℕ). bit_of masks (place_of_entry other queue slot)) entries
        ∙ are.tables.entered other slot queue is;
    below = λ other slot bit. elim (more.below other slot bit) [
      | inl was ↦ are.tables.below other slot was
      | inr own ↦ (let size = length-map parts entries_of in omega (arith, own, within, size))
    ];
  });
  marked = λ other slot queue is may.
      let entry = sym (entry_at-parts parts other slot)
      ∙ ap (λ (tables : List (List (Option ℕ))). slice_index_or (slice_index_or tables other []) slot None) (sym same)
      ∙ entry_at-parts now other slot ∙ is in
      elim (sends other slot queue entry may) [
        | inl was ↦ more.kept other slot (are.marked other slot queue entry was)
        | inr is ↦ is
      ];
}

-- No queue has more to send than before.
pub AreInjecting-kept : (parts now : List Part) (injecting : Injecting) → AreInjecting parts injecting
    → map entries_of now ≡ map entries_of parts
    → ((other queue : ℕ) → may_send now other queue ≡ true → may_send parts other queue ≡ true)
    → AreInjecting now injecting
AreInjecting-kept parts now injecting are same kept = record {
  tables = rw same are.tables;
  marked = λ other slot queue is may.
      are.marked other slot queue
      (sym (entry_at-parts parts other slot)
      ∙ ap (λ (tables : List (List (Option ℕ))). slice_index_or (slice_index_or tables other []) slot None) (sym same)
      ∙ entry_at-parts now other slot ∙ is) (kept other queue may);
}

-- One queue has changed, and is marked active where it has something to send.
pub AreInjecting-marked_active : (number queue : ℕ) (parts now : List Part) (old new : Injecting)
    → AreInjecting parts old
    → (may_send now number queue ≡ true → MarksQueueActive number queue old new)
    → (may_send now number queue ≡ false → new ≡ old) → number < length parts
    → map entries_of now ≡ map entries_of parts
    → ((other at : ℕ) → ((other ≡ number) × (at ≡ queue) → ⊥) → queue_of now other at ≡ queue_of parts other at)
    → AreInjecting now new
AreInjecting-marked_active number queue parts now old new are marks_active none within same kept =
    let was : (other at : ℕ) → may_send now other at ≡ true → ((other ≡ number) × (at ≡ queue) → ⊥)
    → may_send parts other at ≡ true =
    λ other at may apart. ap (λ (state : QueueState). is_some (emitted state)) (sym (kept other at apart)) ∙ may in
    elim (cases_Bool (may_send now number queue)) [
      | inr mute ↦
          rw (none mute) (AreInjecting-kept parts now old are same (λ other at may. elim (cases_eq other number) [
            | inr apart ↦ was other at may (λ both. apart both.0)
            | inl there ↦ elim (cases_eq at queue) [
              | inr apart ↦ was other at may (λ both. apart both.1)
              | inl here ↦ absurd (cc (sym mute ∙ ap (λ n. may_send now n queue) (sym there)
                  ∙ ap (may_send now other) (sym here) ∙ may))
            ]
          ]))
      | inl sends ↦
          let marked_active = marks_active sends in
          AreInjecting-more number parts now old new are marked_active.more marked_active.entries
          within same
          (λ other slot at is may. elim (cases_eq other number) [
            | inr apart ↦ inl (was other at may (λ both. apart both.0))
            | inl there ↦ elim (cases_eq at queue) [
              | inr apart ↦ inl (was other at may (λ both. apart both.1))
              | inl here ↦
                  inr (rw there
                  (marked_active.own slot (entry-below parts old are.tables other slot at is)
                  (rw (there, here) at (entry-noted parts old are.tables other slot at is))))
            ]
          ])
    ]

-- So where words come to it or are taken.
pub AreInjecting-turned : (parts : List Part) (end : ChannelEnd) (change : QueueState → QueueState)
    (part : Part) (old new : Injecting) → AreInjecting parts old
    → (is_some (emitted (queue_in end.queue (Some part))) ≡ true
    → MarksQueueActive end.ni.0 end.queue old new)
    → (is_some (emitted (queue_in end.queue (Some part))) ≡ false → new ≡ old)
    → slice_get (at_end end change parts) end.ni.0 ≡ Some part → end.ni.0 < length parts
    → AreInjecting (at_end end change parts) new
AreInjecting-turned parts end change part old new are marks_active none at within =
    let same : may_send (at_end end change parts) end.ni.0 end.queue
    ≡ is_some (emitted (queue_in end.queue (Some part))) =
    ap (λ (found : Option Part). is_some (emitted (queue_in end.queue found))) at in
    AreInjecting-marked_active end.ni.0 end.queue parts (at_end end change parts) old new are
    (λ may. marks_active (sym same ∙ may)) (λ mute. none (sym same ∙ mute)) within
    (views-with_part entries_of end.ni.0 _ (entries-changed end.queue change) parts)
    (queue_of-at_end_other parts end change)

-- A flit changes the queue to which it comes.
queue_at-absorbed : (arrival : Option Arrival) (ni : InterfaceState) (queue : ℕ)
    → (option_map (λ last. last.0) (last_of arrival) ≡ Some queue → ⊥)
    → queue_at (absorbed arrival ni).queues queue ≡ queue_at ni.queues queue
queue_at-absorbed None ni queue none = refl
queue_at-absorbed (Some arrival) ni queue none =
    get_or-set_other ni.queues arrival.header.queue queue _ (empty_queue 0)
    (λ same. none (ap (λ n. Some n) (sym same)))

queue_in-landed : (flit : Flit) (part : Part) (queue : ℕ) → (queue_told flit part ≡ Some queue → ⊥)
    → queue_in queue (Some (on_interface (landed (Some flit)) part)) ≡ queue_in queue (Some part)
queue_in-landed flit (Interface ni) queue none = queue_at-absorbed (arrival_of (Some flit)) ni queue none
queue_in-landed flit (Router router) queue none = refl
queue_in-landed flit (TableRouter router) queue none = refl
queue_in-landed flit (Stage stage) queue none = refl

entries-landed : (flit : Flit) (part : Part)
    → entries_of (on_interface (landed (Some flit)) part) ≡ entries_of part
entries-landed flit (Interface ni) = refl
entries-landed flit (Router router) = refl
entries-landed flit (TableRouter router) = refl
entries-landed flit (Stage stage) = refl

-- So where a flit lands, and marks it active.
module _ (parts : List Part) (number : ℕ) (flit : Flit) (part : Part)
    (there : slice_get parts number ≡ Some part) where
  queue_of-landed : (other queue : ℕ) → ((other ≡ number) × (queue_told flit part ≡ Some queue) → ⊥)
      → queue_of (with_part number (on_interface (landed (Some flit))) parts) other queue
      ≡ queue_of parts other queue
  queue_of-landed other queue apart = elim (cases_eq other number) [
    | inr away ↦
        ap (queue_in queue)
        (slice_get-with_part_other parts number other (on_interface (landed (Some flit))) away)
    | inl same ↦
        ap (λ n. queue_of (with_part number (on_interface (landed (Some flit))) parts) n queue) same
        ∙ ap (queue_in queue)
        (slice_get-with_part_same parts number (on_interface (landed (Some flit))) part there)
        ∙ queue_in-landed flit part queue (λ told. apart (same, told))
        ∙ ap (queue_in queue) (sym there) ∙ ap (λ n. queue_of parts n queue) (sym same)
  ]

  -- A queue that may send could before, or is told.
  landed-may : (told found : Option ℕ) → queue_told flit part ≡ found
      → IsTold flit part (on_interface (landed (Some flit)) part) told → (other queue : ℕ)
      → may_send (with_part number (on_interface (landed (Some flit))) parts) other queue ≡ true
      → (may_send parts other queue ≡ true) ⊎ ((other ≡ number) × (told ≡ Some queue))
  landed-may told None is tells other queue may =
      inl (ap (λ (state : QueueState). is_some (emitted state))
      (sym (queue_of-landed other queue (λ both. cc (sym is ∙ both.1)))) ∙ may)
  landed-may told (Some own) is tells other queue may =
      let now = with_part number (on_interface (landed (Some flit))) parts in
      let was : ((other ≡ number) × (queue_told flit part ≡ Some queue) → ⊥) → may_send parts other queue ≡ true =
      λ apart. ap (λ (state : QueueState). is_some (emitted state)) (sym (queue_of-landed other queue apart)) ∙ may in
      elim (cases_eq other number) [
        | inr away ↦ inl (was (λ both. away both.0))
        | inl same ↦ elim (cases_eq queue own) [
          | inr apart ↦ inl (was (λ both. apart (same_Some queue own (sym both.1 ∙ is))))
          | inl here ↦ inr (
            same,
            tells queue (is ∙ ap (λ n. Some n) (sym here))
                (ap (λ (found : Option Part). is_some (emitted (queue_in queue found)))
                (sym (slice_get-with_part_same parts number (on_interface (landed (Some flit))) part there))
                ∙ ap (λ n. may_send now n queue) (sym same) ∙ may),
          )
        ]
      ]

  landed-told : (told : Option ℕ) (old new : Injecting)
      → IsTold flit part (on_interface (landed (Some flit)) part) told
      → AreInjecting parts old → MarksToldActive number told old new → number < length parts
      → AreInjecting (with_part number (on_interface (landed (Some flit))) parts) new
  landed-told None old new tells are marks_active within =
      rw marks_active
      (AreInjecting-kept parts (with_part number (on_interface (landed (Some flit))) parts) old are
      (views-with_part entries_of number _ (entries-landed flit) parts)
      (λ other queue may. elim (landed-may None (queue_told flit part) refl tells other queue may) [
        | inl was ↦ was
        | inr own ↦ absurd (cc own.1)
      ]))
  landed-told (Some told) old new tells are marks_active within =
      AreInjecting-more number parts (with_part number (on_interface (landed (Some flit))) parts) old new are
      marks_active.more marks_active.entries within
      (views-with_part entries_of number _ (entries-landed flit) parts)
      (λ other slot queue is may. elim (landed-may (Some told) (queue_told flit part) refl tells other queue may) [
        | inl was ↦ inl was
        | inr own ↦
            let there = own.0 in
            let here : queue ≡ told = sym (same_Some told queue own.1) in
            inr (rw there
            (marks_active.own slot (entry-below parts old are.tables other slot queue is)
            (rw (there, here) at (entry-noted parts old are.tables other slot queue is))))
      ])

pub AreInjecting-latched : (parts : List Part) (number : ℕ) (flit : Flit) (default latched : Part)
    (told : Option ℕ) (old new : Injecting) → number < length parts
    → latched ≡ on_interface (landed (Some flit)) (get_or parts number default)
    → IsTold flit (get_or parts number default) latched told
    → AreInjecting parts old → MarksToldActive number told old new
    → AreInjecting (set parts number latched) new
AreInjecting-latched parts number flit default latched told old new within is tells are
    marks_active =
    rw (is, set-with_part parts number (on_interface (landed (Some flit))) default within)
    (landed-told parts number flit (get_or parts number default) (slice_get-get_or parts number default within)
    told old new
    (λ queue own may. tells queue own
    (ap (λ (part : Part). is_some (emitted (queue_in queue (Some part)))) is ∙ may)) are
    marks_active within)

-- The entry of a component is that of its table.
table_at-entry : (part : Part) (slot : ℕ)
    → entry_in slot (Some part) ≡ slice_index_or (entries_of part) slot None
table_at-entry (Interface ni) slot = refl
table_at-entry (Router router) slot = refl
table_at-entry (TableRouter router) slot = refl
table_at-entry (Stage stage) slot = refl

-- An interface that sends nothing in a slot is marked there no more.
pub AreInjecting-rested : (cycle slot number : ℕ) (part : Part) (parts : List Part) (old : Injecting)
    (slots : List (List ℕ)) → AreInjecting parts old → slot ≡ cycle % length old.slots
    → slice_get parts number ≡ Some part → sends_own cycle part ≡ false
    → MarksLess number slot old.slots slots → AreInjecting parts (record old { slots = slots })
AreInjecting-rested cycle slot number part parts old slots are is there mute less = record {
  tables = record {
    places = HasPlaces-moved (length (map entries_of parts)) old (record old { slots = slots })
        are.tables.places less.size less.room refl;
    size = λ other some. are.tables.size other some ∙ sym less.size;
    entered = are.tables.entered;
    below = λ other at bit. are.tables.below other at (less.gone other at bit);
  };
  marked = λ other at queue own may. elim (cases_eq other number) [
    | inr apart ↦ less.away other at (inl apart) ∙ are.marked other at queue own may
    | inl same ↦ elim (cases_eq at slot) [
      | inr apart ↦ less.away other at (inr apart) ∙ are.marked other at queue own may
      | inl here ↦
          let found = ap (slice_get parts) same ∙ there in
          let entry = sym (table_at-entry part at) ∙ ap (entry_in at) (sym found) ∙ own in
          absurd (cc (sym mute ∙ sends-entry cycle slot part queue
          (slot-own cycle slot parts old are is number part there)
          (ap (λ n. slice_index_or (entries_of part) n None) (sym here) ∙ entry)
          (ap (λ (found : Option Part). is_some (emitted (queue_in queue found))) (sym found) ∙ may)))
    ]
  ];
}

-- An interface that has sent has nothing to send but what it had before.
sent-may : (entry : Option ℕ) (queues : List QueueState) (queue : ℕ)
    → is_some (emitted_by entry queues) ≡ true
    → is_some (emitted (queue_at (flit_sent_by entry queues) queue)) ≡ true
    → is_some (emitted (queue_at queues queue)) ≡ true
sent-may None queues queue sends may = absurd (cc sends)
sent-may (Some own) queues queue sends may = elim (cases_eq queue own) [
  | inl same ↦ ap (λ n. is_some (emitted (queue_at queues n))) same ∙ sends
  | inr apart ↦
      ap (λ (state : QueueState). is_some (emitted state))
      (sym (get_or-set_other queues own queue _ (empty_queue 0) apart)) ∙ may
]

driven-may : (cycle : ℕ) (part : Part) (queue : ℕ) → sends_own cycle part ≡ true
    → is_some (emitted (queue_in queue (Some (own_driven cycle part)))) ≡ true
    → is_some (emitted (queue_in queue (Some part))) ≡ true
driven-may cycle (Interface ni) queue sends may =
    sent-may (queue_at_cycle ni.entries cycle) ni.queues queue sends may
driven-may cycle (Router router) queue sends may = absurd (cc sends)
driven-may cycle (TableRouter router) queue sends may = absurd (cc sends)
driven-may cycle (Stage stage) queue sends may = absurd (cc sends)

entries-driven : (cycle : ℕ) (part : Part) → entries_of (own_driven cycle part) ≡ entries_of part
entries-driven cycle (Interface ni) = refl
entries-driven cycle (Router router) = refl
entries-driven cycle (TableRouter router) = refl
entries-driven cycle (Stage stage) = refl

pub AreInjecting-driven : (cycle number : ℕ) (part driven : Part) (parts : List Part) (injecting : Injecting)
    → AreInjecting parts injecting → slice_get parts number ≡ Some part → sends_own cycle part ≡ true
    → driven ≡ after_of part cycle → AreInjecting (set parts number driven) injecting
AreInjecting-driven cycle number part driven parts injecting are there sends is =
    let within = slice_get_within parts number part there in
    let own = is ∙ after-sends cycle part sends in
    AreInjecting-kept parts (set parts number driven) injecting are
    (views-slice_set entries_of parts number driven
    (map-at entries_of parts number part there
    ∙ ap (λ (table : List (Option ℕ)). Some table)
    (sym (ap entries_of own ∙ entries-driven cycle part))))
    (λ other queue may. elim (cases_eq other number) [
      | inr apart ↦
          ap (λ (found : Option Part). is_some (emitted (queue_in queue found)))
          (sym (slice_get-slice_set_other parts number other driven apart)) ∙ may
      | inl same ↦
          ap (λ n. may_send parts n queue) same
          ∙ ap (λ (found : Option Part). is_some (emitted (queue_in queue found))) there
          ∙ driven-may cycle part queue sends
          (ap (λ (part : Part). is_some (emitted (queue_in queue (Some part)))) (sym own)
          ∙ ap (λ (found : Option Part). is_some (emitted (queue_in queue found)))
          (sym (slice_get-slice_set_same parts number driven within))
          ∙ ap (λ n. may_send (set parts number driven) n queue) (sym same) ∙ may)
    ])

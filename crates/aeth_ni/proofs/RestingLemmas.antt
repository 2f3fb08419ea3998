-- When an interface rests.
use Rattle.std.proofs.Common.{◌≡◌, ◌↔◌, ◌≤◌, ◌<◌, ◌+◌, ◌-◌, ◌%◌, ◌∙◌, ℕ, refl, sym, ap, false}
use Rattle.std.proofs.Common.{arith, List, length, Option, Some, None, is_some, eq-eqb}
use Rattle.std.proofs.Math.Nat.{mod-add-mod, mod-le, mod-lt}
use Rattle.std.proofs.lemmas.List.{set-get_or}
use Rattle.std.specs.{List.slice_index_or, Option.option_map}
use Rattle.aeth_clocked.specs.{Resting.HasNoFlit, Resting.RestsDrive, Resting.RestsLatch}
use Rattle.aeth_clocked.specs.{Wires.flit_on, declared.flit.Flit.Flit}
use Rattle.aeth_clocked.proofs.WiresLemmas.{HasNoFlit-one}
use Rattle.aeth_ni.specs.Component.{absorbed, arrival_of, emitted_by, flit_sent_by, last_of}
use Rattle.aeth_ni.specs.Component.{interface_absorb, interface_after, interface_emit}
use Rattle.aeth_ni.specs.Component.{interface_inputs, interface_outputs, queue_at_cycle}
use Rattle.aeth_ni.specs.Interface.{InterfaceState, queue_at}
use Rattle.aeth_ni.specs.Queue.{QueueState, empty_queue}
use Rattle.aeth_ni.specs.Sending.{emitted, flit_sent, sending}

-- Where no route makes a flit, there is no route.
is_some-mapped : {X Y : Type 0} (make : X → Y) (given : Option X) → option_map make given ≡ None
    → is_some given ≡ false
is_some-mapped make None none = refl
is_some-mapped make (Some x) none = absurd (cc none)

-- A queue that sends nothing is as it was.
pub flit_sent-mute : (queue : QueueState) → emitted queue ≡ None → flit_sent queue ≡ queue
flit_sent-mute queue mute = rw (is_some-mapped _ (sending queue) mute) refl

-- So are all queues of an interface, where the queue of an entry sends nothing.
flit_sent_by-mute : (entry : Option ℕ) (queues : List QueueState) → emitted_by entry queues ≡ None
    → flit_sent_by entry queues ≡ queues
flit_sent_by-mute None queues mute = refl
flit_sent_by-mute (Some queue) queues mute =
    rw (flit_sent-mute (queue_at queues queue) mute) (set-get_or queues queue (empty_queue 0))

-- A cycle that is a table or more behind another has the slot of one within a table of that.
pub queue_at_cycle-round : (entries : List (Option ℕ)) (from cycle : ℕ) → 0 < length entries
    → from ≤ cycle
    → (near : ℕ) × (from ≤ near) × (near < from + length entries) × (near ≤ cycle)
    × (queue_at_cycle entries near ≡ queue_at_cycle entries cycle)
queue_at_cycle-round entries from cycle some after =
    let slots = length entries in
    let gone = cycle - from in
    let within = mod-lt gone some in
    let fewer = mod-le gone slots in
    let there : gone + from ≡ cycle = omega arith in
    let slot : (from + gone % slots) % slots ≡ cycle % slots =
    ap (λ n. n % slots) (let swapped : from + gone % slots ≡ gone % slots + from = omega arith in
    swapped) ∙ mod-add-mod gone slots from ∙ ap (λ n. n % slots) there in (
      from + gone % slots,
      omega arith,
      omega (arith, within),
      omega (arith, fewer),
      ap (λ n. slice_index_or entries n None) slot,
    )

module _ (ni : InterfaceState) (wires : List (Option Flit)) where
  -- An interface rests from driving just where the queue of its slot sends nothing and its leaving
  -- link is empty.
  pub RestsDrive-interface : (cycle : ℕ)
      → ((flit_on wires ni.leaving.0 ≡ None)
      × (emitted_by (queue_at_cycle ni.entries cycle) ni.queues ≡ None))
      ↔ RestsDrive interface_outputs interface_emit interface_after cycle wires ni
  RestsDrive-interface cycle = (
    (λ idle. record {
      silent = λ link is. idle.1;
      still = ap (λ (queues : List QueueState). record ni { queues = queues })
          (flit_sent_by-mute (queue_at_cycle ni.entries cycle) ni.queues idle.1);
      empty = (HasNoFlit-one ni.leaving.0 wires).0 idle.0;
    }),
    (λ rests. (
      rests.empty ni.leaving.0 (eq-eqb ni.leaving.0 ni.leaving.0 refl),
      rests.silent ni.leaving.0 (eq-eqb ni.leaving.0 ni.leaving.0 refl),
    )),
  )

  -- It rests from latching an empty link just where it tells of no last flit.
  pub RestsLatch-interface :
      ((flit_on wires ni.entering.0 ≡ None) × (ni.last ≡ None))
      ↔ (HasNoFlit (interface_inputs ni) wires × RestsLatch interface_absorb wires ni)
  RestsLatch-interface = (
    (λ idle. (
      (HasNoFlit-one ni.entering.0 wires).0 idle.0,
      ap (λ (flit : Option Flit). absorbed (arrival_of flit) ni) idle.0
          ∙ ap (λ (last : Option (ℕ × ℕ)). record ni { last = last }) (sym idle.1),
    )),
    (λ rests.
        let empty = (HasNoFlit-one ni.entering.0 wires).1 rests.0 in (
          empty,
          sym (ap (λ (ni : InterfaceState). ni.last) rests.1)
              ∙ ap (λ (flit : Option Flit). last_of (arrival_of flit)) empty,
        )),
  )

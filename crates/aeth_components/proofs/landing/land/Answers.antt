use Rattle.std.proofs.Common.{◌≡◌, ◌<◌, ◌+◌, ◌==◌, ◌++◌, ◌^◌, ◌∙◌, ℕ, [], ap, ap₂, arith, drop}
use Rattle.std.proofs.Common.{fold, get_or, length, length-set, map, refl, set, slice_get, List}
use Rattle.std.proofs.Common.{Some, sym, take}
use Rattle.std.proofs.lemmas.List.{length-map, length-replicate, Elements.All-map}
use Rattle.std.proofs.lemmas.Option.{slice_get-get_or}
use Rattle.aeth_base.proofs.Lists.{written_back}
use Rattle.aeth_clocked.proofs.UsedLemmas.{NextUsed, used-end, used-next}
use Rattle.aeth_clocked.specs.{Wires.flit_on, Wires.used_from, declared.flit.Flit.Flit}
use Rattle.aeth_router.specs.Onward.{Nothing}
use Rattle.aeth_router.specs.declared.forwarding.Forwarding.{Forwarding, TheVariants.ByPort}
use Rattle.aeth_components.proofs.AmongLemmas.{IsChannelState-among}
use Rattle.aeth_components.proofs.ComeLemmas.{came_to, counts-all, counts-none, flits_landed-none}
use Rattle.aeth_components.proofs.ComeLemmas.{flits_landed-same, notes-all, notes-none}
use Rattle.aeth_components.proofs.CountingLemmas.{flits_counted-until, flits_counted-whole}
use Rattle.aeth_components.proofs.ForwardedLemmas.{ForwardedTo-kept, ForwardedTo-none}
use Rattle.aeth_components.proofs.ForwardedLemmas.{ForwardedTo-noted, ForwardedTo-until}
use Rattle.aeth_components.proofs.ForwardedLemmas.{noted-below, noted-tells}
use Rattle.aeth_components.proofs.LandedLemmas.{Lands, counts-more, counts-past, flits_landed-more}
use Rattle.aeth_components.proofs.LandedLemmas.{flits_landed-past, notes-more, notes-past}
use Rattle.aeth_components.proofs.InjectingLemmas.{HasPlaces-part}
use Rattle.aeth_components.proofs.MarkedActiveLemmas.{AreInjecting-latched}
use Rattle.aeth_components.proofs.TakenLemmas.{OneMore-next, flit_on-all, flits_counted-next}
use Rattle.aeth_components.proofs.TakenLemmas.{flits_on-all, flits_on-few, flits_on-next}
use Rattle.aeth_components.proofs.WalkedLemmas.{length-notes_among}
use Rattle.aeth_components.proofs.landing.land.Goals.{After-count_flit, In-None, In-Some}
use Rattle.aeth_components.proofs.landing.land.Goals.{else-number-interfaces}
use Rattle.aeth_components.proofs.landing.land.Goals.{then-number-interfaces}
use Rattle.aeth_components.specs.{Channels.ChannelsState, Counting.counted_among}
use Rattle.aeth_components.specs.{Counting.flits_counted, Counting.noted_among, Wirings.wiring_of}
use Rattle.aeth_components.specs.{ChannelStates.IsChannelState, Passing.way_of}
use Rattle.aeth_components.specs.{Seen.interfaces_latched, declared.counts.Counts.Counts}
use Rattle.aeth_components.proofs.landing.land.Given as given
use Rattle.aeth_components.proofs.landing.land.Goals as goal

-- The next wire with a flit.
next : (g : given.Over) (c : In-Some g) → NextUsed c.args.wires.now c.loop-wire.invariant.from
    c.in-Some.wire c.next.new.self
next g c =
    used-next c.args.wires.now c.loop-wire.invariant.from c.in-Some.wire c.next.new.self
    (sym c.loop-wire.invariant.left ∙ c.in-Some.ensures.steps)

-- It has an end, which is a component.
end : (g : given.Over) (c : In-Some g)
    → slice_get c.args.turns.now.ends.receivers.items c.in-Some.wire
    ≡ Some (get_or c.deref-receivers.result.now c.in-Some.wire 0)
end g c =
    let below = (next g c).below in
    rw c.deref-receivers.ensures.value (slice_get-get_or c.args.turns.now.ends.receivers.items
    c.in-Some.wire 0 (omega (arith, below, c.requires.ends.fits.receivers)))

within : (g : given.Over) (c : In-Some g)
    → get_or c.deref-receivers.result.now c.in-Some.wire 0 < length c.args.parts.now
within g c =
    let are = c.requires.ends in
    let below = (next g c).below in
    let number = are.fits.receivers_below c.in-Some.wire 0
    (omega (arith, below, are.fits.receivers)) in
    let count = are.count ∙ length-map c.args.parts.now wiring_of in
    rw c.deref-receivers.ensures.value (omega (arith, number, count))

-- How it sends flits on is noted.
noted_at : (g : given.Over) (c : In-Some g) (noted : List Forwarding)
    → noted ≡ c.args.turns.now.forwarding.items
    → slice_get c.args.turns.now.forwarding.items (get_or c.deref-receivers.result.now c.in-Some.wire 0)
    ≡ Some (get_or noted (get_or c.deref-receivers.result.now c.in-Some.wire 0) (ByPort []))
noted_at g c noted same =
    let size = c.requires.noted.size ∙ length-map c.args.parts.now way_of in
    rw same (slice_get-get_or c.args.turns.now.forwarding.items
    (get_or c.deref-receivers.result.now c.in-Some.wire 0) (ByPort []) (rw size (within g c)))

-- Before the first wire nothing has landed, or is passed on.
pub loop-wire-init : goal.loop-wire-init
loop-wire-init g c =
    let parts = c.args.parts.now in
    let wires = c.args.wires.now in
    let latched = interfaces_latched wires parts in
    let channel_states = c.args.channels.now.channel_states in
    let onward = c.requires.onward in
    record {
      from = 0;
      left = c.into_iter-wire-iterator.ensures.into_iter_gives ∙ c.used-wire-items.ensures;
      within = omega arith;
      parts = flits_landed-none parts;
      injecting = c.requires.injecting;
      channel_states = counts-none parts latched c.args.cycle channel_states;
      words = refl;
      landings = notes-none parts latched c.args.cycle channel_states
          c.args.counts.now.landings.items;
      flits = refl;
      all = refl;
      size = ap length onward ∙ length-replicate (length wires) Nothing;
      forwarded = ForwardedTo-none parts wires c.args.turns.now.ends c.args.turns.now.onward onward;
      steps = omega arith;
    }

pub offset_bounds-receivers-wire : goal.offset_bounds-receivers-wire
offset_bounds-receivers-wire g c =
    let below = (next g ((goal.at.offset_bounds-receivers-wire g c).In-Some)).below in
    omega (arith, below, c.requires.ends.fits.few_wires)

pub bounds-receivers-wire : goal.bounds-receivers-wire
bounds-receivers-wire g c =
    let below = (next g ((goal.at.bounds-receivers-wire g c).In-Some)).below in
    rw c.deref-receivers.ensures.value (omega (arith, below, c.requires.ends.fits.receivers))

pub overflow_cast-wire : goal.overflow_cast-wire
overflow_cast-wire g c =
    let below = (next g ((goal.at.overflow_cast-wire g c).In-Some)).below in
    omega (arith, below, c.requires.ends.fits.few_wires)

pub flit-flit-requires : goal.flit-flit-requires
flit-flit-requires g c = (next g ((goal.at.flit-flit-requires g c).In-Some)).some

-- There are as many components as the ends say.
few : (g : given.Over) (c : In-Some g) → length c.args.parts.now < 2 ^ 32
few g c = omega (arith, c.requires.ends.count ∙ length-map c.args.parts.now wiring_of)

pub offset_bounds-parts-number : goal.offset_bounds-parts-number
offset_bounds-parts-number g c =
    let some = (goal.at.offset_bounds-parts-number g c).In-Some in
    omega (arith, within g some, few g some)

pub bounds-parts-number : goal.bounds-parts-number
bounds-parts-number g c =
    rw c.loop-wire.auto.parts (within g ((goal.at.bounds-parts-number g c).In-Some))

pub offset_bounds-forwardings-number : goal.offset_bounds-forwardings-number
offset_bounds-forwardings-number g c =
    let some = (goal.at.offset_bounds-forwardings-number g c).In-Some in
    omega (arith, within g some, few g some)

-- As many are noted.
pub bounds-forwardings-number : goal.bounds-forwardings-number
bounds-forwardings-number g c =
    let size = c.requires.noted.size ∙ length-map c.args.parts.now way_of in
    rw (c.deref-forwardings.ensures.value, size)
    (within g ((goal.at.bounds-forwardings-number g c).In-Some))

there : (g : given.Over) (c : In-Some g)
    → get_or c.deref-receivers.result.now c.in-Some.wire 0 < length c.loop-wire.parts
there g c = rw c.loop-wire.auto.parts (within g c)

pub mark_told_active-requires : goal.mark_told_active-requires
mark_told_active-requires g c =
    HasPlaces-part c.loop-wire.parts (get_or c.deref-receivers.result.now c.in-Some.wire 0)
    c.loop-wire.injecting c.loop-wire.invariant.injecting
    (there g ((goal.at.mark_told_active-requires g c).In-Some))

pub count_at-requires-clause-number : goal.count_at-requires-clause-number
count_at-requires-clause-number g c =
    rw (
      length-set c.loop-wire.parts (get_or c.deref-receivers.result.now c.in-Some.wire 0)
          c.latch_one-told.new.part,
      c.loop-wire.auto.parts,
    )
    (within g ((goal.at.count_at-requires-clause-number g c).In-Some))

pub count_at-requires-clause-few : goal.count_at-requires-clause-few
count_at-requires-clause-few g c =
    rw (
      length-set c.loop-wire.parts (get_or c.deref-receivers.result.now c.in-Some.wire 0)
          c.latch_one-told.new.part,
      c.loop-wire.auto.parts,
    )
    (few g ((goal.at.count_at-requires-clause-few g c).In-Some))

-- The channels are as sound as they were.
pub count_at-requires-clause-channel_states : goal.count_at-requires-clause-channel_states
count_at-requires-clause-channel_states g c =
    let parts = c.args.parts.now in
    let wires = c.args.wires.now in
    let done = c.loop-wire.invariant in
    let latched = interfaces_latched wires parts in
    let before = came_to (take done.from wires) parts in
    let words = length c.args.counts.now.landings.items in
    let size : length c.deref_mut-then-number-interfaces.result.now ≡ words =
    ap length (c.deref_mut-then-number-interfaces.ensures.value ∙ done.landings)
    ∙ length-notes_among c.args.cycle latched before c.args.channels.now.channel_states
    c.args.counts.now.landings.items in
    let number = get_or c.deref-receivers.result.now c.in-Some.wire 0 in
    let count : length (set c.loop-wire.parts number c.latch_one-told.new.part) ≡ length parts =
    length-set c.loop-wire.parts number c.latch_one-told.new.part ∙ c.loop-wire.auto.parts in
    rw (size, count, done.channel_states)
    (All-map (IsChannelState words (length parts)) (counted_among before c.args.cycle latched)
    c.args.channels.now.channel_states
    (λ k channel_state within. IsChannelState-among c.args.cycle latched before words (length parts)
    _
    (c.requires.channel_states k channel_state within)))

-- Its flit comes to the component at its end.
lands : (g : given.Over) (c : In-Some g) (flit : Flit)
    → flit_on c.args.wires.now c.in-Some.wire ≡ Some flit
    → Lands c.args.parts.now c.args.wires.now c.args.turns.now.ends c.in-Some.wire
    (get_or c.deref-receivers.result.now c.in-Some.wire 0) flit
    (take c.loop-wire.invariant.from c.args.wires.now) (take (c.in-Some.wire + 1) c.args.wires.now)
lands g c flit has =
    let next = next g c in
    record {
      wired = c.requires.wired;
      are = c.requires.ends;
      within = next.below;
      end = end g c;
      has = has;
      more = OneMore-next next has;
    }

-- What is noted of one that is no interface sends its flit to wires.
pub pass-requires : goal.pass-requires
pass-requires g c =
    let some = (goal.at.pass-requires g c).In-Some in
    let lands = lands g some c.flit-flit.result c.flit-flit.ensures in
    let noted = c.deref-forwardings in
    let forwarding = get_or noted.result.now (get_or c.deref-receivers.result.now c.in-Some.wire 0)
    (ByPort []) in
    rw c.loop-wire.invariant.size
    (noted-below lands forwarding
    (noted-tells lands c.args.turns.now.forwarding.items forwarding c.requires.noted
    (noted_at g some noted.result.now noted.ensures.value)))

pub overflow_add-all : goal.overflow_add-all
overflow_add-all g c =
    let next = next g ((goal.at.overflow_add-all g c).In-Some) in
    let below = next.below in
    let after = next.after in
    let few = flits_on-few c.args.wires.now c.loop-wire.invariant.from in
    omega (arith, below, after, few, c.loop-wire.invariant.all, c.requires.ends.fits.few_wires)

-- One flit more of a link is counted, if the wire is the first of one.
flits : (g : given.Over) (c : After-count_flit g)
    → NextUsed c.args.wires.now c.loop-wire.invariant.from c.in-Some.wire c.next.new.self
    → take c.loop-wire.counts.flits.len (c.count_flit.new.flits
    ++ drop (length c.count_flit.new.flits) c.loop-wire.counts.flits.items)
    ≡ flits_counted (take (c.in-Some.wire + 1) c.args.wires.now) c.args.counts.now.flits.items
flits g c next =
    let flits = c.loop-wire.counts.flits in
    written_back flits.items c.count_flit.new.flits flits.len flits.ok.0
    (c.count_flit.auto.flits ∙ ap length c.deref_mut.ensures.value)
    ∙ flits_counted-next c.args.counts.now.flits.items next
    (c.deref_mut.ensures.value ∙ c.loop-wire.invariant.flits) c.count_flit.ensures

-- One wire more has been passed.
pub loop-wire-preserved : goal.loop-wire-preserved
loop-wire-preserved g c =
    let some = (goal.at.loop-wire-preserved g c).In-Some in
    let next = next g some in
    let lands = lands g some c.flit-flit.result c.flit-flit.ensures in
    let flits = flits g ((goal.at.loop-wire-preserved g c).After-count_flit) next in
    let wires = c.args.wires.now in
    let cycle = c.args.cycle in
    let channel_states = c.args.channels.now.channel_states in
    let landings = c.args.counts.now.landings.items in
    let done = c.loop-wire.invariant in
    let wire = c.in-Some.wire in
    let below = next.below in
    let number = get_or c.deref-receivers.result.now wire 0 in
    let one = flits_on-next next in
    let came = ForwardedTo-until c.args.parts.now wires c.args.turns.now.ends c.requires.wired
    c.requires.ends c.loop-wire.onward done.from wire done.forwarded next.after (omega (arith, below))
    next.empty in
    elim c.if-number-interfaces.branch [
      | then-number-interfaces w ↦
          let less = w.if-number-interfaces.true in
          let now = set c.loop-wire.parts number w.latch_one-told.new.part in
          let more = flits_landed-more lands less w.index-parts-number.result done.parts
          w.latch_one-told.ensures.part in
          let list = c.loop-wire.counts.landings in
          let read = w.deref_mut-then-number-interfaces.ensures.value in
          record {
            from = wire + 1;
            left = next.behind;
            within = omega (arith, below);
            parts = w.parts-is ∙ more;
            injecting = rw (w.parts-is, w.injecting-is) (AreInjecting-latched c.loop-wire.parts number
                c.flit-flit.result w.index-parts-number.result w.latch_one-told.new.part
                w.latch_one-told.result c.loop-wire.injecting w.mark_told_active.new.self
                (there g some)
                w.latch_one-told.ensures.part w.latch_one-told.ensures.told done.injecting
                w.mark_told_active.ensures);
            channel_states =
                ap (λ (channels : ChannelsState). channels.channel_states) w.channels-is
                ∙ w.count_at.ensures.channel_states
                ∙ ap (map (counted_among (λ i. i == number) cycle now)) done.channel_states
                ∙ counts-more lands less more cycle channel_states;
            words = ap (λ (channels : ChannelsState). channels.words) w.channels-is
                ∙ w.count_at.ensures.words ∙ done.words;
            landings = ap (λ (counts : Counts). counts.landings.items) w.counts-is
                ∙ written_back list.items w.count_at.new.landings list.len list.ok.0
                (w.count_at.auto.landings ∙ ap length read)
                ∙ w.count_at.ensures.landings
                ∙ ap₂ (fold (noted_among (λ i. i == number) cycle now)) (read ∙ done.landings)
                done.channel_states
                ∙ notes-more lands less more cycle channel_states landings;
            flits = ap (λ (counts : Counts). counts.flits.items) w.counts-is ∙ flits;
            all = ap (λ n. n + 1) done.all ∙ sym one;
            size = ap length w.onward-is ∙ done.size;
            forwarded = rw w.onward-is (ForwardedTo-kept lands c.loop-wire.onward came less);
            steps = omega (arith, c.tick.ensures, done.steps, one);
          }
      | else-number-interfaces w ↦
          let over = w.if-number-interfaces.false in
          let noted = c.deref-forwardings in
          let forwarding = get_or noted.result.now number (ByPort []) in
          record {
            from = wire + 1;
            left = next.behind;
            within = omega (arith, below);
            parts = w.parts-is ∙ done.parts ∙ flits_landed-past lands over;
            injecting = rw (w.parts-is, w.injecting-is) done.injecting;
            channel_states =
                ap (λ (channels : ChannelsState). channels.channel_states) w.channels-is
                ∙ done.channel_states
                ∙ counts-past lands over cycle channel_states;
            words = ap (λ (channels : ChannelsState). channels.words) w.channels-is ∙ done.words;
            landings = ap (λ (counts : Counts). counts.landings.items) w.counts-is ∙ done.landings
                ∙ notes-past lands over cycle channel_states landings;
            flits = ap (λ (counts : Counts). counts.flits.items) w.counts-is ∙ flits;
            all = ap (λ n. n + 1) done.all ∙ sym one;
            size = ap length w.onward-is ∙ w.pass.ensures.size ∙ done.size;
            forwarded = rw w.onward-is (ForwardedTo-noted lands c.loop-wire.onward came
                forwarding (noted-tells lands c.args.turns.now.forwarding.items forwarding
                c.requires.noted (noted_at g some noted.result.now noted.ensures.value)) done.size
                w.pass.ensures);
            steps = omega (arith, c.tick.ensures, done.steps, one);
          }
    ]

-- All have landed.
all : (g : given.Over) (c : In-None g) → used_from c.args.wires.now c.loop-wire.invariant.from ≡ []
all g c = sym c.loop-wire.invariant.left ∙ c.in-None.ensures.steps.0

same : (g : given.Over) (c : In-None g) (wire : ℕ)
    → flit_on (take c.loop-wire.invariant.from c.args.wires.now) wire ≡ flit_on c.args.wires.now wire
same g c = flit_on-all c.args.wires.now c.loop-wire.invariant.from (all g c)

pub returns-clause-parts : goal.returns-clause-parts
returns-clause-parts g c =
    c.loop-wire.invariant.parts
    ∙ flits_landed-same c.args.wires.now (take c.loop-wire.invariant.from c.args.wires.now)
    c.args.parts.now (same g c)

pub returns-clause-channel_states : goal.returns-clause-channel_states
returns-clause-channel_states g c =
    c.loop-wire.invariant.channel_states
    ∙ counts-all c.args.wires.now (take c.loop-wire.invariant.from c.args.wires.now) c.args.parts.now
    (same g c) c.args.cycle c.args.channels.now.channel_states

pub returns-clause-landings : goal.returns-clause-landings
returns-clause-landings g c =
    c.loop-wire.invariant.landings
    ∙ notes-all c.args.wires.now (take c.loop-wire.invariant.from c.args.wires.now) c.args.parts.now
    (same g c) c.args.cycle c.args.channels.now.channel_states c.args.counts.now.landings.items

pub returns-clause-flits : goal.returns-clause-flits
returns-clause-flits g c =
    let wires = c.args.wires.now in
    let counts = c.args.counts.now.flits.items in
    let done = c.loop-wire.invariant in
    flits_counted-until wires counts c.loop-wire.counts.flits.items done.from (length wires) done.within
    (omega arith) (used-end wires done.from (all g c)) done.flits
    ∙ flits_counted-whole wires counts (length wires) c.requires.flits

pub returns-clause-turns : goal.returns-clause-turns
returns-clause-turns g c =
    let done = c.loop-wire.invariant in
    ap (λ flits. record c.args.turns.now {
      onward = c.loop-wire.onward;
      injecting = c.loop-wire.injecting;
      flits = flits;
    })
    (done.all ∙ flits_on-all c.args.wires.now done.from done.within (all g c))

pub returns-clause-forwarded : goal.returns-clause-forwarded
returns-clause-forwarded g c =
    let wires = c.args.wires.now in
    let done = c.loop-wire.invariant in
    ForwardedTo-until c.args.parts.now wires c.args.turns.now.ends c.requires.wired c.requires.ends
    c.loop-wire.onward done.from (length wires) done.forwarded done.within (omega arith)
    (used-end wires done.from (all g c))

pub returns-clause-steps : goal.returns-clause-steps
returns-clause-steps g c =
    let done = c.loop-wire.invariant in
    let all = flits_on-all c.args.wires.now done.from done.within (all g c) in
    omega (arith, done.steps, all)

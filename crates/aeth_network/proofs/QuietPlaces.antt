-- Places behind which nothing but words comes before a cycle.
use Rattle.std.proofs.Common.{◌≡◌, ◌≤◌, ◌<◌, ◌+◌, ◌-◌, ◌==◌, ◌∙◌, ℕ, List, [], ap, arith, drop}
use Rattle.std.proofs.Common.{filter, sym, take, slice_range}
use Rattle.std.specs.List.Sorted.{IsNonDecreasingBy}
use Rattle.aeth_schedule.specs.declared.session_start.SessionStart.{SessionStart}
use Rattle.aeth_stimuli.specs.{Events.events_in, Stimuli.Stimuli, Stimuli.Take}
use Rattle.aeth_running.specs.Network.{NetworkState}
use Rattle.aeth_running.specs.Routing.{Entering, Routing, later_rows}
use Rattle.aeth_network.specs.{Behind.passed, Brought.BringsWords, Brought.IsCalm, Windows.AreOver}
use Rattle.aeth_network.specs.{Cursors.AreCursors, Cursors.AreInOrder}
use Rattle.aeth_network.specs.{declared.given.Cursors.Cursors}
use Rattle.aeth_network.proofs.{MappedRows.events-range, Passed.passed-first, Passed.passed-range}
use Rattle.aeth_network.proofs.{Ready.length-in, RestingChannelStates.passed-rises}
use Rattle.aeth_network.proofs.{Skipping.events-still, WindowLemmas.over-later}

-- As many rows lie before a later cycle, or more.
pub passed-to : {X : Type 0} (key : X → ℕ) (from to : ℕ) (xs : List X) → from ≤ to
    → passed key from xs ≤ passed key to xs
passed-to key from to xs le =
    let rises = passed-rises key from (to - from) xs in
    let end : from + (to - from) ≡ to = omega arith in
    let same = ap (λ n. passed key n xs) end in
    omega (arith, rises, same)

-- Before the first cycle there is none, up to any place.
pub quiet-first : {X : Type 0} (key : X → ℕ) (until place : ℕ) (xs : List X) → until ≡ 0
    → passed key until xs ≤ place
quiet-first key until place xs first =
    let none = ap (λ n. passed key n xs) first ∙ passed-first key xs in
    omega (arith, none)

-- What lies before a cycle up to a place, does so before a sooner one.
pub quiet-sooner : {X : Type 0} (key : X → ℕ) (until sooner place : ℕ) (rows xs : List X)
    → rows ≡ xs → sooner ≤ until → passed key until rows ≤ place → passed key sooner xs ≤ place
quiet-sooner key until sooner place rows xs is le quiet =
    let fewer = passed-to key sooner until xs le in
    let same = ap (passed key until) is in
    omega (arith, fewer, same, quiet)

-- A range that ends where it starts is empty.
range-none : {X : Type 0} (xs : List X) (from to : ℕ) → to ≤ from → slice_range xs from to ≡ []
range-none {X} xs from to le =
    let none : to - from ≡ 0 = omega arith in
    ap (λ n. take n (drop from xs)) none

-- No more rows lie before the next cycle than before this one.
module _ {X : Type 0} (key : X → ℕ) (t until place : ℕ) (xs : List X) (place_is : place ≡ passed key t xs)
    (quiet : passed key until xs ≤ place) (before : t < until) where
  no-more : passed key (t + 1) xs ≤ passed key t xs
  no-more =
      let more = passed-to key (t + 1) until xs (omega arith) in
      omega (arith, more, quiet, place_is)

  -- So none is of this one.
  none-now : IsNonDecreasingBy key xs → filter (λ one. key one == t) xs ≡ []
  none-now rises =
      sym (passed-range key t xs rises) ∙ range-none xs (passed key t xs) (passed key (t + 1) xs) no-more

-- A cycle before the calm one brings nothing but words and events.
pub calm-now : (cursors : Cursors) (t : ℕ) (all : Stimuli) (routing : Routing)
    → AreInOrder all routing → AreCursors cursors t all routing → t < cursors.calm_until
    → IsCalm all routing t
calm-now cursors t all routing order at before =
    let until = cursors.calm_until in
    record {
      ungone = none-now (λ (one : SessionStart). one.channel_state.go) t until cursors.session_start
          all.schedule.session_starts at.session_start_is at.calm.session_starts before
          order.session_starts;
      untaken = none-now (λ (one : Take). one.cycle) t until cursors.take all.takes at.take_is
          at.calm.takes before order.takes;
      unentered = none-now (λ (one : Entering). one.cycle) t until cursors.entering
          (later_rows routing) at.entering_is at.calm.enterings before order.enterings;
    }

-- And one before the quiet one nothing but words.
pub brings-words : (cursors : Cursors) (all : NetworkState) → AreInOrder all.stimuli all.routing
    → AreCursors cursors all.time all.stimuli all.routing → all.time < cursors.quiet_until
    → BringsWords all
brings-words cursors all order at before =
    let t = all.time in
    let cycles = all.stimuli.schedule.cycles in
    let events = all.stimuli.schedule.events in
    let cycle = λ (one : ℕ). one in
    let sooner = at.sooner in
    record {
      calm = calm-now cursors t all.stimuli all.routing order at (omega (arith, before, sooner));
      eventless = sym (events-range t cycles events order.event_cycles order.events)
          ∙ range-none events (passed cycle t cycles) (passed cycle (t + 1) cycles)
          (no-more cycle t cursors.quiet_until cursors.event cycles at.event_is at.quiet before);
    }

-- As many rows lie before the next cycle where none is of this one.
passed-next : {X : Type 0} (key : X → ℕ) (t : ℕ) (xs : List X) → IsNonDecreasingBy key xs
    → filter (λ one. key one == t) xs ≡ [] → passed key (t + 1) xs ≡ passed key t xs
passed-next key t xs rises none =
    let size = length-in key t xs [] (passed-range key t xs rises ∙ none) in
    omega (arith, size)

-- Behind a calm cycle only the places in the events, the words and the windows have moved.
pub cursors-calm : (cursors : Cursors) (t : ℕ) (all : Stimuli) (routing : Routing)
    (event offer window quiet : ℕ) → AreInOrder all routing → AreCursors cursors t all routing
    → IsCalm all routing t → event ≡ passed (λ cycle. cycle) (t + 1) all.schedule.cycles
    → offer ≡ passed (λ one. one.cycle) (t + 1) all.offers
    → AreOver window (t + 1) all.schedule.windows
    → passed (λ cycle. cycle) quiet all.schedule.cycles ≤ event → quiet ≤ cursors.calm_until
    → AreCursors
    (record cursors { event = event; offer = offer; window = window; quiet_until = quiet })
    (t + 1) all routing
cursors-calm cursors t all routing event offer window quiet order at calm events offers over until
    sooner =
    let session_start = λ (one : SessionStart). one.channel_state.go in
    let taking = λ (one : Take). one.cycle in
    let entering = λ (one : Entering). one.cycle in
    record {
      event_is = events;
      session_start_is = at.session_start_is
          ∙ sym (passed-next session_start t all.schedule.session_starts order.session_starts
          calm.ungone);
      offer_is = offers;
      take_is = at.take_is ∙ sym (passed-next taking t all.takes order.takes calm.untaken);
      window_is = over;
      entering_is = at.entering_is
          ∙ sym (passed-next entering t (later_rows routing) order.enterings calm.unentered);
      quiet = until;
      calm = record {
        session_starts = at.calm.session_starts;
        takes = at.calm.takes;
        enterings = at.calm.enterings;
      };
      sooner = sooner;
    }

-- Behind one that brings nothing but words only the place in the words has.
pub cursors-words : (cursors : Cursors) (all : NetworkState) (last : ℕ)
    → AreInOrder all.stimuli all.routing → AreCursors cursors all.time all.stimuli all.routing
    → BringsWords all → last ≡ passed (λ one. one.cycle) (all.time + 1) all.stimuli.offers
    → AreCursors (record cursors { offer = last }) (all.time + 1) all.stimuli all.routing
cursors-words cursors all last order at brings is =
    let t = all.time in
    cursors-calm cursors t all.stimuli all.routing cursors.event last cursors.window
    cursors.quiet_until order at brings.calm
    (at.event_is ∙ sym (events-still all.stimuli all.routing order t 1 (λ j less.
    let same : t + j ≡ t = omega arith in
    ap (events_in all.stimuli) same ∙ brings.eventless)))
    is
    (over-later cursors.window t (t + 1) all.stimuli.schedule.windows (omega arith) at.window_is)
    at.quiet at.sooner

-- Networks that pass over cycles that leave them.
use Rattle.std.proofs.Common.{◌≡◌, ◌≤◌, ◌<◌, ◌+◌, ◌-◌, ◌==◌, ◌∙◌, ℕ, zero, suc, List, [], ap, arith}
use Rattle.std.proofs.Common.{drop, filter, fold, length, refl, subst, sym, take, slice_range}
use Rattle.std.proofs.Common.{length-drop, length-take}
use Rattle.std.specs.List.Sorted.{IsNonDecreasingBy}
use Rattle.aeth_components.specs.declared.channel_state.ChannelState.{ChannelState}
use Rattle.aeth_schedule.specs.declared.session_start.SessionStart.{SessionStart}
use Rattle.aeth_stimuli.specs.{Stimuli.Offer, Stimuli.Stimuli, Stimuli.Take, Events.events_in}
use Rattle.aeth_running.proofs.{KeptChannelStates.cycle-behind, Played.played-next}
use Rattle.aeth_running.specs.Network.{NetworkState, session_starts_in, offers_in, played, ready_in}
use Rattle.aeth_running.specs.Network.{state_behind, stepped, taking_with, first_network}
use Rattle.aeth_running.specs.Routing.{Entering, Routing, enterings_in, later_rows}
use Rattle.aeth_running.specs.Quiet.{AreStill, brought_over, rested}
use Rattle.aeth_running.specs.Still.{IsStill, passed_over}
use Rattle.aeth_accepted.specs.Inputs.{Inputs}
use Rattle.aeth_network.specs.{Behind.passed, Cursors.AreCursors, Cursors.AreInOrder}
use Rattle.aeth_network.specs.{Networks.IsNetwork, declared.given.Cursors.Cursors, Runs.IsNetworkOf}
use Rattle.aeth_network.proofs.{MappedRows.events-range, Firsts.fold-slices, Passed.passed-few}
use Rattle.aeth_network.proofs.{Passed.passed-more, Passed.passed-range, NextBusy.played-sum}
use Rattle.aeth_network.proofs.{Playing.cycles-of, Playing.played-time}
use Rattle.aeth_network.proofs.{RestingChannelStates.passed-rises, Stepping.IsNetwork-behind}
use Rattle.aeth_network.proofs.{Stepping.behind-is, Ready.length-in, WindowLemmas.over-later}

-- What holds of networks holds behind one more cycle, and behind so many.
pub IsNetwork-stepped : (capacity : ℕ) (old : NetworkState) → IsNetwork capacity old
    → IsNetwork capacity (stepped old)
IsNetwork-stepped capacity old is =
    let events = events_in old.stimuli old.time in
    let new = state_behind events old.time (ready_in old) in
    let done = cycle-behind events old.time (ready_in old) in
    subst (IsNetwork capacity) (behind-is capacity old is new done)
    (IsNetwork-behind capacity old is new done)

pub IsNetwork-played : (capacity k : ℕ) (old : NetworkState) → IsNetwork capacity old
    → IsNetwork capacity (played k old)
unfolding played
IsNetwork-played capacity zero old is = is
IsNetwork-played capacity (suc k) old is =
    IsNetwork-stepped capacity (played k old) (IsNetwork-played capacity k old is)

-- What a network is given stays.
pub played-given : (k : ℕ) (old : NetworkState) → (played k old).stimuli ≡ old.stimuli
unfolding played stepped
played-given zero old = refl
played-given (suc k) old = played-given k old

-- As many rows lie before a later cycle where none is of those between.
pub passed-still : {X : Type 0} (key : X → ℕ) (t k : ℕ) (xs : List X) → IsNonDecreasingBy key xs
    → ((j : ℕ) → j < k → filter (λ one. key one == t + j) xs ≡ [])
    → passed key (t + k) xs ≡ passed key t xs
passed-still key t zero xs rises none =
    let same : t + zero ≡ t = omega arith in
    ap (λ n. passed key n xs) same
passed-still key t (suc k) xs rises none =
    let before = passed-still key t k xs rises (λ j less. none j (omega arith)) in
    let next : t + suc k ≡ (t + k) + 1 = omega arith in
    let is = ap (λ n. passed key n xs) next in
    let size = length-in key (t + k) xs []
    (passed-range key (t + k) xs rises ∙ none k (omega arith)) in
    omega arith

-- The same of events, which have their cycles beside them.
pub events-still : (all : Stimuli) (routing : Routing) → AreInOrder all routing → (t k : ℕ)
    → ((j : ℕ) → j < k → events_in all (t + j) ≡ [])
    → passed (λ cycle. cycle) (t + k) all.schedule.cycles
    ≡ passed (λ cycle. cycle) t all.schedule.cycles
events-still all routing order t zero none =
    let same : t + zero ≡ t = omega arith in
    ap (λ n. passed (λ cycle. cycle) n all.schedule.cycles) same
events-still all routing order t (suc k) none =
    let key = λ (cycle : ℕ). cycle in
    let cycles = all.schedule.cycles in
    let events = all.schedule.events in
    let before = events-still all routing order t k (λ j less. none j (omega arith)) in
    let next : t + suc k ≡ (t + k) + 1 = omega arith in
    let is = ap (λ n. passed key n cycles) next in
    let from = passed key (t + k) cycles in
    let to = passed key (t + k + 1) cycles in
    let empty : slice_range events from to ≡ [] =
    events-range (t + k) cycles events order.event_cycles order.events ∙ none k (omega arith) in
    let size = ap length empty in
    let taken = length-take (to - from) (drop from events) in
    let left = length-drop from events in
    let more = passed-more key (t + k) cycles in
    let few = passed-few key (t + k + 1) cycles in
    let count = order.event_cycles in
    omega arith

-- Behind later cycles that left it only rows of receivers count.
pub rested-is : (all : NetworkState)
    → IsNonDecreasingBy (λ (one : Take). one.cycle) all.stimuli.takes → (k : ℕ) → rested k all ≡ record all {
      components = record all.components {
        channel_states =
            fold taking_with all.components.channel_states (slice_range all.stimuli.takes
            (passed (λ one. one.cycle) all.time all.stimuli.takes)
            (passed (λ one. one.cycle) (all.time + k) all.stimuli.takes));
      };
      time = all.time + k;
    }
unfolding rested
rested-is all rises zero =
    let key = λ (one : Take). one.cycle in
    let takes = all.stimuli.takes in
    let from = passed key all.time takes in
    let same : all.time ≡ all.time + zero = omega arith in
    let none : 0 ≡ from - from = omega arith in
    ap (λ n. record all {
      components = record all.components {
        channel_states = fold taking_with all.components.channel_states (take n (drop from takes));
      };
    }) none
    ∙ (λ i. record all {
      components = record all.components {
        channel_states = fold taking_with all.components.channel_states
            (slice_range takes from (passed key (same i) takes));
      };
      time = same i;
    })
rested-is all rises (suc k) =
    let key = λ (one : Take). one.cycle in
    let takes = all.stimuli.takes in
    let from = passed key all.time takes in
    let middle = passed key (all.time + k) takes in
    let low : from ≤ middle = passed-rises key all.time k takes in
    let high = passed-more key (all.time + k) takes in
    let next : all.time + k + 1 ≡ all.time + suc k = omega arith in
    let made = λ (channel_states : List ChannelState) (time : ℕ).
    let one : NetworkState = record all {
      components = record all.components { channel_states = channel_states };
      time = time;
    } in
    one in
    let first = fold taking_with all.components.channel_states (slice_range takes from middle) in
    ap passed_over (rested-is all rises k)
    ∙ ap (λ (rows : List Take). made (fold taking_with first rows) (all.time + k + 1))
    (sym (passed-range key (all.time + k) takes rises))
    ∙ ap (λ (channel_states : List ChannelState). made channel_states (all.time + k + 1))
    (fold-slices taking_with all.components.channel_states takes from middle
    (passed key (all.time + k + 1) takes) low high)
    ∙ ap (λ n. made (fold taking_with all.components.channel_states
    (slice_range takes from (passed key n takes))) n) next

-- The places in what is given, behind cycles that left a network.
module _ (all : NetworkState) (order : AreInOrder all.stimuli all.routing) (k : ℕ)
    (still : AreStill k all) (late : 0 < k → 0 < all.time)
    (unentered : (j : ℕ) → j < k → enterings_in all.routing (all.time + j) ≡ []) where
  no-offers : (j : ℕ) → j < k → offers_in all.stimuli (all.time + j) ≡ []
  no-offers j less =
      (λ i. offers_in (sym (played-given j all) i) (sym (played-time j all) i))
      ∙ (still j less).unoffered

  no-session_starts : (j : ℕ) → j < k → session_starts_in all.stimuli (all.time + j) ≡ []
  no-session_starts j less =
      let start = late (omega arith) in
      let time = played-time j all in
      (λ i. session_starts_in (sym (played-given j all) i) (sym (played-time j all) i))
      ∙ (still j less).ungone (omega arith)

  no-events : (j : ℕ) → j < k → events_in all.stimuli (all.time + j) ≡ []
  no-events j less =
      (λ i. events_in (sym (played-given j all) i) (sym (played-time j all) i))
      ∙ (still j less).eventless

  pub cursors-behind : (cursors : Cursors) (last : ℕ)
      → AreCursors cursors all.time all.stimuli all.routing
      → last ≡ passed (λ one. one.cycle) (all.time + k) all.stimuli.takes
      → AreCursors (record cursors { take = last }) (all.time + k) all.stimuli all.routing
  cursors-behind cursors last at is =
      let session_starts = passed-still (λ (one : SessionStart). one.channel_state.go) all.time k
      all.stimuli.schedule.session_starts order.session_starts no-session_starts in
      let offers = passed-still (λ (one : Offer). one.cycle) all.time k all.stimuli.offers
      order.offers no-offers in
      let events = events-still all.stimuli all.routing order all.time k no-events in
      let enterings = passed-still (λ (one : Entering). one.cycle) all.time k
      (later_rows all.routing) order.enterings unentered in
      let calm = at.calm in
      let takes = passed-rises (λ (one : Take). one.cycle) all.time k all.stimuli.takes in
      let taken = at.take_is in
      let takes_calm = calm.takes in
      record {
        event_is = at.event_is ∙ sym events;
        session_start_is = at.session_start_is ∙ sym session_starts;
        offer_is = at.offer_is ∙ sym offers;
        take_is = is;
        window_is = over-later cursors.window all.time (all.time + k) all.stimuli.schedule.windows
            (omega arith) at.window_is;
        entering_is = at.entering_is ∙ sym enterings;
        quiet = at.quiet;
        calm = record {
          session_starts = calm.session_starts;
          takes = omega (arith, takes_calm, taken, takes, is);
          enterings = calm.enterings;
        };
        sooner = at.sooner;
      }

-- A cycle that leaves a network of accepted inputs does just what it brings.
pub over-stepped : (inputs : Inputs) (old : NetworkState) → IsNetworkOf inputs old
    → ((t : ℕ) → t < inputs.cycles → IsStill (played t (first_network inputs old.routing))
    → played (t + 1) (first_network inputs old.routing) ≡ brought_over (played t (first_network inputs old.routing)))
    → IsStill old → old.time < old.log.cycles → stepped old ≡ brought_over old
over-stepped inputs old of one still early =
    let first = first_network inputs old.routing in
    let cycles = cycles-of inputs old of in
    ap stepped of.is ∙ sym (played-next first old.time)
    ∙ one old.time (omega arith) (subst IsStill of.is still) ∙ ap brought_over (sym of.is)

-- So many later cycles that leave it do just what its receivers' rows say.
pub rests-as : (inputs : Inputs) (old : NetworkState) → IsNetworkOf inputs old
    → ((t k : ℕ) → t + k ≤ inputs.cycles → 0 < t
    → ((j : ℕ) → j < k → IsStill (played (t + j) (first_network inputs old.routing)))
    → played (t + k) (first_network inputs old.routing) ≡ rested k (played t (first_network inputs old.routing)))
    → (k : ℕ) → AreStill k old → (0 < k → 0 < old.time) → old.time + k ≤ old.log.cycles
    → played k old ≡ rested k old
unfolding played rested
rests-as inputs old of later zero still late within = refl
rests-as inputs old of later (suc k) still late within =
    let first = first_network inputs old.routing in
    let cycles = cycles-of inputs old of in
    let t = old.time in
    ap (played (suc k)) of.is ∙ played-sum (suc k) t first
    ∙ later t (suc k) (omega arith) (late (omega arith))
    (λ j less. subst IsStill (ap (played j) of.is ∙ played-sum j t first) (still j less))
    ∙ ap (rested (suc k)) (sym of.is)

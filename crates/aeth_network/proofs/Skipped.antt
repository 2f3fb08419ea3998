-- Networks behind cycles that were passed over.
use Rattle.std.proofs.Common.{◌≡◌, ◌≤◌, ◌<◌, ◌+◌, ◌-◌, ◌∙◌, ℕ, List, [], ap, arith, fold, refl}
use Rattle.std.proofs.Common.{subst, sym, slice_range, vec_capacity}
use Rattle.aeth_components.specs.Components.{ComponentsState}
use Rattle.aeth_stimuli.specs.{Stimuli.Take, Events.events_in}
use Rattle.aeth_running.specs.Network.{NetworkState, session_starts_in, offers_in, played, stepped}
use Rattle.aeth_running.specs.Network.{takes_in, taking_with, first_network}
use Rattle.aeth_running.specs.Routing.{Routing, enterings_in}
use Rattle.aeth_running.specs.Quiet.{AreStill, brought_over, rested}
use Rattle.aeth_running.specs.Still.{IsStill}
use Rattle.aeth_running.proofs.Played.{stepped-log, stepped-time}
use Rattle.aeth_running.proofs.StillTables.{still-unentered}
use Rattle.aeth_accepted.specs.Inputs.{Inputs}
use Rattle.aeth_network.specs.{Behind.passed, Cursors.AreCursors, Cursors.routing_with}
use Rattle.aeth_network.specs.{Cursors.stimuli_with, Brought.IsBrought, Networks.IsNetwork}
use Rattle.aeth_network.specs.{declared.given.CycleRows.CycleRows, declared.given.Cursors.Cursors}
use Rattle.aeth_network.specs.{declared.state.State.State, Runs.HasInputs, Runs.IsNetworkOf}
use Rattle.aeth_network.specs.{declared.network.RoutedNetwork.TheInside.Inside}
use Rattle.aeth_network.proofs.{Cycling.over, NextBusy.played-sum, Playing.cycles-of}
use Rattle.aeth_network.proofs.{Playing.many-of, Playing.played-log, Playing.played-more}
use Rattle.aeth_network.proofs.{Playing.played-none, Playing.played-time, QuietPlaces.passed-to}
use Rattle.aeth_network.proofs.{SeenNetworks.Becomes, SeenNetworks.in-order, SeenNetworks.seen}
use Rattle.aeth_network.proofs.{SeenNetworks.seen_next, Skipping.IsNetwork-played}
use Rattle.aeth_network.proofs.{Skipping.cursors-behind, Skipping.over-stepped, Skipping.rested-is}
use Rattle.aeth_network.proofs.{Skipping.rests-as}
use Rattle.aeth_report.specs.Log.{LogData}

-- What the laws of resting say of the network of inputs.
abbrev RestsOnce : Inputs → Routing → Type 0
RestsOnce inputs routing = (t : ℕ) → t < inputs.cycles → IsStill (played t (first_network inputs routing))
    → played (t + 1) (first_network inputs routing) ≡ brought_over (played t (first_network inputs routing))

abbrev RestsLater : Inputs → Routing → Type 0
RestsLater inputs routing = (t k : ℕ) → t + k ≤ inputs.cycles → 0 < t
    → ((j : ℕ) → j < k → IsStill (played (t + j) (first_network inputs routing)))
    → played (t + k) (first_network inputs routing) ≡ rested k (played t (first_network inputs routing))

-- In a cycle that leaves a network no rows enter tables, nor in so many.
still-enters : (inputs : Inputs) (all : NetworkState) → IsNetworkOf inputs all → IsStill all
    → all.time < all.log.cycles → enterings_in all.routing all.time ≡ []
still-enters inputs all of still early =
    let cycles = cycles-of inputs all of in
    still-unentered inputs all.routing of.routed all.time (omega arith) (subst IsStill of.is still)

none-enter : (inputs : Inputs) (all : NetworkState) → IsNetworkOf inputs all → (k : ℕ)
    → AreStill k all → all.time + k ≤ all.log.cycles → (j : ℕ) → j < k
    → enterings_in all.routing (all.time + j) ≡ []
none-enter inputs all of k still within j less =
    let cycles = cycles-of inputs all of in
    let first = first_network inputs all.routing in
    still-unentered inputs all.routing of.routed (all.time + j) (omega arith)
    (subst IsStill (ap (played j) of.is ∙ played-sum j all.time first) (still j less))

-- A cycle that leaves a network, once it is brought, is all that it does.
pub brought-is : (all : Inside) → IsNetwork (vec_capacity all.state.replaced) (seen all)
    → (has : HasInputs (seen all)) → RestsOnce has.inputs (routing_with all.given)
    → IsStill (seen all) → all.time < all.log.cycles → (rows : CycleRows)
    → rows.session_starts ≡ session_starts_in (stimuli_with all.given) all.time
    → rows.offers.now ≡ offers_in (stimuli_with all.given) all.time
    → rows.takes.now ≡ takes_in (stimuli_with all.given) all.time
    → rows.events.now ≡ events_in (stimuli_with all.given) all.time
    → (brought : State) → IsBrought rows all.time all.state brought
    → seen_next all brought ≡ stepped (seen all)
brought-is all is has one still early rows session_starts offers takes events brought brings =
    over all is rows session_starts offers takes brought brings events
    (still-enters has.inputs (seen all) has.of still early)
    ∙ sym (over-stepped has.inputs (seen all) has.of one still early)

-- As many rows lie before a cycle, or more.
pub place-rises : (takes rows : List Take) → rows ≡ takes → (place time to : ℕ)
    → place ≡ passed (λ one. one.cycle) time takes → time ≤ to
    → place ≤ passed (λ one. one.cycle) to rows
place-rises takes rows are place time to is le =
    let key = λ (one : Take). one.cycle in
    let more = passed-to key time to takes le in
    let same = ap (passed key to) are in
    omega (arith, more, same, is)

-- Later cycles leave a network, up to one.
pub record MayRest (all : NetworkState) (to : ℕ) : Type 0 where
  pub from : all.time ≤ to
  pub within : to ≤ all.log.cycles
  pub late : 0 < to → 0 < all.time
  pub still : AreStill (to - all.time) all

-- A network behind them.
module _ (capacity : ℕ) (old : NetworkState) (is : IsNetwork capacity old) (has : HasInputs old)
    (to : ℕ) (may : MayRest old to) where
  abbrev count : ℕ
  count = to - old.time

  end-is : old.time + count ≡ to
  end-is = let from = may.from in omega arith

  some-late : 0 < count → 0 < old.time
  some-late some = may.late (omega arith)

  within : old.time + count ≤ old.log.cycles
  within = let end = end-is in let most = may.within in omega arith

  pub rests-behind : RestsLater has.inputs old.routing → (components : ComponentsState)
      (rows : List Take) (first last : ℕ) → rows ≡ old.stimuli.takes
      → first ≡ passed (λ one. one.cycle) old.time old.stimuli.takes
      → last ≡ passed (λ one. one.cycle) to old.stimuli.takes
      → components ≡ record old.components {
        channel_states =
            fold taking_with old.components.channel_states (slice_range rows first last);
      }
      → Becomes capacity (record old { components = components; time = to }) (played count old)
  rests-behind later components rows first last rows_are first_is last_is are =
      let resting = λ (n : ℕ).
      let one : NetworkState = record old {
        components = record old.components {
          channel_states =
              fold taking_with old.components.channel_states (slice_range old.stimuli.takes
              (passed (λ one. one.cycle) old.time old.stimuli.takes)
              (passed (λ one. one.cycle) n old.stimuli.takes));
        };
        time = n;
      } in
      one in
      let rested : played count old ≡ resting to =
      rests-as has.inputs old has.of later count may.still some-late within
      ∙ rested-is old is.stimuli.take_order count ∙ ap resting end-is in
      let behind : record old { components = components; time = to } ≡ played count old =
      rw (are, rows_are, first_is, last_is) (sym rested) in
      let cycles = cycles-of has.inputs old has.of in
      let most = within in
      record {
        is = behind;
        network = subst (IsNetwork capacity) (sym behind) (IsNetwork-played capacity count old is);
        has = record {
          inputs = has.inputs;
          of = subst (IsNetworkOf has.inputs) (sym behind)
              (many-of has.inputs old count has.of (omega arith));
        };
      }

  pub rests-cursors : (cursors : Cursors) (last : ℕ)
      → AreCursors cursors old.time old.stimuli old.routing
      → last ≡ passed (λ one. one.cycle) to old.stimuli.takes
      → AreCursors (record cursors { take = last }) to old.stimuli old.routing
  rests-cursors cursors last at last_is =
      subst (λ n. AreCursors (record cursors { take = last }) n old.stimuli old.routing) end-is
      (cursors-behind old (in-order capacity old is) count may.still some-late
      (none-enter has.inputs old has.of count may.still within) cursors last at
      (last_is ∙ ap (λ n. passed (λ (one : Take). one.cycle) n old.stimuli.takes) (sym end-is)))

-- A network that has passed over cycle 0, if it was there.
pub record IsBegun (old now : NetworkState) (to : ℕ) : Type 0 where
  pub may : MayRest now to
  pub played_is : played (to - now.time) now ≡ played (to - old.time) old

pub begun-later : (old now : NetworkState) (to : ℕ) → now ≡ old → (0 < to → 0 < old.time)
    → old.time ≤ to → to ≤ old.log.cycles → AreStill (to - old.time) old → IsBegun old now to
begun-later old now to is late from within still =
    subst (λ (one : NetworkState). IsBegun old one to) (sym is) (record {
      may = record { from = from; within = within; late = late; still = still };
      played_is = refl;
    })

pub begun-first : (old now : NetworkState) (to : ℕ) → now ≡ stepped old → old.time ≡ 0 → 0 < to
    → to ≤ old.log.cycles → AreStill (to - old.time) old → IsBegun old now to
begun-first old now to is start some within still =
    let one : now ≡ played 1 old =
    is ∙ ap stepped (sym (played-none 0 old refl)) ∙ played-more 0 1 old (omega arith) in
    let time : now.time ≡ old.time + 1 =
    ap (λ (all : NetworkState). all.time) is ∙ stepped-time old in
    let cycles : now.log.cycles ≡ old.log.cycles =
    ap (λ (all : NetworkState). all.log.cycles) is
    ∙ ap (λ (log : LogData). log.cycles) (stepped-log old) in
    let left : 1 + (to - now.time) ≡ to - old.time = omega arith in
    record {
      may = record {
        from = omega arith;
        within = omega arith;
        late = λ any. omega arith;
        still = λ j less. subst IsStill (sym (ap (played j) one ∙ played-sum j 1 old))
            (still (1 + j) (omega arith));
      };
      played_is = ap (played (to - now.time)) one ∙ played-sum (to - now.time) 1 old
          ∙ ap (λ n. played n old) left;
    }

-- What a network is before any cycle, and whose it is behind so many.
pub still-nothing : (old : NetworkState) → IsStill (played 0 old) → IsStill old
still-nothing old still = subst IsStill (played-none 0 old refl) still

pub skipped-of : (inputs : Inputs) (old now : NetworkState) (to : ℕ) → old.time ≤ to
    → to ≤ old.log.cycles → now ≡ played (to - old.time) old → IsNetworkOf inputs old
    → IsNetworkOf inputs now
skipped-of inputs old now to from within is of =
    let cycles = cycles-of inputs old of in
    subst (IsNetworkOf inputs) (sym is) (many-of inputs old (to - old.time) of (omega arith))

-- So many cycles later so many are done, of as many.
pub skipped-time : (old now : NetworkState) (to : ℕ) → old.time ≤ to
    → now ≡ played (to - old.time) old → now.time ≡ to
skipped-time old now to from is =
    let time = ap (λ (all : NetworkState). all.time) is ∙ played-time (to - old.time) old in
    omega arith

pub skipped-cycles : (old now : NetworkState) (k : ℕ) → now ≡ played k old
    → now.log.cycles ≡ old.log.cycles
skipped-cycles old now k is =
    ap (λ (all : NetworkState). all.log.cycles) is
    ∙ ap (λ (log : LogData). log.cycles) (played-log k old)

-- One cycle behind those that were passed over.
pub played-behind : (old now new : NetworkState) (to : ℕ) → old.time ≤ to
    → now ≡ played (to - old.time) old → new ≡ stepped now → new ≡ played (to + 1 - old.time) old
played-behind old now new to from is steps =
    steps ∙ ap stepped is
    ∙ played-more (to - old.time) (to + 1 - old.time) old (omega arith)

-- Cycles behind those that were played.
pub played-further : (first old new : NetworkState) (to : ℕ) → first.time ≤ old.time → old.time ≤ to
    → old ≡ played (old.time - first.time) first → new ≡ played (to - old.time) old
    → new ≡ played (to - first.time) first
played-further first old new to least from before is =
    let whole : (old.time - first.time) + (to - old.time) ≡ to - first.time = omega arith in
    is ∙ ap (played (to - old.time)) before
    ∙ played-sum (to - old.time) (old.time - first.time) first
    ∙ ap (λ n. played n first) whole

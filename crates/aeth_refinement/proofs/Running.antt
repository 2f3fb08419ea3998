-- From cycle to cycle components run on: they are prepared, do a cycle, and are where they were.
use Rattle.std.proofs.Common.{◌≡◌, ◌≤◌, ◌<◌, ◌∙◌, ◌⊎◌, ℕ, ◌+◌, ◌-◌, refl, sym, ap, subst, arith}
use Rattle.std.proofs.Common.{inl, inr, true, ltb, leb, List, Option, Some, length, map, get_or}
use Rattle.std.proofs.Common.{slice_get, le-leb, leb-true, lt-ltb, ltb-true}
use Rattle.std.proofs.lemmas.Bool.{and_from, and_parts, cases_lt}
use Rattle.std.proofs.lemmas.Option.{same_Some, slice_get-get_or, slice_get_within}
use Rattle.aeth_clocked.specs.declared.flit.Flit.{Flit}
use Rattle.aeth_router.specs.declared.part.Part.{Part}
use Rattle.aeth_components.proofs.KeptLemmas.{IsUncounted, kept-cycle, kept-latched}
use Rattle.aeth_components.proofs.KeptLemmas.{channel_state-kept}
use Rattle.aeth_components.specs.{Components.ComponentsState, Components.ComponentsCycle}
use Rattle.aeth_components.specs.{Components.wirings_of, Components.latched_of, Wirings.Wiring}
use Rattle.aeth_components.specs.{Wirings.IsWired, Wirings.wiring_of, ChannelStates.is_open}
use Rattle.aeth_components.specs.{Phases.Moment, declared.event.Event.Event}
use Rattle.aeth_components.specs.{declared.channel_state.ChannelState.ChannelState}
use Rattle.aeth_server.proofs.{SessionEnds.idle-before, PrivateServerLemmas.sent-more}
use Rattle.aeth_server.specs.PrivateServer.{arrived}
use Rattle.aeth_invariant.{proofs.Unique.paths-of, specs.WellRouted.AreWellRouted}
use Rattle.aeth_invariant.{specs.RoutedSessions.RoutedSessions, specs.RoutedSessions.IsOpenSession}
use Rattle.aeth_invariant.{specs.RoutedSessions.server_at, specs.Standing.Stands}
use Rattle.aeth_refinement.proofs.Routed.{wirings-but_tables, latched-but_tables, net-but_tables}
use Rattle.aeth_refinement.specs.{Following.Follows, WiredFor.IsWiredFor, Routed.without_table}
use Rattle.aeth_refinement.specs.{Running.HasCounts, Running.Prepares, Running.Runs, Running.Starts}
use Rattle.aeth_refinement.specs.{Served.AreServed, Served.HasChannelState, Served.IsInUse}
use Rattle.aeth_refinement.specs.{Served.IsChannelStateOf, View.HaveLatched, View.net_of}

-- The cycles of a channel, and the place of its first word.
abbrev pub cycles_in : ChannelState → ℕ × ℕ × ℕ
cycles_in channel_state = (channel_state.go, channel_state.fin, channel_state.first)

-- They tell none of its counts.
uncounted : IsUncounted cycles_in
uncounted = λ channel_state enqueued landed taken. refl

-- So the channels of a cycle have them up to the latch, and behind it.
pub cycles-drained : (words : List ℕ) (events : List Event) (t : ℕ) (wires : List (Option Flit))
    (moment : Moment) → map cycles_in (latched_of words events t wires moment).channel_states
    ≡ map cycles_in moment.channel_states
cycles-drained = kept-latched cycles_in uncounted

cycles-kept : (events : List Event) (t : ℕ) (old new : ComponentsState)
    → ComponentsCycle events t old new
    → map cycles_in new.channel_states ≡ map cycles_in old.channel_states
cycles-kept = kept-cycle cycles_in uncounted

-- A channel behind a cycle, before it.
pub channel_state-before : (old new : List ChannelState) → map cycles_in new ≡ map cycles_in old
    → (number : ℕ)
    (channel_state : ChannelState) → slice_get new number ≡ Some channel_state
    → (before : ChannelState) × (slice_get old number ≡ Some before)
    × (cycles_in channel_state ≡ cycles_in before)
channel_state-before old new = channel_state-kept cycles_in new old

-- A channel that is open, by its cycles.
open-at : (channel_state : ChannelState) (t : ℕ) → channel_state.go ≤ t → t < channel_state.fin
    → is_open channel_state t ≡ true
open-at channel_state t from upto =
    and_from (leb channel_state.go t) (ltb t channel_state.fin) (le-leb channel_state.go t from)
    (lt-ltb t channel_state.fin upto)

pub open-parts : (channel_state : ChannelState) (t : ℕ) → is_open channel_state t ≡ true
    → (channel_state.go ≤ t) × (t < channel_state.fin)
open-parts channel_state t is =
    let both = and_parts (leb channel_state.go t) (ltb t channel_state.fin) is in
    (leb-true channel_state.go t both.0, ltb-true t channel_state.fin both.1)

-- Components run whatever tables their routers have.
pub runs-but_tables : (sessions : RoutedSessions) (channel : ℕ → ℕ) (t : ℕ) (enqueued : ℕ → ℕ)
    (all : ComponentsState) (parts : List Part)
    → map without_table parts ≡ map without_table all.parts → Runs sessions channel t enqueued all
    → Runs sessions channel t enqueued (record all { parts = parts })
runs-but_tables sessions channel t enqueued all parts same runs =
    let wirings : map wiring_of parts ≡ wirings_of all = wirings-but_tables parts all.parts same in
    record {
      wired = subst (λ (fs : List Wiring). IsWired fs (length all.wires)) (sym wirings) runs.wired;
      wired_for = subst (λ (fs : List Wiring). IsWiredFor sessions fs (length all.wires))
          (sym wirings)
          runs.wired_for;
      latched = latched-but_tables parts all.parts same all.wires runs.latched;
      stands = subst (Stands sessions t t)
          (sym (net-but_tables parts all.parts same enqueued all.wires))
          runs.stands;
      going = runs.going;
      only = runs.only;
      gone = runs.gone;
      fresh = runs.fresh;
    }

module _ (sessions : RoutedSessions) (ok : AreWellRouted sessions) (channel : ℕ → ℕ) (t : ℕ)
    (enqueued : ℕ → ℕ)
    (old ready : ComponentsState) (runs : Runs sessions channel t enqueued old)
    (prepares : Prepares sessions channel t old ready) where
  -- A channel is loaded now, or was there before.
  others : (number : ℕ) (channel_state : ChannelState)
      → slice_get ready.channel_states number ≡ Some channel_state
      → Starts sessions channel t number
      ⊎ ((before : ChannelState) × (slice_get old.channel_states number ≡ Some before)
      × (before.go ≡ channel_state.go)
      × (before.fin ≡ channel_state.fin))
  others number channel_state at =
      let within = slice_get_within ready.channel_states number channel_state at in
      let count = prepares.count in
      let before = get_or old.channel_states number channel_state in
      let there = slice_get-get_or old.channel_states number channel_state
      (omega (arith, within, count)) in
      elim (prepares.keeps number before there) [
        | inl starts ↦ inl starts
        | inr kept ↦
            let same : kept.0 ≡ channel_state = same_Some kept.0 channel_state (sym kept.1 ∙ at) in
            let go : before.go ≡ channel_state.go =
            sym (ap (λ (s : ChannelState). s.go) kept.2) ∙ ap (λ (s : ChannelState). s.go) same in
            let fin : before.fin ≡ channel_state.fin =
            sym (ap (λ (s : ChannelState). s.fin) kept.2) ∙ ap (λ (s : ChannelState). s.fin) same in
            inr (before, there, go, fin)
      ]

  -- A session that goes now has done nothing.
  started : (c : ℕ) → c < sessions.count → IsOpenSession sessions c t
      → (server_at sessions c).go ≡ t
      → HasChannelState sessions ready.words (channel c) c t (enqueued c) (t + 1) t
      ready.channel_states
  started c h going goes =
      let has = prepares.starts c h going goes in
      let server = server_at sessions c in
      let paths = paths-of sessions ok c h in
      let path = paths.path in
      let idle = idle-before server paths t (omega (arith, goes)) in
      let sends = sent-more server paths (t + 1 - server.shape.path_delay) t (omega (arith, path)) in
      let none = idle.sent in
      let fresh = runs.fresh c h (omega (arith, goes)) in
      let enqueues = has.enqueued in
      let lands = has.landed in
      record {
        channel_state = has.channel_state;
        at = has.at;
        served = record {
          of = has.of;
          counted = record {
            enqueued_is = omega (arith, enqueues, fresh);
            landed_is = omega (arith, lands, sends, none);
            taken_is = has.taken ∙ sym idle.taken;
          };
          fed = has.fed;
        };
      }

  -- One that went before goes on.
  went : (c : ℕ) → c < sessions.count → IsOpenSession sessions c t → (server_at sessions c).go < t
      → HasChannelState sessions ready.words (channel c) c t (enqueued c) (t + 1) t
      ready.channel_states
  went c h going before =
      let has = runs.going c h going before in
      let channel_state = has.channel_state in
      let of = subst (λ (ws : List ℕ). IsChannelStateOf sessions ws c channel_state)
      (sym prepares.words) has.of in
      record {
        channel_state = record channel_state {
          accepted = arrived (server_at sessions c) (t + 1);
          pull = (server_at sessions c).pull t;
        };
        at = prepares.stays c channel_state h going before has.at;
        served = record {
          of = record {
            sender = of.sender;
            receiver = of.receiver;
            go = of.go;
            fin = of.fin;
            values = of.values;
          };
          counted = record {
            enqueued_is = has.counted.enqueued_is;
            landed_is = has.counted.landed_is;
            taken_is = has.counted.taken_is;
          };
          fed = record { accepted = refl; pull = refl };
        };
      }

  ready-served : AreServed sessions channel ready.words t (t + 1) t enqueued ready.channel_states
  ready-served = record {
    own = λ c h going. elim (cases_lt (server_at sessions c).go t) [
      | inl before ↦ went c h going before
      | inr now ↦
          let goes = going.goes in
          started c h going (omega (arith, now, goes))
    ];
    only = λ number channel_state at is. elim (others number channel_state at) [
      | inl starts ↦ record {
        session = starts.session;
        known = starts.known;
        going = starts.going;
        place = starts.place;
      }
      | inr other ↦
          let parts = open-parts channel_state t is in
          let from = parts.0 in
          let upto = parts.1 in
          let go = other.2 in
          let fin = other.3 in
          runs.only number other.0 other.1
          (open-at other.0 t (omega (arith, from, go)) (omega (arith, upto, fin)))
    ];
  }

  wirings-same : wirings_of ready ≡ wirings_of old
  wirings-same = wirings-but_tables ready.parts old.parts prepares.parts

  -- Prepared components follow the private servers.
  pub prepared : Follows sessions channel t t enqueued ready
  prepared =
      let wires = prepares.wires in
      let wired : IsWired (wirings_of old) (length ready.wires) =
      subst (λ (ws : List (Option Flit)). IsWired (wirings_of old) (length ws)) (sym wires)
      runs.wired
      in
      let wired_for : IsWiredFor sessions (wirings_of old) (length ready.wires) =
      subst (λ (ws : List (Option Flit)). IsWiredFor sessions (wirings_of old) (length ws))
      (sym wires)
      runs.wired_for in
      let latched : HaveLatched old.parts ready.wires =
      subst (HaveLatched old.parts) (sym wires) runs.latched in
      let stands : Stands sessions t t (net_of enqueued old.parts ready.wires) =
      subst (λ (ws : List (Option Flit)). Stands sessions t t (net_of enqueued old.parts ws))
      (sym wires)
      runs.stands in
      record {
        wired = subst (λ (fs : List Wiring). IsWired fs (length ready.wires)) (sym wirings-same)
            wired;
        wired_for = subst (λ (fs : List Wiring). IsWiredFor sessions fs (length ready.wires))
            (sym wirings-same) wired_for;
        latched = latched-but_tables ready.parts old.parts prepares.parts ready.wires latched;
        routed = prepares.routed;
        served = ready-served;
        stands = subst (Stands sessions t t)
            (sym (net-but_tables ready.parts old.parts prepares.parts enqueued ready.wires)) stands;
      }

  -- What was ever loaded went before.
  ready-gone : (number : ℕ) (channel_state : ChannelState)
      → slice_get ready.channel_states number ≡ Some channel_state
      → (channel_state.go < t + 1) ⊎ (channel_state.fin ≡ 0)
  ready-gone number channel_state at = elim (others number channel_state at) [
    | inl starts ↦
        let has = prepares.starts starts.session starts.known starts.going starts.goes in
        let same : has.channel_state ≡ channel_state =
        same_Some has.channel_state channel_state
        (sym has.at ∙ ap (slice_get ready.channel_states) starts.place ∙ at) in
        let go : channel_state.go ≡ t = sym (ap (λ (s : ChannelState). s.go) same) ∙ has.of.go
        ∙ starts.goes in
        inl (omega (arith, go))
    | inr other ↦
        let go = other.2 in
        let fin = other.3 in
        elim (runs.gone number other.0 other.1) [
          | inl before ↦ inl (omega (arith, before, go))
          | inr none ↦ inr (omega (arith, none, fin))
        ]
  ]

  -- Behind the cycle they run on.
  module _ (events : List Event) (more : ℕ → ℕ) (new : ComponentsState)
      (cycle : ComponentsCycle events t ready new)
      (follows : Follows sessions channel t (t + 1) more new)
      (rested : (c : ℕ) → (IsOpenSession sessions c t → ⊥) → more c ≡ enqueued c) where
    going-on : (c : ℕ) → c < sessions.count → IsOpenSession sessions c (t + 1)
        → (server_at sessions c).go < t + 1
        → HasCounts sessions channel new.words c (more c) (t + 1 + 1) (t + 1) new.channel_states
    going-on c h going before =
        let unfinished = going.unfinished in
        let has = follows.served.own c h (record {
          goes = omega (arith, before);
          unfinished = omega (arith, unfinished);
        }) in
        record {
          channel_state = has.channel_state;
          at = has.at;
          of = has.served.of;
          counted = has.served.counted;
        }

    gone-on : (number : ℕ) (channel_state : ChannelState)
        → slice_get new.channel_states number ≡ Some channel_state
        → (channel_state.go < t + 1) ⊎ (channel_state.fin ≡ 0)
    gone-on number channel_state at =
        let was = channel_state-before ready.channel_states new.channel_states
        (cycles-kept events t ready new cycle) number channel_state
        at in
        let go = ap (λ (x : ℕ × ℕ × ℕ). x.0) was.2 in
        let fin = ap (λ (x : ℕ × ℕ × ℕ). x.1) was.2 in
        elim (ready-gone number was.0 was.1) [
          | inl before ↦ inl (omega (arith, before, go))
          | inr none ↦ inr (omega (arith, none, fin))
        ]

    only-on : (number : ℕ) (channel_state : ChannelState)
        → slice_get new.channel_states number ≡ Some channel_state
        → is_open channel_state (t + 1) ≡ true → IsInUse sessions channel (t + 1) number
    only-on number channel_state at is =
        let parts = open-parts channel_state (t + 1) is in
        let upto = parts.1 in
        let from : channel_state.go ≤ t = elim (gone-on number channel_state at) [
          | inl before ↦ omega (arith, before)
          | inr none ↦ absurd (omega (arith, none, upto))
        ] in
        let in_use = follows.served.only number channel_state at
        (open-at channel_state t from (omega (arith, upto))) in
        let has = follows.served.own in_use.session in_use.known in_use.going in
        let there : slice_get new.channel_states (channel in_use.session) ≡ Some channel_state =
        ap (slice_get new.channel_states) in_use.place ∙ at in
        let same : has.channel_state ≡ channel_state =
        same_Some has.channel_state channel_state (sym has.at ∙ there) in
        let fin : channel_state.fin ≡ (server_at sessions in_use.session).finish =
        sym (ap (λ (s : ChannelState). s.fin) same) ∙ has.served.of.fin in
        let goes = in_use.going.goes in
        record {
          session = in_use.session;
          known = in_use.known;
          going = record { goes = omega (arith, goes); unfinished = omega (arith, fin, upto) };
          place = in_use.place;
        }

    pub runs-on : Runs sessions channel (t + 1) more new
    runs-on = record {
      wired = follows.wired;
      wired_for = follows.wired_for;
      latched = follows.latched;
      stands = follows.stands;
      going = going-on;
      only = only-on;
      gone = gone-on;
      fresh = λ c h early. rested c (λ going. let goes = going.goes in omega (arith, goes, early))
          ∙ runs.fresh c h (omega (arith, early));
    }

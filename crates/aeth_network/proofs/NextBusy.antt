-- The next cycle in which something happens, out of what is given and how the network stands.
use Rattle.std.proofs.Common.{◌≡◌, ◌≤◌, ◌<◌, ◌⊎◌, ◌↔◌, ◌+◌, ◌-◌, ◌*◌, ◌∙◌, ℕ, zero, suc, All, List}
use Rattle.std.proofs.Common.{[], None, Some, ap, arith, drop, false, fold, inl, inr, length, refl}
use Rattle.std.proofs.Common.{slice_get, subst, sym, true, replicate}
use Rattle.std.proofs.lemmas.Bool.{cases_Bool, cases_lt}
use Rattle.std.proofs.lemmas.List.{get_or-replicate, length-replicate, Elements.All-weaker}
use Rattle.std.proofs.lemmas.Option.{get_or_from_slice_get, slice_get_within}
use Rattle.aeth_base.proofs.Members.{All-slice_get}
use Rattle.aeth_clocked.specs.Wires.{flit_on}
use Rattle.aeth_router.specs.declared.part.Part.{Part}
use Rattle.aeth_tables.proofs.ListLaws.{all_from_places}
use Rattle.aeth_components.specs.{First.HasSender, First.IsFirst, ChannelStates.is_open}
use Rattle.aeth_components.specs.{Phases.asked_of, FlitsOnWires.sends_own}
use Rattle.aeth_components.specs.{declared.channel_state.ChannelState.ChannelState}
use Rattle.aeth_accepted.specs.Inputs.{Inputs, run_of}
use Rattle.aeth_schedule.specs.Windows.{IsInWindow}
use Rattle.aeth_schedule.specs.declared.session_start.SessionStart.{SessionStart}
use Rattle.aeth_schedule.specs.declared.windows.Window.{Window}
use Rattle.aeth_stimuli.specs.Loaded.{no_channel_state}
use Rattle.aeth_stimuli.specs.Stimuli.{Offer, Stimuli, Take}
use Rattle.aeth_running.proofs.{Played.played-stimuli as first-stimuli}
use Rattle.aeth_running.proofs.{StillSessionStarts.no-session_starts, StillRows.no-switches}
use Rattle.aeth_running.specs.Idle.{IsIdleCycle, IsNextBusyOf}
use Rattle.aeth_running.specs.Network.{NetworkState, accepted_with, first_network, gone_with}
use Rattle.aeth_running.specs.Network.{session_starts_in, offers_in, played, stepped, untils_in}
use Rattle.aeth_running.specs.Routing.{Routing}
use Rattle.aeth_running.specs.Quiet.{AreStill, IsNextBusy, IsQuiet, ready_channel_states}
use Rattle.aeth_running.specs.Still.{IsStill}
use Rattle.aeth_network.specs.{Behind.passed, Networks.IsNetwork, Next.HasAsker, Next.HasOffer}
use Rattle.aeth_network.specs.{Next.HasWindow, Runs.IsNetworkOf}
use Rattle.aeth_network.proofs.{Firsts.not-empty, Playing.cycles-of}
use Rattle.aeth_network.proofs.{RestingChannelStates.asks-first, RestingChannelStates.asks-seen}
use Rattle.aeth_network.proofs.{RestingChannelStates.begun, RestingChannelStates.gone-landed}
use Rattle.aeth_network.proofs.{RestingChannelStates.seen-asks, Ready.ways-are, FitLemmas.HasWay}

-- So many cycles behind so many.
pub played-sum : (j t : ℕ) (all : NetworkState) → played j (played t all) ≡ played (t + j) all
unfolding played
played-sum zero t all = let same : t ≡ t + zero = omega arith in ap (λ n. played n all) same
played-sum (suc j) t all =
    let next : suc (t + j) ≡ t + suc j = omega arith in
    ap stepped (played-sum j t all) ∙ ap (λ n. played n all) next

-- A component that isn't seen to send sends nothing.
mute-unless : (cycle : ℕ) (part : Part) → (sends_own cycle part ≡ true → ⊥)
    → sends_own cycle part ≡ false
mute-unless cycle part never = elim (cases_Bool (sends_own cycle part)) [
  | inl sends ↦ absurd (never sends)
  | inr mute ↦ mute
]

-- Of no channel of the first network has anything landed.
first-landed : (inputs : Inputs) (routing : Routing) (number : ℕ) (channel_state : ChannelState)
    → slice_get (first_network inputs routing).components.channel_states number ≡ Some channel_state
    → channel_state.landed ≡ 0
unfolding first_network
first-landed inputs routing number channel_state at =
    let count = 2 * length inputs.app.connections in
    let within = slice_get_within (replicate count no_channel_state) number channel_state at in
    let size = length-replicate count no_channel_state in
    let same : channel_state ≡ no_channel_state =
    sym (get_or_from_slice_get (replicate count no_channel_state) number channel_state
    no_channel_state at)
    ∙ get_or-replicate count number no_channel_state no_channel_state (omega arith) in
    ap (λ (one : ChannelState). one.landed) same

-- The network of inputs before their first cycle.
begins : (inputs : Inputs) (all : NetworkState) → IsNetworkOf inputs all → all.time ≡ 0
    → all ≡ first_network inputs all.routing
unfolding played
begins inputs all of start =
    of.is ∙ ap (λ n. played n (first_network inputs all.routing)) start

-- No cycle leaves a network as it is.
played-zero : (all : NetworkState) → played 0 all ≡ all
unfolding played
played-zero all = refl

module _ (inputs : Inputs) (all : NetworkState) (quiet : (t k : ℕ) → t + k < inputs.cycles
    → ((l : ℕ) → flit_on (played t (first_network inputs all.routing)).components.wires l ≡ None)
    → ((j : ℕ) → j < k → IsStill (played (t + j) (first_network inputs all.routing)))
    → IsStill (played (t + k) (first_network inputs all.routing))
    ↔ IsQuiet (played t (first_network inputs all.routing)) k) where
  -- A cycle leaves a network where it is quiet.
  quiet-at : (t k : ℕ) (one : NetworkState) → one ≡ played t (first_network inputs all.routing)
      → t + k < inputs.cycles → ((l : ℕ) → flit_on one.components.wires l ≡ None)
      → AreStill k one → IsStill (played k one) ↔ IsQuiet one k
  quiet-at t k one is early =
      let first = first_network inputs all.routing in
      subst (λ (net : NetworkState). ((l : ℕ) → flit_on net.components.wires l ≡ None)
      → AreStill k net → IsStill (played k net) ↔ IsQuiet net k) (sym is)
      (λ empty still.
      subst (λ (net : NetworkState). IsStill net ↔ IsQuiet (played t first) k)
      (sym (played-sum k t first))
      (quiet t k early empty (λ j less. subst IsStill (played-sum j t first) (still j less))))

  module _ (of : IsNetworkOf inputs all) (capacity : ℕ)
      (is : IsNetwork capacity all) (empty : (l : ℕ) → flit_on all.components.wires l ≡ None) where
    abbrev key : Take → ℕ
    key one = one.cycle

    abbrev asks-at : ℕ → Type 0
    asks-at t = HasAsker all.components.channel_states all.stimuli.takes
        (passed key all.time all.stimuli.takes) t

    iff : (k : ℕ) → all.time + k < inputs.cycles → AreStill k all
        → IsStill (played k all) ↔ IsQuiet all k
    iff k early still = quiet-at all.time k all of.is early empty still

    stimuli-are : all.stimuli ≡ (played all.time (first_network inputs all.routing)).stimuli
    stimuli-are = ap (λ (one : NetworkState). one.stimuli) of.is

    -- Where no word is offered and no switch does anything, no session goes but in cycle 0.
    ungone : all.time < inputs.cycles
        → All (λ window. IsInWindow window all.time → ⊥) all.stimuli.schedule.windows
        → 0 < all.time → session_starts_in all.stimuli all.time ≡ []
    ungone early none late =
        let same = stimuli-are ∙ first-stimuli inputs all.routing all.time in
        ap (λ (s : Stimuli). session_starts_in s all.time) same
        ∙ no-session_starts inputs all.time (no-switches inputs all.time early
        (subst (λ (s : Stimuli). All (λ window. IsInWindow window all.time → ⊥) s.schedule.windows)
        same
        none)) late

    begun-later : session_starts_in all.stimuli all.time ≡ [] → offers_in all.stimuli all.time ≡ []
        → begun all is.stimuli.take_order ≡ all.components.channel_states
    begun-later none unoffered =
        let untils = untils_in all.stimuli all.time all.untils in
        λ i. fold (accepted_with all.time untils)
        (fold gone_with all.components.channel_states (none i))
        (unoffered i)

    begun-landed : all.time ≡ 0 → offers_in all.stimuli all.time ≡ []
        → (number : ℕ) (channel_state : ChannelState)
        → slice_get (begun all is.stimuli.take_order) number ≡ Some channel_state
        → channel_state.landed ≡ 0
    begun-landed start unoffered number channel_state at =
        let untils = untils_in all.stimuli all.time all.untils in
        let session_starts = session_starts_in all.stimuli all.time in
        let gone = fold gone_with all.components.channel_states session_starts in
        let words = length all.components.words in
        let parts = length all.components.parts in
        let W = HasWay words parts
        (drop (passed (λ one. one.cycle) all.time all.stimuli.offers) all.stimuli.offers) in
        gone-landed session_starts all.components.channel_states
        (All-weaker W (λ (one : SessionStart). one.channel_state.landed ≡ 0) (λ one way.
        let none = way.none in
        let landed = way.sound.landed in
        let enqueued = way.sound.enqueued in
        omega arith) session_starts (ways-are capacity all is))
        (λ k one there. first-landed inputs all.routing k one
        (ap (λ (net : NetworkState). slice_get net.components.channel_states k)
        (sym (begins inputs all of start))
        ∙ there)) number channel_state
        (ap (λ (offers : List Offer). slice_get (fold (accepted_with all.time untils) gone offers) number)
        (sym unoffered) ∙ at)

    -- A channel asks for nothing in a cycle where it isn't seen to.
    unasked-of : (k : ℕ) → all.time < inputs.cycles
        → All (λ window. IsInWindow window all.time → ⊥) all.stimuli.schedule.windows
        → offers_in all.stimuli all.time ≡ [] → (asks-at (all.time + k) → ⊥)
        → (number : ℕ) (channel_state : ChannelState)
        → slice_get (ready_channel_states k all) number ≡ Some channel_state
        → is_open channel_state (all.time + k) ≡ true → asked_of channel_state ≡ 0
    unasked-of k early none unoffered unseen = elim (cases_lt 0 all.time) [
      | inl late ↦ asks-seen all is.stimuli.take_order k
          (begun-later (ungone early none late) unoffered) unseen
      | inr begin ↦ λ number channel_state at opened.
          asks-first all is.stimuli.take_order (begun-landed (omega arith) unoffered) k number
          channel_state at
    ]

    -- And where it is seen to, it asks.
    asks-of : (k : ℕ) → all.time < inputs.cycles
        → All (λ window. IsInWindow window all.time → ⊥) all.stimuli.schedule.windows
        → offers_in all.stimuli all.time ≡ []
        → ((number : ℕ) (channel_state : ChannelState)
        → slice_get (ready_channel_states k all) number ≡ Some channel_state
        → is_open channel_state (all.time + k) ≡ true → asked_of channel_state ≡ 0)
        → asks-at (all.time + k) → ⊥
    asks-of k early none unoffered unasked has = elim (cases_lt 0 all.time) [
      | inl late ↦ seen-asks all is.stimuli.take_order k
          (begun-later (ungone early none late) unoffered) unasked has
      | inr begin ↦
          let start : all.time ≡ 0 = omega arith in
          let landed = first-landed inputs all.routing has.number has.channel_state
          (ap (λ (net : NetworkState). slice_get net.components.channel_states has.number)
          (sym (begins inputs all of start)) ∙ has.at) in
          let waits = has.asks.waits in
          absurd (omega arith)
    ]

    module _ (b c d : ℕ) (row : IsFirst (λ t. HasOffer all.stimuli.offers t
        ⊎ HasWindow all.stimuli.schedule.windows t) all.time all.log.cycles b)
        (send : IsFirst (HasSender all.components.parts) all.time b c)
        (ask : IsFirst (λ t. asks-at t) all.time c d) where
      ordered : (d ≤ c) × (c ≤ b) × (b ≤ all.log.cycles)
      ordered = (ask.most, send.most, row.most)

      no-offer : (t : ℕ) → all.time ≤ t → t < b → offers_in all.stimuli t ≡ []
      no-offer t since less =
          not-empty (offers_in all.stimuli t) (λ has. row.before t since less (inl has))

      no-window : (t : ℕ) → all.time ≤ t → t < b
          → All (λ window. IsInWindow window t → ⊥) all.stimuli.schedule.windows
      no-window t since less =
          all_from_places (λ (one : Window). IsInWindow one t → ⊥) all.stimuli.schedule.windows
          (λ number one at within. row.before t since less
          (inr (record { number = number; window = one; at = at; within = within })))

      -- Before the first of these cycles each is quiet.
      quiet-before : (k : ℕ) → all.time + k < d → IsQuiet all k
      quiet-before k less =
          let (one, two, three) = ordered in
          let cycles = cycles-of inputs all of in
          record {
            unoffered = no-offer (all.time + k) (omega arith) (omega arith);
            unswitched = no-window (all.time + k) (omega arith) (omega arith);
            mute = λ number part at. mute-unless (all.time + k) part (λ sends.
                send.before (all.time + k) (omega arith) (omega arith)
                (record { number = number; part = part; at = at; sends = sends }));
            unasked = unasked-of k (omega arith)
                (no-window all.time (omega arith) (omega arith))
                (no-offer all.time (omega arith) (omega arith))
                (ask.before (all.time + k) (omega arith) less);
          }

      still-before : (k : ℕ) → all.time + k ≤ d → AreStill k all
      still-before zero within j less = absurd (omega arith)
      still-before (suc k) within j less =
          let (one, two, three) = ordered in
          let cycles = cycles-of inputs all of in
          let before = still-before k (omega arith) in
          elim (cases_lt j k) [
            | inl earlier ↦ before j earlier
            | inr last ↦
                let same : k ≡ j = omega arith in
                subst (λ n. IsStill (played n all)) same
                ((iff k (omega arith) before).1 (quiet-before k (omega arith)))
          ]

      -- And it is not.
      busy-then : d < all.log.cycles → IsQuiet all (d - all.time) → ⊥
      busy-then early quiet =
          let (one, two, three) = ordered in
          let since = ask.least in
          let cycles = cycles-of inputs all of in
          let k = d - all.time in
          let now : all.time + k ≡ d = omega arith in
          elim (cases_lt d c) [
            | inl sooner ↦
                asks-of k (omega arith)
                (no-window all.time (omega arith) (omega arith))
                (no-offer all.time (omega arith) (omega arith))
                quiet.unasked (subst asks-at (sym now) (ask.holds sooner))
            | inr same_c ↦ elim (cases_lt c b) [
              | inl sends ↦
                  let same : all.time + k ≡ c = omega arith in
                  let has = send.holds sends in
                  let mute = quiet.mute has.number has.part has.at in
                  let own = ap (λ t. sends_own t has.part) same ∙ has.sends in
                  cc (sym own ∙ mute)
              | inr same_b ↦
                  let same : b ≡ all.time + k = omega arith in
                  elim (row.holds (omega arith)) [
                    | inl offered ↦ offered (ap (offers_in all.stimuli) same ∙ quiet.unoffered)
                    | inr has ↦
                        All-slice_get (λ (one : Window). IsInWindow one (all.time + k) → ⊥)
                        all.stimuli.schedule.windows has.number has.window quiet.unswitched has.at
                        (subst (IsInWindow has.window) same has.within)
                  ]
            ]
          ]

      -- So that is the next busy cycle.
      pub next-busy-is : IsNextBusy all d
      next-busy-is =
          let (one, two, three) = ordered in
          let since = ask.least in
          let cycles = cycles-of inputs all of in
          let k = d - all.time in
          let still = still-before k (omega arith) in
          record {
            from = since;
            to = omega arith;
            still = still;
            busy = λ early is_still.
                busy-then early ((iff k (omega arith) still).0 is_still);
          }

  -- Where the cycle that comes doesn't leave it, it is that.
  module _ (of : IsNetworkOf inputs all) (some : IsStill all → ⊥) where
    pub now-busy : IsNextBusy all all.time
    now-busy =
        let cycles = cycles-of inputs all of in
        let within = of.within in
        let none : all.time - all.time ≡ 0 = omega arith in
        record {
          from = omega arith;
          to = omega arith;
          still = λ k less. absurd (omega arith);
          busy = λ early still. some
              (subst IsStill (ap (λ n. played n all) none ∙ played-zero all) still);
        }

-- Of accepted inputs it is the next cycle of their run that isn't idle.
module _ (inputs : Inputs) (all : NetworkState) (of : IsNetworkOf inputs all)
    (law : (t : ℕ) → t < inputs.cycles → IsStill (played t (first_network inputs all.routing))
    ↔ IsIdleCycle (run_of inputs) t) where
  -- Behind so many cycles more the network is the first one behind all of them.
  behind-all : (later t : ℕ) → all.time + later ≡ t
      → played later all ≡ played t (first_network inputs all.routing)
  behind-all later t sum =
      let first = first_network inputs all.routing in
      ap (played later) of.is ∙ played-sum later all.time first ∙ ap (λ n. played n first) sum

  pub next-of-run : (t : ℕ) → IsNextBusy all t → IsNextBusyOf (run_of inputs) all.time inputs.cycles t
  next-of-run t next =
      let cycles = cycles-of inputs all of in
      let since = next.from in
      let within = next.to in
      record {
        since = since;
        within = omega arith;
        idle = λ earlier from less.
            (law earlier (omega arith)).0
            (subst IsStill (behind-all (earlier - all.time) earlier (omega arith))
            (next.still (earlier - all.time) (omega arith)));
        busy = λ early idle.
            next.busy (omega arith)
            (subst IsStill (sym (behind-all (t - all.time) t (omega arith)))
            ((law t early).1 idle));
      }

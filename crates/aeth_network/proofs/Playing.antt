-- Networks that play so many cycles.
use Rattle.std.proofs.Common.{◌≡◌, ◌≤◌, ◌<◌, ◌+◌, ◌-◌, ◌*◌, ◌∙◌, ℕ, zero, suc, ap, arith, length}
use Rattle.std.proofs.Common.{refl, subst, sym}
use Rattle.aeth_report.specs.Log.{LogData}
use Rattle.aeth_accepted.specs.Inputs.{AreAccepted, Inputs}
use Rattle.aeth_schedule.specs.{Rooms.rooms_of, Switching.loaded_of, Values.values_of}
use Rattle.aeth_running.proofs.Played.{stepped-log, stepped-routing, stepped-time}
use Rattle.aeth_running.specs.{Lossless.LosesNothing, Network.NetworkState, Network.first_network}
use Rattle.aeth_running.specs.{Network.played, Network.stepped, Routing.IsRoutingFor}
use Rattle.aeth_running.specs.{Routing.Routing, Logged.network_log, Logged.logged}
use Rattle.aeth_network.{specs.Runs.IsNetworkOf, proofs.FirstComponents.loaded-size}

-- No cycle, and one more.
pub played-none : (cycles : ℕ) (old : NetworkState) → cycles ≡ 0 → played cycles old ≡ old
unfolding played
played-none cycles old none = rw none refl

pub played-more : (cycles next : ℕ) (old : NetworkState) → next ≡ cycles + 1
    → stepped (played cycles old) ≡ played next old
unfolding played
played-more cycles next old is =
    let more : next ≡ suc cycles = omega arith in
    rw more refl

-- So many cycles later.
pub played-time : (cycles : ℕ) (old : NetworkState) → (played cycles old).time ≡ old.time + cycles
unfolding played
played-time zero old = omega arith
played-time (suc cycles) old =
    let before = played-time cycles old in
    let more = stepped-time (played cycles old) in
    omega arith

pub played-log : (cycles : ℕ) (old : NetworkState) → (played cycles old).log ≡ old.log
unfolding played
played-log zero old = refl
played-log (suc cycles) old = stepped-log (played cycles old) ∙ played-log cycles old

-- Once the cycles that are left are played, none is, and the log is the same.
pub played-left : (old new : NetworkState) → new ≡ played (old.log.cycles - old.time) old
    → new.log.cycles - new.time ≡ 0
played-left old new is =
    let left = old.log.cycles - old.time in
    let time = ap (λ (all : NetworkState). all.time) is ∙ played-time left old in
    let cycles = ap (λ (all : NetworkState). all.log.cycles) is
    ∙ ap (λ (log : LogData). log.cycles) (played-log left old) in
    omega arith

pub played-same : (old new : NetworkState) → new ≡ played (old.log.cycles - old.time) old
    → logged (played (new.log.cycles - new.time) new)
    ≡ logged (played (old.log.cycles - old.time) old)
played-same old new is =
    ap logged (played-none (new.log.cycles - new.time) new (played-left old new is) ∙ is)

-- The network of inputs plays all their cycles.
pub first-plays : (inputs : Inputs) (routing : Routing) (network : NetworkState)
    → network ≡ first_network inputs routing
    → logged (played (network.log.cycles - network.time) network) ≡ network_log inputs routing
unfolding first_network network_log
first-plays inputs routing network is =
    let all : inputs.cycles - 0 ≡ inputs.cycles = omega arith in
    rw (is, all) refl

pub first-left : (inputs : Inputs) (routing : Routing) (network : NetworkState)
    → network ≡ first_network inputs routing
    → network.log.cycles - network.time ≡ inputs.cycles
unfolding first_network
first-left inputs routing network is = rw is (omega arith)

-- It has components.
pub first-count : (inputs : Inputs) → AreAccepted inputs → (routing : Routing)
    (network : NetworkState) → network ≡ first_network inputs routing → 0 < length network.components.parts
unfolding first_network
first-count inputs accepted routing network is =
    let is_chip = accepted.design.chip_is in
    let some = is_chip.some_nis in
    let size = loaded-size routing inputs.chip is_chip (rooms_of inputs)
    (2 * length inputs.app.connections)
    (values_of inputs.words (length inputs.app.connections)) (loaded_of inputs) in
    let parts = ap (λ (all : NetworkState). length all.components.parts) is in
    omega (arith, some, size, parts)

-- A network of accepted inputs has their number of cycles.
pub cycles-of : (inputs : Inputs) (all : NetworkState) → IsNetworkOf inputs all
    → all.log.cycles ≡ inputs.cycles
unfolding first_network
cycles-of inputs all is =
    ap (λ (now : NetworkState). now.log.cycles) is.is
    ∙ ap (λ (log : LogData). log.cycles) (played-log all.time (first_network inputs all.routing))

-- The first network is that of its inputs, and it stays theirs, cycle by cycle.
pub first-of : (inputs : Inputs) → AreAccepted inputs → (routing : Routing)
    → IsRoutingFor inputs routing → (network : NetworkState)
    → network ≡ first_network inputs routing → IsNetworkOf inputs network
unfolding first_network
first-of inputs accepted routing routes network is =
    let none : network.time ≡ 0 = ap (λ (all : NetworkState). all.time) is in
    let same : routing ≡ network.routing = sym (ap (λ (all : NetworkState). all.routing) is) in
    record {
      accepted = accepted;
      routed = subst (IsRoutingFor inputs) same routes;
      within = omega arith;
      is = is ∙ ap (first_network inputs) same
          ∙ sym (played-none network.time (first_network inputs network.routing) none);
    }

pub still-of : (inputs : Inputs) (old new : NetworkState) → IsNetworkOf inputs old
    → old.time < old.log.cycles → new ≡ stepped old → IsNetworkOf inputs new
still-of inputs old new is early steps =
    let cycles = cycles-of inputs old is in
    let time : new.time ≡ old.time + 1 =
    ap (λ (all : NetworkState). all.time) steps ∙ stepped-time old in
    let same : old.routing ≡ new.routing =
    sym (ap (λ (all : NetworkState). all.routing) steps ∙ stepped-routing old) in
    record {
      accepted = is.accepted;
      routed = subst (IsRoutingFor inputs) same is.routed;
      within = omega arith;
      is = steps ∙ ap stepped is.is
          ∙ played-more old.time new.time (first_network inputs old.routing) time
          ∙ ap (λ routing. played new.time (first_network inputs routing)) same;
    }

-- And it loses nothing in a cycle.
pub loses-of : (inputs : Inputs) (old new : NetworkState) → IsNetworkOf inputs old
    → old.time < old.log.cycles → new ≡ stepped old
    → ((t : ℕ) → t < inputs.cycles
    → LosesNothing inputs (t + 1) (played t (first_network inputs old.routing)).components
    (played (t + 1) (first_network inputs old.routing)).components)
    → LosesNothing inputs new.time old.components new.components
loses-of inputs old new is early steps law =
    let first = first_network inputs old.routing in
    let t = old.time in
    let cycles = cycles-of inputs old is in
    let time : new.time ≡ t + 1 = ap (λ (all : NetworkState). all.time) steps ∙ stepped-time old in
    let next : new ≡ played (t + 1) first =
    steps ∙ ap stepped is.is ∙ played-more t (t + 1) first refl in
    subst (λ n. LosesNothing inputs n old.components new.components) (sym time)
    (subst (λ (all : NetworkState). LosesNothing inputs (t + 1) all.components new.components)
    (sym is.is)
    (subst (λ (all : NetworkState).
    LosesNothing inputs (t + 1) (played t first).components all.components) (sym next)
    (law t (omega arith))))

pub many-of : (inputs : Inputs) (old : NetworkState) (cycles : ℕ) → IsNetworkOf inputs old
    → old.time + cycles ≤ inputs.cycles → IsNetworkOf inputs (played cycles old)
unfolding played
many-of inputs old zero is few = is
many-of inputs old (suc cycles) is few =
    let before = many-of inputs old cycles is (omega arith) in
    let time = played-time cycles old in
    let most = cycles-of inputs (played cycles old) before in
    still-of inputs (played cycles old) (stepped (played cycles old)) before (omega arith) refl

-- Once the cycles that are left are played, all of them are done.
pub done-of : (inputs : Inputs) (old new : NetworkState)
    → new ≡ played (old.log.cycles - old.time) old → IsNetworkOf inputs old
    → IsNetworkOf inputs new × (new.time ≡ inputs.cycles)
done-of inputs old new is of =
    let left = old.log.cycles - old.time in
    let cycles = cycles-of inputs old of in
    let within = of.within in
    let time = ap (λ (all : NetworkState). all.time) is ∙ played-time left old in (
      subst (IsNetworkOf inputs) (sym is) (many-of inputs old left of (omega arith)),
      omega arith,
    )

-- Then it gives the log of the network of the inputs.
pub log-of : (inputs : Inputs) (all : NetworkState) → IsNetworkOf inputs all
    → all.time ≡ inputs.cycles → logged all ≡ network_log inputs all.routing
unfolding network_log
log-of inputs all is done =
    ap logged (is.is ∙ ap (λ n. played n (first_network inputs all.routing)) done)

use Rattle.std.proofs.Common.{subst, vec_capacity}
use Rattle.aeth_running.specs.Network.{NetworkState}
use Rattle.aeth_network.specs.Brought.{BringsWords, IsCalm}
use Rattle.aeth_network.proofs.{Playing.loses-of, Playing.still-of, QuietPlaces.brings-words}
use Rattle.aeth_network.proofs.{QuietPlaces.calm-now, SeenNetworks.in-order, SeenNetworks.seen}
use Rattle.aeth_network.proofs.network.RoutedNetwork.cycle_counted.Goals as goal

-- Nothing but words comes before the quiet cycle.
pub cycle_with_words-requires-clause-words : goal.cycle_with_words-requires-clause-words
cycle_with_words-requires-clause-words g c =
    let inside = c.self.inside in
    subst BringsWords c.self.view_is
    (brings-words inside.cursors (seen inside)
    (in-order (vec_capacity inside.state.replaced) (seen inside) c.self.invariant.0)
    c.self.invariant.1 c.if-self.true)

-- And nothing but words and events before the calm one.
pub cycle_with_events-requires-clause-calm : goal.cycle_with_events-requires-clause-calm
cycle_with_events-requires-clause-calm g c =
    let inside = c.self.inside in
    subst (λ (all : NetworkState). IsCalm all.stimuli all.routing all.time) c.self.view_is
    (calm-now inside.cursors inside.time _ _
    (in-order (vec_capacity inside.state.replaced) (seen inside) c.self.invariant.0)
    c.self.invariant.1 c.if-self-2.true)

-- A network of accepted inputs stays theirs.
pub returns-then-self-clause-run : goal.returns-then-self-clause-run
returns-then-self-clause-run g c = λ inputs is.
    still-of inputs c.args.self.now _ is c.requires.time c.cycle_with_words.ensures.steps

pub returns-then-self-2-clause-run : goal.returns-then-self-2-clause-run
returns-then-self-2-clause-run g c = λ inputs is.
    still-of inputs c.args.self.now _ is c.requires.time c.cycle_with_events.ensures.steps

pub returns-else-self-2-clause-run : goal.returns-else-self-2-clause-run
returns-else-self-2-clause-run g c = λ inputs is.
    still-of inputs c.args.self.now _ is c.requires.time c.cycle_with_rows.ensures.steps

-- It loses nothing.
pub returns-then-self-clause-lossless : goal.returns-then-self-clause-lossless
returns-then-self-clause-lossless g c = λ inputs is.
    loses-of inputs c.args.self.now _ is c.requires.time c.cycle_with_words.ensures.steps
    (c.cycles_lose_nothing.ensures inputs is.accepted c.args.self.now.routing is.routed)

pub returns-then-self-2-clause-lossless : goal.returns-then-self-2-clause-lossless
returns-then-self-2-clause-lossless g c = λ inputs is.
    loses-of inputs c.args.self.now _ is c.requires.time c.cycle_with_events.ensures.steps
    (c.cycles_lose_nothing.ensures inputs is.accepted c.args.self.now.routing is.routed)

pub returns-else-self-2-clause-lossless : goal.returns-else-self-2-clause-lossless
returns-else-self-2-clause-lossless g c = λ inputs is.
    loses-of inputs c.args.self.now _ is c.requires.time c.cycle_with_rows.ensures.steps
    (c.cycles_lose_nothing.ensures inputs is.accepted c.args.self.now.routing is.routed)

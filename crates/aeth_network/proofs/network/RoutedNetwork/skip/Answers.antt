use Rattle.std.proofs.Common.{◌-◌, ◌∙◌, ap, arith, sym}
use Rattle.aeth_running.specs.Network.{NetworkState}
use Rattle.aeth_network.proofs.Playing.{played-none}
use Rattle.aeth_network.proofs.Skipped.{IsBegun, begun-first, begun-later, skipped-of}
use Rattle.aeth_network.proofs.Skipped.{still-nothing}
use Rattle.aeth_network.proofs.network.RoutedNetwork.skip.Goals.{else-self-eq0, then-self-eq0}
use Rattle.aeth_network.proofs.network.RoutedNetwork.skip.Goals as goal

-- Cycle 0 is to be passed over, and leaves the network.
pub begin-requires-clause-still : goal.begin-requires-clause-still
begin-requires-clause-still c =
    let time = ap (λ (all : NetworkState). all.time) c.self.view_is in
    let start = c.if-self-eq0.true in
    let some = c.if-self-to.true in
    still-nothing c.args.self.now (c.requires.still 0 (omega arith))

-- It is passed over, if it was to be.
begun : (c : goal.After-rest-arg-1) → IsBegun c.args.self.now c.if-self-eq0.self c.args.to
begun c =
    let time = ap (λ (all : NetworkState). all.time) c.self.view_is in
    let from = c.requires.from in
    elim c.if-self-eq0.branch [
      | then-self-eq0 w ↦
          let start = w.if-self-eq0.true in
          let some = c.if-self-to.true in
          begun-first c.args.self.now c.if-self-eq0.self c.args.to (w.self-is ∙ w.begin.ensures.steps)
          (omega arith) (omega arith) c.requires.to c.requires.still
      | else-self-eq0 w ↦
          begun-later c.args.self.now c.if-self-eq0.self c.args.to w.self-is
          (λ some. let other = w.if-self-eq0.false in omega arith) c.requires.from c.requires.to
          c.requires.still
    ]

-- So later ones are left.
pub rest-requires-clause-from : goal.rest-requires-clause-from
rest-requires-clause-from c = (begun c).may.from

pub rest-requires-clause-to : goal.rest-requires-clause-to
rest-requires-clause-to c = (begun c).may.within

pub rest-requires-clause-late : goal.rest-requires-clause-late
rest-requires-clause-late c = (begun c).may.late

pub rest-requires-clause-still : goal.rest-requires-clause-still
rest-requires-clause-still c = (begun c).may.still

-- All of them are played.
pub returns-after-self-eq0-clause-played : goal.returns-after-self-eq0-clause-played
returns-after-self-eq0-clause-played c = c.rest.ensures.played ∙ (begun c.before).played_is

-- A network of accepted inputs stays theirs.
pub returns-after-self-eq0-clause-run : goal.returns-after-self-eq0-clause-run
returns-after-self-eq0-clause-run c = λ inputs of.
    skipped-of inputs c.args.self.now _ c.args.to c.requires.from c.requires.to
    (returns-after-self-eq0-clause-played c) of

-- None is to be passed over.
pub returns-else-self-to-clause-played : goal.returns-else-self-to-clause-played
returns-else-self-to-clause-played c =
    let time = ap (λ (all : NetworkState). all.time) c.self.view_is in
    let past = c.if-self-to.false in
    sym (played-none (c.args.to - c.args.self.now.time) c.args.self.now (omega arith))

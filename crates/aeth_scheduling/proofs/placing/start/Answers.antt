use Rattle.std.proofs.Common.{arith, refl}
use Rattle.aeth_schedule.proofs.Places.{on-few}
use Rattle.aeth_scheduling.proofs.Places.{place-at, values-few}
use Rattle.aeth_scheduling.proofs.placing.start.Goals.{in-Fwd, in-Back}
use Rattle.aeth_scheduling.proofs.placing.start.Goals as goal

-- A channel hasn't too many words.
pub overflow_cast-ahead : goal.overflow_cast-ahead
overflow_cast-ahead c =
    let few = on-few c.args.words.now c.forward.result in
    let most = c.requires.few in
    let count = c.count_on.ensures in
    omega arith

-- All channels together haven't either.
pub overflow_add-result : goal.overflow_add-result
overflow_add-result c =
    let at = place-at c.args.words.now c.args.starts.now c.args.channel.conn.0 c.requires.starts
    c.requires.channel in
    let before = values-few c.args.words.now c.args.channel.conn.0 c.requires.few in
    let most = c.requires.most in
    let within = c.requires.channel in
    let few = c.requires.few in
    elim c.match-channel.branch [
      | in-Fwd w ↦ let is = w.ahead-is in omega arith
      | in-Back w ↦
          let is = w.ahead-is in
          let count = w.count_on.ensures in
          let own = on-few c.args.words.now w.forward.result in
          omega arith
    ]

-- The place of its connection, and what is ahead of it there.
pub returns-clause-start : goal.returns-clause-start
returns-clause-start c =
    let at = place-at c.args.words.now c.args.starts.now c.args.channel.conn.0 c.requires.starts
    c.requires.channel in
    elim c.match-channel.branch [
      | in-Fwd w ↦ rw (at, w.ahead-is, w.in-Fwd.is) refl
      | in-Back w ↦ rw (at, w.ahead-is, w.count_on.ensures, w.forward.ensures, w.in-Back.is) refl
    ]

-- It isn't too great.
pub returns-clause-most : goal.returns-clause-most
returns-clause-most c =
    let at = place-at c.args.words.now c.args.starts.now c.args.channel.conn.0 c.requires.starts
    c.requires.channel in
    let before = values-few c.args.words.now c.args.channel.conn.0 c.requires.few in
    let most = c.requires.most in
    let within = c.requires.channel in
    let few = c.requires.few in
    elim c.match-channel.branch [
      | in-Fwd w ↦ let is = w.ahead-is in omega arith
      | in-Back w ↦
          let is = w.ahead-is in
          let count = w.count_on.ensures in
          let own = on-few c.args.words.now w.forward.result in
          omega arith
    ]

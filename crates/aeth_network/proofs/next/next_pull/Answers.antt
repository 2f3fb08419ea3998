use Rattle.std.proofs.Common.{◌≡◌, ◌≤◌, ◌<◌, ◌⊎◌, ◌∙◌, ap, arith, get_or, inl, inr, length, max}
use Rattle.std.proofs.Common.{min, sym, eq-eqb, ne_eqb}
use Rattle.std.proofs.lemmas.Bool.{cases_lt}
use Rattle.aeth_stimuli.specs.Stimuli.{Take}
use Rattle.aeth_network.specs.Behind.{passed}
use Rattle.aeth_network.proofs.Passed.{passed-at, passed-few, passed-left, past-test}
use Rattle.aeth_network.proofs.PullLemmas.{cycle_of, pulled-first, pulled-other, pulled-own}
use Rattle.aeth_network.proofs.PullLemmas.{pulls-never}
use Rattle.aeth_network.proofs.next.next_pull.Goals.{else-pull-gt0-via-else-pull-gt0}
use Rattle.aeth_network.proofs.next.next_pull.Goals.{else-pull-gt0-via-then-pull-gt0+else-since-end}
use Rattle.aeth_network.proofs.next.next_pull.Goals.{else-row-number, then-row-number}
use Rattle.aeth_network.proofs.next.next_pull.Goals as goal

-- At the first row.
pub rows-init : goal.rows-init
rows-init c =
    let takes = c.args.takes.now in
    let few = passed-few cycle_of c.args.time takes in
    let place = c.requires.place in
    pulled-first c.args.number c.args.channel_state.now.pull takes c.requires.order c.args.time
    c.args.place
    c.args.channel_state.now.go c.max-since.result place (omega arith) c.max-since.ensures

-- The row is there.
pub bounds-takes-at : goal.bounds-takes-at
bounds-takes-at c =
    (passed-left cycle_of c.limit_of.result c.args.takes.now c.rows.at
    (c.is_before.ensures.exact.0 c.rows-test.true)).0

-- One row less is left.
pub rows-smaller : goal.rows-smaller
rows-smaller c =
    (passed-left cycle_of c.limit_of.result c.args.takes.now c.rows.at
    (c.is_before.ensures.exact.0 c.rows-test.true)).1

-- One row more.
pub rows-preserved : goal.rows-preserved
rows-preserved c =
    let takes = c.args.takes.now in
    let so = c.rows.invariant in
    let at = c.rows.at in
    let pull = c.rows.pull in
    let since = c.rows.since in
    let item = c.index-takes-at.result in
    let before = c.is_before.ensures.exact.0 c.rows-test.true in
    let few = passed-few cycle_of c.limit_of.result takes in
    let within : at < length takes = omega arith in
    let is : get_or takes at item ≡ item = sym c.index-takes-at.is in
    let cycle_is = ap cycle_of c.row.view_is in
    let pull_is = ap (λ (one : Take). one.pull) c.row.view_is in
    let number_is = ap (λ (one : Take). one.number) c.row.view_is in
    elim c.if-row-number.branch [
      | then-row-number w ↦
          let own = w.if-row-number.true in
          let limit_some = c.limit_of.ensures.some in
          let here = ap cycle_of is in
          let behind = passed-at cycle_of c.limit_of.result takes at item c.requires.order within in
          let rests : (pull ≡ 0) ⊎ (item.cycle ≤ since) = elim (cases_lt 0 pull) [
            | inr nothing ↦ inl (omega arith)
            | inl some ↦
                let limit = limit_some some in
                elim (cases_lt item.cycle c.limit_of.result) [
                  | inl less ↦ inr (omega arith)
                  | inr more ↦ let past = behind.1 (omega arith) in absurd (omega arith)
                ]
          ] in
          let most = w.max-since-then-row-number.ensures in
          let then_is : c.if-row-number.since ≡ max since item.cycle =
          let is_since = w.since-is in omega (arith, is_since, most, cycle_is) in
          let so_then =
          pulled-own c.args.number c.args.channel_state.now.pull takes c.requires.order
          c.args.time
          c.args.place c.args.channel_state.now.go since at pull so item within is
          (eq-eqb item.number c.args.number (omega arith)) rests c.if-row-number.since then_is in
          let pulls : c.if-row-number.pull ≡ item.pull = w.pull-is ∙ pull_is in
          rw pulls so_then
      | else-row-number w ↦
          let other = w.if-row-number.false in
          rw (w.pull-is, w.since-is)
          (pulled-other c.args.number c.args.channel_state.now.pull takes c.requires.order
          c.args.time
          c.args.place c.args.channel_state.now.go since at pull so item within is
          (ne_eqb item.number c.args.number (λ same. other (number_is ∙ same))))
    ]

-- The receiver takes none.
pub returns-else-pull-gt0 : goal.returns-else-pull-gt0
returns-else-pull-gt0 c =
    let takes = c.args.takes.now in
    let ends = c.min-end.ensures in
    let exit = past-test c.is_before.ensures.exact c.rows-test.false in
    pulls-never c.args.channel_state.now c.args.number takes c.args.time c.args.to c.args.place
    c.rows.since
    c.rows.at c.rows.pull c.requires.to c.requires.waits c.rows.invariant
    (λ some. elim c.else-pull-gt0.branch [
      | else-pull-gt0-via-then-pull-gt0+else-since-end w ↦
          let late = w.if-since-end.false in omega arith
      | else-pull-gt0-via-else-pull-gt0 w ↦ let none = w.if-pull-gt0.false in absurd (omega arith)
    ])
    (λ none.
    let limit = c.limit_of.ensures.none none in
    let same : c.limit_of.result ≡ min c.args.to c.args.channel_state.now.fin = limit ∙ ends in
    let is = ap (λ n. passed cycle_of n takes) same in
    omega arith)

use Rattle.std.proofs.Common.{◌∙◌, ◌-◌, ◌+◌, ◌∷◌, [], ℕ, map, Option, count_by}
use Rattle.std.specs.List.{range_with_len}
use Rattle.aeth_base.{proofs.Ranges.range_more, specs.declared.shown.Shown.Shown}
use Rattle.aeth_document.proofs.WalkLemmas.{walked-append}
use Rattle.aeth_app.specs.{App.is_end, Demands.above, Limits.max_core_connections}
use Rattle.aeth_app.proofs.WalkParts.{found-range}
use Rattle.aeth_app.proofs.demands.core_too_busy.Goals as goal

-- One more core, which has as many connections as are counted.
pub loop-core-preserved : goal.loop-core-preserved
loop-core-preserved c =
    let core = c.loop-core.core in
    let cores = c.args.cores in
    let shown : ℕ → Option Shown = λ n. above max_core_connections
    (count_by (is_end (record { 0 = n })) c.args.connections.now) in
    let before = rw (range_more core cores c.loop-core-test.true) at c.loop-core.invariant in
    let count = rw c.deref.ensures.value at c.count_at-count.ensures
    ∙ c.in_ok-counts.ensures.each (record { 0 = core }) c.loop-core-test.true in
    rw (c.check-walk.ensures, c.above.ensures, count)
    (walked-append c.loop-core.walk (shown core ∷ [])
    (map shown (range_with_len (core + 1) (cores - (core + 1)))) ∙ before)

-- The walk over all cores finds the first.
pub returns : goal.returns
returns c =
    c.found.ensures ∙ found-range (λ core. above max_core_connections
    (count_by (is_end (record { 0 = core })) c.args.connections.now)) c.args.cores
    c.loop-core.core 0 c.loop-core.walk c.loop-core-test.false c.loop-core.invariant

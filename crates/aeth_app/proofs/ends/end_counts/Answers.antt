use Rattle.std.proofs.Common.{◌≡◌, ◌+◌, ℕ, List, Some, length, slice_get, take, refl, subst, sym}
use Rattle.std.proofs.Common.{arith}
use Rattle.std.proofs.lemmas.Option.{slice_get_read}
use Rattle.aeth_base.proofs.Lists.{written_back}
use Rattle.aeth_app.{specs.Ends.AreEndCounts, proofs.EndLemmas.counts-more}
use Rattle.aeth_app.proofs.ends.end_counts.Goals as goal

-- One more connection.
pub loop-connection-preserved : goal.loop-connection-preserved
loop-connection-preserved c =
    let connections = c.args.connections.now in
    let cores = c.args.cores in
    let i = c.loop-connection.connection-index in
    let one = c.connection-item.result in
    let old = c.loop-connection.counts.items in
    let new = c.count_ends.new.counts in
    let at : slice_get connections i ≡ Some one =
    slice_get_read connections (length connections) i one refl c.loop-connection-test.true
    c.connection-item.is in
    let same = rw c.deref_mut.ensures.value at c.count_ends.ensures.size in
    let each = rw c.deref_mut.ensures.value at c.count_ends.ensures.each in
    let long = c.loop-connection.counts.ok in
    subst (λ (xs : List ℕ). AreEndCounts cores (take (i + 1) connections) xs)
    (sym (written_back old new c.loop-connection.counts.len (omega arith) same))
    (counts-more cores connections i one old new at c.loop-connection.invariant same each)

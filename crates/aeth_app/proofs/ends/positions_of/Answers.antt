use Rattle.std.proofs.Common.{◌≡◌, ◌+◌, ℕ, List, Some, length, slice_get, take, refl, subst, sym}
use Rattle.std.proofs.Common.{arith}
use Rattle.std.proofs.lemmas.Option.{slice_get_read}
use Rattle.aeth_base.proofs.Lists.{written_back}
use Rattle.aeth_chip.proofs.Pushes.{table-push}
use Rattle.aeth_app.specs.{App.IsConnection, Ends.AreEndCounts, Ends.IsPlaced}
use Rattle.aeth_app.specs.{declared.connection.Connection.Connection}
use Rattle.aeth_app.proofs.EndLemmas.{counts-more, placed}
use Rattle.aeth_app.proofs.ends.positions_of.Goals as goal

-- One more connection.
pub loop-connection-preserved : goal.loop-connection-preserved
loop-connection-preserved c =
    let connections = c.args.connections.now in
    let cores = c.args.cores in
    let i = c.loop-connection.connection-index in
    let one = c.connection-item.result in
    let old = c.loop-connection.counts.items in
    let new = c.count_ends.new.counts in
    let at : slice_get connections i ≡ Some one =
    slice_get_read connections (length connections) i one refl c.loop-connection-test.true
    c.connection-item.is in
    let ends : IsConnection cores one = subst (λ (o : Connection). IsConnection cores o)
    (sym c.connection-item.is) (c.requires.joined i one c.loop-connection-test.true) in
    let same = rw c.deref_mut.ensures.value at c.count_ends.ensures.size in
    let each = rw c.deref_mut.ensures.value at c.count_ends.ensures.each in
    let counted = counts-more cores connections i one old new at c.loop-connection.invariant.counts
    same each in
    let long = c.loop-connection.counts.ok in
    record {
      counts = subst (λ (xs : List ℕ). AreEndCounts cores (take (i + 1) connections) xs)
          (sym (written_back old new c.loop-connection.counts.len (omega arith) same)) counted;
      positions = rw c.in_ok-push.ensures.items
          (table-push (IsPlaced connections) i c.loop-connection.positions.items
          (record { from = c.count_at.result; to = c.count_at-in-loop-connection.result })
          c.loop-connection.invariant.positions
          (placed cores connections i one old _ at c.loop-connection.invariant.counts ends.from
          ends.to (rw c.deref.ensures.value at c.count_at.ensures)
          (rw c.deref-in-loop-connection.ensures.value at c.count_at-in-loop-connection.ensures)));
    }

use Rattle.std.proofs.Common.{◌≡◌, ◌∙◌, ◌<◌, ◌-◌, ◌+◌, ap, arith, take, drop, sym, subst}
use Rattle.aeth_app.specs.Limits.{seats_per_ni}
use Rattle.aeth_seats.{specs.Places.taken_seats, specs.Table.TableData, proofs.TableLemmas.row_is}
use Rattle.aeth_seats.proofs.table.Table.row.Goals as goal

-- The entries of the interface.
pub returns : goal.returns
returns c =
    let first = c.entry_of-first.result in
    let size : (first + seats_per_ni) - first ≡ seats_per_ni = omega arith in
    let taken = c.self.inside.taken.items in
    let on = subst (λ (t : TableData). c.args.ni.0 < t.nis) (sym c.self.view_is) c.requires in
    ap (λ n. take n (drop first c.deref.result.now)) size
    ∙ ap (λ ts. take seats_per_ni (drop first ts)) c.deref.ensures.value
    ∙ ap (λ n. take seats_per_ni (drop n taken)) c.entry_of-first.ensures
    ∙ row_is c.self.inside.nis c.self.inside.places.items taken c.args.ni.0
    c.self.invariant.1 on
    ∙ ap (λ (t : TableData). taken_seats t.places c.args.ni.0) c.self.view_is

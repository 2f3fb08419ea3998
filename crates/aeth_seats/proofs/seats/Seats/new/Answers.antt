use Rattle.std.proofs.Common.{◌∙◌, ◌≤◌, List, Option, length, ap, arith, subst, sym}
use Rattle.aeth_base.specs.declared.ids.NiId.{NiId}
use Rattle.aeth_seats.specs.{First.AreKnown, First.first_places, First.fixed_count, Seats.IsSeats}
use Rattle.aeth_seats.specs.{Table.TableData}
use Rattle.aeth_seats.proofs.FirstLemmas.{few-fixed, known-fixed, seats-first}
use Rattle.aeth_app.specs.Limits.{seats_per_ni}
use Rattle.aeth_seats.proofs.seats.Seats.new.Goals as goal

-- There are as many as cores of the application.
pub table_of-requires-clause-cores : goal.table_of-requires-clause-cores
table_of-requires-clause-cores c =
    let size = ap length c.deref.ensures.value in omega (arith, size, c.in_ok-fixed.ensures.few)

-- They are those of the application.
pub table_of-requires-clause-known : goal.table_of-requires-clause-known
table_of-requires-clause-known c =
    subst (λ fixed. AreKnown (length c.args.chip.now.nis) fixed)
    (sym (c.deref.ensures.value ∙ c.in_ok-fixed.ensures.fixed))
    (known-fixed c.args.chip.now c.args.app.now c.requires)

-- They are the first seats.
pub invariant_of-result : goal.invariant_of-result
invariant_of-result c =
    let fixed : List (Option NiId) = c.in_ok-fixed.fixed.items in
    let is = c.in_ok-fixed.ensures.fixed in
    let few = c.in_ok-table.ensures.few in
    let on_chip = ap (λ (t : TableData). t.nis) c.in_ok-table.ensures.table in
    subst (λ (t : TableData). IsSeats (record { nis = t.nis; fixed = fixed; places = t.places }))
    (sym (c.in_ok-table.ensures.table
    ∙ ap (λ xs. record { nis = length c.args.chip.now.nis; places = first_places xs })
    c.deref.ensures.value))
    (seats-first (length c.args.chip.now.nis) fixed (omega arith) c.in_ok-fixed.ensures.few
    (subst (λ xs. AreKnown (length c.args.chip.now.nis) xs) (sym is)
    (known-fixed c.args.chip.now c.args.app.now c.requires))
    (λ ni. subst (λ xs. fixed_count xs ni ≤ seats_per_ni) (sym is)
    (few-fixed c.args.chip.now c.args.app.now c.requires ni)))

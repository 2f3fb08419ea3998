use Rattle.std.proofs.Common.{◌≡◌, ◌∙◌, ◌<◌, None, Some, false, length, set, sym, ap, subst, IfSome}
use Rattle.aeth_seats.specs.{Places.seat_of, Table.IsHeldAlone, Table.IsTakenTable, Table.TableData}
use Rattle.aeth_seats.proofs.TakenLemmas.{taken_back-none}
use Rattle.aeth_seats.proofs.TableLemmas.{few-set, table-taken_back}
use Rattle.aeth_seats.proofs.table.Table.take_back.Goals as goal

-- The seat of the core is free then.
pub invariant_of-self : goal.invariant_of-self
invariant_of-self c =
    let table : TableData = record {
      nis = c.self.inside.nis;
      places = c.self.inside.places.items;
    } in
    let core = c.args.core.0 in
    let is = sym c.self.view_is in
    let there = subst (λ (t : TableData). core < length t.places) is c.requires.core in
    let sits : seat_of table.places core ≡ Some (c.in-Some.ni, c.in-Some.seat) =
    ap (λ (t : TableData). seat_of t.places core) c.self.view_is ∙ sym c.in-Some.ensures in
    let held : IsHeldAlone table core (c.in-Some.ni, c.in-Some.seat) =
    subst (λ place. IfSome place (λ place. IsHeldAlone table core place)) sits
    (subst (λ (t : TableData). IfSome (seat_of t.places core) (λ place.
    IsHeldAlone t core place)) is c.requires.seat) in (
      few-set table core None c.self.invariant.0,
      subst (λ e. IsTakenTable table.nis (set table.places core None)
          (set c.self.inside.taken.items e false)) (sym c.entry_of.ensures)
          (table-taken_back table.nis table.places c.self.inside.taken.items core c.in-Some.ni
          c.in-Some.seat c.self.invariant.1 there sits held.ni held.seat held.alone),
    )

-- The core had no seat.
pub returns-in_default : goal.returns-in_default
returns-in_default c =
    let table = c.args.self.now in
    sym (ap (λ places. record { nis = table.nis; places = places })
    (taken_back-none table.places c.args.core.0 (sym c.seat.ensures ∙ c.in_default.is)))

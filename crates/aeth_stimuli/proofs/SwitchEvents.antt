-- The events of a switch: which there are, in which cycles, and in which order.
use Rattle.std.proofs.Common.{◌≡◌, ◌+◌, ◌++◌, ℕ, zero, suc, List, [], ◌∷◌, Contains, Some, ap}
use Rattle.std.proofs.Common.{arith, inl, inr, refl, slice_get, subst, sym}
use Rattle.std.proofs.lemmas.List.Elements.{Contains-append_cases, Contains-append_left}
use Rattle.std.proofs.lemmas.List.Elements.{Contains-append_right}
use Rattle.std.proofs.lemmas.Option.{same_Some}
use Rattle.aeth_base.proofs.Members.{Contains-cases, Contains-here, Contains-map, Contains-nil}
use Rattle.aeth_base.proofs.Members.{Contains-there, map-Contains}
use Rattle.aeth_ni.specs.Program.{program_of}
use Rattle.aeth_ni.specs.declared.{row.ChannelRow.ChannelRow, write.Write.Write}
use Rattle.aeth_report.specs.declared.session.Close.{Close}
use Rattle.aeth_components.specs.declared.event.Event.TheVariants.{Change, Finish, Halt}
use Rattle.aeth_schedule.specs.{Lines.end_of, Timed.events_with, Timed.finishes_at, Timed.halts_at}
use Rattle.aeth_schedule.specs.{Timed.writes_from, declared.timed.Timed.Timed}

-- ---- which there are

-- One write out of writes, in its cycle.
pub record IsWriteAt (cycle : ℕ) (writes : List Write) (one : Timed) : Type 0 where
  pub k : ℕ
  pub write : Write
  pub at : slice_get writes k ≡ Some write
  pub cycle_is : one.cycle ≡ cycle + k
  pub event_is : one.event ≡ Change write

pub write-of : (cycle : ℕ) (writes : List Write) (one : Timed)
    → Contains (writes_from cycle writes) one → IsWriteAt cycle writes one
write-of cycle [] one has = Contains-nil has
write-of cycle (first ∷ writes) one has =
    let here : Timed = record { cycle = cycle; event = Change first } in
    elim (Contains-cases here (writes_from (cycle + 1) writes) one has) [
      | inl same ↦
          let time = ap (λ (x : Timed). x.cycle) same in
          record {
            k = 0;
            write = first;
            at = refl;
            cycle_is = omega (arith, time);
            event_is = sym (ap (λ (x : Timed). x.event) same);
          }
      | inr later ↦
          let rest = write-of (cycle + 1) writes one later in
          let time = rest.cycle_is in
          record {
            k = suc rest.k;
            write = rest.write;
            at = rest.at;
            cycle_is = omega (arith, time);
            event_is = rest.event_is;
          }
    ]

pub write-at : (cycle : ℕ) (writes : List Write) (k t : ℕ) (write : Write)
    → slice_get writes k ≡ Some write → cycle + k ≡ t
    → Contains (writes_from cycle writes) (record { cycle = t; event = Change write })
write-at cycle [] k t write at time = absurd (cc at)
write-at cycle (first ∷ writes) zero t write at time =
    let here : Timed = record { cycle = cycle; event = Change first } in
    let now : cycle ≡ t = omega (arith, time) in
    let same = same_Some first write at in
    subst (λ (one : Timed). Contains (here ∷ writes_from (cycle + 1) writes) one)
    (λ i. record { cycle = now i; event = Change (same i) })
    (Contains-here here (writes_from (cycle + 1) writes))
write-at cycle (first ∷ writes) (suc k) t write at time =
    Contains-there (record { cycle = cycle; event = Change first }) (writes_from (cycle + 1) writes)
    (record { cycle = t; event = Change write })
    (write-at (cycle + 1) writes k t write at (omega (arith, time)))

module _ (close : Close) (closing opening : List ChannelRow) where
  abbrev halts : List Timed
  halts = halts_at close.stop closing

  abbrev finishes : List Timed
  finishes = finishes_at close.fin closing

  abbrev writes : List Timed
  writes = writes_from close.fin (program_of closing opening)

  -- An event is a halt or a finish of a channel that closes, or a write.
  pub data EventBy (one : Timed) : Type 0 where
    IsHalt : (row : ChannelRow) → Contains closing row → one.cycle ≡ close.stop
        → one.event ≡ Halt (end_of row) → EventBy one
    IsFinish : (row : ChannelRow) → Contains closing row → one.cycle ≡ close.fin
        → one.event ≡ Finish (end_of row) → EventBy one
    IsChange : IsWriteAt close.fin (program_of closing opening) one → EventBy one

  pub event-by : (one : Timed) → Contains (events_with close closing opening) one → EventBy one
  event-by one has =
      let halt = λ (row : ChannelRow).
      let timed : Timed = record { cycle = close.stop; event = Halt (end_of row) } in timed in
      let finish = λ (row : ChannelRow).
      let timed : Timed = record { cycle = close.fin; event = Finish (end_of row) } in timed in
      elim (Contains-append_cases halts (finishes ++ writes) one has) [
        | inl first ↦
            let (row, same, is_in) = map-Contains halt closing one first in
            IsHalt row is_in (sym (ap (λ (x : Timed). x.cycle) same))
            (sym (ap (λ (x : Timed). x.event) same))
        | inr behind ↦ elim (Contains-append_cases finishes writes one behind) [
          | inl second ↦
              let (row, same, is_in) = map-Contains finish closing one second in
              IsFinish row is_in (sym (ap (λ (x : Timed). x.cycle) same))
              (sym (ap (λ (x : Timed). x.event) same))
          | inr third ↦ IsChange (write-of close.fin (program_of closing opening) one third)
        ]
      ]

  -- And each such is one.
  pub has-halt : (row : ChannelRow) → Contains closing row
      → Contains (events_with close closing opening)
      (record { cycle = close.stop; event = Halt (end_of row) })
  has-halt row has =
      let halt = λ (one : ChannelRow).
      let timed : Timed = record { cycle = close.stop; event = Halt (end_of one) } in timed in
      Contains-append_left halts (finishes ++ writes) (halt row) (Contains-map halt closing row has)

  pub has-finish : (row : ChannelRow) → Contains closing row
      → Contains (events_with close closing opening)
      (record { cycle = close.fin; event = Finish (end_of row) })
  has-finish row has =
      let finish = λ (one : ChannelRow).
      let timed : Timed = record { cycle = close.fin; event = Finish (end_of one) } in timed in
      Contains-append_right halts (finishes ++ writes) (finish row)
      (Contains-append_left finishes writes (finish row) (Contains-map finish closing row has))

  pub has-change : (k t : ℕ) (write : Write)
      → slice_get (program_of closing opening) k ≡ Some write → close.fin + k ≡ t
      → Contains (events_with close closing opening) (record { cycle = t; event = Change write })
  has-change k t write at time =
      let change : Timed = record { cycle = t; event = Change write } in
      Contains-append_right halts (finishes ++ writes) change
      (Contains-append_right finishes writes change
      (write-at close.fin (program_of closing opening) k t write at time))

-- What rows are judged with, and which place of a path a row is found at.
-- This project's own.
use Rattle.std.proofs.Common.{◌≡◌, ◌<◌, ◌≤◌, ◌-◌, ◌*◌, ℕ, All, IsTrue, Some, length, slice_get}
use Rattle.std.specs.List.Sorted.{IsNonDecreasingBy}
use Rattle.aeth_chip.specs.Paths.{offset}
use Rattle.aeth_group.specs.declared.grant.Grant.{Grant}
use Rattle.aeth_server.specs.SlotCycles.{is_slot}
use Rattle.aeth_text.specs.Order.{Rises}
use Rattle.aeth_reconf.specs.Timeline.{sessions_at}
use Rattle.aeth_audit.specs.{Limits.max_link_rows, LinkLog.is_later, OpenSessions.HasOpen}
use Rattle.aeth_audit.specs.{OpenSessions.IsLastAlone, Places.ArePlaces, Places.IsPlaced}
use Rattle.aeth_audit.specs.{Starts.AreStarts, declared.judge.Judge.Judge}
use Rattle.aeth_audit.specs.{declared.places.Place.Place}

-- What holds of what rows are judged with: the places are those of the plan's grants, the sessions
-- of a connection go in their order and are open one after the other, the rows rise, and each cycle
-- has the number of those before it.
pub record IsJudge (judge : Judge) : Type 0 where
  pub some : 1 ≤ judge.chip.now.slots
  pub slots : judge.table.now.places.slots ≡ judge.chip.now.slots
  pub size : length judge.table.now.places.cells.items
      ≡ length judge.chip.now.links * judge.chip.now.slots
  pub places : ArePlaces judge.chip.now judge.plan.now.grants judge.table.now.places.cells.items
  pub addressed : length judge.table.now.addresses.items ≡ length judge.plan.now.grants
  pub placed : All (IsPlaced judge.chip.now) judge.plan.now.grants
  pub rise : (c : ℕ) → IsNonDecreasingBy (λ session. session.go) (sessions_at judge.timeline.now c)
  pub alone : (c u : ℕ) → IsLastAlone (sessions_at judge.timeline.now c) u
  pub rows : Rises is_later judge.rows.now
  pub few : length judge.rows.now ≤ max_link_rows
  pub known : All (λ row. row.link.0 < length judge.chip.now.links) judge.rows.now
  pub starts : AreStarts judge.rows.now judge.starts.now

-- A session of the connection of a place's grant, by the grants of its group, may inject a flit in
-- the cycle from which it would enter the link there in this one.
pub record IsOpenAt (judge : Judge) (t : ℕ) (place : Place) (grant : Grant) : Type 0 where
  pub reached : place.ahead ≤ t
  pub has : HasOpen (sessions_at judge.timeline.now grant.unit.conn.0) grant.unit.group.0
      (t - place.ahead)

-- A link is reserved in a cycle at a place of a grant's path.
pub record IsFound (judge : Judge) (l t : ℕ) (place : Place) : Type 0 where
  pub grant : Grant
  pub is_grant : slice_get judge.plan.now.grants place.grant ≡ Some grant
  pub at : slice_get grant.path place.place ≡ Some (record { 0 = l })
  pub ahead : place.ahead ≡ offset judge.chip.now.links grant.path place.place
  pub opened : IsOpenAt judge t place grant
  pub slot : IsTrue (is_slot judge.chip.now.slots grant.slots.slots (t - place.ahead))

-- The list of reservations has just those that are in words apart from it.
use Rattle.std.proofs.Common.{◌≡◌, ◌∙◌, ◌<◌, ◌≤◌, ◌+◌, ◌-◌, ℕ, ◌&&◌, Bool, true, false, cond, List}
use Rattle.std.proofs.Common.{[], ◌∷◌, Contains, Option, Some, None, slice_get, refl, sym, ap}
use Rattle.std.proofs.Common.{subst, inl, inr, arith, eq-eqb, eqb-true, le-leb, leb-true, lt-ltb}
use Rattle.std.proofs.Common.{ltb-true, ◌==◌, IfSome, IsTrue, nat_le, nat_lt}
use Rattle.std.proofs.lemmas.Bool.{and_from, and_parts}
use Rattle.std.specs.{List.enumerate_from, Option.option_map_or}
use Rattle.aeth_base.specs.declared.ids.{Channel.Channel, LinkId.LinkId}
use Rattle.aeth_base.proofs.Members.{Contains-cases, Contains-flat_map, Contains-here, Contains-nil}
use Rattle.aeth_base.proofs.Members.{Contains-slice_get, flat_map-Contains, slice_get-Contains}
use Rattle.aeth_chip.specs.Paths.{offset}
use Rattle.aeth_server.specs.SlotCycles.{is_slot}
use Rattle.aeth_reconf.specs.Timeline.{sessions_at}
use Rattle.aeth_report.specs.{Channels.channels_of, Design.Design, Design.grant_at}
use Rattle.aeth_report.specs.{Sessions.MayInject, declared.session.Close.Close}
use Rattle.aeth_report.specs.{declared.session.Session.Session}
use Rattle.aeth_report.proofs.Places.{enumerate_from-place, place-enumerate_from}
use Rattle.aeth_audit.specs.Reservations.{Reservation, is_reserved, may_inject, reserved}
use Rattle.aeth_audit.specs.Reservations.{reserved_at, reserved_by, reserved_for}
use Rattle.aeth_audit.specs.Reserved.{IsReserved}

-- A session that passes the test may inject, and the other way round.
pub may-is : (session : Session) (u : ℕ) → may_inject session u ≡ true → MayInject session u
may-is session u may =
    let both = and_parts (nat_le session.go u)
    (option_map_or (λ (close : Close). nat_lt u close.stop) session.close true) may in
    let cases : (o : Option Close)
    → option_map_or (λ (close : Close). nat_lt u close.stop) o true ≡ true
    → IfSome o (λ close. u < close.stop) = elim [
      | None ↦ λ is. tt
      | Some close ↦ λ is. ltb-true u close.stop is
    ] in
    record { goes = leb-true session.go u both.0; unstopped = cases session.close both.1 }

pub is-may : (session : Session) (u : ℕ) → MayInject session u → may_inject session u ≡ true
is-may session u may =
    let cases : (o : Option Close) → IfSome o (λ close. u < close.stop)
    → option_map_or (λ (close : Close). nat_lt u close.stop) o true ≡ true = elim [
      | None ↦ λ is. refl
      | Some close ↦ λ is. lt-ltb u close.stop is
    ] in
    and_from (nat_le session.go u)
    (option_map_or (λ (close : Close). nat_lt u close.stop) session.close true)
    (le-leb session.go u may.goes) (cases session.close may.unstopped)

module _ (design : Design) (l t : ℕ) (channel : Channel) (session : Session)
    (place : ℕ × LinkId) where
  abbrev path : List LinkId
  path = (grant_at design channel session.group.0).path

  abbrev slots : List ℕ
  slots = (grant_at design channel session.group.0).slots.slots

  abbrev ahead : ℕ
  ahead = offset design.chip.links path place.0

  abbrev size : ℕ
  size = design.chip.slots

  -- A place that passes the test is one on the link, in time, whose session may inject in its slot.
  pub record Passes : Type 0 where
    pub link : place.1 ≡ record { 0 = l }
    pub reached : ahead ≤ t
    pub may : MayInject session (t - ahead)
    pub slot : IsTrue (is_slot size slots (t - ahead))

  pub passes : is_reserved design l t channel session place ≡ true → Passes
  passes is =
      let outer = and_parts
      (place.1.0 == l && nat_le ahead t && may_inject session (t - ahead))
      (is_slot size slots (t - ahead)) is in
      let middle = and_parts (place.1.0 == l && nat_le ahead t) (may_inject session (t - ahead))
      outer.0 in
      let inner = and_parts (place.1.0 == l) (nat_le ahead t) middle.0 in
      record {
        link = ap (λ (n : ℕ). record { 0 = n }) (eqb-true place.1.0 l inner.0);
        reached = leb-true ahead t inner.1;
        may = may-is session (t - ahead) middle.1;
        slot = outer.1;
      }

  pub is-passed : Passes → is_reserved design l t channel session place ≡ true
  is-passed is =
      let link : (place.1.0 == l) ≡ true =
      eq-eqb place.1.0 l (ap (λ (k : LinkId). k.0) is.link) in
      and_from (place.1.0 == l && nat_le ahead t && may_inject session (t - ahead))
      (is_slot size slots (t - ahead))
      (and_from (place.1.0 == l && nat_le ahead t) (may_inject session (t - ahead))
      (and_from (place.1.0 == l) (nat_le ahead t) link (le-leb ahead t is.reached))
      (is-may session (t - ahead) is.may))
      is.slot

  abbrev here : Reservation
  here = record { channel = channel; group = session.group.0; place = place.0 }

  -- What comes from a place is its reservation, where it passes.
  pub at-only : (at : Reservation) → Contains (reserved_at design l t channel session place) at
      → Passes × (here ≡ at)
  at-only at has =
      let cases : (b : Bool) → is_reserved design l t channel session place ≡ b
      → Contains (cond b (here ∷ []) []) at → Passes × (here ≡ at) = elim [
        | true ↦ λ is inside. elim (Contains-cases here [] at inside) [
          | inl same ↦ (passes is, same)
          | inr none ↦ Contains-nil none
        ]
        | false ↦ λ is inside. Contains-nil inside
      ] in
      cases (is_reserved design l t channel session place) refl has

  pub at-all : Passes → Contains (reserved_at design l t channel session place) here
  at-all is = subst (λ (b : Bool). Contains (cond b (here ∷ []) []) here) (sym (is-passed is))
      (Contains-here here [])

module _ (design : Design) (timeline : List (List Session)) (l t : ℕ) (at : Reservation) where
  -- Each of the list is a reservation.
  pub reserved-only : Contains (reserved design timeline l t) at
      → IsReserved design timeline l t at
  reserved-only has =
      let (channel, has_channel, by) = flat_map-Contains (reserved_by design timeline l t)
      (channels_of design.groups.connections) at has in
      let (session, has_session, for) = flat_map-Contains (reserved_for design l t channel)
      (sessions_at timeline channel.conn.0) at by in
      let own = (grant_at design channel session.group.0).path in
      let (place, has_place, there) = flat_map-Contains (reserved_at design l t channel session)
      (enumerate_from 0 own) at for in
      let (is, same) = at-only design l t channel session place at there in
      let (i, at_i) = slice_get-Contains (enumerate_from 0 own) place has_place in
      let found = enumerate_from-place 0 own i place at_i in
      let number : i ≡ place.0 = omega (arith, found.0) in
      let reached = is.reached in
      subst (IsReserved design timeline l t) same (record {
        session = session;
        injected = t - offset design.chip.links own place.0;
        is_channel = has_channel;
        is_session = has_session;
        group = refl;
        may = is.may;
        slot = is.slot;
        place = ap (slice_get own) (sym number) ∙ found.1 ∙ ap (λ (k : LinkId). Some k) is.link;
        time = omega arith;
      })

  -- Each reservation is in the list.
  pub reserved-all : IsReserved design timeline l t at
      → Contains (reserved design timeline l t) at
  reserved-all is =
      let session = is.session in
      let channel = at.channel in
      let own = (grant_at design channel session.group.0).path in
      let group = is.group in
      let place : ℕ × LinkId = (at.place, record { 0 = l }) in
      let ahead = offset design.chip.links own at.place in
      let time : is.injected + ahead ≡ t =
      subst (λ (g : ℕ). is.injected
      + offset design.chip.links (grant_at design channel g).path at.place ≡ t) (sym group)
      is.time in
      let back : is.injected ≡ t - ahead = omega arith in
      let at_place : slice_get own at.place ≡ Some (record { 0 = l }) =
      subst (λ (g : ℕ). slice_get (grant_at design channel g).path at.place
      ≡ Some (record { 0 = l })) (sym group) is.place in
      let slot : IsTrue (is_slot design.chip.slots
      (grant_at design channel session.group.0).slots.slots is.injected) =
      subst (λ (g : ℕ). IsTrue (is_slot design.chip.slots
      (grant_at design channel g).slots.slots is.injected)) (sym group) is.slot in
      let passed : Passes design l t channel session place = record {
        link = refl;
        reached = omega arith;
        may = subst (MayInject session) back is.may;
        slot = subst (λ (u : ℕ). IsTrue (is_slot design.chip.slots
            (grant_at design channel session.group.0).slots.slots u)) back slot;
      } in
      let here = at-all design l t channel session place passed in
      let listed = Contains-slice_get (enumerate_from 0 own) at.place place
      (place-enumerate_from 0 own at.place at.place (record { 0 = l }) (omega arith) at_place) in
      let for = Contains-flat_map (reserved_at design l t channel session) (enumerate_from 0 own)
      place _ listed here in
      let by = Contains-flat_map (reserved_for design l t channel)
      (sessions_at timeline channel.conn.0) session _ is.is_session for in
      let all = Contains-flat_map (reserved_by design timeline l t)
      (channels_of design.groups.connections) channel _ is.is_channel by in
      subst (Contains (reserved design timeline l t))
      (ap (λ (g : ℕ). record { channel = channel; group = g; place = at.place }) group) all

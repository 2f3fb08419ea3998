-- The sessions that a switch closes and opens, and when.
use Rattle.std.proofs.Common.{◌≡◌, ◌≤◌, ◌<◌, ◌∙◌, ◌+◌, ℕ, zero, suc, true, List, [], ◌∷◌, Contains}
use Rattle.std.proofs.Common.{Option, Some, ap, arith, inl, inr, length, refl, slice_get, subst}
use Rattle.std.proofs.Common.{sym, ◌==◌, IfSome, option_map, unwrap_or, eq-eqb, eqb-true}
use Rattle.std.proofs.lemmas.{Bool.cases_Bool, Option.same_Some}
use Rattle.std.specs.List.{list_any, position_or_len}
use Rattle.aeth_base.specs.declared.ids.Channel.{Channel}
use Rattle.aeth_slots.specs.SlotSet.{Ascends}
use Rattle.aeth_group.specs.Members.{GroupsData, group_at, groups_of}
use Rattle.aeth_report.specs.Sessions.{Stay, Switch, close_by}
use Rattle.aeth_report.specs.SessionList.{ChannelSession, session_list, listed_at}
use Rattle.aeth_report.proofs.Stays.{AreKnown, IsClosedBy, stays_of-is}
use Rattle.aeth_report.proofs.SessionNumbers.{numbered}
use Rattle.aeth_reconf.specs.Rows.{RowOf}
use Rattle.aeth_reconf.specs.Windows.{IsClosed, IsOpened, cleared_of, freed_of, set_of, slot_set_of}
use Rattle.aeth_tables.proofs.ListLaws.{place_in}
use Rattle.aeth_accepted.specs.Inputs.{Inputs, design_of, row_at, run_of}
use Rattle.aeth_routed_sessions.specs.RoutedSessions.{cleared_by, flow_in, freed_by, freed_in}
use Rattle.aeth_routed_sessions.specs.RoutedSessions.{row_in, slot_at, slot_freed_in, slot_set_in}
use Rattle.aeth_routed_sessions.specs.RoutedSessions.{stays_in}
use Rattle.aeth_routed_sessions.proofs.ApartWires.{past}
use Rattle.aeth_schedule.specs.Switching.{later_switches}
use Rattle.aeth_stimuli.proofs.StaySwitches.{closed-stay, opened-stay}

-- ---- slots in ascending order

-- Each is between the bounds.
pub slot-between : (low high : ℕ) (xs : List ℕ) (i x : ℕ) → Ascends low high xs → slice_get xs i ≡ Some x
    → (low ≤ x) × (x < high)
slot-between low high [] i x ascends at = absurd (cc at)
slot-between low high (y ∷ ys) zero x ascends at =
    let same = same_Some y x at in
    let first = ascends.0 in
    let second = ascends.1 in
    (omega (arith, same, first), omega (arith, same, second))
slot-between low high (y ∷ ys) (suc i) x ascends at =
    let rest = slot-between (y + 1) high ys i x ascends.2 at in
    let first = ascends.0 in
    let above = rest.0 in
    (omega (arith, first, above), rest.1)

-- It is among them, and stands at its place alone.
pub record IsOwnSlot (xs : List ℕ) (i x : ℕ) : Type 0 where
  pub own : list_any (λ one. x == one) xs ≡ true
  pub place : position_or_len (λ one. x == one) xs ≡ i

pub own-slot : (low high : ℕ) (xs : List ℕ) (i x : ℕ) → Ascends low high xs
    → slice_get xs i ≡ Some x → IsOwnSlot xs i x
own-slot low high [] i x ascends at = absurd (cc at)
own-slot low high (y ∷ ys) zero x ascends at =
    let here = eq-eqb x y (sym (same_Some y x at)) in record {
      own = rw here refl;
      place = rw here refl;
    }
own-slot low high (y ∷ ys) (suc i) x ascends at = elim (cases_Bool (x == y)) [
  | inl here ↦
      let same = eqb-true x y here in
      let above = (slot-between (y + 1) high ys i x ascends.2 at).0 in
      absurd (omega (arith, same, above))
  | inr other ↦
      let rest = own-slot (y + 1) high ys i x ascends.2 at in
      let later = rest.place in
      record {
        own = rw other rest.own;
        place = rw other (omega (arith, later));
      }
]

-- ---- the cycles of a session

module _ (inputs : Inputs) where
  abbrev groups : GroupsData
  groups = groups_of inputs.app

  abbrev row_of : RowOf
  row_of = row_at (design_of inputs)

  -- The cycles of a session that a switch closes.
  pub record IsClosedWith (p : ChannelSession) (switch : Switch) : Type 0 where
    pub stop : (flow_in (run_of inputs) p).server.stop
        ≡ (close_by (run_of inputs).spans switch).stop
    pub finish : (flow_in (run_of inputs) p).server.finish
        ≡ (close_by (run_of inputs).spans switch).fin
    pub freed : freed_in (run_of inputs) p
        ≡ freed_of (groups_of inputs.app) (row_at (design_of inputs)) (run_of inputs).spans
        p.stay.group p.channel switch
    pub slot_freed : (x : ℕ) → slot_freed_in (run_of inputs) p x
        ≡ cleared_of (groups_of inputs.app) (row_at (design_of inputs)) (run_of inputs).spans
        p.channel switch (slot_at (run_of inputs) p x)

  pub closed-with : (p : ChannelSession) (switch : Switch) → p.stay.closing ≡ Some switch
      → IsClosedWith p switch
  closed-with p switch closing =
      let run = run_of inputs in
      record {
        stop = ap (λ (o : Option Switch).
            (unwrap_or (option_map (close_by run.spans) o) (past run p)).stop) closing;
        finish = ap (λ (o : Option Switch).
            (unwrap_or (option_map (close_by run.spans) o) (past run p)).fin) closing;
        freed = ap (freed_by run p) closing;
        slot_freed = λ x. ap (cleared_by run p (slot_at run p x)) closing;
      }

  -- And of one that it opens.
  pub record IsOpenedWith (p : ChannelSession) (switch : Switch) : Type 0 where
    pub set : set_of (groups_of inputs.app) (row_at (design_of inputs)) (run_of inputs).spans
        p.channel p.stay.opening
        ≡ set_of (groups_of inputs.app) (row_at (design_of inputs)) (run_of inputs).spans
        p.channel (Some switch)
    pub slot_set : (x : ℕ) → slot_set_in (run_of inputs) p x
        ≡ slot_set_of (groups_of inputs.app) (row_at (design_of inputs)) (run_of inputs).spans
        p.channel (Some switch) (slot_at (run_of inputs) p x)

  pub opened-with : (p : ChannelSession) (switch : Switch) → p.stay.opening ≡ Some switch
      → IsOpenedWith p switch
  opened-with p switch opening =
      let spans = (run_of inputs).spans in
      record {
        set = ap (set_of groups row_of spans p.channel) opening;
        slot_set = λ x. ap (λ (o : Option Switch). slot_set_of groups row_of spans p.channel o
            (slot_at (run_of inputs) p x)) opening;
      }

  -- ---- the session of a switch

  -- A stay of a channel has a number.
  pub record IsNumbered (channel : Channel) (stay : Stay) : Type 0 where
    pub c : ℕ
    pub known : c < length (session_list (run_of inputs))
    pub channel_is : (listed_at (run_of inputs) c).channel ≡ channel
    pub stay_is : (listed_at (run_of inputs) c).stay ≡ stay

  pub number-of : (channel : Channel) → channel.conn.0 < (groups_of inputs.app).connections
      → (stay : Stay) → Contains (stays_in (run_of inputs) channel.conn.0) stay
      → IsNumbered channel stay
  number-of channel inside stay has =
      let run = run_of inputs in
      let (i, at) = place_in (stays_in run channel.conn.0) stay has in
      let found = numbered run channel i stay inside at in
      record {
        c = found.number;
        known = found.known;
        channel_is = ap (λ (q : ChannelSession). q.channel) found.is;
        stay_is = ap (λ (q : ChannelSession). q.stay) found.is;
      }

  -- The session of a channel in a group, which has a row.
  pub record IsIn (c group : ℕ) (channel : Channel) : Type 0 where
    pub known : c < length (session_list (run_of inputs))
    pub channel_is : (listed_at (run_of inputs) c).channel ≡ channel
    pub group_is : (listed_at (run_of inputs) c).stay.group ≡ group

  pub row-is : (c group : ℕ) (channel : Channel) → IsIn c group channel
      → row_in (run_of inputs) (listed_at (run_of inputs) c)
      ≡ row_at (design_of inputs) group channel
  row-is c group channel is = λ i. row_at (design_of inputs) (is.group_is i) (is.channel_is i)

  -- The session that a switch closes.
  pub record IsClosedAt (switch : Switch) (channel : Channel) : Type 0 where
    pub c : ℕ
    pub is : IsIn c (group_at (groups_of inputs.app) switch.leaves) channel
    pub closing : (listed_at (run_of inputs) c).stay.closing ≡ Some switch

  -- The session that one opens, or that is loaded.
  pub record IsOpenedAt (opening : Option Switch) (group : ℕ) (channel : Channel) : Type 0 where
    pub c : ℕ
    pub is : IsIn c group channel
    pub opening_is : (listed_at (run_of inputs) c).stay.opening ≡ opening

  module _ (switch : Switch) (is_switch : Contains (later_switches inputs.switches) switch)
      (channel : Channel) where
    -- There is one for each channel that it closes, whose stay is of the group that it leaves.
    pub closed-at : AreKnown (groups_of inputs.app) inputs.switches
        → IsClosed (groups_of inputs.app) switch channel → IsClosedAt switch channel
    closed-at all_known closed =
        let found = closed-stay groups channel.conn.0 inputs.switches switch is_switch closed.is in
        let one = number-of channel closed.known found.stay found.has in
        let of = stays_of-is groups channel.conn.0 inputs.switches found.stay all_known found.has in
        let closer : IsClosedBy groups channel.conn.0 found.stay.group switch =
        subst (λ (o : Option Switch). IfSome o (IsClosedBy groups channel.conn.0 found.stay.group))
        found.closing of.closed in
        record {
          c = one.c;
          is = record {
            known = one.known;
            channel_is = one.channel_is;
            group_is = ap (λ (s : Stay). s.group) one.stay_is
                ∙ sym closer.in_group;
          };
          closing = ap (λ (s : Stay). s.closing) one.stay_is ∙ found.closing;
        }

    -- And for each that it opens.
    pub opened-at : IsOpened (groups_of inputs.app) switch channel
        → IsOpenedAt (Some switch) (group_at (groups_of inputs.app) switch.row.to.0) channel
    opened-at opened =
        let found = opened-stay groups channel.conn.0 inputs.switches switch is_switch opened.is in
        let one = number-of channel opened.known found.stay found.has in
        record {
          c = one.c;
          is = record {
            known = one.known;
            channel_is = one.channel_is;
            group_is = ap (λ (s : Stay). s.group) one.stay_is ∙ sym found.in_group;
          };
          opening_is = ap (λ (s : Stay). s.opening) one.stay_is ∙ found.opening_is;
        }

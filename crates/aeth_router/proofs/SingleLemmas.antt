-- What the ports of a router with a table send on.
use Rattle.std.proofs.Common.{◌≡◌, ◌≢◌, ◌<◌, ◌≤◌, ◌+◌, ◌∙◌, ℕ, refl, sym, ap, inl, inr, arith, Bool}
use Rattle.std.proofs.Common.{true, false, List, length, slice_get, Option, Some, None, ◌*◌}
use Rattle.std.proofs.Common.{if◌then◌else◌, slice_set, get_or-set_other, get_or-set_same}
use Rattle.std.proofs.Common.{length-set}
use Rattle.std.proofs.lemmas.Bool.{cases_Bool, cases_eq}
use Rattle.std.proofs.lemmas.Option.{same_Some, slice_get_within}
use Rattle.aeth_base.specs.declared.ids.LinkId.{LinkId}
use Rattle.aeth_clocked.specs.declared.flit.Flit.{Flit}
use Rattle.aeth_router.specs.Onward.{Adds, Arrival, Nothing, arrival_at, arrived}
use Rattle.aeth_router.specs.Router.{AreDistinctLinks}
use Rattle.aeth_router.specs.Single.{AreSingle, IsAlone, IsTableNoted, is_from, is_sent_by}
use Rattle.aeth_router.specs.TableRouter.{IsTableRouter, TableRouterState, sent_on, place_from}
use Rattle.aeth_router.specs.TableRouter.{with_entry}
use Rattle.aeth_router.proofs.{LinkLemmas.place-of, LinkLemmas.position-at, RowLemmas.entry-other}
use Rattle.aeth_router.proofs.{RowLemmas.entry-same, TableLemmas.sent_on-port}

-- To this link has come what is sent, if anything is, and to no other.
pub record Reaches (link : ℕ) (sent : Option Flit) (old new : List Arrival) : Type 0 where
  pub size : length new ≡ length old
  pub here : arrival_at new link ≡ arrived sent (arrival_at old link)
  pub apart : (other : ℕ) → other ≢ link → arrival_at new other ≡ arrival_at old other

-- The ports below one have sent, and no other.
pub record HaveSent (outgoing : List ℕ) (sent : ℕ → Option Flit) (to : ℕ) (old new : List Arrival)
    : Type 0 where
  pub size : length new ≡ length old
  pub at : (port link : ℕ) → port < to → slice_get outgoing port ≡ Some link
      → arrival_at new link ≡ arrived (sent port) (arrival_at old link)
  pub apart : (link : ℕ) → ((port : ℕ) → port < to → slice_get outgoing port ≢ Some link)
      → arrival_at new link ≡ arrival_at old link

-- What the ports send on links that are apart.
module _ (outgoing : List ℕ) (sent : ℕ → Option Flit) (is_apart : AreDistinctLinks outgoing) where
  -- One more has.
  pub HaveSent-more : (to link : ℕ) (old now new : List Arrival)
      → slice_get outgoing to ≡ Some link → HaveSent outgoing sent to old now
      → Reaches link (sent to) now new → HaveSent outgoing sent (to + 1) old new
  HaveSent-more to link old now new is before reaches =
      record {
        size = reaches.size ∙ before.size;
        at = λ port other below there.
            elim (cases_eq port to) [
              | inl same ↦
                  let here : other ≡ link = same_Some other link (sym there ∙ rw same is) in
                  let first = before.apart link (λ place earlier too.
                  let one = is_apart place to link too is in omega arith) in
                  rw (same, here) (reaches.here ∙ ap (arrived (sent to)) first)
              | inr earlier ↦
                  reaches.apart other (λ same.
                  earlier (is_apart port to link (there ∙ ap (λ n. Some n) same) is))
                  ∙ before.at port other (omega arith) there
            ];
        apart = λ other none.
            reaches.apart other (λ same. none to (omega arith) (is ∙ ap (λ n. Some n) (sym same)))
            ∙ before.apart other (λ port earlier. none port (omega arith));
      }

  -- All have.
  pub Adds-from_HaveSent : (to : ℕ) (old new : List Arrival) → length outgoing ≤ to
      → HaveSent outgoing sent to old new → Adds (sent_on outgoing sent) old new
  Adds-from_HaveSent to old new all has = record {
    size = has.size;
    at = λ link within.
        elim (place-of outgoing link) [
          | inl found ↦
              let below = slice_get_within outgoing found.0 link found.1 in
              rw (sent_on-port outgoing sent found.0 link is_apart found.1)
              (has.at found.0 link (omega arith) found.1)
          | inr none ↦ rw none (has.apart link (λ port below there.
              absurd (cc (sym none ∙ position-at outgoing port link is_apart there))))
        ];
  }

  -- One alone has.
  pub Adds-from_Reaches : (port link : ℕ) (old new : List Arrival)
      → slice_get outgoing port ≡ Some link
      → ((other : ℕ) → other < length outgoing → other ≢ port → sent other ≡ None)
      → Reaches link (sent port) old new → Adds (sent_on outgoing sent) old new
  Adds-from_Reaches port link old new is alone reaches =
      Adds-from_HaveSent (length outgoing) old new (omega arith) (record {
        size = reaches.size;
        at = λ other there_link below there.
            elim (cases_eq other port) [
              | inl same ↦
                  let here : there_link ≡ link =
                  same_Some there_link link (sym there ∙ rw same is) in
                  rw (same, here) reaches.here
              | inr apart ↦
                  rw (alone other below apart) (reaches.apart there_link (λ same.
                  apart (is_apart other port link (there ∙ ap (λ n. Some n) same) is)))
            ];
        apart = λ other none.
            reaches.apart other (λ same.
            none port (slice_get_within outgoing port link is) (is ∙ ap (λ n. Some n) (sym same)));
      })

-- What a port sends of a flit that comes by a wire.
abbrev pub port_sends : TableRouterState → ℕ → ℕ → Flit → ℕ → Option Flit
port_sends router slot wire sent port = if is_sent_by router slot wire port then Some sent else None

-- What comes to the link of a port.
module _ (router : TableRouterState) (slot wire port link : ℕ) (sent : Flit) (old : List Arrival) where
  -- A flit that the port sends does.
  pub Reaches-sent : (new : List Arrival) → is_sent_by router slot wire port ≡ true
      → link < length old → new ≡ slice_set old link (arrived (Some sent) (arrival_at old link))
      → Reaches link (port_sends router slot wire sent port) old new
  Reaches-sent new does within set_to =
      let arrival = arrived (Some sent) (arrival_at old link) in
      rw (does, set_to) (record {
        size = length-set old link arrival;
        here = get_or-set_same old link arrival Nothing within;
        apart = λ other apart. get_or-set_other old link other arrival Nothing apart;
      })

  -- Nothing does where it sends none.
  pub Reaches-none : is_sent_by router slot wire port ≡ false
      → Reaches link (port_sends router slot wire sent port) old old
  Reaches-none is =
      rw is (record { size = refl; here = refl; apart = λ other apart. refl })

-- Where no two ports send on what one wire has, none does but one that does.
pub port_sends-other : (router : TableRouterState) (slot wire port : ℕ) (sent : Flit)
    → AreSingle router → slot < router.slots → port < length router.outgoing
    → is_sent_by router slot wire port ≡ true → (other : ℕ) → other < length router.outgoing
    → other ≢ port → port_sends router slot wire sent other ≡ None
port_sends-other router slot wire port sent single is_slot is_port does other is_other apart =
    elim (cases_Bool (is_sent_by router slot wire other)) [
      | inl too ↦
          absurd (apart (sym (single slot wire port other is_slot is_port is_other does too)))
      | inr not ↦ rw not refl
    ]

-- What ports send on once the entry of one is set.
module _ (router : TableRouterState) (port slot : ℕ) (from : Option LinkId)
    (is : IsTableRouter router) (is_port : port < length router.outgoing)
    (is_slot : slot < router.slots) where
  -- The port itself sends on what comes by the wire of the entry.
  own-entry : (wire : ℕ) → is_sent_by (with_entry port slot from router) slot wire port ≡ true
      → is_from router.incoming wire (place_from router.links from) ≡ true
  own-entry wire does =
      sym (ap (is_from router.incoming wire)
      (entry-same router.entries (length router.outgoing) router.slots port slot is_port is_slot
      is.entries (place_from router.links from)))
      ∙ does

  -- Any other, and in any other slot, what it did.
  other-entry : (at wire some : ℕ) → at < router.slots → some < length router.outgoing
      → (port ≡ some → slot ≡ at → ⊥)
      → is_sent_by (with_entry port slot from router) at wire some ≡ true
      → is_sent_by router at wire some ≡ true
  other-entry at wire some is_at is_some apart does =
      sym (ap (is_from router.incoming wire)
      (entry-other router.entries (length router.outgoing) router.slots some at is_some is_at
      is.entries port slot (place_from router.links from) is_slot apart))
      ∙ does

  -- Where no other sends on what comes by the wire of the entry, still no two send on in one slot what
  -- comes by one wire.
  pub AreSingle-with_entry : AreSingle router
      → IsAlone router port slot (place_from router.links from)
      → AreSingle (with_entry port slot from router)
  AreSingle-with_entry single alone = λ at wire first second is_at is_first is_second does too.
      elim (cases_eq slot at) [
        | inl here ↦ elim (cases_eq port first) [
          | inl is_own ↦ elim (cases_eq port second) [
            | inl too_own ↦ sym is_own ∙ too_own
            | inr other ↦
                sym is_own
                ∙ alone wire second (own-entry wire (rw (← here, ← is_own) at does)) is_second
                (rw (← here) at
                (other-entry at wire second is_at is_second (λ same _. other same) too))
          ]
          | inr apart ↦ elim (cases_eq port second) [
            | inl too_own ↦
                sym (alone wire first (own-entry wire (rw (← here, ← too_own) at too)) is_first
                (rw (← here) at
                (other-entry at wire first is_at is_first (λ same _. apart same) does)))
                ∙ too_own
            | inr other ↦
                single at wire first second is_at is_first is_second
                (other-entry at wire first is_at is_first (λ same _. apart same) does)
                (other-entry at wire second is_at is_second (λ same _. other same) too)
          ]
        ]
        | inr apart ↦
            single at wire first second is_at is_first is_second
            (other-entry at wire first is_at is_first (λ _ same. apart same) does)
            (other-entry at wire second is_at is_second (λ _ same. apart same) too)
      ]

-- What is noted stays right where an entry is set, if it's noted that no two ports send on in one slot
-- what comes by one wire only where it was so and no other port has the wire of the entry.
pub IsTableNoted-with_entry : (router new : TableRouterState) (port slot : ℕ) (from : Option LinkId)
    (is_holding was_single is_single : Bool) → IsTableNoted is_holding was_single router
    → port < length router.outgoing → slot < router.slots
    → (is_single ≡ true → (was_single ≡ true)
    × IsAlone router port slot (place_from router.links from))
    → new ≡ with_entry port slot from router → IsTableNoted is_holding is_single new
IsTableNoted-with_entry router new port slot from is_holding was_single is_single noted is_port
    is_slot single set_to =
    let sound = noted.sound in
    rw set_to (record {
      sound = record {
        some_slots = sound.some_slots;
        few = sound.few;
        places = sound.places;
        apart = sound.apart;
        entries = length-set router.entries (port * router.slots + slot)
            (place_from router.links from)
            ∙ sound.entries;
      };
      idle = noted.idle;
      single = λ is.
          let alone = single is in
          AreSingle-with_entry router port slot from sound is_port is_slot (noted.single alone.0)
          alone.1;
    })

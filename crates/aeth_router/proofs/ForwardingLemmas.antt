-- Laws of how components send flits on, known apart from them.
use Rattle.std.proofs.Common.{◌≡◌, ◌≢◌, ◌<◌, ◌==◌, ◌∙◌, ℕ, ap, arith, eq-eqb, inl, inr, refl, sym}
use Rattle.std.proofs.Common.{if◌then◌else◌, List, None, Option, Some, length, option_and_then}
use Rattle.std.proofs.Common.{IsSome, is_some, slice_get, ne_eqb}
use Rattle.std.proofs.lemmas.{Bool.cases_eq, Nat.mod_below, Option.same_Some}
use Rattle.std.specs.List.{slice_set}
use Rattle.aeth_base.proofs.Lists.{map-at, map-slice_get}
use Rattle.aeth_base.specs.declared.ids.LinkId.{LinkId}
use Rattle.aeth_clocked.specs.declared.flit.Flit.{Flit}
use Rattle.aeth_header.specs.Header.{fields_of, port_of}
use Rattle.aeth_router.specs.{Forwarding.sent_by, Forwarding.wire_for}
use Rattle.aeth_router.specs.{declared.forwarding.Forwarding.TheVariants.ByPort, Onward.Adds}
use Rattle.aeth_router.specs.{Onward.Arrival, Onward.arrival_at, Onward.arrived, Ports.hopped}
use Rattle.aeth_router.specs.{Ports.toward, Router.AreDistinctLinks, Router.numbers_of}
use Rattle.aeth_router.specs.{TableRouter.sent_on, Traffic.named_ports}
use Rattle.aeth_router.proofs.AddsLemmas.{Adds-one, sent_on-none}
use Rattle.aeth_router.proofs.PortLemmas.{toward-other, toward-same}
use Rattle.aeth_router.proofs.TableLemmas.{sent_on-port}

-- A header names a port that it can name.
pub port_of-below : (header : ℕ) → port_of header < named_ports
port_of-below header = mod_below (fields_of header).route named_ports (omega arith)

-- What a port sends goes to its own wire.
pub wired-own : (wire out : ℕ) (flit : Flit) → wire ≡ out
    → (if wire == out then Some flit else None) ≡ Some flit
wired-own wire out flit same = rw (eq-eqb wire out same) refl

pub wired-other : (wire out : ℕ) (flit : Flit) → out ≢ wire
    → (if wire == out then Some flit else None) ≡ None
wired-other wire out flit apart = rw (ne_eqb wire out (λ same. apart (sym same))) refl

-- Where nothing is sent nothing comes.
pub Adds-nothing : (sent : ℕ → Option Flit) (old : List Arrival)
    → ((out : ℕ) → sent out ≡ None) → Adds sent old old
Adds-nothing sent old none = record {
  size = refl;
  at = λ wire within. rw (none wire) refl;
}

-- One flit comes to a wire.
pub Adds-wired : (wire : ℕ) (flit : Flit) (sent : ℕ → Option Flit) (old : List Arrival)
    → ((out : ℕ) → sent out ≡ (if wire == out then Some flit else None))
    → wire < length old
    → Adds sent old (slice_set old wire (arrived (Some flit) (arrival_at old wire)))
Adds-wired wire flit sent old are within =
    Adds-one sent old wire flit within (are wire ∙ wired-own wire wire flit refl)
    (λ other apart. are other ∙ wired-other wire other flit apart)

-- A router sends a flit just on the wire of the port that it names.
pub sent_by-ports : (outgoing : List LinkId) (wires : List (Option LinkId))
    → AreDistinctLinks (numbers_of outgoing)
    → ((port : ℕ) → port < named_ports → wire_for wires port ≡ slice_get outgoing port)
    → (out : ℕ) (flit : Flit)
    → sent_by (ByPort wires) out flit
    ≡ sent_on (numbers_of outgoing) (λ port. toward port (Some flit)) out
sent_by-ports outgoing wires apart are out flit =
    let numbers = numbers_of outgoing in
    let port = port_of flit.header in
    let carried : ℕ → Option Flit = λ port. toward port (Some flit) in
    let cases : (found : Option LinkId) → slice_get outgoing port ≡ found
    → option_and_then (λ (wire : LinkId). if wire.0 == out then Some (hopped flit) else None) found
    ≡ sent_on numbers carried out =
    elim [
      | None ↦ λ none.
          sym (sent_on-none numbers carried out (λ other at.
          toward-other other flit (λ same.
          let (link, there, is) = map-slice_get (λ (link : LinkId). link.0) outgoing other out at in
          let found : Some link ≡ None = sym there ∙ ap (slice_get outgoing) (sym same) ∙ none in
          cc found)))
      | Some link ↦ λ some.
          let at : slice_get numbers port ≡ Some link.0 =
          map-at (λ (link : LinkId). link.0) outgoing port link some in
          elim (cases_eq link.0 out) [
            | inl same ↦
                wired-own link.0 out (hopped flit) same
                ∙ sym (sent_on-port numbers carried port out apart
                (at ∙ ap (λ (n : ℕ). Some n) same) ∙ toward-same port flit refl)
            | inr other ↦
                wired-other link.0 out (hopped flit) (λ same. other (sym same))
                ∙ sym (sent_on-none numbers carried out (λ place there.
                toward-other place flit (λ same.
                other (same_Some link.0 out (sym at ∙ ap (slice_get numbers) same ∙ there)))))
          ]
    ] in
    rw (are port (port_of-below flit.header)) (cases (slice_get outgoing port) refl)

-- What goes to a wire by a forwarding, as its kind says.
pub sent_by-port : (wires : List (Option LinkId)) (wire : LinkId) (flit : Flit)
    → wire_for wires (port_of flit.header) ≡ Some wire → (out : ℕ)
    → sent_by (ByPort wires) out flit ≡ (if wire.0 == out then Some (hopped flit) else None)
sent_by-port wires wire flit is out = rw is refl

pub sent_by-lost : (wires : List (Option LinkId)) (flit : Flit)
    → wire_for wires (port_of flit.header) ≡ None → (out : ℕ)
    → sent_by (ByPort wires) out flit ≡ None
sent_by-lost wires flit is out = rw is refl

-- A wire to which a flit goes is one, where all are to which it is sent.
pub is_wire : (sent : ℕ → Option Flit) (wire count : ℕ) (flit : Flit)
    → ((out : ℕ) → sent out ≡ (if wire == out then Some flit else None))
    → ((out : ℕ) → IsSome (sent out) → out < count) → wire < count
is_wire sent wire count flit are below =
    below wire (ap is_some (are wire ∙ wired-own wire wire flit refl))

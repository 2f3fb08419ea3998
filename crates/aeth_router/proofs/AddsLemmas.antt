-- Laws of what comes to wires of what is sent on the links of ports.
use Rattle.std.proofs.Common.{◌≡◌, ◌≢◌, ◌<◌, ℕ, refl, sym, ap, ◌∙◌, inl, inr, List, length}
use Rattle.std.proofs.Common.{length-set, Option, Some, None, slice_get, ◌==◌, option_and_then}
use Rattle.std.proofs.Common.{position, get_or-set_other, get_or-set_same}
use Rattle.std.proofs.lemmas.{Bool.cases_eq, Option.same_Some}
use Rattle.std.specs.List.{slice_set}
use Rattle.aeth_clocked.specs.declared.flit.Flit.{Flit}
use Rattle.aeth_router.specs.{Onward.Adds, Onward.Arrival, Onward.Nothing, Onward.arrival_at}
use Rattle.aeth_router.specs.{Onward.arrived, Router.AreDistinctLinks, TableRouter.sent_on}
use Rattle.aeth_router.proofs.{TableLemmas.sent_on-port, TrafficLemmas.port-at}

-- A link carries nothing where no port does whose link it is.
pub sent_on-none : (outgoing : List ℕ) (carried : ℕ → Option Flit) (link : ℕ)
    → ((port : ℕ) → slice_get outgoing port ≡ Some link → carried port ≡ None)
    → sent_on outgoing carried link ≡ None
sent_on-none outgoing carried link none =
    let cases : (port : Option ℕ) → position (λ other. other == link) outgoing ≡ port
    → option_and_then carried port ≡ None =
    elim [ None ↦ λ is. refl | Some port ↦ λ is. none port (port-at outgoing link port is) ] in
    cases (position (λ other. other == link) outgoing) refl

-- Where one flit is sent, this is what comes to its wire.
pub Adds-one : (sent : ℕ → Option Flit) (old : List Arrival) (wire : ℕ) (flit : Flit)
    → wire < length old → sent wire ≡ Some flit
    → ((other : ℕ) → other ≢ wire → sent other ≡ None)
    → Adds sent old (slice_set old wire (arrived (Some flit) (arrival_at old wire)))
Adds-one sent old wire flit is_wire is others =
    let more = arrived (Some flit) (arrival_at old wire) in
    record {
      size = length-set old wire more;
      at = λ other within.
          elim (cases_eq other wire) [
            | inl same ↦
                rw (same, is) (get_or-set_same old wire more Nothing is_wire)
            | inr away ↦
                rw (others other away) (get_or-set_other old wire other more Nothing away)
          ];
    }

-- What one port alone sends comes to its link.
pub Adds-sent_on : (outgoing : List ℕ) (carried : ℕ → Option Flit) (port link : ℕ) (flit : Flit)
    (old : List Arrival) → AreDistinctLinks outgoing → slice_get outgoing port ≡ Some link
    → link < length old → carried port ≡ Some flit
    → ((other : ℕ) → other ≢ port → carried other ≡ None)
    → Adds (sent_on outgoing carried) old
    (slice_set old link (arrived (Some flit) (arrival_at old link)))
Adds-sent_on outgoing carried port link flit old apart at is_link is others =
    Adds-one (sent_on outgoing carried) old link flit is_link
    (sent_on-port outgoing carried port link apart at ∙ is)
    (λ other away.
    sent_on-none outgoing carried other (λ place there.
    others place (λ same.
    away (same_Some other link (sym there ∙ ap (slice_get outgoing) same ∙ at)))))

-- Laws of the flits that are sent to ports, one after the other.
use Rattle.std.proofs.Common.{◌≡◌, ◌≢◌, ◌<◌, ℕ, refl, sym, ap, ◌∙◌, inl, inr, arith, Bool, true}
use Rattle.std.proofs.Common.{false, List, [], ◌∷◌, ◌++◌, length, length-set, get_or, Option, Some}
use Rattle.std.proofs.Common.{None, replicate, slice_get, ◌==◌, option_and_then, position}
use Rattle.std.proofs.Common.{if◌then◌else◌, eqb-true, append-nil}
use Rattle.std.proofs.lemmas.Bool.{cases_eq, cases_lt}
use Rattle.std.proofs.lemmas.List.{get_or-replicate, length-replicate, Quantifiers.position-Some}
use Rattle.std.proofs.lemmas.Option.{get_or_from_slice_get, same_Some, slice_get-get_or}
use Rattle.std.proofs.lemmas.Option.{slice_get_past}
use Rattle.std.specs.List.{slice_set}
use Rattle.aeth_base.proofs.Lists.{slice_get-slice_set_same, slice_get-slice_set_other}
use Rattle.aeth_clocked.specs.{declared.flit.Flit.Flit, Wires.AreLinks, Wires.Drives}
use Rattle.aeth_header.specs.Header.{next_word, port_of}
use Rattle.aeth_router.specs.Ports.{flits_for, hopped, sole}
use Rattle.aeth_router.specs.Router.{AreDistinctLinks, emitted_on, is_among}
use Rattle.aeth_router.specs.Traffic.{AreNamed, is_any, named_ports}
use Rattle.aeth_router.proofs.LinkLemmas.{is_among-at}
use Rattle.aeth_router.proofs.PortLemmas.{flits_for-push, toward-other, toward-same}
use Rattle.aeth_router.proofs.RouterLemmas.{emitted_on-port}

-- Where a link brought no flit, there is none more for a port.
pub flits_for-none_more : (port : ℕ) (before : List (Option Flit))
    → flits_for port (before ++ None ∷ []) ≡ flits_for port before
flits_for-none_more port before =
    flits_for-push port before None ∙ append-nil (flits_for port before)

-- A flit that names another port is not for this one.
pub flits_for-other_more : (port : ℕ) (before : List (Option Flit)) (flit : Flit)
    → port ≢ port_of flit.header
    → flits_for port (before ++ Some flit ∷ []) ≡ flits_for port before
flits_for-other_more port before flit other =
    flits_for-push port before (Some flit)
    ∙ rw (toward-other port flit (λ is. other (sym is))) (append-nil (flits_for port before))

-- One that names it is, behind its hop.
pub flits_for-same_more : (port : ℕ) (before : List (Option Flit)) (flit : Flit)
    → port ≡ port_of flit.header
    → flits_for port (before ++ Some flit ∷ []) ≡ flits_for port before ++ hopped flit ∷ []
flits_for-same_more port before flit names =
    flits_for-push port before (Some flit) ∙ rw (toward-same port flit (sym names)) refl

-- There is a flit among more.
is_any-push : (flits : List Flit) (flit : Flit) → is_any (flits ++ flit ∷ []) ≡ true
is_any-push [] flit = refl
is_any-push (first ∷ flits) flit = refl

-- Before the first flit no port is named.
pub AreNamed-first : AreNamed (replicate named_ports false) []
AreNamed-first =
    record {
      size = length-replicate named_ports false;
      at = λ port within.
          slice_get-get_or (replicate named_ports false) port false (omega arith)
          ∙ ap (λ (is : Bool). Some is) (get_or-replicate named_ports port false false within);
    }

-- Where a link brought no flit, no further port is named.
pub AreNamed-none : (table : List Bool) (before : List (Option Flit))
    → AreNamed table before → AreNamed table (before ++ None ∷ [])
AreNamed-none table before named =
    record {
      size = named.size;
      at = λ port within.
          named.at port within
          ∙ ap (λ (flits : List Flit). Some (is_any flits)) (sym (flits_for-none_more port before));
    }

-- The port of one flit more is named.
pub AreNamed-some : (table : List Bool) (before : List (Option Flit)) (flit : Flit) (port : ℕ)
    → port ≡ port_of flit.header → port < named_ports → AreNamed table before
    → AreNamed (slice_set table port true) (before ++ Some flit ∷ [])
AreNamed-some table before flit port names few named =
    let size = named.size in
    record {
      size = length-set table port true ∙ size;
      at = λ q within.
          elim (cases_eq q port) [
            | inl same ↦
                rw same (slice_get-slice_set_same table port true (omega arith)
                ∙ ap (λ (is : Bool). Some is)
                (sym (ap is_any (flits_for-same_more port before flit names)
                ∙ is_any-push (flits_for port before) (hopped flit))))
            | inr other ↦
                slice_get-slice_set_other table port q true other
                ∙ named.at q within
                ∙ ap (λ (flits : List Flit). Some (is_any flits))
                (sym (flits_for-other_more q before flit (λ is. other (is ∙ sym names))))
          ];
    }

-- What a place carries is the same where the flits for it are.
carried-same : (held before : List (Option Flit)) (place : Option ℕ)
    → ((port : ℕ) → place ≡ Some port → flits_for port held ≡ flits_for port before)
    → option_and_then (λ port. sole (flits_for port held)) place
    ≡ option_and_then (λ port. sole (flits_for port before)) place
carried-same held before None same = refl
carried-same held before (Some port) same = ap sole (same port refl)

-- A link that is at a port's place is the port's link.
pub port-at : (outgoing : List ℕ) (link port : ℕ)
    → position (λ other. other == link) outgoing ≡ Some port → slice_get outgoing port ≡ Some link
port-at outgoing link port is =
    let found = position-Some (λ other. other == link) outgoing port 0 is in
    slice_get-get_or outgoing port 0 found.0
    ∙ ap (λ (n : ℕ). Some n) (eqb-true (get_or outgoing port 0) link found.1)

-- A link that isn't a port's carries the same, whatever more is for this port.
emitted_on-other : (outgoing : List ℕ) (held before : List (Option Flit)) (port link : ℕ)
    → ((slice_get outgoing port ≡ Some link) → ⊥)
    → ((q : ℕ) → q ≢ port → flits_for q held ≡ flits_for q before)
    → emitted_on outgoing held link ≡ emitted_on outgoing before link
emitted_on-other outgoing held before port link away others =
    carried-same held before (position (λ other. other == link) outgoing)
    (λ q is. others q (λ same. away (ap (slice_get outgoing) (sym same) ∙ port-at outgoing link q is)))

-- Links carry the same where no flit comes.
pub Drives-none : (outgoing : List ℕ) (before : List (Option Flit)) (first wires : List (Option Flit))
    → Drives (is_among outgoing) (emitted_on outgoing before) first wires
    → Drives (is_among outgoing) (emitted_on outgoing (before ++ None ∷ [])) first wires
Drives-none outgoing before first wires drives =
    record {
      links = drives.links;
      at = λ link within.
          drives.at link within
          ∙ ap (λ (flit : Option Flit). if is_among outgoing link then Some flit else slice_get first link)
          (sym (carried-same (before ++ None ∷ []) before (position (λ other. other == link) outgoing)
          (λ q is. flits_for-none_more q before)));
    }

-- What the links carry once this is put on the link of a port, for which there are more flits.
module _ (outgoing : List ℕ) (before held : List (Option Flit)) (port : ℕ)
    (first old : List (Option Flit))
    (others : (q : ℕ) → q ≢ port → flits_for q held ≡ flits_for q before)
    (drives : Drives (is_among outgoing) (emitted_on outgoing before) first old) where
  -- Another link.
  kept-at : (link : ℕ) → link < length first → ((slice_get outgoing port ≡ Some link) → ⊥)
      → slice_get old link
      ≡ (if is_among outgoing link then Some (emitted_on outgoing held link) else slice_get first link)
  kept-at link within away =
      drives.at link within
      ∙ ap (λ (flit : Option Flit). if is_among outgoing link then Some flit else slice_get first link)
      (sym (emitted_on-other outgoing held before port link away others))

  -- No link has the port.
  pub Drives-past : ((link : ℕ) → (slice_get outgoing port ≡ Some link) → ⊥)
      → Drives (is_among outgoing) (emitted_on outgoing held) first old
  Drives-past away =
      record { links = drives.links; at = λ link within. kept-at link within (away link) }

  -- A link has it.
  pub Drives-sent : (flit : Option Flit) (link : ℕ) → AreDistinctLinks outgoing
      → slice_get outgoing port ≡ Some link → link < length old
      → flit ≡ sole (flits_for port held)
      → Drives (is_among outgoing) (emitted_on outgoing held) first (slice_set old link flit)
  Drives-sent flit link apart at within carries =
      record {
        links = length-set old link flit ∙ drives.links;
        at = λ other below.
            elim (cases_eq other link) [
              | inl same ↦
                  rw same (slice_get-slice_set_same old link flit within
                  ∙ rw (is_among-at outgoing port link at, emitted_on-port outgoing held port link apart at)
                  (ap (λ (there : Option Flit). Some there) carries))
              | inr away ↦
                  slice_get-slice_set_other old link other flit away
                  ∙ kept-at other below (λ is. away (same_Some other link (sym is ∙ at)))
            ];
      }

-- A flit is sent to the port that it names, which carries it where no other was for it.
pub Drives-more_sent : (table : List Bool) (default : Bool) (outgoing : List ℕ)
    (before : List (Option Flit)) (flit : Flit) (port header : ℕ) (sent : Option Flit)
    (first old new : List (Option Flit))
    → AreDistinctLinks outgoing → AreLinks (is_among outgoing) (length old)
    → port ≡ port_of flit.header → header ≡ next_word flit.header
    → ((flits : List Flit) → get_or table port default ≡ is_any flits
    → sent ≡ sole (flits ++ record flit { header = header } ∷ []))
    → ((link : ℕ) → slice_get outgoing port ≡ Some link → new ≡ slice_set old link sent)
    → (slice_get outgoing port ≡ None → new ≡ old)
    → AreNamed table before
    → Drives (is_among outgoing) (emitted_on outgoing before) first old
    → Drives (is_among outgoing) (emitted_on outgoing (before ++ Some flit ∷ [])) first new
Drives-more_sent table default outgoing before flit port header sent first old new apart are_links
    names moved more put keeps named drives =
    let held = before ++ Some flit ∷ [] in
    let few : port < named_ports = omega arith in
    let others = λ (q : ℕ) (other : q ≢ port).
    flits_for-other_more q before flit (λ is. other (is ∙ sym names)) in
    let was = get_or_from_slice_get table port (is_any (flits_for port before)) default
    (named.at port few) in
    let carries : sent ≡ sole (flits_for port held) =
    more (flits_for port before) was
    ∙ ap (λ (word : ℕ). sole (flits_for port before ++ record flit { header = word } ∷ [])) moved
    ∙ ap sole (sym (flits_for-same_more port before flit names)) in
    elim (cases_lt port (length outgoing)) [
      | inl within ↦
          let at = slice_get-get_or outgoing port 0 within in
          let link = get_or outgoing port 0 in
          rw (put link at)
          (Drives-sent outgoing before held port first old others drives sent link apart at
          (are_links link (is_among-at outgoing port link at)) carries)
      | inr past ↦
          let none = slice_get_past outgoing port (omega arith) in
          rw (keeps none)
          (Drives-past outgoing before held port first old others drives
          (λ link is. absurd (cc (sym none ∙ is))))
    ]

-- Laws of what is sent where just one of some senders sends.
use Rattle.std.proofs.Common.{◌≡◌, ◌≢◌, ◌∙◌, ℕ, true, false, refl, sym, ap, subst, inl, inr, arith}
use Rattle.std.proofs.Common.{List, Option, Some, None, map, slice_get, ◌==◌, IsSome, if◌then◌else◌}
use Rattle.std.proofs.Common.{option_map, unwrap_or, eq-eqb}
use Rattle.std.proofs.lemmas.Bool.{cases_eq, cases_lt, Decides.nat_tests}
use Rattle.std.proofs.lemmas.Option.{same_Some, slice_get-map, unwrap_or-slice_get}
use Rattle.std.specs.Option.{option_map_or}
use Rattle.aeth_base.proofs.Lists.{map-slice_get}
use Rattle.aeth_clocked.specs.{declared.flit.Flit.Flit, Wires.flit_on}
use Rattle.aeth_header.specs.Header.{port_of}
use Rattle.aeth_router.specs.{Passing.IsSole, Ports.flits_for, Ports.hopped, Ports.sole}
use Rattle.aeth_router.specs.{Ports.toward, Router.AreDistinctLinks, Router.is_among}
use Rattle.aeth_router.specs.{Single.is_from, TableRouter.sent_from}
use Rattle.aeth_router.proofs.LinkLemmas.{among-place, is_among-at}
use Rattle.aeth_router.proofs.PortLemmas.{Names, flits_for-none, sole-contended, sole-from_Alone}
use Rattle.aeth_router.proofs.PortLemmas.{toward-other, toward-same}
use Rattle.aeth_router.proofs.Steps.{taken-at}

-- Where no sender sends, nothing is sent.
pub IsSole-none : (Is : ℕ → Type 0) (sent : ℕ → Option Flit) → ((sender : ℕ) → sent sender ≡ None)
    → IsSole Is sent None
IsSole-none Is sent none =
    record {
      none = λ all. refl;
      one = λ sender flit is sends others. absurd (cc (sym (none sender) ∙ sends));
      several = λ sender other is is_other apart sends sends_other. refl;
    }

-- Where but one sender may send, what it sends is sent.
pub IsSole-only : (Is : ℕ → Type 0) (sent : ℕ → Option Flit) (only : ℕ) → Is only
    → ((other : ℕ) → Is other → other ≢ only → sent other ≡ None) → IsSole Is sent (sent only)
IsSole-only Is sent only is_only none =
    record {
      none = λ all. all only is_only;
      one = λ sender flit is sends others.
          elim (cases_eq sender only) [
            | inl same ↦ ap sent (sym same) ∙ sends
            | inr away ↦ absurd (cc (sym (none sender is away) ∙ sends))
          ];
      several = λ sender other is is_other apart sends sends_other.
          elim (cases_eq sender only) [
            | inl same ↦
                absurd (cc (rw (none other is_other (λ too. apart (same ∙ sym too))) at sends_other))
            | inr away ↦ absurd (cc (rw (none sender is away) at sends))
          ];
    }

-- What is sent to a port is a flit that names it, behind its hop.
toward-from : (port : ℕ) (flit : Option Flit) (sent : Flit) → toward port flit ≡ Some sent
    → (from : Flit) × (flit ≡ Some from) × (port_of from.header ≡ port) × (hopped from ≡ sent)
toward-from port None sent is = absurd (cc is)
toward-from port (Some flit) sent is =
    elim (cases_eq (port_of flit.header) port) [
      | inl same ↦
          (flit, refl, same, same_Some (hopped flit) sent (sym (toward-same port flit same) ∙ is))
      | inr other ↦ absurd (cc (sym (toward-other port flit other) ∙ is))
    ]

-- So there is one where something is sent.
toward-some : (port : ℕ) (flit : Option Flit) → IsSome (toward port flit)
    → (from : Flit) × (flit ≡ Some from) × (port_of from.header ≡ port)
toward-some port None is = absurd (cc is)
toward-some port (Some flit) is =
    elim (cases_eq (port_of flit.header) port) [
      | inl same ↦ (flit, refl, same)
      | inr other ↦ absurd (cc (rw (toward-other port flit other) at is))
    ]

-- What the wires have on which a router receives goes to a port.
module _ (port : ℕ) (incoming : List ℕ) (wires : List (Option Flit)) where
  -- What a wire has that names the port is held, and names it.
  Names-wire : (place wire : ℕ) (flit : Flit) → slice_get incoming place ≡ Some wire
      → flit_on wires wire ≡ Some flit → port_of flit.header ≡ port
      → Names port (map (flit_on wires) incoming) place flit
  Names-wire place wire flit at is names =
      record {
        at = taken-at wires incoming place wire at ∙ ap (λ (flit : Option Flit). Some flit) is;
        names = names;
      }

  -- What is held and names the port is sent there by a wire.
  wire-Names : (place : ℕ) (flit : Flit) → Names port (map (flit_on wires) incoming) place flit
      → (wire : ℕ) × (slice_get incoming place ≡ Some wire)
      × (toward port (flit_on wires wire) ≡ Some (hopped flit))
  wire-Names place flit names =
      let found = map-slice_get (flit_on wires) incoming place (Some flit) names.at in
      (found.0, found.1, ap (toward port) found.2 ∙ toward-same port flit names.names)

  -- The port carries just what one wire sends there.
  pub sole-toward : AreDistinctLinks incoming
      → IsSole (λ wire. is_among incoming wire ≡ true) (λ wire. toward port (flit_on wires wire))
      (sole (flits_for port (map (flit_on wires) incoming)))
  sole-toward apart =
      let held = map (flit_on wires) incoming in
      record {
        none = λ all.
            ap sole (flits_for-none port held (λ place flit names.
            let found = wire-Names place flit names in
            absurd (cc (sym found.2
            ∙ all found.0 (is_among-at incoming place found.0 found.1)))));
        one = λ sender sent is sends others.
            let here = among-place incoming sender is in
            let from = toward-from port (flit_on wires sender) sent sends in
            sole-from_Alone port held sent (record {
              place = here.0;
              flit = from.0;
              names = Names-wire here.0 sender from.0 here.1 from.1 from.2;
              alone = λ other contender too.
                  let found = wire-Names other contender too in
                  elim (cases_eq found.0 sender) [
                    | inl same ↦
                        apart other here.0 sender
                        (found.1 ∙ ap (λ (wire : ℕ). Some wire) same) here.1
                    | inr away ↦
                        absurd (cc (sym found.2
                        ∙ others found.0 (is_among-at incoming other found.0 found.1) away))
                  ];
              sends = from.3;
            });
        several = λ sender other is is_other away sends sends_other.
            let here = among-place incoming sender is in
            let there = among-place incoming other is_other in
            let from = toward-some port (flit_on wires sender) sends in
            let from_other = toward-some port (flit_on wires other) sends_other in
            let names = Names-wire here.0 sender from.0 here.1 from.1 from.2 in
            let too = Names-wire there.0 other from_other.0 there.1 from_other.1 from_other.2 in
            elim (cases_eq here.0 there.0) [
              | inl same ↦
                  absurd (away (same_Some sender other
                  (sym here.1 ∙ ap (slice_get incoming) same ∙ there.1)))
              | inr differ ↦ elim (cases_lt here.0 there.0) [
                | inl before ↦
                    sole-contended port held here.0 there.0 from.0 from_other.0 before names too
                | inr behind ↦
                    sole-contended port held there.0 here.0 from_other.0 from.0 (omega arith) too
                    names
              ]
            ];
      }

-- What is sent by the entry of a wire, or of none, is just what the wire has.
sole-from : (Is : ℕ → Type 0) (wires : List (Option Flit)) (from : Option ℕ)
    → ((wire : ℕ) → from ≡ Some wire → Is wire)
    → IsSole Is (λ wire. if option_map_or (λ other. other == wire) from false
    then option_map hopped (flit_on wires wire) else None)
    (option_map hopped (unwrap_or (option_map (flit_on wires) from) None))
sole-from Is wires None is = IsSole-none _ _ (λ sender. refl)
sole-from Is wires (Some wire) is =
    let sent : ℕ → Option Flit =
    λ other. if wire == other then option_map hopped (flit_on wires other) else None in
    let here : sent wire ≡ option_map hopped (flit_on wires wire) =
    rw (eq-eqb wire wire refl) refl in
    subst (IsSole Is sent) here
    (IsSole-only Is sent wire (is wire refl) (λ other is_other away. grind (arith, nat_tests)))

-- What an entry sends on is just what the wire at its place has.
pub sole-entry : (incoming : List ℕ) (wires : List (Option Flit)) (entry : Option ℕ)
    → IsSole (λ wire. is_among incoming wire ≡ true)
    (λ wire. if is_from incoming wire entry then option_map hopped (flit_on wires wire) else None)
    (sent_from (map (flit_on wires) incoming) entry)
sole-entry incoming wires None = IsSole-none _ _ (λ sender. refl)
sole-entry incoming wires (Some place) =
    rw (
      sym (unwrap_or-slice_get (map (flit_on wires) incoming) place None),
      slice_get-map (flit_on wires) incoming place,
    ) (sole-from (λ wire. is_among incoming wire ≡ true) wires (slice_get incoming place)
    (λ wire at. is_among-at incoming place wire at))

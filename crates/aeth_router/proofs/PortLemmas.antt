-- Laws of the flits for a port.
use Rattle.std.proofs.Common.{◌≡◌, ◌≢◌, ◌<◌, ℕ, zero, suc, refl, sym, ap, ◌∙◌, inl, inr, arith}
use Rattle.std.proofs.Common.{List, [], ◌∷◌, ◌++◌, Option, Some, None, slice_get}
use Rattle.std.proofs.lemmas.{Bool.cases_eq, Bool.cases_lt, Bool.Decides.nat_tests}
use Rattle.std.proofs.lemmas.{List.Elements.filter_map-append, Option.same_Some}
use Rattle.aeth_clocked.specs.declared.flit.Flit.{Flit}
use Rattle.aeth_header.specs.Header.{port_of}
use Rattle.aeth_router.specs.Ports.{hopped, toward, flits_for, sole}

-- A flit goes to the port that it names.
pub toward-same : (port : ℕ) (flit : Flit) → port_of flit.header ≡ port
    → toward port (Some flit) ≡ Some (hopped flit)
toward-same port flit names = grind (arith, nat_tests)

-- It goes to no other.
pub toward-other : (port : ℕ) (flit : Flit) → port_of flit.header ≢ port
    → toward port (Some flit) ≡ None
toward-other port flit other = grind (arith, nat_tests)

-- One flit more, or none, behind those that are held.
pub flits_for-push : (port : ℕ) (held : List (Option Flit)) (latched : Option Flit)
    → flits_for port (held ++ latched ∷ []) ≡ flits_for port held ++ flits_for port (latched ∷ [])
flits_for-push port held latched = filter_map-append (toward port) held (latched ∷ [])

-- A first flit that names the port is for it.
flits_for-same : (port : ℕ) (flit : Flit) (held : List (Option Flit))
    → port_of flit.header ≡ port
    → flits_for port (Some flit ∷ held) ≡ hopped flit ∷ flits_for port held
flits_for-same port flit held names = rw (toward-same port flit names) refl

-- A first flit that names another is not.
flits_for-other : (port : ℕ) (flit : Flit) (held : List (Option Flit))
    → port_of flit.header ≢ port → flits_for port (Some flit ∷ held) ≡ flits_for port held
flits_for-other port flit held other = rw (toward-other port flit other) refl

-- The flit that is held at a place names a port.
pub record Names (port : ℕ) (held : List (Option Flit)) (place : ℕ) (flit : Flit) : Type 0 where
  pub at : slice_get held place ≡ Some (Some flit)
  pub names : port_of flit.header ≡ port

-- It names the port behind one place more, too.
Names-tail : (port : ℕ) (first : Option Flit) (held : List (Option Flit)) (place : ℕ)
    (flit : Flit) → Names port held place flit → Names port (first ∷ held) (suc place) flit
Names-tail port first held place flit names = record { at = names.at; names = names.names }

-- Where no held flit names the port, none is for it.
pub flits_for-none : (port : ℕ) (held : List (Option Flit))
    → ((place : ℕ) (flit : Flit) → Names port held place flit → ⊥) → flits_for port held ≡ []
flits_for-none port [] none = refl
flits_for-none port (None ∷ held) none =
    flits_for-none port held (λ place flit names.
    none (suc place) flit (Names-tail port None held place flit names))
flits_for-none port (Some first ∷ held) none =
    flits_for-other port first held (λ same. none 0 first (record { at = refl; names = same }))
    ∙ flits_for-none port held (λ place flit names.
    none (suc place) flit (Names-tail port (Some first) held place flit names))

-- Where one does, there is one for it.
flits_for-some : (port : ℕ) (held : List (Option Flit)) (place : ℕ) (flit : Flit)
    → Names port held place flit
    → (first : Flit) × (others : List Flit) × (flits_for port held ≡ first ∷ others)
flits_for-some port [] place flit names = absurd (let at = names.at in cc)
flits_for-some port (first ∷ held) zero flit names =
    let same : first ≡ Some flit = same_Some first (Some flit) names.at in
    (hopped flit, flits_for port held, rw same (flits_for-same port flit held names.names))
flits_for-some port (None ∷ held) (suc place) flit names =
    flits_for-some port held place flit (record { at = names.at; names = names.names })
flits_for-some port (Some first ∷ held) (suc place) flit names =
    elim (cases_eq (port_of first.header) port) [
      | inl same ↦
          (hopped first, flits_for port held, flits_for-same port first held same)
      | inr other ↦
          let rest = flits_for-some port held place flit
          (record { at = names.at; names = names.names }) in
          (rest.0, rest.1, flits_for-other port first held other ∙ rest.2)
    ]

-- A list with a second member has no sole one.
sole-two : (flit first : Flit) (flits others : List Flit) → flits ≡ first ∷ others
    → sole (flit ∷ flits) ≡ None
sole-two flit first flits others is = rw is refl

-- Where two held flits name the port, there is no sole one for it.
pub sole-contended : (port : ℕ) (held : List (Option Flit)) (place other : ℕ)
    (flit contender : Flit) → place < other → Names port held place flit
    → Names port held other contender → sole (flits_for port held) ≡ None
sole-contended port [] place other flit contender before names too =
    absurd (let at = names.at in cc)
sole-contended port held place zero flit contender before names too = absurd (omega arith)
sole-contended port (first ∷ held) zero (suc other) flit contender before names too =
    let same : first ≡ Some flit = same_Some first (Some flit) names.at in
    let rest = flits_for-some port held other contender
    (record { at = too.at; names = too.names }) in
    rw (same, flits_for-same port flit held names.names)
    (sole-two (hopped flit) rest.0 (flits_for port held) rest.1 rest.2)
sole-contended port (None ∷ held) (suc place) (suc other) flit contender before names too =
    sole-contended port held place other flit contender (omega arith)
    (record { at = names.at; names = names.names }) (record { at = too.at; names = too.names })
sole-contended port (Some first ∷ held) (suc place) (suc other) flit contender before names too =
    elim (cases_eq (port_of first.header) port) [
      | inl same ↦
          let rest = flits_for-some port held other contender
          (record { at = too.at; names = too.names }) in
          rw (flits_for-same port first held same)
          (sole-two (hopped first) rest.0 (flits_for port held) rest.1 rest.2)
      | inr apart ↦
          rw (flits_for-other port first held apart)
          (sole-contended port held place other flit contender (omega arith)
          (record { at = names.at; names = names.names })
          (record { at = too.at; names = too.names }))
    ]

-- One held flit alone names the port, and this is what it sends there.
pub record Alone (port : ℕ) (held : List (Option Flit)) (sent : Flit) : Type 0 where
  pub place : ℕ
  pub flit : Flit
  pub names : Names port held place flit
  pub alone : (other : ℕ) (contender : Flit) → Names port held other contender → other ≡ place
  pub sends : hopped flit ≡ sent

-- Such a flit is the one for the port.
flits_for-alone : (port : ℕ) (held : List (Option Flit)) (place : ℕ) (flit : Flit)
    → Names port held place flit
    → ((other : ℕ) (contender : Flit) → Names port held other contender → other ≡ place)
    → flits_for port held ≡ hopped flit ∷ []
flits_for-alone port [] place flit names alone = absurd (let at = names.at in cc)
flits_for-alone port (first ∷ held) zero flit names alone =
    let same : first ≡ Some flit = same_Some first (Some flit) names.at in
    let rest : flits_for port held ≡ [] =
    flits_for-none port held (λ other contender too.
    let zero_too = alone (suc other) contender
    (Names-tail port first held other contender too) in
    omega arith) in
    rw same (flits_for-same port flit held names.names)
    ∙ ap (λ (flits : List Flit). hopped flit ∷ flits) rest
flits_for-alone port (None ∷ held) (suc place) flit names alone =
    flits_for-alone port held place flit (record { at = names.at; names = names.names })
    (λ other contender too.
    let same = alone (suc other) contender (Names-tail port None held other contender too) in
    omega arith)
flits_for-alone port (Some first ∷ held) (suc place) flit names alone =
    elim (cases_eq (port_of first.header) port) [
      | inl same ↦
          absurd (let here = alone 0 first (record { at = refl; names = same }) in omega arith)
      | inr apart ↦
          flits_for-other port first held apart
          ∙ flits_for-alone port held place flit (record { at = names.at; names = names.names })
          (λ other contender too.
          let same = alone (suc other) contender
          (Names-tail port (Some first) held other contender too) in
          omega arith)
    ]

-- The flit that alone names the port is carried there.
pub sole-from_Alone : (port : ℕ) (held : List (Option Flit)) (sent : Flit)
    → Alone port held sent → sole (flits_for port held) ≡ Some sent
sole-from_Alone port held sent alone =
    rw (flits_for-alone port held alone.place alone.flit alone.names alone.alone)
    (ap (λ (flit : Flit). Some flit) alone.sends)

-- A list with a sole member has no other.
sole-cons : (flit sent : Flit) (flits : List Flit) → sole (flit ∷ flits) ≡ Some sent
    → flit ≡ sent
sole-cons flit sent [] is = same_Some flit sent is
sole-cons flit sent (next ∷ flits) is = absurd (cc is)

-- What is carried there is held, and names the port.
sole-held : (port : ℕ) (held : List (Option Flit)) (sent : Flit)
    → sole (flits_for port held) ≡ Some sent
    → (place : ℕ) × (flit : Flit) × Names port held place flit × (hopped flit ≡ sent)
sole-held port [] sent is = absurd (cc is)
sole-held port (None ∷ held) sent is =
    let rest = sole-held port held sent is in
    (suc rest.0, rest.1, Names-tail port None held rest.0 rest.1 rest.2, rest.3)
sole-held port (Some first ∷ held) sent is =
    elim (cases_eq (port_of first.header) port) [
      | inl same ↦ (
        0,
        first,
        record { at = refl; names = same },
        sole-cons (hopped first) sent (flits_for port held)
            (rw (flits_for-same port first held same) at is),
      )
      | inr apart ↦
          let rest = sole-held port held sent
          (rw (flits_for-other port first held apart) at is) in
          (suc rest.0, rest.1, Names-tail port (Some first) held rest.0 rest.1 rest.2, rest.3)
    ]

-- Only a flit that alone names the port is carried there.
pub Alone-from_sole : (port : ℕ) (held : List (Option Flit)) (sent : Flit)
    → sole (flits_for port held) ≡ Some sent → Alone port held sent
Alone-from_sole port held sent is =
    let found = sole-held port held sent is in
    record {
      place = found.0;
      flit = found.1;
      names = found.2;
      alone = λ other contender too.
          elim (cases_eq other found.0) [
            | inl same ↦ same
            | inr apart ↦ elim (cases_lt other found.0) [
              | inl before ↦
                  absurd (cc (sym is
                  ∙ sole-contended port held other found.0 contender found.1 before too found.2))
              | inr behind ↦
                  absurd (cc (sym is
                  ∙ sole-contended port held found.0 other found.1 contender (omega arith)
                  found.2 too))
            ]
          ];
      sends = found.3;
    }

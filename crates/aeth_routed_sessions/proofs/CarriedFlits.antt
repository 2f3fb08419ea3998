-- The flits of one flow: on the further wires of a link they are those that entered the link as many
-- cycles before.
use Rattle.std.proofs.Common.{◌≡◌, ◌⊎◌, ◌≤◌, ◌<◌, ◌+◌, ◌-◌, ◌&&◌, ◌∙◌, ℕ, zero, suc, Bool, false}
use Rattle.std.proofs.Common.{List, [], ◌∷◌, Some, cond, eqb, slice_get, refl, sym, ap, inl, inr}
use Rattle.std.proofs.Common.{arith, ◌==◌, if◌then◌else◌, nat_le, nat_lt, not, eq-eqb, le-leb}
use Rattle.std.proofs.Common.{le-ltb}
use Rattle.std.proofs.lemmas.Bool.{and_right, cases_lt, lt-leb, Decides.eqb_tells}
use Rattle.std.proofs.lemmas.Option.{same_Some}
use Rattle.std.specs.List.{enumerate_from, flat_map}
use Rattle.aeth_base.specs.declared.ids.LinkId.{LinkId}
use Rattle.aeth_chip.specs.{Paths.delay_of, Paths.offset, Wires.wire_at, declared.node.Link.Link}
use Rattle.aeth_chip.proofs.WireLemmas.{wire_at-apart}
use Rattle.aeth_clocked.specs.declared.flit.Flit.{Flit}
use Rattle.aeth_report.specs.Carries.{flit_at, flits_at, flits_on, injects, returns, sends}
use Rattle.aeth_report.specs.Flows.{Flow}
use Rattle.aeth_report.proofs.Places.{enumerate_from-place, flat_map-none, flat_map-sole}
use Rattle.aeth_report.proofs.Places.{place-enumerate_from}
use Rattle.aeth_routed_sessions.specs.Paths.{routers_passed_along, wires_along}
use Rattle.aeth_routed_sessions.proofs.ApartWires.{link_known}
use Rattle.aeth_routed_sessions.proofs.PathWires.{routers_passed-is, wires-at, wires-place}

-- A link stands in a path, or doesn't.
find_link : (path : List LinkId) (l : LinkId)
    → ((j : ℕ) × (slice_get path j ≡ Some l)) ⊎ ((j : ℕ) → slice_get path j ≡ Some l → ⊥)
find_link [] l = inr (λ j at. absurd (cc at))
find_link (m ∷ path) l = elim (eqb_tells m.0 l.0) [
  | inl same ↦ inl (0, λ i. Some (record { 0 = same.1 i }))
  | inr other ↦ elim (find_link path l) [
    | inl found ↦ inl (suc found.0, found.1)
    | inr none ↦ inr (elim [
      | zero ↦ λ at. other.1 (ap (λ (k : LinkId). k.0) (same_Some m l at))
      | suc j ↦ λ at. none j at
    ])
  ]
]

-- A flow that stops as it goes, or before, injects nothing.
pub idle : (flow : Flow) → flow.server.stop ≤ flow.server.go → (u : ℕ) → injects flow u ≡ false
idle flow stops u =
    let some = not (sends flow u == 0 && returns flow u == 0) in
    elim (cases_lt u flow.server.stop) [
      | inl less ↦ rw (lt-leb flow.server.go u (omega (arith, less, stops))) refl
      | inr past ↦
          let shut = and_right (nat_le flow.server.go u) (nat_lt u flow.server.stop)
          (le-ltb u flow.server.stop past) in
          rw shut refl
    ]

module _ (links : List Link) (flow : Flow) where
  -- The flit of a flow on a wire in a cycle, at a place of its wires.
  abbrev pub on_wire : ℕ → ℕ → ℕ × ℕ → List Flit
  on_wire wire t place =
      if place.1 == wire && nat_le place.0 t && injects flow (t - place.0)
      then flit_at flow (routers_passed_along links flow.path place.0) (t - place.0) ∷ [] else []

  -- Those at all places.
  abbrev pub all_on_wire : ℕ → ℕ → List Flit
  all_on_wire wire t =
      flat_map (on_wire wire t) (enumerate_from 0 (wires_along links flow.path))

  -- A flow that injects nothing has none.
  pub none-idle : ((u : ℕ) → injects flow u ≡ false) → (wire t : ℕ) → all_on_wire wire t ≡ []
  none-idle never wire t =
      flat_map-none (on_wire wire t) (enumerate_from 0 (wires_along links flow.path)) (λ i place at.
      ap (λ (b : Bool). cond b
      (flit_at flow (routers_passed_along links flow.path place.0) (t - place.0) ∷ []) [])
      (and_right (place.1 == wire && nat_le place.0 t) (injects flow (t - place.0))
      (never (t - place.0))))

  pub none-idle_on : ((u : ℕ) → injects flow u ≡ false) → (l t : ℕ)
      → flits_on links l t flow ≡ []
  none-idle_on never l t =
      flat_map-none (flits_at links flow l t) (enumerate_from 0 flow.path) (λ i place at.
      let ahead = offset links flow.path place.0 in
      ap (λ (b : Bool). cond b (flit_at flow place.0 (t - ahead) ∷ []) [])
      (and_right (place.1.0 == l && nat_le ahead t) (injects flow (t - ahead))
      (never (t - ahead))))

  module _ (l : LinkId) (k : ℕ) (short : k < delay_of links l) where
    abbrev wire : ℕ
    wire = wire_at links l.0 k

    -- A place of the wire is one of the link.
    wire_is : (i : ℕ) (y : ℕ × ℕ)
        → slice_get (enumerate_from 0 (wires_along links flow.path)) i ≡ Some y → y.1 ≡ wire
        → (place : ℕ) × (slice_get flow.path place ≡ Some l)
        × (offset links flow.path place + k ≡ i) × (y.0 ≡ i)
    wire_is i y at same =
        let found = enumerate_from-place 0 (wires_along links flow.path) i y at in
        let of = wires-place links flow.path i y.1 found.1 in
        let one = wire_at-apart links of.link l of.inner k
        (link_known links of.link of.inner of.short) (link_known links l k short) of.short short
        (of.is ∙ same) in
        let number = found.0 in
        let index = of.index in
        let inner = one.1 in (
          of.place,
          of.at ∙ (λ q. Some (record { 0 = one.0 q })),
          omega (arith, index, inner),
          omega (arith, number),
        )

    -- Before a flit is so far behind a link it isn't there.
    pub none-early : (t : ℕ) → t < k → all_on_wire wire t ≡ []
    none-early t early =
        flat_map-none (on_wire wire t) (enumerate_from 0 (wires_along links flow.path)) (λ i y at.
        elim (eqb_tells y.1 wire) [
          | inr other ↦ rw other.0 refl
          | inl same ↦
              let (place, there, index, number) = wire_is i y at same.1 in
              rw (same.0, lt-leb y.0 t (omega (arith, early, index, number))) refl
        ])

    -- A link that no path has carries nothing.
    none-off : ((j : ℕ) → slice_get flow.path j ≡ Some l → ⊥) → (t : ℕ)
        → all_on_wire wire (t + k) ≡ flits_on links l.0 t flow
    none-off never t =
        flat_map-none (on_wire wire (t + k)) (enumerate_from 0 (wires_along links flow.path))
        (λ i y at. elim (eqb_tells y.1 wire) [
          | inr other ↦ rw other.0 refl
          | inl same ↦
              let (place, there, index, number) = wire_is i y at same.1 in
              absurd (never place there)
        ])
        ∙ sym (flat_map-none (flits_at links flow l.0 t) (enumerate_from 0 flow.path) (λ i y at.
        elim (eqb_tells y.1.0 l.0) [
          | inr other ↦ rw other.0 refl
          | inl same ↦
              let found = enumerate_from-place 0 flow.path i y at in
              absurd (never i (found.1 ∙ (λ q. Some (record { 0 = same.1 q }))))
        ]))

    module _ (once : (i j : ℕ) → slice_get flow.path i ≡ Some l → slice_get flow.path j ≡ Some l
        → i ≡ j) where
      -- At the one place of the link both have the same flit, or none.
      same_there : (j : ℕ) → slice_get flow.path j ≡ Some l → (t : ℕ)
          → on_wire wire (t + k) (offset links flow.path j + k, wire)
          ≡ flits_at links flow l.0 t (j, l)
      same_there j at t =
          let ahead = offset links flow.path j in
          let time : (t + k) - (ahead + k) ≡ t - ahead = omega arith in
          let reached : nat_le (ahead + k) (t + k) ≡ nat_le ahead t =
          elim (cases_lt t ahead) [
            | inl early ↦ lt-leb (ahead + k) (t + k) (omega (arith, early))
                ∙ sym (lt-leb ahead t early)
            | inr late ↦ le-leb (ahead + k) (t + k) (omega (arith, late))
                ∙ sym (le-leb ahead t late)
          ] in
          let named : eqb wire wire ≡ eqb l.0 l.0 =
          eq-eqb wire wire refl ∙ sym (eq-eqb l.0 l.0 refl) in
          let routers_passed = routers_passed-is links flow.path (ahead + k) wire (record {
            place = j;
            link = l;
            inner = k;
            at = at;
            short = short;
            is = refl;
            index = refl;
          }) in
          λ q. if named q && reached q && injects flow (time q)
          then flit_at flow (routers_passed q) (time q) ∷ [] else []

      same_on : (j : ℕ) → slice_get flow.path j ≡ Some l → (t : ℕ)
          → all_on_wire wire (t + k) ≡ flits_on links l.0 t flow
      same_on j at t =
          let wires = wires_along links flow.path in
          let i = offset links flow.path j + k in
          let one = flat_map-sole (on_wire wire (t + k)) (enumerate_from 0 wires) i (i, wire)
          (place-enumerate_from 0 wires i i wire (omega arith)
          (wires-at links flow.path j k l at short))
          (λ m y there ne. elim (eqb_tells y.1 wire) [
            | inr other ↦ rw other.0 refl
            | inl same ↦
                let (place, too, index, number) = wire_is m y there same.1 in
                let offsets = ap (offset links flow.path) (once place j too at) in
                absurd (ne (omega (arith, index, offsets)))
          ]) in
          let two = flat_map-sole (flits_at links flow l.0 t) (enumerate_from 0 flow.path) j (j, l)
          (place-enumerate_from 0 flow.path j j l (omega arith) at)
          (λ m y there ne. elim (eqb_tells y.1.0 l.0) [
            | inr other ↦ rw other.0 refl
            | inl same ↦
                let found = enumerate_from-place 0 flow.path m y there in
                absurd (ne (once m j (found.1 ∙ (λ q. Some (record { 0 = same.1 q }))) at))
          ]) in
          one ∙ same_there j at t ∙ sym two

      -- So far behind the link are the flits that entered it as many cycles before.
      pub same_flits : (t : ℕ) → all_on_wire wire (t + k) ≡ flits_on links l.0 t flow
      same_flits t = elim (find_link flow.path l) [
        | inl found ↦ same_on found.0 found.1 t
        | inr never ↦ none-off never t
      ]

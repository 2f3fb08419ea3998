-- What the components drive on each wire is what those of the law drive.
use Rattle.std.proofs.Common.{◌≡◌, ◌≤◌, ◌<◌, ◌∙◌, ℕ, zero, suc, ◌%◌, refl, sym, ap, arith, inl, inr}
use Rattle.std.proofs.Common.{true, List, [], ◌∷◌, Option, Some, None, get_or, length, map}
use Rattle.std.proofs.Common.{slice_get, ◌==◌, option_and_then, option_map, position, unwrap_or}
use Rattle.std.proofs.Common.{eq-eqb}
use Rattle.std.proofs.lemmas.{Bool.cases_lt, List.FromFn.get_or-map-range_with_len}
use Rattle.std.proofs.lemmas.{List.FromFn.length-map-range_with_len, List.Quantifiers.position-Some}
use Rattle.std.proofs.lemmas.{Map.Keys.any_passes_from_place, Option.slice_get-get_or}
use Rattle.std.proofs.lemmas.{Option.slice_get_past}
use Rattle.std.specs.List.{slice_index_or}
use Rattle.aeth_base.specs.declared.ids.LinkId.{LinkId}
use Rattle.aeth_clocked.specs.{Driven.driven, Wires.flit_on, declared.flit.Flit.Flit}
use Rattle.aeth_clocked.proofs.DrivenLemmas.{driven-at}
use Rattle.aeth_ni.specs.{Component.emitted_by as ni_emitted, Component.queue_at_cycle}
use Rattle.aeth_ni.specs.{Interface.queue_at, Queue.QueueState}
use Rattle.aeth_router.specs.Part.{emit_of, outputs_of}
use Rattle.aeth_router.specs.Ports.{flits_for, hopped, sole}
use Rattle.aeth_router.specs.Router.{is_among}
use Rattle.aeth_router.specs.TableRouter.{TableRouterState, entry_at, routed, sent_from}
use Rattle.aeth_router.specs.declared.part.Part.{Part}
use Rattle.aeth_router.specs.declared.part.Part.TheVariants.{Interface, Router, Stage, TableRouter}
use Rattle.aeth_components.proofs.WiringLemmas.{AreDisjoint-parts, from-map}
use Rattle.aeth_components.specs.{Components.wires_driven, Wirings.InterfaceWiring, Wirings.IsWired}
use Rattle.aeth_components.specs.{Wirings.RouterWiring, Wirings.StageWiring, Wirings.wiring_of}
use Rattle.aeth_components.specs.{Switching.entry_in, View.queue_in}
use Rattle.aeth_invariant.proofs.Tables.{forwards, forwards-none}
use Rattle.aeth_invariant.specs.WellRouted.{AreWellRouted}
use Rattle.aeth_invariant.specs.Carried.{Exact}
use Rattle.aeth_invariant.specs.Components.{Net, emit, emitted_by, driven as net_driven}
use Rattle.aeth_invariant.specs.RoutedSessions.{AtInterface, AtRouter, AtStage, RoutedSessions}
use Rattle.aeth_invariant.specs.RoutedSessions.{WireEnd}
use Rattle.aeth_invariant.specs.Tables.{AreEntries, passed_on}
use Rattle.aeth_refinement.specs.WiredFor.{IsWiredFor, IsFrom, IsFromRouter, IsFromStage}
use Rattle.aeth_refinement.specs.Routed.{AreRoutedBy}
use Rattle.aeth_refinement.specs.View.{HaveLatched, net_of}

-- The flit on each of so many wires, and on no wire.
pub flit_on-driven : (parts : List Part) (count cycle l : ℕ) → l < count
    → flit_on (wires_driven parts count cycle) l ≡ driven outputs_of emit_of parts cycle l
flit_on-driven parts count cycle l within =
    let f = driven outputs_of emit_of parts cycle in
    let size = length-map-range_with_len f 0 count in
    ap (λ (found : Option (Option Flit)). unwrap_or found None)
    (slice_get-get_or (wires_driven parts count cycle) l None (omega arith))
    ∙ get_or-map-range_with_len f 0 count l l None within (omega arith)

pub flit_on-past : (wires : List (Option Flit)) (l : ℕ) → length wires ≤ l → flit_on wires l ≡ None
flit_on-past wires l past =
    ap (λ (found : Option (Option Flit)). unwrap_or found None) (slice_get_past wires l past)

-- What an interface emits goes by its entry and its queues.
emitted-by : (entry : Option ℕ) (queues : List QueueState)
    → ni_emitted entry queues ≡ emitted_by entry (queue_at queues)
emitted-by None queues = refl
emitted-by (Some queue) queues = refl

-- A list where a number is at some place.
is_among-position : (numbers : List ℕ) (l port : ℕ)
    → position (λ other. other == l) numbers ≡ Some port → is_among numbers l ≡ true
is_among-position numbers l port at =
    let found = position-Some (λ other. other == l) numbers port 0 at in
    any_passes_from_place (λ other. other == l) numbers port (get_or numbers port 0)
    (slice_get-get_or numbers port 0 found.0) found.1

-- What is at a place of a mapped list, or none.
place-map : (f : ℕ → Option Flit) (xs : List ℕ) (place : ℕ)
    → slice_index_or (map f xs) place None ≡ option_and_then f (slice_get xs place)
place-map f [] place = refl
place-map f (x ∷ xs) zero = refl
place-map f (x ∷ xs) (suc place) = place-map f xs place

-- What an entry sends on is held from its wire.
sent_from-wire : (f : ℕ → Option Flit) (xs : List ℕ) (entry : Option ℕ)
    → sent_from (map f xs) entry
    ≡ option_map hopped (option_and_then f (option_and_then (λ place. slice_get xs place) entry))
sent_from-wire f xs None = refl
sent_from-wire f xs (Some place) = ap (option_map hopped) (place-map f xs place)

-- By tables is sent on what headers send on.
forwarded : (sessions : RoutedSessions) → AreWellRouted sessions → 0 < sessions.size
    → (t : ℕ) (held : ℕ → Option Flit)
    → ((v : ℕ) → suc v ≡ t → Exact sessions v held) → (t ≡ 0 → (l : ℕ) → held l ≡ None)
    → (from : ℕ → Option ℕ) → AreEntries sessions t from → (l r : ℕ) → sessions.start l ≡ AtRouter r
    → passed_on from held l ≡ sole (flits_for (sessions.port l) (map held (sessions.incoming r)))
forwarded sessions ok some zero held exact none from entries l r start =
    forwards-none sessions held (none refl) from l r
forwarded sessions ok some (suc t) held exact none from entries l r start =
    forwards sessions ok some t held (exact t refl) from entries l r start

module _ (sessions : RoutedSessions) (ok : AreWellRouted sessions) (parts : List Part)
    (old : List (Option Flit))
    (t : ℕ) (enqueued : ℕ → ℕ)
    (wired : IsWired (map wiring_of parts) (length old))
    (wired_for : IsWiredFor sessions (map wiring_of parts) (length old))
    (latched : HaveLatched parts old)
    (routes : AreRoutedBy sessions t parts)
    (exact : (v : ℕ) → suc v ≡ t → Exact sessions v (flit_on old))
    (none : t ≡ 0 → (l : ℕ) → flit_on old l ≡ None) where
  abbrev net : Net
  net = net_of enqueued parts old

  -- What the sender of a wire emits is driven.
  sent-on : (i l : ℕ) (part : Part) → l < length old → slice_get parts i ≡ Some part
      → outputs_of part l ≡ true
      → flit_on (wires_driven parts (length old) t) l ≡ emit_of part t l
  sent-on i l part within at sends =
      flit_on-driven parts (length old) t l within
      ∙ driven-at outputs_of emit_of parts i t l part
      (AreDisjoint-parts parts (length old) wired) at sends

  from-interface : (l n : ℕ) → l < length old → IsFrom (map wiring_of parts) n l
      → flit_on (wires_driven parts (length old) t) l ≡ emit sessions net t l (AtInterface n)
  from-interface l n within from =
      let found = from-map wiring_of parts n _ from.face in
      let slots = wired_for.slots n from.number from.leaving from.entering from.slots from.queues
      from.face in
      let cases : (part : Part) → slice_get parts n ≡ Some part
      → InterfaceWiring from.number from.leaving from.entering from.slots from.queues
      ≡ wiring_of part
      → flit_on (wires_driven parts (length old) t) l ≡ emit sessions net t l (AtInterface n) =
      elim [
        | Interface ni ↦ λ at is.
            let leaves : from.leaving ≡ ni.leaving = cc is in
            let size : from.slots ≡ length ni.entries = cc is in
            let number : ni.leaving.0 ≡ l = ap (λ (w : LinkId). w.0) (sym leaves) ∙ from.sends in
            sent-on n l (Interface ni) within at (eq-eqb ni.leaving.0 l number)
            ∙ emitted-by (queue_at_cycle ni.entries t) ni.queues
            ∙ ap (λ (n : ℕ). emitted_by (slice_index_or ni.entries (t % n) None)
            (queue_at ni.queues)) (sym size ∙ slots)
            ∙ ap (λ (part : Option Part). emitted_by (entry_in (t % sessions.size) part)
            (λ q. queue_in q part)) (sym at)
        | Router router ↦ λ at is. absurd (cc is)
        | TableRouter router ↦ λ at is. absurd (cc is)
        | Stage stage ↦ λ at is. absurd (cc is)
      ] in
      cases found.0 found.1 found.2

  -- A router with a table emits what headers name, where its table has the sessions of the cycle.
  from-table : (l r place : ℕ) (router : TableRouterState) → l < length old
      → sessions.start l ≡ AtRouter r → slice_get parts place ≡ Some (TableRouter router)
      → position (λ other. other == l) router.outgoing ≡ Some (sessions.port l)
      → flit_on (wires_driven parts (length old) t) l ≡ emit sessions net t l (AtRouter r)
  from-table l r place router within start at port =
      let entry = entry_at router.entries router.slots (sessions.port l) (t % router.slots) in
      let own = routes place router at in
      sent-on place l (TableRouter router) within at
      (is_among-position router.outgoing l (sessions.port l) port)
      ∙ ap (option_and_then (routed router (t % router.slots))) port
      ∙ ap (λ (held : List (Option Flit)). sent_from held entry) (latched.tables place router at)
      ∙ sent_from-wire (flit_on old) router.incoming entry
      ∙ ap (λ (from : Option ℕ). option_map hopped (option_and_then (flit_on old) from))
      (sym (own.own l (sessions.port l) port))
      ∙ forwarded sessions ok own.some_slots t (flit_on old) exact none own.from own.entries l r
      start

  from-router : (l r : ℕ) → l < length old → sessions.start l ≡ AtRouter r
      → IsFromRouter (map wiring_of parts) (sessions.incoming r) (sessions.port l) l
      → flit_on (wires_driven parts (length old) t) l ≡ emit sessions net t l (AtRouter r)
  from-router l r within start from =
      let found = from-map wiring_of parts from.place _ from.face in
      let cases : (part : Part) → slice_get parts from.place ≡ Some part
      → RouterWiring (sessions.incoming r) from.outgoing ≡ wiring_of part
      → flit_on (wires_driven parts (length old) t) l ≡ emit sessions net t l (AtRouter r) = elim [
        | Interface ni ↦ λ at is. absurd (cc is)
        | Router router ↦ λ at is.
            let enters : sessions.incoming r ≡ router.incoming = cc is in
            let leaves : from.outgoing ≡ router.outgoing = cc is in
            let port : position (λ other. other == l) router.outgoing ≡ Some (sessions.port l) =
            ap (λ (ls : List ℕ). position (λ other. other == l) ls) (sym leaves) ∙ from.sends in
            sent-on from.place l (Router router) within at
            (is_among-position router.outgoing l (sessions.port l) port)
            ∙ ap (option_and_then (λ port. sole (flits_for port router.held))) port
            ∙ ap (λ (held : List (Option Flit)). sole (flits_for (sessions.port l) held))
            (latched.routers from.place router at
            ∙ ap (λ (ls : List ℕ). map (flit_on old) ls) (sym enters))
        | TableRouter router ↦ λ at is.
            let leaves : from.outgoing ≡ router.outgoing = cc is in
            from-table l r from.place router within start at
            (ap (λ (ls : List ℕ). position (λ other. other == l) ls) (sym leaves) ∙ from.sends)
        | Stage stage ↦ λ at is. absurd (cc is)
      ] in
      cases found.0 found.1 found.2

  from-stage : (l m : ℕ) → l < length old → IsFromStage (map wiring_of parts) m l
      → flit_on (wires_driven parts (length old) t) l ≡ emit sessions net t l (AtStage m)
  from-stage l m within from =
      let found = from-map wiring_of parts from.place _ from.face in
      let cases : (part : Part) → slice_get parts from.place ≡ Some part
      → StageWiring from.input from.output ≡ wiring_of part
      → flit_on (wires_driven parts (length old) t) l ≡ emit sessions net t l (AtStage m) = elim [
        | Interface ni ↦ λ at is. absurd (cc is)
        | Router router ↦ λ at is. absurd (cc is)
        | TableRouter router ↦ λ at is. absurd (cc is)
        | Stage stage ↦ λ at is.
            let reads : from.input ≡ stage.input = cc is in
            let sends : from.output ≡ stage.output = cc is in
            let number : stage.output.0 ≡ l = ap (λ (w : LinkId). w.0) (sym sends) ∙ from.sends in
            sent-on from.place l (Stage stage) within at (eq-eqb stage.output.0 l number)
            ∙ latched.stages from.place stage at
            ∙ ap (flit_on old) (ap (λ (w : LinkId). w.0) (sym reads) ∙ from.reads)
      ] in
      cases found.0 found.1 found.2

  -- On each wire the same, and on no other anything.
  pub wires-driven : (l : ℕ)
      → flit_on (wires_driven parts (length old) t) l ≡ net_driven sessions net t l
  wires-driven l = elim (cases_lt l (length old)) [
    | inl within ↦
        let cases : (end : WireEnd) → sessions.start l ≡ end
        → flit_on (wires_driven parts (length old) t) l ≡ emit sessions net t l end = elim [
          | AtRouter r ↦ λ starts.
              from-router l r within starts (wired_for.router l r within starts)
          | AtInterface n ↦ λ starts.
              from-interface l n within (wired_for.interface l n within starts)
          | AtStage m ↦ λ starts. from-stage l m within (wired_for.stage l m within starts)
        ] in
        cases (sessions.start l) refl
    | inr past ↦
        let size = length-map-range_with_len (driven outputs_of emit_of parts t) 0 (length old) in
        flit_on-past (wires_driven parts (length old) t) l (omega arith)
        ∙ sym (flit_on-past old l past)
        ∙ sym (ap (emit sessions net t l) (wired_for.past l past))
  ]

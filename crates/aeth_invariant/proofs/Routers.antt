-- Routers and stages emit the flits that are to go on there, and nothing else.
use Rattle.std.proofs.Common.{◌≡◌, ◌<◌, ◌∙◌, ℕ, zero, suc, List, length, get_or, map, Option, Some}
use Rattle.std.proofs.Common.{slice_get, sym, ap, subst, arith, inl, inr, option_map}
use Rattle.std.proofs.lemmas.Bool.{cases_lt}
use Rattle.std.proofs.lemmas.Option.{same_Some, slice_get-get_or, slice_get-map, slice_get_within}
use Rattle.aeth_clocked.specs.declared.flit.Flit.{Flit}
use Rattle.aeth_header.specs.Header.{port_of}
use Rattle.aeth_report.proofs.SessionMeetings.{mapped_at}
use Rattle.aeth_router.specs.Ports.{flits_for, hopped, sole}
use Rattle.aeth_router.proofs.PortLemmas.{Alone-from_sole, sole-from_Alone}
use Rattle.aeth_invariant.specs.WellRouted.{AreWellRouted, IsRouterPlace, IsStagePlace}
use Rattle.aeth_invariant.specs.Carried.{Comes, Exact, IsOnWire, IsPassed, flit_of}
use Rattle.aeth_invariant.specs.RoutedSessions.{AtInterface, AtRouter, AtStage, RoutedSessions}
use Rattle.aeth_invariant.specs.RoutedSessions.{IsPlace, WireEnd}
use Rattle.aeth_invariant.proofs.Routes.{routers_passed-on, names-port, stays}
use Rattle.aeth_invariant.proofs.Unique.{one_flit}

-- The three kinds of ends differ, and each has one number.
pub not_both : (r n : ℕ) (end : WireEnd) → end ≡ AtRouter r → end ≡ AtInterface n → ⊥
not_both r n end one two = let same : AtRouter r ≡ AtInterface n = sym one ∙ two in absurd cc

pub not_stage : (r l : ℕ) (end : WireEnd) → end ≡ AtRouter r → end ≡ AtStage l → ⊥
not_stage r l end one two = let same : AtRouter r ≡ AtStage l = sym one ∙ two in absurd cc

pub not_end : (n l : ℕ) (end : WireEnd) → end ≡ AtInterface n → end ≡ AtStage l → ⊥
not_end n l end one two = let same : AtInterface n ≡ AtStage l = sym one ∙ two in absurd cc

pub same_interface : (n m : ℕ) (end : WireEnd) → end ≡ AtInterface n → end ≡ AtInterface m → n ≡ m
same_interface n m end one two = let same : AtInterface n ≡ AtInterface m = sym one ∙ two in cc

same_router : (r s : ℕ) (end : WireEnd) → end ≡ AtRouter r → end ≡ AtRouter s → r ≡ s
same_router r s end one two = let same : AtRouter r ≡ AtRouter s = sym one ∙ two in cc

same_stage : (r s : ℕ) (end : WireEnd) → end ≡ AtStage r → end ≡ AtStage s → r ≡ s
same_stage r s end one two = let same : AtStage r ≡ AtStage s = sym one ∙ two in cc

-- What stands at a place of a list.
pub place_at : (xs : List ℕ) (i : ℕ) → i < length xs → (m : ℕ) × (slice_get xs i ≡ Some m)
place_at xs i within = (get_or xs i 0, slice_get-get_or xs i 0 within)

pub place_before : (xs : List ℕ) (i l : ℕ) → slice_get xs (suc i) ≡ Some l
    → (m : ℕ) × (slice_get xs i ≡ Some m)
place_before xs i l at =
    let within = slice_get_within xs (suc i) l at in place_at xs i (omega arith)

-- A held flit at its place among those of a router.
held_at : (held : ℕ → Option Flit) (ls : List ℕ) (k l : ℕ) (flit : Flit) → slice_get ls k ≡ Some l
    → held l ≡ Some flit → slice_get (map held ls) k ≡ Some (Some flit)
held_at held ls k l flit at holds =
    slice_get-map held ls k ∙ ap (λ (o : Option ℕ). option_map held o) at
    ∙ ap (λ (o : Option Flit). Some o) holds

module _ (sessions : RoutedSessions) (ok : AreWellRouted sessions) where
  -- A path goes on behind a wire that doesn't end at an interface.
  pub goes_past : (c i m : ℕ) → c < sessions.count → IsPlace sessions c i m
      → (sessions.end m ≡ AtInterface (sessions.routed_session (sessions.opposite c)).ni → ⊥)
      → (n : ℕ) × IsPlace sessions c (suc i) n
  goes_past c i m h place inside =
      let wires = (sessions.routed_session c).wires in
      let within = slice_get_within wires i m place in
      let more : suc i < length wires = elim (cases_lt (suc i) (length wires)) [
        | inl more ↦ more
        | inr last ↦ absurd (inside ((ok.path c h).last i m place (omega arith)))
      ] in
      place_at wires (suc i) more

  -- It goes on through the router at which the wire ends.
  pub to_router : (c i l m r : ℕ) → c < sessions.count → IsPlace sessions c i l
      → IsPlace sessions c (suc i) m → sessions.end l ≡ AtRouter r
      → IsRouterPlace sessions c i l m × (sessions.start m ≡ AtRouter r)
  to_router c i l m r h here next end = elim ((ok.path c h).inner i l m here next) [
    | inl place ↦ (
      place,
      place.starts
          ∙ ap (λ n. AtRouter n) (same_router place.router r (sessions.end l) place.ends end),
    )
    | inr place ↦ absurd (not_stage r l (sessions.end l) end place.ends)
  ]

  -- It came through the router at which the wire starts.
  pub from_router : (c i l m r : ℕ) → c < sessions.count → IsPlace sessions c i l
      → IsPlace sessions c (suc i) m → sessions.start m ≡ AtRouter r
      → IsRouterPlace sessions c i l m × (sessions.end l ≡ AtRouter r)
  from_router c i l m r h here next start = elim ((ok.path c h).inner i l m here next) [
    | inl place ↦ (
      place,
      place.ends
          ∙ ap (λ n. AtRouter n) (same_router place.router r (sessions.start m) place.starts start),
    )
    | inr place ↦ absurd (not_stage r l (sessions.start m) start place.starts)
  ]

  -- The first wire of a path starts at its interface.
  pub starts_at : (c l : ℕ) → c < sessions.count → IsPlace sessions c 0 l
      → sessions.start l ≡ AtInterface (sessions.routed_session c).ni
  starts_at c l h place =
      let path = ok.path c h in
      let is : path.first ≡ l = same_Some path.first l (sym path.at ∙ place) in
      ap sessions.start (sym is) ∙ path.starts

  -- A flit at one place of its path, from the place before.
  pub before : (l m t c i u : ℕ) → IsOnWire sessions l (suc t) c (suc i) u → IsPlace sessions c i m
      → IsOnWire sessions m t c i u
  before l m t c i u on place =
      let time = on.time in
      record { known = on.known; place = place; time = omega arith; injected = on.injected }

  pub behind : (l m t c i u : ℕ) → IsOnWire sessions l t c i u → IsPlace sessions c (suc i) m
      → IsOnWire sessions m (suc t) c (suc i) u
  behind l m t c i u on place =
      let time = on.time in
      record { known = on.known; place = place; time = omega arith; injected = on.injected }

  module _ (t : ℕ) (held : ℕ → Option Flit) (exact : Exact sessions t held) where
    -- A latched flit that names a port goes on there.
    pub record GoesOn (l m : ℕ) (flit : Flit) : Type 0 where
      pub number : ℕ
      pub place : ℕ
      pub cycle : ℕ
      pub on : IsOnWire sessions l (suc t) number (suc place) cycle
      pub here : IsPlace sessions number place m
      pub through : IsRouterPlace sessions number place m l
      pub is : flit ≡ flit_of sessions number place cycle

    pub goes_on : (l r m k : ℕ) (flit : Flit) → sessions.start l ≡ AtRouter r
        → slice_get (sessions.incoming r) k ≡ Some m → held m ≡ Some flit
        → port_of flit.header ≡ sessions.port l → GoesOn l m flit
    goes_on l r m k flit start at holds names =
        let comes = exact.only m flit holds in
        let c = comes.number in
        let i = comes.place in
        let on = comes.on in
        let end : sessions.end m ≡ AtRouter r = ok.wired.ends k m r at in
        let next = goes_past c i m on.known on.place
        (not_both r (sessions.routed_session (sessions.opposite c)).ni (sessions.end m) end) in
        let through = to_router c i m next.0 r on.known on.place next.1 end in
        let port : sessions.port l ≡ sessions.port next.0 =
        sym names ∙ ap (λ (f : Flit). port_of f.header) comes.is
        ∙ names-port sessions ok c i m next.0 comes.cycle on.known through.0 in
        let is : next.0 ≡ l = sym (ok.wired.ports l next.0 r start through.1 port) in
        record {
          number = c;
          place = i;
          cycle = comes.cycle;
          on = behind m l t c i comes.cycle on (next.1 ∙ ap (λ n. Some n) is);
          here = on.place;
          through = subst (λ n. IsRouterPlace sessions c i m n) is through.0;
          is = comes.is;
        }

    -- What a router emits is a flit of a session, one place on.
    pub router_only : (l r : ℕ) (flit : Flit) → sessions.start l ≡ AtRouter r
        → sole (flits_for (sessions.port l) (map held (sessions.incoming r))) ≡ Some flit
        → Comes sessions l (suc t) flit
    router_only l r flit start is =
        let alone = Alone-from_sole (sessions.port l) (map held (sessions.incoming r)) flit is in
        let from = mapped_at held (sessions.incoming r) alone.place (Some alone.flit)
        alone.names.at in
        let on = goes_on l r from.0 alone.place alone.flit start from.1 from.2 alone.names.names in
        record {
          number = on.number;
          place = suc on.place;
          cycle = on.cycle;
          on = on.on;
          is = sym alone.sends ∙ ap hopped on.is
              ∙ routers_passed-on sessions ok on.number on.place from.0 l on.cycle on.on.known
              on.through;
        }

    -- A router emits what is to go on there.
    pub router_all : (l r c i u : ℕ) → sessions.start l ≡ AtRouter r
        → IsOnWire sessions l (suc t) c i u
        → sole (flits_for (sessions.port l) (map held (sessions.incoming r)))
        ≡ Some (flit_of sessions c i u)
    router_all l r c zero u start on =
        absurd (not_both r (sessions.routed_session c).ni (sessions.start l) start
        (starts_at c l on.known on.place))
    router_all l r c (suc i) u start on =
        let wires = (sessions.routed_session c).wires in
        let m = place_before wires i l on.place in
        let through = from_router c i m.0 l r on.known m.1 on.place start in
        let holds : held m.0 ≡ Some (flit_of sessions c i u) =
        exact.all m.0 c i u (before l m.0 t c i u on m.1) in
        let at = ok.wired.reaches m.0 r through.1 in
        sole-from_Alone (sessions.port l) (map held (sessions.incoming r))
        (flit_of sessions c (suc i) u)
        (record {
          place = at.0;
          flit = flit_of sessions c i u;
          names = record {
            at = held_at held (sessions.incoming r) at.0 m.0 (flit_of sessions c i u) at.1 holds;
            names = names-port sessions ok c i m.0 l u on.known through.0;
          };
          alone = λ j flit too.
              let from = mapped_at held (sessions.incoming r) j (Some flit) too.at in
              let also = goes_on l r from.0 j flit start from.1 from.2 too.names in
              let one = one_flit sessions ok l (suc t) also.number (suc also.place) also.cycle c
              (suc i) u also.on on in
              let places = one.1 in
              let same : also.place ≡ i = omega arith in
              let there : slice_get wires i ≡ Some from.0 =
              ap (λ n. slice_get wires n) (sym same)
              ∙ ap (λ d. slice_get (sessions.routed_session d).wires also.place) (sym one.0)
              ∙ also.here in
              let is : from.0 ≡ m.0 = same_Some from.0 m.0 (sym there ∙ m.1) in
              ok.wired.once j at.0 m.0 r (from.1 ∙ ap (λ n. Some n) is) at.1;
          sends = routers_passed-on sessions ok c i m.0 l u on.known through.0;
        })

    -- What a stage emits is a flit of a session, one place on.
    pub stage_only : (l m : ℕ) (flit : Flit) → sessions.start l ≡ AtStage m → held m ≡ Some flit
        → Comes sessions l (suc t) flit
    stage_only l m flit start holds =
        let comes = exact.only m flit holds in
        let c = comes.number in
        let i = comes.place in
        let on = comes.on in
        let end : sessions.end m ≡ AtStage m = ok.wired.stage_reads l m start in
        let next = goes_past c i m on.known on.place (λ is.
        not_end (sessions.routed_session (sessions.opposite c)).ni m (sessions.end m) is end) in
        let through : IsStagePlace sessions c i m next.0 =
        elim ((ok.path c on.known).inner i m next.0 on.place next.1) [
          | inl place ↦ absurd (not_stage place.router m (sessions.end m) place.ends end)
          | inr place ↦ place
        ] in
        let is : next.0 ≡ l = ok.wired.stage_once next.0 l m through.starts start in
        record {
          number = c;
          place = suc i;
          cycle = comes.cycle;
          on = behind m l t c i comes.cycle on (next.1 ∙ ap (λ n. Some n) is);
          is = comes.is ∙ stays sessions ok c i m next.0 comes.cycle through;
        }

    -- A stage emits what is to go on there.
    pub stage_all : (l m c i u : ℕ) → sessions.start l ≡ AtStage m
        → IsOnWire sessions l (suc t) c i u
        → held m ≡ Some (flit_of sessions c i u)
    stage_all l m c zero u start on =
        absurd (not_end (sessions.routed_session c).ni m (sessions.start l)
        (starts_at c l on.known on.place) start)
    stage_all l m c (suc i) u start on =
        let n = place_before (sessions.routed_session c).wires i l on.place in
        let through : IsStagePlace sessions c i n.0 l =
        elim ((ok.path c on.known).inner i n.0 l n.1 on.place) [
          | inl place ↦ absurd (not_stage place.router m (sessions.start l) place.starts start)
          | inr place ↦ place
        ] in
        let is : n.0 ≡ m = same_stage n.0 m (sessions.start l) through.starts start in
        ap held (sym is)
        ∙ exact.all n.0 c i u (before l n.0 t c i u on n.1)
        ∙ ap (λ (f : Flit). Some f) (stays sessions ok c i n.0 l u through)

    -- A latched flit names a port of its router, and no other latched flit names it.
    pub none_lost : (m r : ℕ) (flit : Flit) → sessions.end m ≡ AtRouter r → held m ≡ Some flit
        → IsPassed sessions held m r flit
    none_lost m r flit end holds =
        let comes = exact.only m flit holds in
        let c = comes.number in
        let i = comes.place in
        let on = comes.on in
        let next = goes_past c i m on.known on.place
        (not_both r (sessions.routed_session (sessions.opposite c)).ni (sessions.end m) end) in
        let l = next.0 in
        let through = to_router c i m l r on.known on.place next.1 end in
        let after = behind m l t c i comes.cycle on next.1 in
        record {
          link = l;
          starts = through.1;
          names = ap (λ (f : Flit). port_of f.header) comes.is
              ∙ names-port sessions ok c i m l comes.cycle on.known through.0;
          alone = λ n contender ends has names.
              let at = ok.wired.reaches n r ends in
              let also = goes_on l r n at.0 contender through.1 at.1 has names in
              let one = one_flit sessions ok l (suc t) also.number (suc also.place) also.cycle c
              (suc i) comes.cycle also.on after in
              let places = one.1 in
              let same : also.place ≡ i = omega arith in
              let place : IsPlace sessions c i n =
              ap (λ d. slice_get (sessions.routed_session d).wires i) (sym one.0)
              ∙ ap (λ k. slice_get (sessions.routed_session also.number).wires k) (sym same)
              ∙ also.here in
              same_Some n m (sym place ∙ on.place);
        }

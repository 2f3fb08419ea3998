-- What the header of a flit says at each place of its path.
use Rattle.std.proofs.Common.{◌≡◌, ◌<◌, ◌∙◌, ℕ, suc, ◌+◌, sym, ap, List, [], ◌∷◌, ◌≤◌, length, take}
use Rattle.std.proofs.Common.{drop, refl, arith, zero, Some, slice_index, length-drop}
use Rattle.aeth_base.specs.Limits.{words_per_flit}
use Rattle.aeth_clocked.specs.declared.flit.Flit.{Flit}
use Rattle.aeth_header.specs.Header.{port_of}
use Rattle.aeth_header.proofs.HeaderLemmas.{header_of-word_of, port_of-word_of}
use Rattle.aeth_ni.specs.Component.{arrival_by, arrival_of}
use Rattle.aeth_report.specs.Carries.{flit_at, header_at, words_at, sends}
use Rattle.aeth_report.proofs.FlitLemmas.{flit_at-next, header_at-packable}
use Rattle.aeth_router.specs.Ports.{hopped}
use Rattle.aeth_server.specs.PrivateServer.{sent}
use Rattle.aeth_server.proofs.PrivateServerLemmas.{fits-flit, in-order}
use Rattle.aeth_invariant.specs.WellRouted.{AreWellRouted, IsRouterPlace, IsStagePlace}
use Rattle.aeth_invariant.specs.Carried.{flit_of}
use Rattle.aeth_invariant.specs.RoutedSessions.{RoutedSessions, flow_at}
use Rattle.aeth_invariant.proofs.Counts.{arrived-most}

-- The words of a flit, of as many as are at hand.
two_words : (count : ℕ) (words : List ℕ) → count ≤ words_per_flit → count ≤ length words
    → take count (slice_index (take count words) 0 ∷ slice_index (take count words) 1 ∷ [])
    ≡ take count words
two_words zero words few enough = refl
two_words (suc count) [] few enough = absurd (omega arith)
two_words (suc zero) (first ∷ words) few enough = refl
two_words (suc (suc count)) (first ∷ []) few enough = absurd (omega arith)
two_words (suc (suc zero)) (first ∷ second ∷ words) few enough = refl
two_words (suc (suc (suc count))) (first ∷ second ∷ words) few enough = absurd (omega arith)

module _ (sessions : RoutedSessions) (ok : AreWellRouted sessions) where
  -- A flit that comes to a router names the port of the wire at the next place.
  pub names-port : (c i l m u : ℕ) → c < sessions.count → IsRouterPlace sessions c i l m
      → port_of (flit_of sessions c i u).header ≡ sessions.port m
  names-port c i l m u h place =
      let flow = flow_at sessions c in
      let header = header_at flow ((sessions.routed_session c).routers_passed i) u in
      port_of-word_of header
      (header_at-packable flow (ok.given c h).sendable
      ((sessions.routed_session c).routers_passed i) u)
      ∙ place.names

  -- Its hop is the flit at that place.
  pub routers_passed-on : (c i l m u : ℕ) → c < sessions.count → IsRouterPlace sessions c i l m
      → hopped (flit_of sessions c i u) ≡ flit_of sessions c (suc i) u
  routers_passed-on c i l m u h place =
      let flow = flow_at sessions c in
      let before = (sessions.routed_session c).routers_passed i in
      let next : ℕ → Flit = λ word. record (flit_at flow before u) { header = word } in
      ap next (sym (flit_at-next flow (ok.given c h).sendable before u))
      ∙ ap (λ n. flit_at flow n u) (sym place.routers_passed)

  -- A stage leaves it.
  pub stays : (c i l m u : ℕ) → IsStagePlace sessions c i l m
      → flit_of sessions c i u ≡ flit_of sessions c (suc i) u
  stays c i l m u place = ap (λ n. flit_at (flow_at sessions c) n u) (sym place.routers_passed)

  -- A flit brings its words.
  pub arrives : (c i u : ℕ) → c < sessions.count
      → arrival_of (Some (flit_of sessions c i u))
      ≡ Some (record {
        header = header_at (flow_at sessions c) ((sessions.routed_session c).routers_passed i) u;
        words = words_at (flow_at sessions c) u;
      })
  arrives c i u h =
      let flow = flow_at sessions c in
      let server = flow.server in
      let sendable = (ok.given c h).sendable in
      let place = (sessions.routed_session c).routers_passed i in
      let header = header_at flow place u in
      let fits = (fits-flit server sendable.paths u).words in
      let order = (in-order server sendable.paths (u + 1)).sends in
      let most = arrived-most server (u + 1) in
      let values = (ok.given c h).values in
      let size = length-drop (sent server u) flow.values in
      ap (arrival_by (flit_at flow place u))
      (header_of-word_of header (header_at-packable flow sendable place u))
      ∙ ap (λ (words : List ℕ). Some (record { header = header; words = words }))
      (two_words (sends flow u) (drop (sent server u) flow.values) (omega arith) (omega arith))

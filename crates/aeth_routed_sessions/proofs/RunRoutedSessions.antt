-- The routed sessions of accepted inputs are well routed.
use Rattle.std.proofs.Common.{◌≤◌, ◌<◌, ◌^◌, ℕ, length, refl, sym, subst, arith}
use Rattle.aeth_base.specs.Limits.{max_queue_words}
use Rattle.aeth_chip.specs.Paths.{IsAdmissible}
use Rattle.aeth_group.specs.Members.{groups_of}
use Rattle.aeth_header.specs.Layout.{queue_bits}
use Rattle.aeth_report.specs.{Channels.opposite, Design.grant_at, Design.shape_at}
use Rattle.aeth_report.specs.{Sessions.session_of, Sound.IsSound, Flows.sessions_in}
use Rattle.aeth_report.specs.{SessionList.ChannelSession, SessionList.session_list}
use Rattle.aeth_report.specs.{SessionList.listed_at, SessionList.partner_of, SessionList.place_at}
use Rattle.aeth_report.proofs.OneFlit.{session-paths}
use Rattle.aeth_report.proofs.Stays.{IsStayOf, stays_of-is}
use Rattle.aeth_report.proofs.StaysAlone.{at-Contains}
use Rattle.aeth_report.proofs.SessionNumbers.{IsListedAt, listed-there, listed-among, partner-is}
use Rattle.aeth_server.specs.Shape.{buffer_of}
use Rattle.aeth_invariant.specs.WellRouted.{AreContentionFree, HasPath, AreWellRouted, IsGiven}
use Rattle.aeth_accepted.specs.Inputs.{AreAccepted, Inputs, design_of, row_at, run_of}
use Rattle.aeth_accepted.proofs.{SoundRuns.AreSpans, SoundRuns.is_sound, ApartRows.all_apart}
use Rattle.aeth_routed_sessions.specs.RoutedSessions.{routed_sessions_of, flow_in}
use Rattle.aeth_routed_sessions.specs.RoutedSessions.{routed_session_of, row_in, stays_in}
use Rattle.aeth_routed_sessions.proofs.{Answering.answered, Answering.values-accepted}
use Rattle.aeth_routed_sessions.proofs.{ApartTables.queues_apart, ApartWires.shares_none}
use Rattle.aeth_routed_sessions.proofs.{FlowPaths.has_path, PathRoutersPassed.route_fits}
use Rattle.aeth_routed_sessions.proofs.{PathWires.length-wires_along, SessionRows.few_words}
use Rattle.aeth_routed_sessions.proofs.{SessionRows.fits_remote, SessionRows.leads, Windows.drained}
use Rattle.aeth_routed_sessions.proofs.{Windows.one_entry, Windows.one_queue, Windows.one_route}
use Rattle.aeth_routed_sessions.proofs.{Windows.ordered, WiredLemmas.is_wired}
use Rattle.aeth_routed_sessions.proofs.{WritableRuns.writable}

module _ (inputs : Inputs) (accepted : AreAccepted inputs) (spans : AreSpans inputs accepted) where
  sound : IsSound (run_of inputs)
  sound = is_sound inputs accepted spans

  -- A session by its number.
  module _ (c : ℕ) (within : c < length (session_list (run_of inputs))) where
    abbrev p : ChannelSession
    p = listed_at (run_of inputs) c

    is : IsListedAt (run_of inputs) c (listed_at (run_of inputs) c)
    is = listed-there (run_of inputs) c within

    of : IsStayOf (groups_of inputs.app) p.channel.conn.0 p.stay
    of = stays_of-is (groups_of inputs.app) p.channel.conn.0 inputs.switches p.stay sound.known
        (at-Contains (stays_in (run_of inputs) p.channel.conn.0) (place_at (run_of inputs) c) p.stay
        is.stay_at)

    -- Its path leads from its interface to that of the opposite session.
    leads_back : IsAdmissible inputs.chip.links inputs.app.detour
        (row_in (run_of inputs) (listed_at (run_of inputs) c)).ni
        (row_in (run_of inputs)
        (listed_at (run_of inputs) (partner_of c))).ni
        (flow_in (run_of inputs) (listed_at (run_of inputs) c)).path
    leads_back =
        let links = inputs.chip.links in
        let detour = inputs.app.detour in
        let design = design_of inputs in
        let back = (partner-is (run_of inputs) c within).is in
        let here = subst (λ (g : ℕ). IsAdmissible links detour (row_at design g p.channel).ni
        (row_at design g (opposite p.channel)).ni (grant_at design p.channel g).path) of.in_group
        (leads inputs accepted of.use_case p.channel of.has) in
        subst (λ (q : ChannelSession). IsAdmissible links detour (row_in (run_of inputs) p).ni
        (row_in (run_of inputs) q).ni (flow_in (run_of inputs) p).path) (sym back) here

    path : HasPath (routed_sessions_of inputs) c
    path = has_path (run_of inputs) accepted.design.chip_is c within leads_back.is_path

    given : IsGiven (routed_sessions_of inputs) c
    given =
        let design = design_of inputs in
        let run = run_of inputs in
        let flow = flow_in run p in
        let session = session_of run.spans p.stay in
        let has = at-Contains (sessions_in run p.channel.conn.0) (place_at run c) session
        (listed-among run c within) in
        let remote = subst (λ (g : ℕ). (row_at design g p.channel).remote < 2 ^ queue_bits)
        of.in_group (fits_remote inputs accepted of.use_case p.channel of.has) in
        let few = subst (λ (g : ℕ). buffer_of (shape_at design p.channel g) ≤ max_queue_words)
        of.in_group (few_words inputs accepted of.use_case p.channel of.has) in
        record {
          sendable = record {
            route = route_fits inputs.chip accepted.design.chip_is (row_in run p).ni
                (row_in run (listed_at run (partner_of c))).ni flow.path leads_back.is_path
                leads_back.fits;
            remote = remote;
            paths = session-paths run sound p.channel session has;
            back_paths = session-paths run sound (opposite p.channel) session has;
          };
          size = refl;
          delay = sym (length-wires_along inputs.chip.links flow.path);
          values = values-accepted run p;
          buffer = omega (arith, few);
          drained = drained run sound (writable inputs accepted spans sound) c within;
        }

  apart : (c d : ℕ) → c < length (session_list (run_of inputs))
      → d < length (session_list (run_of inputs))
      → AreContentionFree (routed_sessions_of inputs) c d
  apart c d known_c known_d =
      let run = run_of inputs in
      let may = writable inputs accepted spans sound in
      record {
        wire = shares_none run accepted.design.chip_is sound c d known_c known_d;
        queue = one_queue run may c d known_c known_d (queues_apart inputs accepted);
        route = one_route run may c d known_c known_d (all_apart inputs accepted);
        entry = one_entry run may c d known_c known_d (all_apart inputs accepted);
      }

  -- So it is.
  pub is_accepted : AreWellRouted (routed_sessions_of inputs)
  is_accepted =
      let run = run_of inputs in
      let may = writable inputs accepted spans sound in
      record {
        path = path;
        answered = answered run;
        given = given;
        ordered = ordered run sound may;
        apart = apart;
        wired = is_wired inputs.chip accepted.design.chip_is (length (session_list run))
            (λ c. routed_session_of run (place_at run c) (listed_at run c)) partner_of;
      }

-- The flows of accepted inputs fit their headers, and their paths are of the chip's links.
use Rattle.std.proofs.Common.{◌≡◌, ◌<◌, ◌^◌, ◌∙◌, ℕ, Some, Contains, length, slice_get, ap, subst}
use Rattle.std.proofs.Common.{IsTrue}
use Rattle.std.proofs.lemmas.Option.{slice_get_within}
use Rattle.aeth_base.specs.declared.ids.{Channel.Channel, LinkId.LinkId}
use Rattle.aeth_chip.specs.Paths.{IsAdmissible}
use Rattle.aeth_group.specs.Members.{group_at, groups_of, has_at}
use Rattle.aeth_header.specs.Layout.{queue_bits}
use Rattle.aeth_report.specs.{Carries.IsSendable, Channels.opposite, Design.grant_at, Flows.Flow}
use Rattle.aeth_report.specs.{Flows.Run, Flows.flow_of, Flows.sessions_in, Sound.IsSound}
use Rattle.aeth_report.specs.{declared.session.Session.Session, Sessions.session_of}
use Rattle.aeth_report.specs.{SessionList.listed_at, SessionList.place_at}
use Rattle.aeth_report.proofs.{ClosingLemmas.stay_of, FlowPlaces.IsFlowOf, OneFlit.session-paths}
use Rattle.aeth_report.proofs.{StaysAlone.at-Contains, SessionNumbers.listed-among}
use Rattle.aeth_accepted.specs.Inputs.{AreAccepted, Inputs, design_of, row_at, run_of}
use Rattle.aeth_routed_sessions.proofs.PathRoutersPassed.{route_fits, there}
use Rattle.aeth_routed_sessions.proofs.SessionRows.{fits_remote, leads}

module _ (inputs : Inputs) (accepted : AreAccepted inputs) (sound : IsSound (run_of inputs))
    (channel : Channel) (session : Session)
    (has : Contains (sessions_in (run_of inputs) channel.conn.0) session) where
  -- What is so of the use case that a session is of, is so in its group.
  in_group : (P : ℕ → Type 0)
      → ((u : ℕ) → IsTrue (has_at (groups_of inputs.app) u channel.conn.0)
      → P (group_at (groups_of inputs.app) u)) → P session.group.0
  in_group P holds =
      let of = stay_of (run_of inputs) sound channel session has in
      subst P (of.holds.in_group ∙ ap (λ (s : Session). s.group.0) of.is)
      (holds of.holds.use_case of.holds.has)

  -- A session's path leads from its interface to that of the opposite channel.
  session-leads : IsAdmissible inputs.chip.links inputs.app.detour
      (row_at (design_of inputs) session.group.0 channel).ni
      (row_at (design_of inputs) session.group.0 (opposite channel)).ni
      (grant_at (design_of inputs) channel session.group.0).path
  session-leads = in_group (λ (g : ℕ). IsAdmissible inputs.chip.links inputs.app.detour
      (row_at (design_of inputs) g channel).ni
      (row_at (design_of inputs) g (opposite channel)).ni
      (grant_at (design_of inputs) channel g).path)
      (λ u here. leads inputs accepted u channel here)

  -- Its flits fit their headers.
  pub session-sendable : IsSendable (flow_of (run_of inputs) channel session)
  session-sendable =
      let run = run_of inputs in
      let path = (grant_at (design_of inputs) channel session.group.0).path in
      record {
        route = route_fits inputs.chip accepted.design.chip_is
            (row_at (design_of inputs) session.group.0 channel).ni
            (row_at (design_of inputs) session.group.0 (opposite channel)).ni path
            session-leads.is_path session-leads.fits;
        remote = in_group
            (λ (g : ℕ). (row_at (design_of inputs) g channel).remote < 2 ^ queue_bits)
            (λ u here. fits_remote inputs accepted u channel here);
        paths = session-paths run sound channel session has;
        back_paths = session-paths run sound (opposite channel) session has;
      }

  -- The links of its path are the chip's.
  pub session-known : (i : ℕ) (link : LinkId)
      → slice_get (flow_of (run_of inputs) channel session).path i ≡ Some link
      → link.0 < length inputs.chip.links
  session-known i link at =
      let is = there inputs.chip accepted.design.chip_is
      (row_at (design_of inputs) session.group.0 channel).ni
      (row_at (design_of inputs) session.group.0 (opposite channel)).ni
      (grant_at (design_of inputs) channel session.group.0).path session-leads.is_path i link at in
      slice_get_within inputs.chip.links link.0 is.link is.at

-- What holds of the flows of a run: their flits fit their headers, and their paths are of its links.
pub record IsFitting (run : Run) (flow : Flow) : Type 0 where
  pub sendable : IsSendable flow
  pub known : (i : ℕ) (link : LinkId) → slice_get flow.path i ≡ Some link
      → link.0 < length run.design.chip.links

-- It holds of those of accepted inputs.
pub flows-fit : (inputs : Inputs) → AreAccepted inputs → IsSound (run_of inputs) → (c : ℕ)
    (flow : Flow) → IsFlowOf (run_of inputs) c flow → IsFitting (run_of inputs) flow
flows-fit inputs accepted sound c flow of =
    let run = run_of inputs in
    let channel = (listed_at run c).channel in
    let session = session_of run.spans (listed_at run c).stay in
    let has = at-Contains (sessions_in run channel.conn.0) (place_at run c) session
    (listed-among run c of.known) in
    subst (IsFitting run) of.is (record {
      sendable = session-sendable inputs accepted sound channel session has;
      known = session-known inputs accepted sound channel session has;
    })

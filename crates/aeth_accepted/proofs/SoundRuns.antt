-- The run of accepted inputs is sound.
use Rattle.std.proofs.Common.{◌≡◌, ◌<◌, ◌≤◌, ℕ, true, not, List, [], ◌∷◌, All, Contains, Some}
use Rattle.std.proofs.Common.{slice_get, length, sym, ap, subst, inl, inr, arith}
use Rattle.std.proofs.lemmas.Bool.{and_parts}
use Rattle.aeth_base.specs.declared.ids.{Channel.Channel, LinkId.LinkId, Side.Side}
use Rattle.aeth_base.specs.declared.ids.{Side.TheVariants.Back, Side.TheVariants.Fwd}
use Rattle.aeth_base.proofs.Members.{Contains-cases, Contains-filter, Contains-flat_map}
use Rattle.aeth_base.proofs.Members.{Contains-here, Contains-nil, Contains-there}
use Rattle.aeth_slots.specs.SlotSet.{greatest}
use Rattle.aeth_chip.specs.Paths.{path_delay}
use Rattle.aeth_group.specs.{Conflict.Conflict, Members.group_at, Members.groups_of, Members.has_at}
use Rattle.aeth_group.specs.{Members.is_kept, declared.grant.Grant.Grant}
use Rattle.aeth_group.proofs.ConflictLemmas.{conflict-sym}
use Rattle.aeth_group.proofs.MemberLemmas.{connections-groups_of, length-groups_of}
use Rattle.aeth_plan.specs.Plan.{IsGrantOf}
use Rattle.aeth_trace.specs.{Spans.span_of, declared.switches.SwitchRow.SwitchRow}
use Rattle.aeth_report.specs.{Design.grant_at, Sessions.closes, Sound.AreGranted, Sound.HasDelay}
use Rattle.aeth_report.specs.{Sound.IsSound, Sound.IsWithinLimits}
use Rattle.aeth_tables.specs.Granted.{Granted, grant_on, granted_in}
use Rattle.aeth_tables.specs.Switching.{changing, delays_in, lag_of, writes_of}
use Rattle.aeth_tables.proofs.{ApartLaws.one_item, ListLaws.all_has_by, ShapeRanges.shape_in_range}
use Rattle.aeth_tables.proofs.{UseLaws.is_reserved}
use Rattle.aeth_accepted.specs.Inputs.{AreAccepted, Inputs, design_of, run_of}
use Rattle.aeth_accepted.proofs.{GivenGrants.given_in, GivenGrants.use-known, PathPlaces.links-once}

-- No number of a list is above the greatest.
pub greatest-above : (xs : List ℕ) (x : ℕ) → Contains xs x → x ≤ greatest xs
greatest-above [] x has = Contains-nil has
greatest-above (y ∷ xs) x has = elim (Contains-cases y xs x has) [
  | inl same ↦ omega arith
  | inr later ↦ let rest = greatest-above xs x later in omega arith
]

module _ (inputs : Inputs) (accepted : AreAccepted inputs) where
  -- A channel of a use case has a path in its group.
  delay_in_use : (u : ℕ) (channel : Channel)
      → has_at (groups_of inputs.app) u channel.conn.0 ≡ true
      → HasDelay inputs.chip.links
      (grant_at (design_of inputs) channel (group_at (groups_of inputs.app) u)).path
  delay_in_use u channel has =
      let design = accepted.design in
      let one = given_in inputs accepted u channel.conn.0 has in
      let known = use-known inputs u channel.conn.0 has in
      let reserved = is_reserved inputs.chip inputs.app inputs.plan design u known one.granted
      one.is_in in
      let range = shape_in_range inputs.chip inputs.app design.chip_is design.app_is one.granted
      reserved channel.side in
      let same = one.given.grants_are channel.side in
      subst (λ (grant : Grant). HasDelay inputs.chip.links grant.path) (sym same) (record {
        some = omega (arith, range.least_links);
        few = range.most_links;
      })

  -- What holds of each grant of the plan.
  pub grant_is : (grant : Grant) → Contains inputs.plan.grants grant
      → IsGrantOf inputs.chip inputs.app (groups_of inputs.app) grant
  grant_is grant has = all_has_by (IsGrantOf inputs.chip inputs.app (groups_of inputs.app))
      inputs.plan.grants grant accepted.design.plan_is.grants has

  once : (grant : Grant) (i j : ℕ) (link : LinkId) → Contains inputs.plan.grants grant
      → slice_get grant.path i ≡ Some link → slice_get grant.path j ≡ Some link → i ≡ j
  once grant i j link has first second =
      let path = accepted.design.accepted.paths grant has in
      links-once inputs.chip.links inputs.app.detour path.from path.to grant.path i j link
      path.admissible first second

  pub are_granted : AreGranted (design_of inputs)
  are_granted = record {
    paths = delay_in_use;
    sizes = λ grant has. (grant_is grant has).size;
    once = once;
    clear = one_item (Conflict (groups_of inputs.app) inputs.chip.links) inputs.plan.grants
        (conflict-sym (groups_of inputs.app) inputs.chip.links) accepted.design.accepted.clear;
  }

  -- The spans of all switches are what the plan says.
  abbrev pub AreSpans : Type 0
  AreSpans = (u v : ℕ) → u < length (groups_of inputs.app).uses
      → v < length (groups_of inputs.app).uses
      → span_of (run_of inputs).spans u v
      ≡ (
        lag_of inputs.chip inputs.app (groups_of inputs.app) inputs.plan u v,
        writes_of inputs.chip inputs.app (groups_of inputs.app) inputs.plan u v,
      )

  -- A switch waits for all that is under way on the channels that it closes.
  lag_covers : AreSpans → (u v : ℕ) (channel : Channel) → v < length (groups_of inputs.app).uses
      → closes (groups_of inputs.app) u v channel.conn.0 ≡ true
      → path_delay inputs.chip.links
      (grant_at (design_of inputs) channel (group_at (groups_of inputs.app) u)).path
      ≤ (span_of (run_of inputs).spans u v).0
  lag_covers spans u v channel within closed =
      let groups = groups_of inputs.app in
      let delays = λ (one : Granted). path_delay inputs.chip.links one.fwd.path
      ∷ path_delay inputs.chip.links one.back.path ∷ [] in
      let (has, goes) = and_parts (has_at groups u channel.conn.0)
      (not (is_kept groups u v channel.conn.0)) closed in
      let one = given_in inputs accepted u channel.conn.0 has in
      let known = use-known inputs u channel.conn.0 has in
      let all = granted_in inputs.app groups inputs.plan u in
      let is_changing = Contains-filter
      (λ (other : Granted). not (is_kept groups u v other.conn.0)) all one.granted one.is_in
      (rw one.given.conn_is goes) in
      let fwd = path_delay inputs.chip.links one.granted.fwd.path in
      let back = path_delay inputs.chip.links one.granted.back.path in
      let listed : (side : Side) → Contains (delays one.granted)
      (path_delay inputs.chip.links (grant_on one.granted side).path) = elim [
        | Fwd ↦ Contains-here fwd (back ∷ [])
        | Back ↦ Contains-there fwd (back ∷ []) back (Contains-here back [])
      ] in
      let inside = Contains-flat_map delays (changing groups u v all) one.granted
      (path_delay inputs.chip.links (grant_on one.granted channel.side).path) is_changing
      (listed channel.side) in
      let above = greatest-above (delays_in inputs.chip (changing groups u v all))
      (path_delay inputs.chip.links (grant_on one.granted channel.side).path) inside in
      let span = spans u v (omega (arith, known, length-groups_of inputs.app)) within in
      let lag = ap (λ (p : ℕ × ℕ). p.0) span in
      let same = ap (λ (grant : Grant). path_delay inputs.chip.links grant.path)
      (one.given.grants_are channel.side) in
      omega (arith, above, lag, same)

  pub is_sound : AreSpans → IsSound (run_of inputs)
  is_sound spans = record {
    granted = are_granted;
    lags = lag_covers spans;
    known = subst (λ (n : ℕ). All (λ (row : SwitchRow). row.to.0 < n) inputs.switches)
        (sym (length-groups_of inputs.app)) accepted.switches.known;
    apart = accepted.switches.apart;
  }

  pub within_limits : IsWithinLimits (run_of inputs)
  within_limits = record {
    connections = connections-groups_of inputs.app;
    links = accepted.design.chip_is.few_links;
    words = accepted.words.few;
    cycles = accepted.cycles;
  }

-- The plan of the last state is one for the chip, the application and its groups.
use Rattle.std.proofs.Common.{◌∙◌, ◌<◌, ◌≤◌, ℕ, List, Contains, length, map, ap, subst, arith, All}
use Rattle.std.proofs.lemmas.List.{length-map, length_push}
use Rattle.std.proofs.lemmas.List.Elements.{All-contains, Contains-get_or, recursion_from_All}
use Rattle.std.proofs.lemmas.Option.{slice_get_within}
use Rattle.aeth_base.specs.Limits.{min_path_links}
use Rattle.aeth_base.specs.declared.ids.{LinkId.LinkId, NiId.NiId}
use Rattle.aeth_chip.specs.Chip.{ChipData, IsChip}
use Rattle.aeth_chip.specs.Paths.{IsPath, to_of}
use Rattle.aeth_chip.specs.declared.node.Link.{Link}
use Rattle.aeth_chip.specs.declared.node.Node.{Node, TheVariants.Ni, TheVariants.Router}
use Rattle.aeth_app.specs.App.{AppData, IsApp, IsAppOf}
use Rattle.aeth_group.specs.{Members.groups_of, Members.units_of, declared.grant.Grant.Grant}
use Rattle.aeth_group.proofs.UnitLemmas.{unit_from_units}
use Rattle.aeth_book.specs.Book.{IsFit}
use Rattle.aeth_plan.{specs.Plan.IsGrantOf, specs.Plan.IsPlanOf, proofs.MadePlans.made_for_chip}
use Rattle.aeth_alloc.specs.{Allocation.allocation, Allocation.last_state, Channels.Design}
use Rattle.aeth_alloc.specs.{Channels.Reserved, Turns.State}
use Rattle.aeth_alloc.proofs.{LastStateLemmas.sound-turns, PlanLemmas.plan, PlanLemmas.plan-with}
use Rattle.aeth_alloc.proofs.{SoundLemmas.IsSound}

-- A path has at least two links, since it leads through a router.
path-long : (links : List Link) (a b : NiId) (path : List LinkId) → IsPath links a b path
    → min_path_links ≤ length path
path-long links a b path is =
    let ends = ap (λ (nodes : List Node). length nodes) is.joins.ends in
    let one = length-map path (to_of links) in
    let nodes : List Node = map (λ r. Router r) is.routers in
    let all = length_push nodes (Ni b) in
    let routers = length-map is.routers (λ r. Router r) in
    let some = is.some in
    omega (arith, ends, one, all, routers, some)

module _ (design : Design) (reserved : Reserved)
    (sound : IsSound design (groups_of design.app) reserved) where
  -- Each grant is one for the chip, the application and its groups.
  grant-of : (grant : Grant) → Contains reserved.book.grants grant
      → IsGrantOf design.chip design.app (groups_of design.app) grant
  grant-of grant has =
      let is = sound.granted grant has in
      let fit = All-contains (IsFit reserved.book.size (length reserved.book.links))
      reserved.book.grants grant sound.book.fit has in
      record {
        conn = slice_get_within design.app.connections grant.unit.conn.0 is.connection is.is;
        group = (unit_from_units (groups_of design.app) grant.unit is.unit).group;
        some_links = path-long design.chip.links is.from is.to grant.path is.admissible.is_path;
        few_links = is.admissible.fits;
        links = recursion_from_All (λ (link : LinkId). link.0 < length design.chip.links) grant.path
            (subst (λ (links : List Link). All (λ (link : LinkId). link.0 < length links) grant.path)
            sound.of.links fit.path);
        size = fit.slots ∙ sound.of.size;
        some_starts = is.suitable.some;
        starts = is.starts;
      }

  -- So is the plan.
  plan-of : IsPlanOf design.chip design.app (groups_of design.app)
      (plan design (groups_of design.app) reserved sound)
  plan-of =
      let IsOne : Grant → Type 0 = IsGrantOf design.chip design.app (groups_of design.app) in
      made_for_chip design.chip design.app (groups_of design.app) reserved.seats
      reserved.book.grants (plan design (groups_of design.app) reserved sound) sound.seats
      sound.of.nis sound.of.cores
      (recursion_from_All IsOne reserved.book.grants (λ k d low.
      grant-of _ (Contains-get_or reserved.book.grants k d low)))
      (plan-with design (groups_of design.app) reserved sound)

-- The plan of an allocation is one for the chip, the application and its groups.
pub allocation-plan_of : (chip : ChipData) (app : AppData) (prices : List ℕ) → IsChip chip
    → IsApp app → IsAppOf chip app
    → IsPlanOf chip app (groups_of app) (allocation chip app (groups_of app) prices).plan
unfolding allocation
allocation-plan_of chip app prices is_chip is_app of =
    let design : Design = record { chip = chip; app = app; prices = prices } in
    let last : State = last_state design (groups_of app) in
    plan-of design last.reserved
    (sound-turns design is_chip is_app of (length (units_of (groups_of app)))).reserved

-- The lists of links that a channel's try may begin with, and the paths that it may take.
-- Paths: after UMARS (2005). The rest: this project's own.
--
--   onward_lists, leaving_lists      lists of joined links, in the order of a dictionary
--   MayTake, may_take      a path that the try may take, as a fact and as a test
--   is_dead      whether links leave no suitable slots
use Rattle.std.proofs.Common.{ℕ, zero, suc, ◌-◌, ◌&&◌, ◌==◌, Bool, not, List, [], ◌∷◌, filter, map}
use Rattle.std.specs.List.{flat_map, list_any}
use Rattle.aeth_base.specs.Limits.{max_path_links}
use Rattle.aeth_base.specs.declared.ids.{LinkId.LinkId, NiId.NiId}
use Rattle.aeth_chip.specs.{Chip.ChipData, LeastDistance.link_ids, Paths.IsAdmissible, Paths.to_of}
use Rattle.aeth_chip.specs.{declared.node.Link.Link, declared.node.Node.Node}
use Rattle.aeth_chip.specs.{declared.node.Node.TheVariants.Ni}
use Rattle.aeth_chip.specs.{declared.node.Node.TheVariants.Router}
use Rattle.aeth_group.specs.Members.{GroupsData}
use Rattle.aeth_check.specs.Routes.{is_admissible}
use Rattle.aeth_paths.specs.{Candidates.IsAllowed, Candidates.is_live, Open.is_crowded}
use Rattle.aeth_paths.specs.{Task.links_from, Trials.TrialData, Trials.book_of}

-- The lists of at most so many joined links that go on from a node through routers, in the order
-- of a dictionary.
unfoldable pub onward_lists : List Link → ℕ → Node → List (List LinkId)
onward_lists links zero node = [] ∷ []
onward_lists links (suc most) (Ni ni) = [] ∷ []
onward_lists links (suc most) (Router router) =
    [] ∷ flat_map (λ link. map (λ rest. link ∷ rest) (onward_lists links most (to_of links link)))
    (links_from links (Router router))

-- Whether a link leaves one of some interfaces.
abbrev pub leaves_one : List Link → List NiId → LinkId → Bool
leaves_one links from link = list_any (λ (ni : NiId).
    list_any (λ (other : LinkId). other.0 == link.0) (links_from links (Ni ni))) from

-- The lists of at least one and at most as many joined links as a path may have that leave one of
-- some interfaces and go on through routers, in the order of a dictionary: by the first link, then
-- by the second.
unfoldable pub leaving_lists : ChipData → List NiId → List (List LinkId)
leaving_lists chip from =
    flat_map (λ link. map (λ rest. link ∷ rest)
    (onward_lists chip.links (max_path_links - 1) (to_of chip.links link)))
    (filter (leaves_one chip.links from) (link_ids chip.links))

-- A path that the try may take: an admissible one between an allowed pair.
pub record MayTake (chip : ChipData) (trial : TrialData) (path : List LinkId) : Type 0 where
  pub from : NiId
  pub to : NiId
  pub allowed : IsAllowed trial.from trial.to trial.crowded from to
  pub admissible : IsAdmissible chip.links trial.ask.detour from to path

-- The same as a test.
abbrev pub may_take : ChipData → TrialData → List LinkId → Bool
may_take chip trial path = list_any (λ a. list_any (λ b. not (is_crowded trial.crowded a b)
    && is_admissible chip trial.ask.detour a b path) trial.to) trial.from

-- Whether links are dead: no suitable slots are among the starts that the try's grants leave free
-- on them.
abbrev pub is_dead : ChipData → GroupsData → TrialData → List LinkId → Bool
is_dead chip groups trial links = not (is_live (book_of chip groups trial) trial.ask links)

-- What a search for an open path keeps true. This project's own.
--
--   lists_below, first_open      the lists below a list, and the first open path of some lists
--   over, IsFront      a list that goes over new routers from a sender
--   IsListed      a try with the lists of a certificate
--   IsLonger, open_over, IsOver      what comes of one more link
--   so_far, lists_so_far, first_so_far      the senders' links so far, the lists over them, and the
--                                           first open path of these
use Rattle.std.proofs.Common.{◌≡◌, ◌<◌, ◌≤◌, ◌++◌, ◌-◌, ℕ, true, false, List, All, [], ◌∷◌, Option}
use Rattle.std.proofs.Common.{None, Some, filter, length, map, slice_get}
use Rattle.std.specs.List.{flat_map, range_with_len}
use Rattle.aeth_base.specs.Limits.{max_path_links}
use Rattle.aeth_base.specs.declared.ids.{LinkId.LinkId, NiId.NiId}
use Rattle.aeth_chip.specs.{Chip.ChipData, Chip.IsChip, Joined.IsJoined, Joined.end_of}
use Rattle.aeth_chip.specs.{Paths.BeginsAt, Paths.to_of, declared.node.Link.Link}
use Rattle.aeth_chip.specs.{declared.node.Node.Node, declared.node.Node.TheVariants.Ni}
use Rattle.aeth_chip.specs.{declared.node.Node.TheVariants.Router}
use Rattle.aeth_paths.specs.{Search.Field, Search.Walks, Search.passes, Task.field}
use Rattle.aeth_paths.specs.{Trials.IsTrialOf, Trials.TrialData}
use Rattle.aeth_explain.specs.Cuts.{begins_with}
use Rattle.aeth_explain.specs.Places.{AreWithin}
use Rattle.aeth_explain.specs.TryPaths.{leaves_one, onward_lists}
use Rattle.aeth_explain.specs.Verdict.{is_covered, is_open}
use Rattle.aeth_explain.specs.declared.open_paths.{Front.Front, Listed.Listed, Over.Over}
use Rattle.aeth_explain.specs.declared.open_paths.{Over.TheVariants.Away, Over.TheVariants.Onward}
use Rattle.aeth_explain.specs.declared.open_paths.{Over.TheVariants.Open}

-- The lists that begin with a list, which ends at a node, and go on over at most so many links.
abbrev pub lists_below : List Link → ℕ → Node → List LinkId → List (List LinkId)
lists_below links left node path = map (λ rest. path ++ rest) (onward_lists links left node)

-- The first open path of some lists.
abbrev pub first_open : ChipData → TrialData → List (List LinkId) → List (List LinkId)
    → Option (List LinkId)
first_open chip trial cuts lists = slice_get (filter (is_open chip trial cuts) lists) 0

-- What leads over the links of a chip to an interface.
abbrev pub over : ChipData → TrialData → NiId → Field
over chip trial b = field (record {
  size = chip.slots;
  links = chip.links;
  groups = record { connections = 0; count = 0; uses = [] };
  grants = [];
}) [] trial.ask b 0

-- The least distances are those of the chip, and the try is one on it.
pub record IsListed (listed : Listed) : Type 0 where
  pub is_chip : IsChip listed.chip.now
  pub far : listed.far.now ≡ listed.chip.now.links
  pub is_trial : IsTrialOf listed.chip.now listed.trial.now

-- A list from a sender that has come to a router: what walks on from it over new routers walks from
-- the sender. It begins with none of the certificate's lists, and all that begin with it are between its
-- places.
pub record IsFront (listed : Listed) (a : NiId) (front : Front) : Type 0 where
  pub some : 1 ≤ length front.path
  pub joined : IsJoined (BeginsAt listed.chip.now.links) (to_of listed.chip.now.links) (Ni a) front.path
  pub links : All (λ (link : LinkId). link.0 < length listed.chip.now.links) front.path
  pub end : end_of (to_of listed.chip.now.links) (Ni a) front.path ≡ Router front.router
  pub known : front.router.0 < length listed.chip.now.routers
  pub here : passes (to_of listed.chip.now.links) front.path (Router front.router) ≡ true
  pub bare : is_covered listed.cuts.now front.path ≡ false
  pub inside : front.places.to ≤ length listed.cuts.now
  pub within : AreWithin (begins_with front.path) listed.cuts.now front.places
  pub leads : (b : NiId) (rest : List LinkId)
      → Walks (over listed.chip.now listed.trial.now b) (Router front.router) front.path rest
      → Walks (over listed.chip.now listed.trial.now b) (Ni a) [] (front.path ++ rest)

-- A list that is longer by a link.
pub record IsLonger (listed : Listed) (a : NiId) (front : Front) (link : LinkId) (longer : Front)
    : Type 0 where
  pub path : longer.path ≡ front.path ++ link ∷ []
  pub ends : to_of listed.chip.now.links link ≡ Router longer.router
  pub is_front : IsFront listed a longer

-- The first open path of the lists that go on over a link, over at most so many more.
abbrev pub open_over : Listed → Front → LinkId → ℕ → Option (List LinkId)
open_over listed front link left =
    first_open listed.chip.now listed.trial.now listed.cuts.now
    (lists_below listed.chip.now.links left (to_of listed.chip.now.links link)
    (front.path ++ link ∷ []))

-- What comes of a link: no open path goes on over it, or the list with it is the first that does, or
-- the list is longer.
abbrev pub IsOver : Listed → NiId → Front → LinkId → ℕ → Over → Type 0
IsOver listed a front link left Away = open_over listed front link left ≡ None
IsOver listed a front link left (Open path) =
    (open_over listed front link left ≡ Some path) × (path ≡ front.path ++ link ∷ [])
IsOver listed a front link left (Onward longer) = IsLonger listed a front link longer

-- The links before a number that leave a sender, the lists over them, and the first open path of these.
abbrev pub so_far : ChipData → TrialData → ℕ → List LinkId
so_far chip trial n =
    filter (leaves_one chip.links trial.from) (map (λ l. record { 0 = l }) (range_with_len 0 n))

abbrev pub lists_so_far : ChipData → TrialData → ℕ → List (List LinkId)
lists_so_far chip trial n = flat_map (λ link.
    lists_below chip.links (max_path_links - 1) (to_of chip.links link) (link ∷ []))
    (so_far chip trial n)

abbrev pub first_so_far : ChipData → TrialData → List (List LinkId) → ℕ → Option (List LinkId)
first_so_far chip trial cuts n = first_open chip trial cuts (lists_so_far chip trial n)

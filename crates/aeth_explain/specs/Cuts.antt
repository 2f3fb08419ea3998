-- What a certificate of a refusal may list, and when it is complete. This project's own.
--
--   begins_with      whether a list begins with another
--   IsCut, is_cut      joined links from a sender that are dead, as a fact and as a test
--   IsComplete, IsCertificate      each path that the try may take begins with one
--   HasCandidate      the try could have been granted
use Rattle.std.proofs.Common.{◌≡◌, ◌≤◌, ◌&&◌, ◌==◌, nat_le, Bool, true, false, List, [], ◌∷◌}
use Rattle.std.proofs.Common.{length, All, Contains, slice_get}
use Rattle.std.specs.List.{list_any}
use Rattle.aeth_base.specs.declared.ids.{LinkId.LinkId, NiId.NiId}
use Rattle.aeth_chip.specs.{Chip.ChipData, Joined.IsJoined, Nodes.begins_at, PathTests.link_passes}
use Rattle.aeth_chip.specs.{Paths.BeginsAt, Paths.to_of, declared.node.Link.Link}
use Rattle.aeth_chip.specs.{declared.node.Node.Node, declared.node.Node.TheVariants.Ni}
use Rattle.aeth_group.specs.Members.{GroupsData}
use Rattle.aeth_paths.specs.{Candidates.IsCandidate, Trials.TrialData, Trials.book_of}
use Rattle.aeth_paths.specs.{declared.request.Found.Found}
use Rattle.aeth_explain.specs.TryPaths.{MayTake, is_dead}

-- Whether a list begins with another.
abbrev pub begins_with : List LinkId → List LinkId → Bool
begins_with [] path = true
begins_with (link ∷ front) [] = false
begins_with (link ∷ front) (first ∷ path) = link.0 == first.0 && begins_with front path

-- Whether links are joined from a node on.
abbrev pub are_joined : List Link → Node → List LinkId → Bool
are_joined links node [] = true
are_joined links node (link ∷ rest) =
    link_passes (begins_at node) (slice_get links link.0)
    && are_joined links (to_of links link) rest

module _ (chip : ChipData) (groups : GroupsData) (trial : TrialData) where
  -- A cut: joined links from an interface of the senders that are dead.
  pub record IsCut (cut : List LinkId) : Type 0 where
    pub sender : NiId
    pub allowed : Contains trial.from sender
    pub some : 1 ≤ length cut
    pub joined : IsJoined (BeginsAt chip.links) (to_of chip.links) (Ni sender) cut
    pub dead : is_dead chip groups trial cut ≡ true

  -- The same as a test.
  abbrev pub is_cut : List LinkId → Bool
  is_cut cut = nat_le 1 (length cut)
      && (list_any (λ (ni : NiId). are_joined chip.links (Ni ni) cut) trial.from
      && is_dead chip groups trial cut)

  -- Each path that the try may take begins with one of the cuts.
  abbrev pub IsComplete : List (List LinkId) → Type 0
  IsComplete cuts = (path : List LinkId) → MayTake chip trial path
      → (cut : List LinkId) × Contains cuts cut × (begins_with cut path ≡ true)

  -- A certificate that the try had to be refused: cuts, with one of which each such path begins.
  pub record IsCertificate (cuts : List (List LinkId)) : Type 0 where
    pub cuts_are : All IsCut cuts
    pub complete : IsComplete cuts

  -- Something is a candidate for the try, so that it needn't be refused.
  abbrev pub HasCandidate : Type 0
  HasCandidate = (found : Found) × IsCandidate (book_of chip groups trial) trial.ask trial.from
      trial.to trial.crowded found

-- Which paths a try may take: the test decides the fact; and links that begin at a node are among
-- all.
use Rattle.std.proofs.Common.{◌≡◌, ◌&&◌, Bool, true, List, Contains, length, not, ap, arith}
use Rattle.std.proofs.lemmas.{Bool.and_from, Bool.and_parts, Bool.not-true, Option.slice_get_within}
use Rattle.std.specs.{Bool.Decides, List.list_any, List.range_with_len}
use Rattle.aeth_base.proofs.{Members.Contains-map, Ranges.Contains-range}
use Rattle.aeth_base.specs.declared.ids.{LinkId.LinkId, NiId.NiId}
use Rattle.aeth_chip.specs.{Chip.ChipData, Chip.IsChip, LeastDistance.link_ids, Paths.BeginsAt}
use Rattle.aeth_chip.specs.{declared.node.Link.Link, declared.node.Node.Node}
use Rattle.aeth_group.proofs.ListLemmas.{any_from_passes, passes_from_any}
use Rattle.aeth_check.{specs.Routes.is_admissible, proofs.RouteLaws.is_admissible-Decides}
use Rattle.aeth_paths.specs.{Open.is_crowded, Trials.TrialData}
use Rattle.aeth_paths.proofs.CandidateLemmas.{from-room, room-from}
use Rattle.aeth_explain.specs.TryPaths.{MayTake, may_take}

-- A link that begins at a node is one of the chip's.
pub link-known : (links : List Link) (link : LinkId) (node : Node) → BeginsAt links link node
    → Contains (link_ids links) link
link-known links link node begins =
    let low = slice_get_within links link.0 begins.link begins.is in
    Contains-map (λ l. record { 0 = l }) (range_with_len 0 (length links)) link.0
    (Contains-range 0 (length links) link.0 (omega arith) (omega (arith, low)))

module _ (chip : ChipData) (trial : TrialData) (is_chip : IsChip chip) (path : List LinkId) where
  -- Whether the try may take the path from an interface to one.
  abbrev takes : NiId → NiId → Bool
  takes a b = not (is_crowded trial.crowded a b) && is_admissible chip trial.ask.detour a b path

  take-told : may_take chip trial path ≡ true → MayTake chip trial path
  take-told told =
      let from = passes_from_any (λ a. list_any (takes a) trial.to) trial.from told in
      let to = passes_from_any (takes from.item) trial.to from.passes in
      let (room, admissible) =
      and_parts (not (is_crowded trial.crowded from.item to.item)) _ to.passes in
      record {
        from = from.item;
        to = to.item;
        allowed = record {
          sender = from.is_in;
          receiver = to.is_in;
          room = from-room trial.crowded from.item to.item (not-true _ room);
        };
        admissible =
            (is_admissible-Decides chip is_chip trial.ask.detour from.item to.item path).0
            admissible;
      }

  tell-take : MayTake chip trial path → may_take chip trial path ≡ true
  tell-take may =
      any_from_passes (λ a. list_any (takes a) trial.to) trial.from may.from may.allowed.sender
      (any_from_passes (takes may.from) trial.to may.to may.allowed.receiver
      (and_from _ _ (ap not (room-from trial.crowded may.from may.to may.allowed.room))
      ((is_admissible-Decides chip is_chip trial.ask.detour may.from may.to path).1
      may.admissible)))

  -- The test decides whether the try may take it.
  pub may_take-Decides : Decides (may_take chip trial path) (MayTake chip trial path)
  may_take-Decides = (take-told, tell-take)

-- The most links of a path: the try may take a path between two interfaces exactly where it has no
-- more links than that.
use Rattle.std.proofs.Common.{◌<◌, ◌++◌, ◌∷◌, [], slice_index, ◌≡◌, ◌∙◌, ◌≤◌, ◌+◌, ◌&&◌, ℕ, Bool}
use Rattle.std.proofs.Common.{true, false, not, List, Option, None, Some, Contains, length, cond}
use Rattle.std.proofs.Common.{eqb, refl, sym, ap, subst, arith, eq-eqb}
use Rattle.std.proofs.Math.{ListN.get_or-append, Seq.get_or-append_seam}
use Rattle.std.proofs.lemmas.Bool.{and_from, and_parts, not-true}
use Rattle.std.specs.List.{list_any}
use Rattle.aeth_base.specs.declared.ids.{RouterId.RouterId, LinkId.LinkId, NiId.NiId}
use Rattle.aeth_base.specs.Limits.{max_path_links}
use Rattle.aeth_chip.specs.{Paths.IsOnward, Paths.IsOnwardDistance, Paths.IsDistance, Paths.IsPath}
use Rattle.aeth_chip.specs.{declared.node.Link.Link, Chip.ChipData, Chip.IsChip}
use Rattle.aeth_chip.specs.{LeastDistance.least_distance}
use Rattle.aeth_chip.proofs.LeastDistanceLemmas.{IsLeast-unique, distance_is_least_distance}
use Rattle.aeth_chip.proofs.LeastDistanceLemmas.{least_distance_is_distance}
use Rattle.aeth_group.proofs.ListLemmas.{any_from_passes}
use Rattle.aeth_paths.specs.{Open.is_crowded, Trials.TrialData}
use Rattle.aeth_paths.proofs.CandidateLemmas.{from-room, room-from}
use Rattle.aeth_explain.specs.{Senders.most_by, Senders.most_to, TryPaths.MayTake}
use Rattle.aeth_explain.proofs.FirstLemmas.{from-among}

-- Whether an interface is one of some, and a pair isn't one crowded interface.
abbrev is_pair : TrialData → NiId → NiId → Bool
is_pair trial a b =
    list_any (λ (n : NiId). eqb n.0 b.0) trial.to && not (is_crowded trial.crowded a b)

under-least : (count least detour : ℕ) → count ≤ least + detour → count ≤ max_path_links
    → count ≤ most_by detour (Some least)
under-least count least detour near fits = omega (arith, near, fits)

module _ (chip : ChipData) (trial : TrialData) (is_chip : IsChip chip) where
  -- A path that the try may take has no more links.
  pub may-most : (path : List LinkId) → (may : MayTake chip trial path)
      → length path ≤ most_to chip trial may.from may.to
  may-most path may =
      let a = may.from in
      let b = may.to in
      let among = any_from_passes (λ (n : NiId). eqb n.0 b.0) trial.to b may.allowed.receiver
      (eq-eqb b.0 b.0 refl) in
      let room = room-from trial.crowded a b may.allowed.room in
      let pair : is_pair trial a b ≡ true = and_from _ _ among (ap not room) in
      let least = distance_is_least_distance chip is_chip a b (Some may.admissible.least)
      may.admissible.distance in
      let most : most_to chip trial a b ≡ most_by trial.ask.detour (Some may.admissible.least) =
      ap (λ v. cond v (most_by trial.ask.detour (least_distance chip a b)) 0) pair
      ∙ ap (most_by trial.ask.detour) (sym least) in
      subst (λ n. length path ≤ n) (sym most)
      (under-least (length path) may.admissible.least trial.ask.detour may.admissible.near
      may.admissible.fits)

  within-by : (detour : ℕ) (count : ℕ) (o : Option ℕ) → 1 ≤ count → count ≤ most_by detour o
      → (least : ℕ) × (o ≡ Some least) × (count ≤ least + detour) × (count ≤ max_path_links)
  within-by detour count None some few = absurd (omega (arith, some, few))
  within-by detour count (Some least) some few =
      (least, refl, omega (arith, few), omega (arith, few))

  pair-by : (a b : NiId) (count : ℕ) (v : Bool) → is_pair trial a b ≡ v → 1 ≤ count
      → count ≤ cond v (most_by trial.ask.detour (least_distance chip a b)) 0
      → (v ≡ true) × (count ≤ most_by trial.ask.detour (least_distance chip a b))
  pair-by a b count true pair some few = (refl, few)
  pair-by a b count false pair some few = absurd (omega (arith, some, few))

  -- Where paths to an interface may have some links it is a receiver of the try.
  pub to-some : (a b : NiId) → 1 ≤ most_to chip trial a b → Contains trial.to b
  to-some a b some =
      let (pair, most) = pair-by a b 1 (is_pair trial a b) refl (omega arith) some in
      from-among trial.to b (and_parts (list_any (λ (n : NiId). eqb n.0 b.0) trial.to) _ pair).0

  -- A path from a sender that has no more links is one that the try may take.
  pub most-may : (a b : NiId) (path : List LinkId) → Contains trial.from a
      → IsPath chip.links a b path → 1 ≤ length path → length path ≤ most_to chip trial a b
      → MayTake chip trial path
  most-may a b path sender route some few =
      let (pair, most) = pair-by a b (length path) (is_pair trial a b) refl some few in
      let (among, room) = and_parts (list_any (λ (n : NiId). eqb n.0 b.0) trial.to) _ pair in
      let (least, is, near, fits) =
      within-by trial.ask.detour (length path) (least_distance chip a b) some most in
      record {
        from = a;
        to = b;
        allowed = record {
          sender = sender;
          receiver = from-among trial.to b among;
          room = from-room trial.crowded a b (not-true _ room);
        };
        admissible = record {
          is_path = route;
          fits = fits;
          least = least;
          distance = subst (IsDistance chip.links a b) is
              (least_distance_is_distance chip is_chip a b);
          near = near;
        };
      }

-- ---- tables

-- An entry before the last stays, and the last is the new one.
pub at-before : (table : List ℕ) (new r : ℕ) → r < length table
    → slice_index (table ++ new ∷ []) r ≡ slice_index table r
at-before table new r low = get_or-append table (new ∷ []) 0 r low

pub at-last : (table : List ℕ) (new r : ℕ) → r ≡ length table
    → slice_index (table ++ new ∷ []) r ≡ new
at-last table new r last =
    ap (slice_index (table ++ new ∷ [])) last ∙ get_or-append_seam table new [] 0

-- There is one least number.
pub one-least : (links : List Link) (r : RouterId) (b : NiId) (more : ℕ) (told : Option ℕ)
    → IsOnwardDistance links r b (Some more) → IsOnwardDistance links r b told → Some more ≡ told
one-least links r b more told first second =
    IsLeast-unique (IsOnward links r b) (Some more) told first second

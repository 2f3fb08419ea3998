-- Levels of places are least numbers of links of paths.
use Rattle.std.proofs.Common.{◌≡◌, ◌⊎◌, ◌∙◌, ◌+◌, ◌<◌, ◌≤◌, ◌++◌, ℕ, suc, List, [], ◌∷◌, Option}
use Rattle.std.proofs.Common.{Some, None, length, slice_get, refl, sym, subst, inl, inr, arith}
use Rattle.std.proofs.lemmas.Option.{same_Some, slice_get_within, slice_get_cases}
use Rattle.std.specs.declared.{vec.Vec.Vec, alloc.Global.Global}
use Rattle.aeth_base.specs.declared.ids.{LinkId.LinkId, NiId.NiId, RouterId.RouterId}
use Rattle.aeth_chip.specs.declared.node.Link.{Link}
use Rattle.aeth_chip.specs.declared.node.Node.{Node, TheVariants.Router, TheVariants.Ni}
use Rattle.aeth_chip.specs.Paths.{Joins, AreDistinct, IsPath, IsOnward, IsLeast, IsDistance}
use Rattle.aeth_chip.specs.Paths.{IsOnwardDistance}
use Rattle.aeth_chip.specs.Levels.{AreLevels, AreOrigins, HasLevel, HasLevelWithin, HasLinkStep}
use Rattle.aeth_chip.specs.Levels.{HasPlace, HasPlaces, IsOrigin, ReachesGoal, node_place}
use Rattle.aeth_chip.specs.Distances.{AreRows, entry_in, entry_of}
use Rattle.aeth_chip.proofs.JoinedLaws.{joined-by, joins-first, joins-more, joins-none}
use Rattle.aeth_chip.proofs.PathLemmas.{IsShortest, shortest_distinct}
use Rattle.aeth_chip.proofs.WalkLemmas.{Walk, begins_placed, ends_placed, path_reaches}
use Rattle.aeth_chip.proofs.WalkLemmas.{reaches_path}

-- A level of a place is at most each bound of it.
at_least : (levels : List (Option ℕ)) (place k bound : ℕ) → HasLevel levels place k
    → HasLevelWithin levels place bound → k ≤ bound
at_least levels place k bound at (least, has, low) =
    let same : Some k ≡ Some least = same_Some (Some k) (Some least) (sym at ∙ has) in
    let equal : k ≡ least = same_Some k least same in
    omega arith

-- A row's entry is a least number of links, where each list with a property has at least the level
-- of the place, and some list has as many links as that.
row_least : (P : List LinkId → Type 0) (levels : List (Option ℕ)) (place : ℕ)
    → ((path : List LinkId) → P path → HasLevelWithin levels place (length path))
    → ((k : ℕ) → HasLevel levels place k → (path : List LinkId) × P path × (length path ≡ k))
    → IsLeast P (entry_in (slice_get levels place))
row_least P levels place bounds found =
    let go : (o : Option (Option ℕ)) → slice_get levels place ≡ o → IsLeast P (entry_in o) =
    elim [
      | None ↦ λ is path has.
          let (k, at, low) = bounds path has in
          let none : None ≡ Some (Some k) = sym is ∙ at in cc
      | Some o ↦ elim o as (λ p. slice_get levels place ≡ Some p → IsLeast P (entry_in (Some p))) [
        | None ↦ λ is path has.
            let (k, at, low) = bounds path has in
            let none : Some None ≡ Some (Some k) = sym is ∙ at in
            let inner : None ≡ Some k = same_Some None (Some k) none in cc
        | Some k ↦ λ is.
            let (path, has, long) = found k is in
            record {
              path = path;
              has = has;
              length_is = long;
              none_shorter = λ other has_other.
                  at_least levels place k (length other) is (bounds other has_other);
            }
      ]
    ] in
    go (slice_get levels place) refl

module _ (links : List Link) (routers places : ℕ) (placed : HasPlaces links routers places)
    (b : NiId)
    (levels : List (Option ℕ))
    (row : AreLevels (HasLinkStep links routers) routers (routers + b.0) places levels)
    (goal : routers + b.0 < places) where
  -- Each joined list has at least as many links as the level of the node where it begins.
  walk_bound : (a : Node) (rs : List RouterId) (path : List LinkId) → Joins links a rs (Ni b) path
      → (node_place routers a < routers) ⊎ (1 ≤ length rs)
      → HasLevelWithin levels (node_place routers a) (length path)
  walk_bound a rs path joins some =
      row.least (node_place routers a) (length path)
      (path_reaches links routers places placed a rs (Ni b) path joins some)

  -- A level is the number of links of some joined list.
  walk_found : (a : Node) → HasPlace routers places a → (k : ℕ)
      → HasLevel levels (node_place routers a) k
      → Walk links routers places placed a (Ni b) k
  walk_found a here k at =
      let reached = row.reached (node_place routers a) k at in
      subst (λ (n : ℕ). Walk links routers places placed a (Ni b) n) (sym reached.count)
      (reaches_path links routers places placed (Ni b) goal (omega arith) reached.between
      reached.are_routers a here reached.joined)

  -- The entry of a router.
  row_onward : (r : RouterId) → r.0 < routers
      → IsOnwardDistance links r b (entry_in (slice_get levels r.0))
  row_onward r router =
      row_least (IsOnward links r b) levels r.0
      (λ path has. walk_bound (Router r) has.routers path has.joins (inl router))
      (λ k at.
      let walk = walk_found (Router r) router k at in
      let shortest : IsShortest links r (Ni b) walk.path =
      λ rs other joins.
      let low = at_least levels r.0 k (length other) at (walk_bound (Router r) rs other joins
      (inl router)) in
      let long = walk.length_is in
      omega arith in (
        walk.path,
        record {
          routers = walk.rs;
          joins = walk.joins;
          distinct = shortest_distinct links r walk.rs (Ni b) walk.path walk.joins shortest;
        },
        walk.length_is,
      ))

  -- The routers of a shortest joined list from an interface are distinct.
  route_distinct : (a : NiId) (k : ℕ) → HasLevel levels (routers + a.0) k → (rs : List RouterId)
      (path : List LinkId) → Joins links (Ni a) rs (Ni b) path → length path ≡ k → 1 ≤ length rs
      → AreDistinct rs
  route_distinct a k at [] path joins long some = tt
  route_distinct a k at (r ∷ rs) [] joins long some =
      joins-none links (Ni a) (r ∷ rs) (Ni b) joins
  route_distinct a k at (r ∷ rs) (l ∷ path) joins long some =
      let (goes, rest) = joins-first links (Ni a) r rs (Ni b) l path joins in
      shortest_distinct links r rs (Ni b) path rest (λ others other joined.
      let low = at_least levels (routers + a.0) k (suc (length other)) at
      (walk_bound (Ni a) (r ∷ others) (l ∷ other)
      (joins-more links (Ni a) r others (Ni b) l other goes joined) (inr (omega arith))) in
      omega arith)

  -- The entry of an interface.
  pub row_between : (a : NiId) → IsDistance links a b (entry_in (slice_get levels (routers + a.0)))
  row_between a =
      row_least (IsPath links a b) levels (routers + a.0)
      (λ path has. walk_bound (Ni a) has.routers path has.joins (inr has.some))
      (λ k at.
      let within = slice_get_within levels (routers + a.0) (Some k) at in
      let size = row.size in
      let walk = walk_found (Ni a) (omega arith) k at in
      let some : 1 ≤ length walk.rs =
      elim walk.some [ inl low ↦ absurd (omega arith) | inr some ↦ some ] in (
        walk.path,
        record {
          routers = walk.rs;
          joins = walk.joins;
          distinct = route_distinct a k at walk.rs walk.path walk.joins walk.length_is some;
          some = some;
        },
        walk.length_is,
      ))

-- The same steps give the same levels.
reaches_by : (S T : ℕ → ℕ → Type 0) (routers goal : ℕ) → ((p q : ℕ) → S p q → T p q)
    → (n place : ℕ) → ReachesGoal S routers goal n place → ReachesGoal T routers goal n place
reaches_by S T routers goal steps n place reaches = record {
  between = reaches.between;
  are_routers = reaches.are_routers;
  joined = joined-by (λ q p. S p q) (λ p. p) (λ q p. T p q) (λ q p step. steps p q step) place
      (reaches.between ++ goal ∷ []) reaches.joined;
  count = reaches.count;
}

pub levels_by : (S T : ℕ → ℕ → Type 0) (routers goal places : ℕ) (levels : List (Option ℕ))
    → ((p q : ℕ) → S p q → T p q) → ((p q : ℕ) → T p q → S p q)
    → AreLevels S routers goal places levels → AreLevels T routers goal places levels
levels_by S T routers goal places levels there back row = record {
  size = row.size;
  reached = λ place level at.
      reaches_by S T routers goal there level place (row.reached place level at);
  least = λ place level reaches.
      row.least place level (reaches_by T S routers goal back level place reaches);
}

-- Each interface has a row: the rows have the least numbers of links.
pub rows_least : (links : List Link) (routers places : ℕ) (origins : List ℕ)
    (rows : List (Vec (Option ℕ) Global)) → HasPlaces links routers places
    → AreOrigins links routers places origins → length rows + routers ≡ places
    → ((b : ℕ) (row : Vec (Option ℕ) Global) → slice_get rows b ≡ Some row
    → AreLevels (IsOrigin origins) routers (routers + b) places row.items)
    → AreRows links routers rows
rows_least links routers places origins rows placed are_origins size each =
    let level_row : (b : ℕ) (row : Vec (Option ℕ) Global) → slice_get rows b ≡ Some row
    → AreLevels (HasLinkStep links routers) routers (routers + b) places row.items =
    λ b row is. levels_by (IsOrigin origins) (HasLinkStep links routers) routers (routers + b)
    places row.items are_origins.only are_origins.each (each b row is) in
    record {
      between = λ a b. elim ((slice_get_cases rows b.0).1) [
        | inl (row, within, is, at) ↦
            subst (λ (o : Option (Vec (Option ℕ) Global)).
            IsDistance links a b (entry_of o (routers + a.0))) (sym is)
            (row_between links routers places placed b row.items (level_row b.0 row is)
            (omega arith) a)
        | inr (past, is) ↦
            subst (λ (o : Option (Vec (Option ℕ) Global)).
            IsDistance links a b (entry_of o (routers + a.0))) (sym is)
            (λ path has.
            let low = ends_placed links routers places placed (Ni a) has.routers (Ni b) path
            has.joins in
            absurd (omega arith))
      ];
      onward = λ r b router. elim ((slice_get_cases rows b.0).1) [
        | inl (row, within, is, at) ↦
            subst (λ (o : Option (Vec (Option ℕ) Global)).
            IsOnwardDistance links r b (entry_of o r.0)) (sym is)
            (row_onward links routers places placed b row.items (level_row b.0 row is) (omega arith)
            r router)
        | inr (past, is) ↦
            subst (λ (o : Option (Vec (Option ℕ) Global)).
            IsOnwardDistance links r b (entry_of o r.0)) (sym is)
            (λ path has.
            let low = ends_placed links routers places placed (Router r) has.routers (Ni b) path
            has.joins in
            absurd (omega arith))
      ];
      beyond = λ r b far path has.
          let low = begins_placed links routers places placed (Router r) has.routers (Ni b) path
          has.joins in
          absurd (omega arith);
    }

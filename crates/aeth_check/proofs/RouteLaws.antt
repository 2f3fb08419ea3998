-- A path passes the test of routes exactly where it is admissible.
use Rattle.std.proofs.Common.{◌≡◌, ◌∙◌, ◌≤◌, ◌+◌, ℕ, true, List, Option, Some, None, length, refl}
use Rattle.std.proofs.Common.{sym, ap, subst, le-leb, leb-true}
use Rattle.std.proofs.lemmas.Bool.{and_from, and_parts, false≢true}
use Rattle.std.specs.Bool.{Decides}
use Rattle.aeth_base.specs.Limits.{max_path_links}
use Rattle.aeth_base.specs.declared.ids.{LinkId.LinkId, NiId.NiId}
use Rattle.aeth_chip.specs.{Chip.ChipData, Chip.IsChip, LeastDistance.least_distance}
use Rattle.aeth_chip.specs.{PathTests.is_path_between, Paths.IsAdmissible, Paths.IsDistance}
use Rattle.aeth_chip.proofs.LeastDistanceLemmas.{distance_is_least_distance}
use Rattle.aeth_chip.proofs.LeastDistanceLemmas.{least_distance_is_distance}
use Rattle.aeth_chip.proofs.PathTestLemmas.{is_path_between-Decides}
use Rattle.aeth_check.specs.Routes.{is_admissible, is_near}

near : (detour : ℕ) (path : List LinkId) (least : Option ℕ) → is_near detour least path ≡ true
    → (n : ℕ) × (least ≡ Some n) × (length path ≤ n + detour)
near detour path None found = absurd (false≢true found)
near detour path (Some n) found = (n, refl, leb-true (length path) (n + detour) found)

-- The test decides whether a path is admissible.
pub is_admissible-Decides : (chip : ChipData) → IsChip chip → (detour : ℕ) (a b : NiId)
    (path : List LinkId)
    → Decides (is_admissible chip detour a b path) (IsAdmissible chip.links detour a b path)
is_admissible-Decides chip is_chip detour a b path = (
  (λ found. let (route, onward) = and_parts (is_path_between chip.links a b path) _ found in
      let (fits, is_near) = and_parts _ _ onward in
      let (n, least, close) = near detour path (least_distance chip a b) is_near in
      record {
        is_path = (is_path_between-Decides chip.links a b path).0 route;
        fits = leb-true (length path) max_path_links fits;
        least = n;
        distance = subst (IsDistance chip.links a b) least
            (least_distance_is_distance chip is_chip a b);
        near = close;
      }),
  (λ is. let least = distance_is_least_distance chip is_chip a b (Some is.least) is.distance in
      and_from _ _ ((is_path_between-Decides chip.links a b path).1 is.is_path)
      (and_from _ _ (le-leb (length path) max_path_links is.fits)
      (ap (λ o. is_near detour o path) (sym least)
      ∙ le-leb (length path) (is.least + detour) is.near))),
)

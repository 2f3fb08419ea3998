-- Laws of groups: their numbers tell which use cases chains of smooth pairs join; each number below
-- that of groups is one; and they ascend with the least use cases.
use Rattle.std.proofs.Common.{◌≡◌, ◌∙◌, ◌<◌, ◌≤◌, ℕ, Bool, List, length, sym, ap, inl, inr, arith}
use Rattle.std.proofs.lemmas.Bool.{cases_order}
use Rattle.std.proofs.lemmas.List.{FromFn.length-range_with_len, Sums.count_by-le-length}
use Rattle.std.specs.List.{range_with_len}
use Rattle.aeth_app.specs.App.{UseData}
use Rattle.aeth_group.specs.{Chains.SameGroup, Groups.group_count, Groups.group_of}
use Rattle.aeth_group.specs.{Groups.in_one_group, Marks.marked, Numbering.class_of}
use Rattle.aeth_group.specs.{Numbering.first_with, Numbering.firsts_below, Numbering.is_first}
use Rattle.aeth_group.proofs.ChainLemmas.{in_one_group-refl, in_one_group-sym, in_one_group-trans}
use Rattle.aeth_group.proofs.ChainLemmas.{in_one_group_from_same_group}
use Rattle.aeth_group.proofs.ChainLemmas.{same_group_from_in_one_group}
use Rattle.aeth_group.proofs.NumberingLemmas.{AreClasses, class_first, class_of-below, class_of-lt}
use Rattle.aeth_group.proofs.NumberingLemmas.{class_of-same, class_of-joined, first_with-least}
use Rattle.aeth_group.proofs.NumberingLemmas.{belongs_to_first, first_with-low, firsts_below-same}
use Rattle.aeth_group.proofs.NumberingLemmas.{joined_from_class}

-- Being in one group is an equivalence.
groups_are_classes : (uses : List UseData) → AreClasses (in_one_group uses) (length uses)
groups_are_classes uses = record {
  itself = λ u within. in_one_group-refl uses u;
  back = in_one_group-sym uses;
  onward = in_one_group-trans uses;
}

-- Use cases that a chain joins have one group.
pub group_of_from_same_group : (uses : List UseData) (u v : ℕ) → u < length uses
    → v < length uses → SameGroup uses u v → group_of uses u ≡ group_of uses v
unfolding group_of
group_of_from_same_group uses u v first second joined =
    class_of-joined (in_one_group uses) (length uses) u v (groups_are_classes uses) first second
    (in_one_group_from_same_group uses u v joined)

-- Use cases with one group are joined by a chain.
pub same_group_from_group_of : (uses : List UseData) (u v : ℕ) → u < length uses
    → v < length uses → group_of uses u ≡ group_of uses v → SameGroup uses u v
unfolding group_of
same_group_from_group_of uses u v first second same =
    same_group_from_in_one_group uses u v
    (joined_from_class (in_one_group uses) (length uses) u v (groups_are_classes uses) first
    second same)

-- The number of a group is below that of groups.
pub group_of-below : (uses : List UseData) (u : ℕ) → u < length uses
    → group_of uses u < group_count uses
unfolding group_of group_count
group_of-below uses u within =
    class_of-below (in_one_group uses) (length uses) u (groups_are_classes uses) within

-- There are at most as many groups as use cases.
pub group_count-le : (uses : List UseData) → group_count uses ≤ length uses
unfolding group_count
group_count-le uses =
    let long = length-range_with_len 0 (length uses) in
    let most = count_by-le-length (is_first (in_one_group uses) (length uses))
    (range_with_len 0 (length uses)) in
    omega arith

-- The least use case of a group.
pub record GroupFirst (uses : List UseData) (g : ℕ) : Type 0 where
  pub first : ℕ
  pub below : first < length uses
  pub is : group_of uses first ≡ g
  pub least : (v : ℕ) → v < length uses → group_of uses v ≡ g → first ≤ v

-- Each number below that of groups is the number of a group.
pub group_first : (uses : List UseData) (g : ℕ) → g < group_count uses → GroupFirst uses g
unfolding group_of group_count
group_first uses g low =
    let test = in_one_group uses in
    let count = length uses in
    let class = class_first test count g low in
    record {
      first = class.first;
      below = class.below;
      is = class.is;
      least = λ v within is.
          let joined = joined_from_class test count class.first v (groups_are_classes uses)
          class.below within (class.is ∙ sym is) in
          let most = first_with-least test count class.first v joined in
          let least = class.least in
          omega arith;
    }

-- The least use case of a group comes first among those of its group.
first_with-group_first : (uses : List UseData) (g : ℕ) (first : GroupFirst uses g)
    → first_with (in_one_group uses) (length uses) first.first ≡ first.first
first_with-group_first uses g first =
    let test = in_one_group uses in
    let count = length uses in
    let u = first_with test count first.first in
    let classes = groups_are_classes uses in
    let low = first_with-low test count first.first classes first.below in
    let below = first.below in
    let joined = belongs_to_first test count first.first classes first.below in
    let same = group_of_from_same_group uses first.first u first.below (omega arith)
    (same_group_from_in_one_group uses first.first u joined) in
    let high = first.least u (omega arith) (sym same ∙ first.is) in
    omega arith

-- Groups are numbered in the order of their least use cases.
pub group_first-lt : (uses : List UseData) (g h : ℕ) (first : GroupFirst uses g)
    (second : GroupFirst uses h) → g < h → first.first < second.first
unfolding group_of
group_first-lt uses g h first second low =
    let test = in_one_group uses in
    let count = length uses in
    let mine = first_with-group_first uses g first in
    let other = first_with-group_first uses h second in
    let one = first.is in
    let two = second.is in
    elim (cases_order first.first second.first) [
      | inl same ↦
          let equal = ap (class_of test count) same in
          absurd (omega arith)
      | inr apart ↦ elim apart [
        | inl less ↦ less
        | inr more ↦
            let class = class_of-lt test count second.first first.first (groups_are_classes uses)
            second.below (omega arith) in
            absurd (omega arith)
      ]
    ]

-- ---- a table of marks that says which use cases are in one group

-- The class by the table is the group.
pub class_of-marked : (uses : List UseData) (marks : List Bool) (count u : ℕ)
    → ((a b : ℕ) → a < length uses → b < length uses → marked marks a b ≡ in_one_group uses a b)
    → count ≡ length uses → u < count → class_of (marked marks) count u ≡ group_of uses u
unfolding group_of
class_of-marked uses marks count u tells size within =
    ap (λ n. class_of (marked marks) n u) size
    ∙ class_of-same (marked marks) (in_one_group uses) (length uses) u (omega arith) tells

-- The classes by the table are the groups, in number.
pub firsts_below-marked : (uses : List UseData) (marks : List Bool) (count : ℕ)
    → ((a b : ℕ) → a < length uses → b < length uses → marked marks a b ≡ in_one_group uses a b)
    → count ≡ length uses → firsts_below (marked marks) count count ≡ group_count uses
unfolding group_count
firsts_below-marked uses marks count tells size =
    ap (λ n. firsts_below (marked marks) n n) size
    ∙ firsts_below-same (marked marks) (in_one_group uses) (length uses) (length uses) (omega arith)
    tells

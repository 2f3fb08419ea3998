-- What holds of the groups of an application.
use Rattle.std.proofs.Common.{◌∙◌, ◌<◌, ℕ, length, sym, refl, arith}
use Rattle.aeth_app.specs.App.{AppData}
use Rattle.aeth_group.specs.{AppGroups.HasLesser, AppGroups.IsGroupsOf, Groups.group_of}
use Rattle.aeth_group.specs.{Members.groups_of}
use Rattle.aeth_group.proofs.GroupLemmas.{group_first, group_first-lt, group_of-below}
use Rattle.aeth_group.proofs.GroupLemmas.{group_of_from_same_group, same_group_from_group_of}
use Rattle.aeth_group.proofs.MemberLemmas.{connections-groups_of, count-groups_of}
use Rattle.aeth_group.proofs.MemberLemmas.{group_at-groups_of, has_at-groups_of, length-groups_of}

-- A group with a lesser number has a use case before all those of one with a greater.
has_lesser : (app : AppData) (u v : ℕ) → u < length app.uses → v < length app.uses
    → group_of app.uses u < group_of app.uses v → HasLesser app.uses (groups_of app) u v
has_lesser app u v first second lesser =
    let uses = app.uses in
    let mine = group_first uses (group_of uses u) (group_of-below uses u first) in
    let other = group_first uses (group_of uses v) (group_of-below uses v second) in
    let before = group_first-lt uses (group_of uses u) (group_of uses v) mine other lesser in
    let least = other.least v second refl in
    record {
      use_case = mine.first;
      within = mine.below;
      same = group_at-groups_of app mine.first mine.below ∙ mine.is
          ∙ sym (group_at-groups_of app u first);
      before = omega arith;
    }

-- The groups of an application are those of its use cases.
pub is_groups_of : (app : AppData) → IsGroupsOf app (groups_of app)
is_groups_of app =
    let at = group_at-groups_of app in
    record {
      connections = connections-groups_of app;
      uses = length-groups_of app;
      below = λ u within. rw (at u within, count-groups_of app)
          (group_of-below app.uses u within);
      joined = λ u v first second. rw (at u first, at v second) (
        same_group_from_group_of app.uses u v first second,
        group_of_from_same_group app.uses u v first second,
      );
      ordered = λ u v first second lesser. has_lesser app u v first second
          (rw (at u first, at v second) at lesser);
      has = has_at-groups_of app;
    }

-- The verdict accepts a plan exactly where the plan is accepted.
use Rattle.std.proofs.Common.{◌≡◌, ◌∙◌, ◌↔◌, ℕ, Option, Some, None, refl, ap, sym, IsTrue}
use Rattle.std.proofs.Common.{unwrap_or}
use Rattle.std.proofs.lemmas.Option.{none-some, same_Some}
use Rattle.std.specs.{Bool.Decides, Option.option_or}
use Rattle.aeth_base.specs.declared.ids.{Side.Side, Unit.Unit as GroupUnit}
use Rattle.aeth_chip.specs.Chip.{ChipData, IsChip}
use Rattle.aeth_app.specs.App.{AppData}
use Rattle.aeth_group.specs.{Conflict.Conflict, Members.GroupsData, Members.is_member}
use Rattle.aeth_group.specs.{Members.units_of, declared.grant.Grant.Grant}
use Rattle.aeth_plan.specs.{Layout.first_grant_line, Layout.first_seat_line, Plan.PlanData}
use Rattle.aeth_plan.specs.{Accepted.HasSlots, Accepted.IsAccepted, Accepted.IsOnPath}
use Rattle.aeth_plan.specs.{Seated.IsOneSeat}
use Rattle.aeth_check.specs.declared.verdict.Verdict.{Verdict}
use Rattle.aeth_check.specs.declared.verdict.Verdict.TheVariants.{Accepted, Missing, Broken}
use Rattle.aeth_check.specs.Meetings.{conflicts}
use Rattle.aeth_check.specs.Seats.{is_one_seat}
use Rattle.aeth_check.specs.Verdict.{broken_line, broken_pair, conflict, lacking, missing}
use Rattle.aeth_check.specs.Verdict.{misseated, shared_seat, stranger, invalid_path, unfit_slots}
use Rattle.aeth_check.specs.Verdict.{verdict_of}
use Rattle.aeth_check.proofs.ChannelLaws.{fits_path-Decides, fits_slots-Decides, has_side-Decides}
use Rattle.aeth_check.proofs.ChannelLaws.{lacking_none, none_lacking}
use Rattle.aeth_check.proofs.ConflictLaws.{conflicts-Decides}
use Rattle.aeth_check.proofs.FirstLaws.{all_hold, two_apart}
use Rattle.aeth_check.proofs.SeatLaws.{is_one_seat-Decides, none_where_home, seated_at_home}

-- ---- What a rule answers

-- A rule that fails doesn't accept.
IsRefusal : Option Verdict → Type 0
IsRefusal rule = (verdict : Verdict) → rule ≡ Some verdict → verdict ≡ Accepted → ⊥

line_none : (rule : ℕ) (line : Option ℕ) → broken_line rule line ≡ None → line ≡ None
line_none rule None none = refl
line_none rule (Some line) none = absurd (none-some (Broken rule line 0) (sym none))

line_refuses : (rule : ℕ) (line : Option ℕ) → IsRefusal (broken_line rule line)
unfolding IsRefusal
line_refuses rule None = λ verdict is accepts. none-some verdict is
line_refuses rule (Some line) = λ verdict is accepts.
    let clash : Broken rule line 0 ≡ Accepted =
    same_Some (Broken rule line 0) verdict is ∙ accepts in cc clash

pair_none : (rule : ℕ) (lines : Option (ℕ × ℕ)) → broken_pair rule lines ≡ None → lines ≡ None
pair_none rule None none = refl
pair_none rule (Some p) none = absurd (none-some (Broken rule p.0 p.1) (sym none))

pair_refuses : (rule : ℕ) (lines : Option (ℕ × ℕ)) → IsRefusal (broken_pair rule lines)
unfolding IsRefusal
pair_refuses rule None = λ verdict is accepts. none-some verdict is
pair_refuses rule (Some p) = λ verdict is accepts.
    let clash : Broken rule p.0 p.1 ≡ Accepted =
    same_Some (Broken rule p.0 p.1) verdict is ∙ accepts in cc clash

missing_none : (side : Option (GroupUnit × Side)) → missing side ≡ None → side ≡ None
missing_none None none = refl
missing_none (Some p) none = absurd (none-some (Missing p.0 p.1) (sym none))

missing_refuses : (side : Option (GroupUnit × Side)) → IsRefusal (missing side)
unfolding IsRefusal
missing_refuses None = λ verdict is accepts. none-some verdict is
missing_refuses (Some p) = λ verdict is accepts.
    let clash : Missing p.0 p.1 ≡ Accepted =
    same_Some (Missing p.0 p.1) verdict is ∙ accepts in cc clash

-- Where a rule before others would refuse, and the plan is accepted, it doesn't fail.
first_or : (rule later : Option Verdict) → IsRefusal rule
    → unwrap_or (option_or rule later) Accepted ≡ Accepted
    → (rule ≡ None) × (unwrap_or later Accepted ≡ Accepted)
unfolding IsRefusal
first_or None later refuses accepts = (refl, accepts)
first_or (Some verdict) later refuses accepts = absurd (refuses verdict refl accepts)

last_or : (rule : Option Verdict) → IsRefusal rule → unwrap_or rule Accepted ≡ Accepted
    → rule ≡ None
unfolding IsRefusal
last_or None refuses accepts = refl
last_or (Some verdict) refuses accepts = absurd (refuses verdict refl accepts)

-- ---- The rules, one by one

-- No rule fails.
record NoneFails (chip : ChipData) (app : AppData) (groups : GroupsData) (plan : PlanData)
    : Type 0 where
  one : shared_seat plan ≡ None
  two : misseated app plan ≡ None
  three : stranger groups plan ≡ None
  four : lacking groups plan ≡ None
  five : invalid_path chip app plan ≡ None
  six : unfit_slots chip app plan ≡ None
  seven : conflict chip groups plan ≡ None

none_fails : (chip : ChipData) (app : AppData) (groups : GroupsData) (plan : PlanData)
    → verdict_of chip app groups plan ≡ Accepted → NoneFails chip app groups plan
unfolding shared_seat misseated stranger lacking invalid_path unfit_slots conflict
none_fails chip app groups plan accepts =
    let (one, later) = first_or (shared_seat plan) _ (pair_refuses 1 _) accepts in
    let (two, later) = first_or (misseated app plan) _ (line_refuses 2 _) later in
    let (three, later) = first_or (stranger groups plan) _ (line_refuses 3 _) later in
    let (four, later) = first_or (lacking groups plan) _ (missing_refuses _) later in
    let (five, later) = first_or (invalid_path chip app plan) _ (line_refuses 5 _) later in
    let (six, later) = first_or (unfit_slots chip app plan) _ (line_refuses 6 _) later in
    record {
      one = one;
      two = two;
      three = three;
      four = four;
      five = five;
      six = six;
      seven = last_or (conflict chip groups plan) (pair_refuses 7 _) later;
    }

accepts_none : (chip : ChipData) (app : AppData) (groups : GroupsData) (plan : PlanData)
    → NoneFails chip app groups plan → verdict_of chip app groups plan ≡ Accepted
accepts_none chip app groups plan none =
    rw (none.one, none.two, none.three, none.four, none.five, none.six, none.seven) refl

member_decides : (groups : GroupsData) (grant : Grant)
    → Decides (is_member groups grant.unit.group.0 grant.unit.conn.0)
    (IsTrue (is_member groups grant.unit.group.0 grant.unit.conn.0))
member_decides groups grant = ((λ is. is), (λ is. is))

accepted_from : (chip : ChipData) → IsChip chip → (app : AppData) (groups : GroupsData)
    (plan : PlanData) → NoneFails chip app groups plan → IsAccepted chip app groups plan
unfolding shared_seat misseated stranger lacking invalid_path unfit_slots conflict
accepted_from chip is_chip app groups plan none =
    let first = first_grant_line plan.seats in record {
      apart = (two_apart is_one_seat IsOneSeat first_seat_line plan.seats is_one_seat-Decides).0
          (pair_none 1 _ none.one);
      fixed = seated_at_home plan.seats app.cores (line_none 2 _ none.two);
      member = (all_hold (λ grant. is_member groups grant.unit.group.0 grant.unit.conn.0) _ first
          plan.grants (member_decides groups)).0 (line_none 3 _ none.three);
      whole = λ unit side has. (has_side-Decides plan unit side).0
          (none_lacking plan.grants (units_of groups) (missing_none _ none.four) unit side has);
      paths = (all_hold _ (IsOnPath chip app plan.seats) first plan.grants
          (fits_path-Decides chip is_chip app plan.seats)).0 (line_none 5 _ none.five);
      slots = (all_hold _ (HasSlots chip app) first plan.grants (fits_slots-Decides chip app)).0
          (line_none 6 _ none.six);
      clear = (two_apart (conflicts chip.links groups) (Conflict groups chip.links) first
          plan.grants (conflicts-Decides chip.links groups)).0 (pair_none 7 _ none.seven);
    }

none_from : (chip : ChipData) → IsChip chip → (app : AppData) (groups : GroupsData)
    (plan : PlanData) → IsAccepted chip app groups plan → NoneFails chip app groups plan
unfolding shared_seat misseated stranger lacking invalid_path unfit_slots conflict
none_from chip is_chip app groups plan accepted =
    let first = first_grant_line plan.seats in record {
      one = ap (broken_pair 1) ((two_apart is_one_seat IsOneSeat first_seat_line plan.seats
          is_one_seat-Decides).1 accepted.apart);
      two = ap (broken_line 2) (none_where_home plan.seats app.cores accepted.fixed);
      three = ap (broken_line 3) ((all_hold
          (λ grant. is_member groups grant.unit.group.0 grant.unit.conn.0) _ first plan.grants
          (member_decides groups)).1 accepted.member);
      four = ap missing (lacking_none plan.grants (units_of groups)
          (λ unit side has. (has_side-Decides plan unit side).1 (accepted.whole unit side has)));
      five = ap (broken_line 5) ((all_hold _ (IsOnPath chip app plan.seats) first plan.grants
          (fits_path-Decides chip is_chip app plan.seats)).1 accepted.paths);
      six = ap (broken_line 6) ((all_hold _ (HasSlots chip app) first plan.grants
          (fits_slots-Decides chip app)).1 accepted.slots);
      seven = ap (broken_pair 7) ((two_apart (conflicts chip.links groups)
          (Conflict groups chip.links) first plan.grants
          (conflicts-Decides chip.links groups)).1 accepted.clear);
    }

-- The verdict accepts exactly the plans that are accepted.
pub accepts : (chip : ChipData) → IsChip chip → (app : AppData) (groups : GroupsData)
    (plan : PlanData)
    → (verdict_of chip app groups plan ≡ Accepted) ↔ IsAccepted chip app groups plan
accepts chip is_chip app groups plan = (
  (λ is. accepted_from chip is_chip app groups plan (none_fails chip app groups plan is)),
  (λ accepted. accepts_none chip app groups plan
      (none_from chip is_chip app groups plan accepted)),
)

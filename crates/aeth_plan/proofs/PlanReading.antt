-- What is read of a plan text is what the text says.
use Rattle.std.proofs.Common.{◌≡◌, ◌∙◌, ℕ, List, length, Ok, refl, ap, subst, arith, eqb, nat_le}
use Rattle.std.proofs.Common.{nat_lt, eqb-true, leb-true, ltb-true}
use Rattle.std.proofs.lemmas.Bool.{and_parts, Decides.nat_tests}
use Rattle.std.specs.List.{list_all}
use Rattle.aeth_base.specs.Limits.{max_path_links, min_path_links}
use Rattle.aeth_chip.specs.Chip.{ChipData}
use Rattle.aeth_app.specs.{App.AppData, Limits.seats_per_ni}
use Rattle.aeth_group.specs.Members.{GroupsData}
use Rattle.aeth_group.specs.declared.grant.{Grant.Grant, SeatLine.SeatLine}
use Rattle.aeth_plan.specs.declared.text.SeatText.{SeatText}
use Rattle.aeth_plan.specs.Plan.{IsGrantOf, IsPlanOf, IsSeatOf, PlanData, connection_names}
use Rattle.aeth_plan.specs.Plan.{core_names, grant_before, seat_before}
use Rattle.aeth_plan.specs.PlanText.{grant_words, plan_in, plan_of, plan_text, plan_words}
use Rattle.aeth_plan.specs.PlanText.{seat_words}
use Rattle.aeth_plan.specs.Rules.{each, found, holds, known_grant, known_seat, ordered, place_among}
use Rattle.aeth_plan.specs.Spelling.{IsGrantText, IsSeatText, IsText, text_from}
use Rattle.aeth_plan.specs.Lines.{GrantWords, PlanWords, text_of}
use Rattle.aeth_plan.specs.Layout.{first_grant_line, first_seat_line}
use Rattle.aeth_plan.proofs.{Places.all_below, Places.ascends, Places.each_only, Places.found_ok}
use Rattle.aeth_plan.proofs.{Places.holds_ok, Places.is_none-None, Places.ordered_ok}
use Rattle.aeth_plan.proofs.{Places.place_only, TextLaws.text_only, Chains.ok_is}
use Rattle.aeth_plan.proofs.{NameCounts.length-connection_names, NameCounts.length-core_names}
use Rattle.aeth_document.proofs.ChainLemmas.{bind_ok}
use Rattle.aeth_text.{specs.Order.misplaced, proofs.OrderLaws.rises}

seat_only : (chip : ChipData) (app : AppData) (line : ℕ) (text : SeatText) (seat : SeatLine)
    → IsSeatText text → known_seat chip app line text ≡ Ok seat
    → (seat_words chip app seat ≡ text) × IsSeatOf chip app seat
unfolding known_seat
seat_only chip app line text seat has e =
    let (core, e1, r1) = bind_ok (found line 2 (place_among (core_names app) text.core)) _ seat e in
    let (ni, e2, r2) = bind_ok (found line 3 (place_among chip.nis text.ni)) _ seat r1 in
    let (u, e3, r3) = bind_ok (holds line 4 (nat_lt text.seat seats_per_ni)) _ seat r2 in
    let made : SeatLine =
    record { core = record { 0 = core }; ni = record { 0 = ni }; seat = text.seat } in
    let cores = place_only (core_names app) text.core core (found_ok line 2 _ core e1) in
    let nis = place_only chip.nis text.ni ni (found_ok line 3 _ ni e2) in
    subst (λ (s : SeatLine). (seat_words chip app s ≡ text) × IsSeatOf chip app s)
    (ok_is made seat r3) (
      rw (cores.1, nis.1) refl,
      record {
        core = omega (arith, cores.0, length-core_names app);
        ni = nis.0;
        seat = ltb-true text.seat seats_per_ni (holds_ok line 4 _ u e3);
      },
    )

grant_only : (chip : ChipData) (app : AppData) (groups : GroupsData) (line : ℕ)
    (text : GrantWords) (grant : Grant) → IsGrantText text
    → known_grant chip app groups line text ≡ Ok grant
    → (grant_words app grant ≡ text) × IsGrantOf chip app groups grant
unfolding known_grant
grant_only chip app groups line text grant has e =
    let (conn, e1, r1) =
    bind_ok (found line 2 (place_among (connection_names app) text.conn)) _ grant e in
    let (u2, e2, r2) = bind_ok (holds line 3 (nat_lt text.group groups.count)) _ grant r1 in
    let (u3, e3, r3) =
    bind_ok (holds line 5 (list_all (λ link. nat_lt link.0 (length chip.links)) text.links)) _
    grant r2 in
    let (u4, e4, r4) =
    bind_ok (holds line 6 (list_all (λ start. nat_lt start chip.slots) text.starts)) _ grant r3 in
    let made : Grant = record {
      unit = record { conn = record { 0 = conn }; group = record { 0 = text.group } };
      side = text.side;
      path = text.links;
      slots = record { size = chip.slots; slots = text.starts };
    } in
    let conns = place_only (connection_names app) text.conn conn (found_ok line 2 _ conn e1) in
    let (least, most) = and_parts (nat_le min_path_links (length text.links)) _ has.is_path in
    let (one, rising) = and_parts (nat_le 1 (length text.starts)) _ has.ascending in
    let below = all_below (λ start. start) chip.slots text.starts (holds_ok line 6 _ u4 e4) in
    subst (λ (g : Grant). (grant_words app g ≡ text) × IsGrantOf chip app groups g)
    (ok_is made grant r4) (
      rw conns.1 refl,
      record {
        conn = omega (arith, conns.0, length-connection_names app);
        group = ltb-true text.group groups.count (holds_ok line 3 _ u2 e2);
        some_links = leb-true min_path_links (length text.links) least;
        few_links = leb-true (length text.links) max_path_links most;
        links = all_below (λ link. link.0) (length chip.links) text.links (holds_ok line 5 _ u3 e3);
        size = refl;
        some_starts = grind (arith, nat_tests);
        starts = ascends chip.slots text.starts (rises nat_lt 0 text.starts (is_none-None _ rising))
            below;
      },
    )

in_only : (chip : ChipData) (app : AppData) (groups : GroupsData) (text : PlanWords)
    (plan : PlanData) → IsText text → plan_in chip app groups text ≡ Ok plan
    → (plan_words chip app plan ≡ text) × IsPlanOf chip app groups plan
unfolding plan_in
in_only chip app groups text plan has e =
    let (u1, e1, r1) = bind_ok (holds 1 3 (eqb text.slots chip.slots)) _ plan e in
    let (seats, e2, r2) =
    bind_ok (each (known_seat chip app) first_seat_line text.seats) _ plan r1 in
    let (grants, e3, r3) =
    bind_ok (each (known_grant chip app groups) (first_grant_line text.seats) text.grants) _ plan
    r2 in
    let (u4, e4, r4) = bind_ok (ordered (misplaced seat_before first_seat_line seats)) _ plan r3 in
    let (u5, e5, r5) =
    bind_ok (ordered (misplaced grant_before (first_grant_line text.seats) grants)) _ plan r4 in
    let made : PlanData = record { slots = text.slots; seats = seats; grants = grants } in
    let size : text.slots ≡ chip.slots = eqb-true text.slots chip.slots (holds_ok 1 3 _ u1 e1) in
    let known_seats = each_only (known_seat chip app) (seat_words chip app) IsSeatText
    (IsSeatOf chip app) (seat_only chip app) first_seat_line text.seats seats has.seats e2 in
    let known_grants = each_only (known_grant chip app groups) (grant_words app) IsGrantText
    (IsGrantOf chip app groups) (grant_only chip app groups) (first_grant_line text.seats)
    text.grants
    grants has.grants e3 in
    subst (λ (p : PlanData). (plan_words chip app p ≡ text) × IsPlanOf chip app groups p)
    (ok_is made plan r5) (
      rw (known_seats.0, known_grants.0) refl,
      record {
        slots = size;
        seats = known_seats.1;
        grants = known_grants.1;
        in_order = record {
          seats = rises seat_before first_seat_line seats (ordered_ok _ u4 e4);
          grants = rises grant_before (first_grant_line text.seats) grants (ordered_ok _ u5 e5);
        };
      },
    )

-- A text of which the plan is read is the text of this plan, and the plan is one for the chip, the
-- application and its groups.
pub plan_only : (chip : ChipData) (app : AppData) (groups : GroupsData) (bytes : List ℕ)
    (plan : PlanData) → plan_of chip app groups bytes ≡ Ok plan
    → (plan_text chip app plan ≡ bytes) × IsPlanOf chip app groups plan
unfolding plan_of plan_text
plan_only chip app groups bytes plan e =
    let (text, is, made) = bind_ok (text_of bytes) (plan_in chip app groups) plan e in
    let (same, has) = text_only bytes text is in
    let (words, of) = in_only chip app groups text plan has made in
    (ap text_from words ∙ same, of)

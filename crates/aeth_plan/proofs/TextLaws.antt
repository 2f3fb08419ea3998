-- What a text says and the text of what is said: the one is the other, both ways.
use Rattle.std.proofs.Common.{◌≡◌, ◌≤◌, ◌∙◌, ℕ, Bool, true, false, cond, List, [], ◌∷◌, ◌++◌}
use Rattle.std.proofs.Common.{length, map, Option, Some, None, Ok, Err, refl, ap, subst, arith}
use Rattle.std.proofs.Common.{codes}
use Rattle.std.proofs.lemmas.Slice.Eq.{bytes_eq-Decides}
use Rattle.std.specs.{List.AllByRecursion, Str.bytes_eq}
use Rattle.aeth_text.specs.{Grammar.behind, Grammar.leading, Grammar.lines_of, Grammar.rest_of}
use Rattle.aeth_text.specs.{Limits.line_feed, Limits.max_number, Order.line_after}
use Rattle.aeth_text.specs.{Spelling.text_of_lines}
use Rattle.aeth_text.proofs.LineLaws.{Stops, behind_again, leading_again, leading_only, lines_again}
use Rattle.aeth_text.proofs.LineLaws.{lines_only, rest_again}
use Rattle.aeth_text.proofs.PartLaws.{Above}
use Rattle.aeth_plan.specs.Layout.{first_grant_line}
use Rattle.aeth_plan.specs.Lines.{GrantWords, PlanWords, body_in, closed, ended, grant_in, head_in}
use Rattle.aeth_plan.specs.Lines.{is_end, seat_in, text_in, text_of, with_head}
use Rattle.aeth_plan.specs.Refusals.{bad_line}
use Rattle.aeth_plan.specs.Spelling.{IsGrantText, IsSeatText, IsText, grant_line, lines_from}
use Rattle.aeth_plan.specs.Spelling.{seat_line, text_from}
use Rattle.aeth_plan.specs.declared.text.SeatText.{SeatText}
use Rattle.aeth_plan.proofs.Chains.{err_ok, ok_is}
use Rattle.aeth_plan.proofs.LineForms.{reads_grant, reads_head, reads_seat}
use Rattle.aeth_document.proofs.ChainLemmas.{bind_ok}

-- ---- No line has two forms

first_byte : List ℕ → ℕ
first_byte [] = 0
first_byte (byte ∷ bytes) = byte

begins : (seat : SeatText) (grant : GrantWords) → seat_line seat ≡ grant_line grant → ⊥
unfolding seat_line grant_line first_byte
begins seat grant same =
    let letter : 115 ≡ 103 = ap first_byte same in
    omega (arith, letter)

seat_not_grant : (grant : GrantWords) → seat_in (grant_line grant) ≡ None
seat_not_grant grant =
    let cases : (o : Option SeatText) → seat_in (grant_line grant) ≡ o
    → seat_in (grant_line grant) ≡ None =
    elim [
      | None ↦ λ is. is
      | Some seat ↦ λ is. absurd (begins seat grant (reads_seat.only (grant_line grant) seat is).0)
    ]
    in cases (seat_in (grant_line grant)) refl

seat_not_end : seat_in (codes "end") ≡ None
unfolding seat_in
seat_not_end = refl

grant_not_end : grant_in (codes "end") ≡ None
unfolding grant_in
grant_not_end = refl

-- ---- The end

ended_only : (line : ℕ) (lines : List (List ℕ)) (rest : List ℕ) (u : Unit {0})
    → ended line lines rest ≡ Ok u → (lines ≡ []) × (rest ≡ [])
ended_only line [] [] u e = (refl, refl)
ended_only line [] (byte ∷ rest) u e = absurd (err_ok _ u e)
ended_only line (other ∷ lines) rest u e = absurd (err_ok _ u e)

closed_only : (line : ℕ) (lines : List (List ℕ)) (rest : List ℕ) (u : Unit {0})
    → closed line lines rest ≡ Ok u → (lines ≡ codes "end" ∷ []) × (rest ≡ [])
unfolding is_end
closed_only line [] rest u e = absurd (err_ok _ u e)
closed_only line (last ∷ lines) rest u e =
    let cases : (b : Bool) → bytes_eq last (codes "end") ≡ b
    → cond b (ended (line_after line 1) lines rest) (Err (bad_line line)) ≡ Ok u
    → ((last ∷ lines) ≡ codes "end" ∷ []) × (rest ≡ []) =
    elim [
      | true ↦ λ is closed.
          let word : last ≡ codes "end" = (bytes_eq-Decides last (codes "end")).0 is in
          let (none, nothing) = ended_only (line_after line 1) lines rest u closed in
          (rw (word, none) refl, nothing)
      | false ↦ λ is closed. absurd (err_ok _ u closed)
    ]
    in cases (bytes_eq last (codes "end")) refl e

-- ---- The body

end_lines : List (List ℕ)
end_lines = codes "end" ∷ []

stops_grants : (grants : List GrantWords) → Stops seat_in (map grant_line grants ++ end_lines)
unfolding end_lines
stops_grants [] = seat_not_end
stops_grants (grant ∷ grants) = seat_not_grant grant

-- The lines of seats and grants, and the end.
abbrev body_lines : List SeatText → List GrantWords → List (List ℕ)
body_lines seats grants = map seat_line seats ++ (map grant_line grants ++ codes "end" ∷ [])

body_again : (text : PlanWords) → IsText text
    → body_in text.slots (body_lines text.seats text.grants) [] ≡ Ok text
unfolding body_in end_lines is_end
body_again text has =
    let end = codes "end" ∷ [] in
    let later = map grant_line text.grants ++ end in
    let stops = stops_grants text.grants in
    let seats = leading_again reads_seat text.seats later has.seats stops in
    let behind_seats = behind_again reads_seat text.seats later has.seats stops in
    let grants = leading_again reads_grant text.grants end has.grants grant_not_end in
    let behind_grants = behind_again reads_grant text.grants end has.grants grant_not_end in
    rw (behind_seats, seats, grants, behind_grants) refl

body_only : (slots : ℕ) (lines : List (List ℕ)) (rest : List ℕ) (text : PlanWords)
    → body_in slots lines rest ≡ Ok text
    → (body_lines text.seats text.grants ≡ lines) × (rest ≡ []) × (slots ≡ text.slots)
    × AllByRecursion IsSeatText text.seats × AllByRecursion IsGrantText text.grants
unfolding body_in
body_only slots lines rest text e =
    let later = behind seat_in lines in
    let made : PlanWords = record {
      slots = slots;
      seats = leading seat_in lines;
      grants = leading grant_in later;
    } in
    let number = line_after (first_grant_line (leading seat_in lines))
    (length (leading grant_in later)) in
    let (u, is, same) =
    bind_ok (closed number (behind grant_in later) rest) (λ u. Ok made) text e in
    let (last, none) = closed_only number (behind grant_in later) rest u is in
    let (seats, are_seats) = leading_only reads_seat lines in
    let (grants, are_grants) = leading_only reads_grant later in
    subst (λ (t : PlanWords). (body_lines t.seats t.grants ≡ lines) × (rest ≡ [])
    × (slots ≡ t.slots) × AllByRecursion IsSeatText t.seats
    × AllByRecursion IsGrantText t.grants) (ok_is made text same)
    (rw (← last) (rw grants seats), none, refl, are_seats, are_grants)

-- ---- The whole text

above_seats : (seats : List SeatText) → AllByRecursion IsSeatText seats → (lines : List (List ℕ))
    → AllByRecursion (Above line_feed) lines
    → AllByRecursion (Above line_feed) (map seat_line seats ++ lines)
above_seats [] has lines above = above
above_seats (seat ∷ seats) has lines above =
    (reads_seat.good seat has.0, above_seats seats has.1 lines above)

above_grants : (grants : List GrantWords) → AllByRecursion IsGrantText grants
    → (lines : List (List ℕ)) → AllByRecursion (Above line_feed) lines
    → AllByRecursion (Above line_feed) (map grant_line grants ++ lines)
above_grants [] has lines above = above
above_grants (grant ∷ grants) has lines above =
    (reads_grant.good grant has.0, above_grants grants has.1 lines above)

above_end : AllByRecursion (Above line_feed) (codes "end" ∷ [])
above_end = ((omega arith, (omega arith, (omega arith, tt))), tt)

above_text : (text : PlanWords) → IsText text → AllByRecursion (Above line_feed) (lines_from text)
unfolding lines_from
above_text text has = (
  reads_head.good text.slots has.slots,
  above_seats text.seats has.seats _
      (above_grants text.grants has.grants _ above_end),
)

lines_in : (text : PlanWords) → IsText text → text_in (lines_from text) [] ≡ Ok text
unfolding lines_from
lines_in text has = rw (reads_head.again text.slots has.slots) (body_again text has)

-- What was written of a text's words is read again.
pub text_again : (text : PlanWords) → IsText text → text_of (text_from text) ≡ Ok text
unfolding text_of
text_again text has =
    let above = above_text text has in
    rw (lines_again (lines_from text) above, rest_again (lines_from text) above)
    (lines_in text has)

in_only : (lines : List (List ℕ)) (rest : List ℕ) (text : PlanWords)
    → text_in lines rest ≡ Ok text → (lines_from text ≡ lines) × (rest ≡ []) × IsText text
unfolding lines_from
in_only [] rest text e = absurd (err_ok _ text e)
in_only (first ∷ lines) rest text e =
    let cases : (o : Option ℕ) → head_in first ≡ o → with_head o lines rest ≡ Ok text
    → (lines_from text ≡ (first ∷ lines)) × (rest ≡ []) × IsText text =
    elim [
      | None ↦ λ is read. absurd (err_ok _ text read)
      | Some slots ↦ λ is read.
          let (same, none, same_slots, seats, grants) = body_only slots lines rest text read in
          let (head, small) = reads_head.only first slots is in (
            rw (← same_slots, head, same) refl,
            none,
            record {
              slots = subst (λ n. n ≤ max_number) same_slots small;
              seats = seats;
              grants = grants;
            },
          )
    ]
    in cases (head_in first) refl e

-- A text that says something is the text of what it says.
pub text_only : (bytes : List ℕ) (text : PlanWords) → text_of bytes ≡ Ok text
    → (text_from text ≡ bytes) × IsText text
unfolding text_of
text_only bytes text e =
    let (lines, none, has) = in_only (lines_of bytes) (rest_of bytes) text e in
    (ap (text_of_lines) lines ∙ lines_only bytes none, has)

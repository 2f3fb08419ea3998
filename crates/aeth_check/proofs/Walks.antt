-- Walks over lists by place.
use Rattle.std.proofs.Common.{◌≡◌, ◌+◌, ◌∙◌, ◌||◌, ℕ, Bool, true, false, List, drop, Some, Option}
use Rattle.std.proofs.Common.{slice_get, sym, ap}
use Rattle.std.proofs.lemmas.Bool.{cond-false, cond-true}
use Rattle.std.specs.List.{list_any}
use Rattle.aeth_app.specs.declared.connection.Core.{Core}
use Rattle.aeth_group.specs.declared.grant.SeatLine.{SeatLine}
use Rattle.aeth_base.proofs.Lists.{drop-slice_get}
use Rattle.aeth_check.specs.Seats.{first_misseated, is_misseated, seat_line}

-- An item passes at a place, so some item passes.
pub any_here : {X : Type 0} (test : X → Bool) (xs : List X) (i : ℕ) (x : X) (total : Bool)
    → slice_get xs i ≡ Some x → test x ≡ true → list_any test (drop i xs) ≡ total → true ≡ total
any_here test xs i x total at passes so_far =
    sym (ap (list_any test) (drop-slice_get xs i x at)
    ∙ ap (λ b. b || list_any test (drop (i + 1) xs)) passes) ∙ so_far

-- No item passes at a place, so one passes where one behind it does.
pub any_on : {X : Type 0} (test : X → Bool) (xs : List X) (i : ℕ) (x : X) (total : Bool)
    → slice_get xs i ≡ Some x → test x ≡ false → list_any test (drop i xs) ≡ total
    → list_any test (drop (i + 1) xs) ≡ total
any_on test xs i x total at fails so_far =
    sym (ap (list_any test) (drop-slice_get xs i x at)
    ∙ ap (λ b. b || list_any test (drop (i + 1) xs)) fails) ∙ so_far

-- A core that is seated elsewhere is the first that is, from its place on.
pub misseated_here : (seats : List SeatLine) (cores : List Core) (i : ℕ) (one : Core)
    (total : Option ℕ) → slice_get cores i ≡ Some one
    → is_misseated seats (record { 0 = i }) one ≡ true
    → first_misseated seats i (drop i cores) ≡ total
    → Some (seat_line seats (record { 0 = i })) ≡ total
misseated_here seats cores i one total at elsewhere so_far =
    sym (ap (first_misseated seats i) (drop-slice_get cores i one at)
    ∙ cond-true (is_misseated seats (record { 0 = i }) one) _ _ elsewhere) ∙ so_far

-- Past another core the first is among those that are left.
pub misseated_on : (seats : List SeatLine) (cores : List Core) (i : ℕ) (one : Core)
    (total : Option ℕ) → slice_get cores i ≡ Some one
    → is_misseated seats (record { 0 = i }) one ≡ false
    → first_misseated seats i (drop i cores) ≡ total
    → first_misseated seats (i + 1) (drop (i + 1) cores) ≡ total
misseated_on seats cores i one total at seated so_far =
    sym (ap (first_misseated seats i) (drop-slice_get cores i one at)
    ∙ cond-false (is_misseated seats (record { 0 = i }) one) _ _ seated) ∙ so_far

-- Laws of free starts: what the test of a path says, place by place.
use Rattle.std.proofs.Common.{◌≡◌, ◌+◌, ◌%◌, ◌&&◌, ◌↔◌, ℕ, zero, suc, true, false, List, [], ◌∷◌}
use Rattle.std.proofs.Common.{Contains, Some, slice_get, refl, arith}
use Rattle.std.proofs.lemmas.Bool.{and_from, and_parts, both_ways, false_from_ne_true, not-true}
use Rattle.std.proofs.lemmas.Bool.{not_from_false}
use Rattle.std.proofs.lemmas.Option.{none-some, same_Some}
use Rattle.aeth_base.specs.declared.ids.{LinkId.LinkId, Unit.Unit as GroupUnit}
use Rattle.aeth_base.proofs.TestLemmas.{IsTrue_from_true, true_from_IsTrue}
use Rattle.aeth_chip.{specs.Paths.delay_of, specs.Paths.offset, proofs.OffsetLemmas.offset-behind}
use Rattle.aeth_slots.proofs.TestLemmas.{Contains-where}
use Rattle.aeth_book.specs.Book.{BookData}
use Rattle.aeth_book.specs.Free.{IsFreeStart, free_starts, is_open, is_rival, is_taken}
use Rattle.aeth_group.{specs.Occupation.occupies, proofs.OccupationLemmas.occupies-Decides}
use Rattle.aeth_group.{proofs.ListLemmas.any_from_passes, proofs.ListLemmas.passes_from_any}

-- No rival occupies the link at any place, in the slot in which a flit enters it that starts in a
-- slot and so many cycles later enters the path.
abbrev pub IsClear : BookData → GroupUnit → ℕ → List LinkId → ℕ → Type 0
IsClear book unit after path x = (place : ℕ) (link : LinkId) → slice_get path place ≡ Some link
    → is_taken book unit link.0 ((x + (after + offset book.links path place)) % book.size) ≡ false

clear_from_open : (book : BookData) (unit : GroupUnit) (after : ℕ) (path : List LinkId) (x : ℕ)
    → is_open book unit after path x ≡ true → IsClear book unit after path x
clear_from_open book unit after [] x opens place link at = absurd (none-some link at)
clear_from_open book unit after (k ∷ path) x opens zero link at =
    let first : k ≡ link = same_Some k link at in
    let now : after + 0 ≡ after = omega arith in
    let clear = not-true _ (and_parts _ _ opens).0 in
    rw (← first, now) clear
clear_from_open book unit after (k ∷ path) x opens (suc place) link at =
    let rest = clear_from_open book unit (after + delay_of book.links k) path x
    (and_parts _ _ opens).1 place link at in
    rw (offset-behind book.links after k path place) rest

open_from_clear : (book : BookData) (unit : GroupUnit) (after : ℕ) (path : List LinkId) (x : ℕ)
    → IsClear book unit after path x → is_open book unit after path x ≡ true
open_from_clear book unit after [] x clear = refl
open_from_clear book unit after (k ∷ path) x clear =
    let now : after + 0 ≡ after = omega arith in
    let first : is_taken book unit k.0 ((x + after) % book.size) ≡ false =
    rw now at (clear 0 k refl) in
    and_from _ _ (not_from_false _ first)
    (open_from_clear book unit (after + delay_of book.links k) path x
    (λ place link at. rw (offset-behind book.links after k path place) at (clear (suc place) link at)))

-- The free starts of a path are those slots of the table.
pub free_starts-each : (book : BookData) (unit : GroupUnit) (path : List LinkId) (start : ℕ)
    → Contains (free_starts book unit path).slots start ↔ IsFreeStart book unit path start
free_starts-each book unit path start =
    let is = Contains-where book.size (is_open book unit 0 path) start in
    let at : ℕ → ℕ = λ place. (start + offset book.links path place) % book.size in
    let now : (place : ℕ) → 0 + offset book.links path place ≡ offset book.links path place =
    λ place. omega arith in (
      (λ has. let (below, opens) = is.0 has in record {
        below = below;
        clear = λ place link grant on has' rival holds.
            both_ways (is_taken book unit link.0 (at place))
            (rw (now place) at (clear_from_open book unit 0 path start opens place link on))
            (any_from_passes
            (λ g. is_rival book.groups unit g && occupies book.links g link.0 (at place))
            book.grants grant has'
            (and_from _ _ (true_from_IsTrue _ rival)
            ((occupies-Decides book.links grant link.0 (at place)).1 holds)));
      }),
      (λ free. is.1 (
        free.below,
        open_from_clear book unit 0 path start
            (λ place link on. rw (now place) (false_from_ne_true _ (λ taken.
            let rival = passes_from_any
            (λ g. is_rival book.groups unit g && occupies book.links g link.0 (at place))
            book.grants
            taken in
            let (is_rival', holds) =
            and_parts (is_rival book.groups unit rival.item) _ rival.passes in
            free.clear place link rival.item on rival.is_in (IsTrue_from_true _ is_rival')
            ((occupies-Decides book.links rival.item link.0 (at place)).0 holds)))),
      )),
    )

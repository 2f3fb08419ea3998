-- The first item that meets one behind it, and the first pair.
use Rattle.std.proofs.Common.{◌≡◌, ◌∙◌, ◌<◌, ◌≤◌, ◌+◌, ◌-◌, ◌||◌, ℕ, suc, Bool, true, false, cond}
use Rattle.std.proofs.Common.{List, [], ◌∷◌, Option, Some, None, drop, length, slice_get, refl, sym}
use Rattle.std.proofs.Common.{ap, arith, get_or, take, IfSome, length-drop, take_all}
use Rattle.std.proofs.lemmas.Bool.{cond-false, cond-true, false≢true}
use Rattle.std.proofs.lemmas.Option.{none-some, same_Some, slice_get-get_or, slice_get_within}
use Rattle.std.proofs.lemmas.List.{drop_more}
use Rattle.std.specs.List.{list_any}
use Rattle.aeth_text.specs.{Limits.last_line, Order.line_after}
use Rattle.aeth_base.proofs.Lists.{drop-slice_get}
use Rattle.aeth_check.specs.Calls.{first_meeting}
use Rattle.aeth_check.specs.Firsts.{first_line, first_pair, pair_or}

module _ {X : Type 0} where
  -- Where some item passes, there is a first one.
  pub line_of_some : (test : X → Bool) (line : ℕ) (xs : List X) → list_any test xs ≡ true
      → first_line test line xs ≡ None → ⊥
  line_of_some test line [] some none = false≢true some
  line_of_some test line (x ∷ xs) some none =
      let cases : (b : Bool) → (b || list_any test xs) ≡ true
      → cond b (Some line) (first_line test (line_after line 1) xs) ≡ None → ⊥ =
      elim [
        | true ↦ λ some none. none-some line (sym none)
        | false ↦ λ some none. line_of_some test (line_after line 1) xs some none
      ]
      in cases (test x) some none

  -- Where none passes, there is none.
  pub line_of_none : (test : X → Bool) (line : ℕ) (xs : List X) → list_any test xs ≡ false
      → first_line test line xs ≡ None
  line_of_none test line [] none = refl
  line_of_none test line (x ∷ xs) none =
      let cases : (b : Bool) → (b || list_any test xs) ≡ false
      → cond b (Some line) (first_line test (line_after line 1) xs) ≡ None =
      elim [
        | true ↦ λ none. absurd (false≢true (sym none))
        | false ↦ λ none. line_of_none test (line_after line 1) xs none
      ]
      in cases (test x) none

  -- Where no item meets one behind it, there is no pair.
  pub no_pair : (test : X → X → Bool) (place line : ℕ) (xs : List X)
      → first_meeting test place xs ≡ None → first_pair test line xs ≡ None
  no_pair test place line [] none = refl
  no_pair test place line (x ∷ xs) none =
      let cases : (b : Bool) → list_any (test x) xs ≡ b
      → cond b (Some place) (first_meeting test (place + 1) xs) ≡ None
      → first_pair test line (x ∷ xs) ≡ None =
      elim [
        | true ↦ λ is none. absurd (none-some place (sym none))
        | false ↦ λ is none.
            ap (λ o. pair_or line o (first_pair test (line_after line 1) xs))
            (line_of_none (test x) (line_after line 1) xs is)
            ∙ no_pair test (place + 1) (line_after line 1) xs none
      ]
      in cases (list_any (test x) xs) refl none

  -- An item that meets one behind it, at a place, and the pair that it gives.
  pub record FirstMeeting (test : X → X → Bool) (line : ℕ) (xs : List X) (place : ℕ) : Type 0 where
    pub item : X
    pub at : slice_get xs place ≡ Some item
    pub meets : list_any (test item) (drop (place + 1) xs) ≡ true
    pub pair : (other : ℕ)
        → first_line (test item) (line_after (line_after line place) 1) (drop (place + 1) xs)
        ≡ Some other
        → first_pair test line xs ≡ Some (line_after line place, other)

  -- The first item that meets one behind it gives the first pair.
  pub pair_of_meeting : (test : X → X → Bool) (place line : ℕ) (xs : List X) (found : ℕ)
      → line ≤ last_line → first_meeting test place xs ≡ Some found
      → (i : ℕ) × (found ≡ place + i) × FirstMeeting test line xs i
  pair_of_meeting test place line [] found low is = absurd (none-some found is)
  pair_of_meeting test place line (x ∷ xs) found low is =
      let here : list_any (test x) xs ≡ true → Some place ≡ Some found
      → (i : ℕ) × (found ≡ place + i) × FirstMeeting test line (x ∷ xs) i =
      λ meets same.
      let same_place : place ≡ found = same_Some place found same in
      let same_line : line_after line 0 ≡ line = omega arith in (
        0,
        omega (arith, same_place),
        record {
          item = x;
          at = refl;
          meets = meets;
          pair = λ other first. rw same_line
              (ap (λ o. pair_or line o (first_pair test (line_after line 1) xs))
              (rw same_line at first));
        },
      ) in
      let behind : list_any (test x) xs ≡ false → first_meeting test (place + 1) xs ≡ Some found
      → (i : ℕ) × (found ≡ place + i) × FirstMeeting test line (x ∷ xs) i =
      λ none later.
      let (i, at, rest) =
      pair_of_meeting test (place + 1) (line_after line 1) xs found (omega arith) later in
      let next : suc i + 1 ≡ suc (i + 1) = omega arith in
      let lines : line_after line (suc i) ≡ line_after (line_after line 1) i = omega arith in (
        suc i,
        omega (arith, at),
        record {
          item = rest.item;
          at = rest.at;
          meets = rw next rest.meets;
          pair = λ other first.
              ap (λ o. pair_or line o (first_pair test (line_after line 1) xs))
              (line_of_none (test x) (line_after line 1) xs none)
              ∙ rw lines (rest.pair other (rw (lines, next) at first));
        },
      ) in
      let cases : (b : Bool) → list_any (test x) xs ≡ b
      → cond b (Some place) (first_meeting test (place + 1) xs) ≡ Some found
      → (i : ℕ) × (found ≡ place + i) × FirstMeeting test line (x ∷ xs) i =
      elim [ true ↦ here | false ↦ behind ]
      in cases (list_any (test x) xs) refl is

  -- From a place before, a list has the item there and those behind it.
  pub drop_back : (xs : List X) (left : ℕ) (x : X) → 0 < left → left ≤ length xs
      → x ≡ get_or xs (left - 1) x → drop (left - 1) xs ≡ x ∷ drop left xs
  drop_back xs left x some within at =
      let next : left - 1 + 1 ≡ left = omega arith in
      let low : left - 1 < length xs = omega arith in
      drop-slice_get xs (left - 1) x
      (slice_get-get_or xs (left - 1) x low ∙ ap (λ y. Some y) (sym at))
      ∙ ap (λ n. x ∷ drop n xs) next

  -- The same of what stands there, by a default.
  pub drop_back_or : (xs : List X) (left : ℕ) (default : X) → 0 < left → left ≤ length xs
      → drop (left - 1) xs ≡ get_or xs (left - 1) default ∷ drop left xs
  drop_back_or xs left default some within =
      let next : left - 1 + 1 ≡ left = omega arith in
      drop_more xs (left - 1) default (omega arith)
      ∙ ap (λ n. get_or xs (left - 1) default ∷ drop n xs) next

  -- One item more is met with those behind it.
  pub meeting_back : (test : X → X → Bool) (xs : List X) (left : ℕ) (x : X)
      (old found : Option ℕ) (answer : Bool) → 0 < left → drop (left - 1) xs ≡ x ∷ drop left xs
      → old ≡ first_meeting test left (drop left xs) → answer ≡ list_any (test x) (drop left xs)
      → found ≡ cond answer (Some (left - 1)) old
      → found ≡ first_meeting test (left - 1) (drop (left - 1) xs)
  meeting_back test xs left x old found answer some at was answers is =
      let next : left ≡ left - 1 + 1 = omega arith in
      is
      ∙ ap (λ b. cond b (Some (left - 1)) old) answers
      ∙ ap (λ o. cond (list_any (test x) (drop left xs)) (Some (left - 1)) o)
      (was ∙ ap (λ n. first_meeting test n (drop left xs)) next)
      ∙ sym (ap (first_meeting test (left - 1)) at)

  -- The first that passes is the one at this place.
  pub line_here : (test : X → Bool) (xs : List X) (i : ℕ) (x : X) (line : ℕ) (total : Option ℕ)
      → drop i xs ≡ x ∷ drop (i + 1) xs → first_line test line (drop i xs) ≡ total
      → test x ≡ true → Some line ≡ total
  line_here test xs i x line total at so_far passes =
      sym (ap (first_line test line) at ∙ cond-true (test x) _ _ passes) ∙ so_far

  -- It is behind this place.
  pub line_on : (test : X → Bool) (xs : List X) (i : ℕ) (x : X) (line : ℕ) (total : Option ℕ)
      → drop i xs ≡ x ∷ drop (i + 1) xs → first_line test line (drop i xs) ≡ total
      → test x ≡ false → first_line test (line_after line 1) (drop (i + 1) xs) ≡ total
  line_on test xs i x line total at so_far fails =
      sym (ap (first_line test line) at ∙ cond-false (test x) _ _ fails) ∙ so_far

  -- The place of an item that meets one behind it is one of the list.
  pub meeting_within : (test : X → X → Bool) (xs : List X) (found : Option ℕ)
      → found ≡ first_meeting test 0 xs → IfSome found (λ place. place < length xs)
  meeting_within test xs None is = tt
  meeting_within test xs (Some place) is =
      let (i, at, meeting) = pair_of_meeting test 0 0 xs place (omega arith) (sym is) in
      let within = slice_get_within xs i meeting.item meeting.at in
      omega (arith, at, within)

  -- The pair that such an item gives, by its place.
  pub meeting_at : (test : X → X → Bool) (line : ℕ) (xs : List X) (place : ℕ) (x : X)
      → line ≤ last_line → first_meeting test 0 xs ≡ Some place → x ≡ get_or xs place x
      → (list_any (test x) (drop (place + 1) xs) ≡ true)
      × ((other : ℕ)
      → first_line (test x) (line_after (line_after line place) 1) (drop (place + 1) xs)
      ≡ Some other
      → first_pair test line xs ≡ Some (line_after line place, other))
  meeting_at test line xs place x low is at =
      let (i, here, meeting) = pair_of_meeting test 0 line xs place low is in
      let same : i ≡ place = omega (arith, here) in
      let within : place < length xs =
      let low = slice_get_within xs i meeting.item meeting.at in omega (arith, here, low) in
      let item : meeting.item ≡ x =
      same_Some meeting.item x (sym meeting.at ∙ ap (slice_get xs) same
      ∙ slice_get-get_or xs place x within ∙ ap (λ y. Some y) (sym at)) in
      rw (sym same, sym item) (meeting.meets, meeting.pair)

  -- The lines that a caller has found.
  pub record Found (test : X → X → Bool) (first : ℕ) (xs : List X) (place : ℕ) (x : X)
      (line next : ℕ) (behind : Option ℕ) : Type 0 where
    pub low : first ≤ last_line
    pub is : first_meeting test 0 xs ≡ Some place
    pub at : x ≡ get_or xs place x
    pub line_is : line ≡ line_after first place
    pub next_is : next ≡ line_after line 1
    pub behind_is : behind ≡ first_line (test x) next
        (take (length xs - (place + 1)) (drop (place + 1) xs))

  behind_all : (xs : List X) (p : ℕ) → take (length xs - p) (drop p xs) ≡ drop p xs
  behind_all xs p = take_all (length xs - p) (drop p xs) (omega (arith, length-drop p xs))

  behind_from : (test : X → X → Bool) (first : ℕ) (xs : List X) (place : ℕ) (x : X)
      (line next : ℕ) (behind : Option ℕ) → Found test first xs place x line next behind
      → behind ≡ first_line (test x) (line_after (line_after first place) 1) (drop (place + 1) xs)
  behind_from test first xs place x line next behind found =
      found.behind_is
      ∙ ap (first_line (test x) next) (behind_all xs (place + 1))
      ∙ ap (λ n. first_line (test x) n (drop (place + 1) xs))
      (found.next_is ∙ ap (λ n. line_after n 1) found.line_is)

  -- They are those of the first pair.
  pub pair_found : (test : X → X → Bool) (first : ℕ) (xs : List X) (place : ℕ) (x : X)
      (line next : ℕ) (behind : Option ℕ) (other : ℕ)
      → Found test first xs place x line next behind → behind ≡ Some other
      → Some (line, other) ≡ first_pair test first xs
  pair_found test first xs place x line next behind other found is =
      let meeting = meeting_at test first xs place x found.low found.is found.at in
      ap (λ n. Some (n, other)) found.line_is
      ∙ sym (meeting.1 other
      (sym (behind_from test first xs place x line next behind found) ∙ is))

  -- There is one behind.
  pub none_found : (test : X → X → Bool) (first : ℕ) (xs : List X) (place : ℕ) (x : X)
      (line next : ℕ) (behind : Option ℕ) → Found test first xs place x line next behind
      → behind ≡ None → ⊥
  none_found test first xs place x line next behind found is =
      let meeting = meeting_at test first xs place x found.low found.is found.at in
      line_of_some (test x) (line_after (line_after first place) 1) (drop (place + 1) xs) meeting.0
      (sym (behind_from test first xs place x line next behind found) ∙ is)

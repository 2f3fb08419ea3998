-- A grant meets the table of some grants exactly where it conflicts with one of them.
use Rattle.std.proofs.Common.{◌≡◌, ◌∙◌, ◌+◌, ◌%◌, ◌&&◌, ◌||◌, ℕ, Bool, true, false, List, [], ◌∷◌}
use Rattle.std.proofs.Common.{length, refl, sym, ap}
use Rattle.std.proofs.Math.Bool.{and-false, and-or_distrib_left}
use Rattle.std.specs.List.{list_any, range_with_len}
use Rattle.aeth_base.specs.declared.ids.LinkId.{LinkId}
use Rattle.aeth_chip.specs.{Paths.delay_of, declared.node.Link.Link}
use Rattle.aeth_slots.specs.SlotSet.{Slots}
use Rattle.aeth_group.specs.{Members.GroupsData, Members.has_unit, Occupation.holds_in}
use Rattle.aeth_group.specs.{declared.grant.Grant.Grant}
use Rattle.aeth_check.specs.{Meetings.conflicts, Meetings.meets, Meetings.touches, Masks.is_held}

-- ---- Some item of a list passes

four : (a b c d : Bool) → ((a || b) || (c || d)) ≡ ((a || c) || (b || d))
four true b c d = refl
four false true true d = refl
four false true false d = refl
four false false c d = refl

any-same : {X : Type 0} (test other : X → Bool) (xs : List X) → ((x : X) → test x ≡ other x)
    → list_any test xs ≡ list_any other xs
any-same test other [] same = refl
any-same test other (x ∷ xs) same =
    ap (λ b. b || list_any test xs) (same x)
    ∙ ap (λ b. other x || b) (any-same test other xs same)

any-none : {X : Type 0} (xs : List X) → list_any (λ (x : X). false) xs ≡ false
any-none [] = refl
any-none (x ∷ xs) = any-none xs

any-or : {X : Type 0} (test other : X → Bool) (xs : List X)
    → list_any (λ x. test x || other x) xs ≡ (list_any test xs || list_any other xs)
any-or test other [] = refl
any-or test other (x ∷ xs) =
    ap (λ b. (test x || other x) || b) (any-or test other xs)
    ∙ four (test x) (other x) (list_any test xs) (list_any other xs)

any-and : {X : Type 0} (fixed : Bool) (test : X → Bool) (xs : List X)
    → list_any (λ x. fixed && test x) xs ≡ (fixed && list_any test xs)
any-and fixed test [] = sym (and-false fixed)
any-and fixed test (x ∷ xs) =
    ap (λ b. (fixed && test x) || b) (any-and fixed test xs)
    ∙ sym (and-or_distrib_left fixed (test x) (list_any test xs))

any-swap : {X Y : Type 0} (test : X → Y → Bool) (xs : List X) (ys : List Y)
    → list_any (λ x. list_any (test x) ys) xs ≡ list_any (λ y. list_any (λ x. test x y) xs) ys
any-swap test [] ys = sym (any-none ys)
any-swap test (x ∷ xs) ys =
    ap (λ b. list_any (test x) ys || b) (any-swap test xs ys)
    ∙ sym (any-or (test x) (λ y. list_any (λ z. test z y) xs) ys)

-- ---- Meetings with some of several

-- Flits meet a slot that one of some items holds exactly where they meet a slot of one of them.
meets-any : {Y : Type 0} (holds : Y → ℕ → ℕ → Bool) (ys : List Y) (starts : Slots)
    (links : List Link) (after : ℕ) (path : List LinkId)
    → meets (λ l s. list_any (λ y. holds y l s) ys) starts links after path
    ≡ list_any (λ y. meets (holds y) starts links after path) ys
meets-any holds ys starts links after [] = sym (any-none ys)
meets-any {Y} holds ys starts links after (k ∷ path) =
    ap (λ b. b || meets (λ l s. list_any (λ y. holds y l s) ys) starts links
    (after + delay_of links k) path)
    (any-swap (λ x (y : Y). holds y k.0 ((x + after) % starts.size)) starts.slots ys)
    ∙ ap (λ b. list_any (λ y. list_any (λ x. holds y k.0 ((x + after) % starts.size)) starts.slots)
    ys || b) (meets-any holds ys starts links (after + delay_of links k) path)
    ∙ sym (any-or (λ y. list_any (λ x. holds y k.0 ((x + after) % starts.size)) starts.slots)
    (λ y. meets (holds y) starts links (after + delay_of links k) path) ys)

-- A grant meets what some grants hold exactly where it conflicts with one of them.
pub touches-any : (links : List Link) (groups : GroupsData) (grants : List Grant) (a : Grant)
    → touches links groups (is_held links groups grants) a
    ≡ list_any (conflicts links groups a) grants
touches-any links groups grants a =
    let uses = range_with_len 0 (length groups.uses) in
    let has : ℕ → Bool = λ u. has_unit groups a.unit u in
    let with : ℕ → Grant → Bool =
    λ u b. meets (λ l s. holds_in groups links u l s b) a.slots links 0 a.path in
    any-same (λ u. has u && meets (is_held links groups grants u) a.slots links 0 a.path)
    (λ u. list_any (λ b. has u && with u b) grants) uses
    (λ u. ap (λ t. has u && t) (meets-any (λ b l s. holds_in groups links u l s b) grants a.slots
    links 0 a.path) ∙ sym (any-and (has u) (with u) grants))
    ∙ any-swap (λ u b. has u && with u b) uses grants

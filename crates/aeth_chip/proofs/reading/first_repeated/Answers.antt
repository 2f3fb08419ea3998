use Rattle.std.proofs.Common.{◌≡◌, ◌∙◌, ◌++◌, List, ℕ, [], None, ap, map, refl, sym}
use Rattle.toml.specs.View.{table_view}
use Rattle.aeth_chip.specs.Told.{nis_of, routers_of}
use Rattle.aeth_document.specs.Walks.{found_by, repeats, walked}
use Rattle.aeth_document.specs.declared.walk.Walk.{Walk, TheVariants.At, TheVariants.Stopped}
use Rattle.aeth_document.proofs.WalkLemmas.{found_by-walked, repeats-append, walked-append}
use Rattle.aeth_document.proofs.WalkLemmas.{walked-done}
use Rattle.aeth_chip.proofs.reading.first_repeated.Goals as goal

-- A walk over the texts of two lists: where the first has a repeat, the second doesn't matter, and
-- else the texts of the first are the others of the second.
behind : (walk : Walk) (start : Walk) (xs ys seen : List (List ℕ))
    → walk ≡ walked start (repeats [] xs) → (found_by walk ≡ None → seen ≡ xs)
    → walked walk (repeats seen ys) ≡ walked start (repeats [] (xs ++ ys))
behind (At place) start xs ys seen is all =
    rw (all refl, is, walked-append, repeats-append [] xs ys) refl
behind (Stopped broken) start xs ys seen is all =
    walked-done (Stopped broken) (repeats seen ys) refl
    ∙ sym (walked-done (Stopped broken) (repeats xs ys) refl)
    ∙ rw (is, walked-append, repeats-append [] xs ys) refl

-- The interfaces' names come behind the routers'.
pub returns : goal.returns
returns c =
    let root = table_view c.args.root.now in
    let seen = map (λ t. t.now) c.repeats.new.seen.keys in
    let first : c.in_ok-walk.walk ≡ walked (At 0) (repeats [] (routers_of root)) =
    rw (c.requires, c.from.ensures, c.routers_of.ensures)
    at c.in_ok-walk.ensures.walk in
    let all = rw (c.requires, c.routers_of.ensures) at c.in_ok-walk.ensures.seen in
    let second = rw c.nis_of.ensures at c.in_ok-walk-2.ensures.walk in
    let both = second
    ∙ behind c.in_ok-walk.walk (At 0) (routers_of root) (nis_of root) seen first all in
    c.found.ensures ∙ ap found_by both
    ∙ found_by-walked 0 (repeats [] (routers_of root ++ nis_of root))

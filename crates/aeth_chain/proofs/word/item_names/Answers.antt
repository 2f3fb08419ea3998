use Rattle.std.proofs.Common.{◌≡◌, ◌∙◌, ◌<◌, ◌≤◌, ◌∷◌, [], Bool, false, List, Some, ap, arith, inl}
use Rattle.std.proofs.Common.{inr, length, sym, length-append, ◌↔◌, IsTrue}
use Rattle.std.proofs.lemmas.Bool.{OnTrue_at, both_ways, cases_lt}
use Rattle.aeth_text.specs.{Grammar.kept, Grammar.parts, Limits.comma}
use Rattle.aeth_text.proofs.Fronts.{with_front}
use Rattle.aeth_chain.specs.{Limits.max_chain_items, ItemNames.item_names_of, ItemNames.items_in}
use Rattle.aeth_chain.specs.{declared.names.ItemName.ItemName}
use Rattle.aeth_chain.proofs.WordLemmas.{few, front-nil, kept-few, kept-many, next-item, next-none}
use Rattle.aeth_chain.proofs.WordLemmas.{none-is, parts-some}
use Rattle.aeth_chain.proofs.WorkLemmas.{word-items}
use Rattle.aeth_chain.proofs.word.item_names.Goals as goal

-- Where no item could be put behind others there are as many as there may be.
full : (names : List ItemName) (put : Bool) → (IsTrue put ↔ (length names < max_chain_items))
    → put ≡ false → max_chain_items ≤ length names
full names put room kept = elim (cases_lt (length names) max_chain_items) [
  | inl less ↦ absurd (both_ways put kept (room.1 less))
  | inr more ↦ more
]

-- A word has a piece at least.
pub returns-in_err-piece-clause-gives : goal.returns-in_err-piece-clause-gives
returns-in_err-piece-clause-gives c =
    let some = parts-some comma c.args.word.now in
    let none = ap length c.in_err-piece.ensures in
    absurd (omega (arith, some, none))

-- The first piece is no item.
pub returns-in_err-item_in-clause-gives : goal.returns-in_err-item_in-clause-gives
unfolding item_names_of
returns-in_err-item_in-clause-gives c =
    let told = next-none [] (Some c.args.word) c.in_ok-piece.rest c.in_ok-piece.piece.now
    c.in_ok-piece.ensures (rw (none-is _ _ c.is_none.ensures) at c.in_err-item_in.ensures) in
    c.from_residual-in_err-item_in.ensures
    ∙ sym (ap (kept few) (sym (front-nil (items_in (parts comma c.args.word.now))) ∙ told))

-- The first piece is an item.
pub pieces-init : goal.pieces-init
pieces-init c =
    let told = next-item [] (Some c.args.word) c.in_ok-piece.rest c.in_ok-piece.piece.now
    c.in_ok-item_in.field-0 c.in_ok-piece.ensures
    (rw (none-is _ _ c.is_none.ensures) at c.in_ok-item_in.ensures) in (
      rw c.one-names.ensures (omega arith),
      rw c.one-names.ensures
          (sym told ∙ front-nil (items_in (parts comma c.args.word.now))),
    )

-- A later one is no item.
pub returns-in_err-item-clause-gives : goal.returns-in_err-item-clause-gives
unfolding item_names_of
returns-in_err-item-clause-gives c =
    let told = next-none c.pieces.names c.pieces.left c.in-Some.rest c.in-Some.piece.now
    c.in-Some.ensures (rw (none-is _ _ c.is_none-in-Some.ensures) at c.in_err-item.ensures) in
    c.from_residual-in_err-item.ensures
    ∙ sym (ap (kept few) (sym c.pieces.invariant.1 ∙ told))

-- There are too many.
pub returns-then-not-push-clause-gives : goal.returns-then-not-push-clause-gives
unfolding item_names_of
returns-then-not-push-clause-gives c =
    let many = kept-many c.pieces.names c.pieces.left c.in-Some.rest c.in-Some.piece.now
    c.in_ok-item.item c.in-Some.ensures
    (rw (none-is _ _ c.is_none-in-Some.ensures) at c.in_ok-item.ensures)
    (full c.pieces.names c.push.result c.push.ensures.room c.if-not-push.true) in
    sym (ap (kept few) (sym c.pieces.invariant.1) ∙ many)

-- One more item is told.
pub pieces-preserved : goal.pieces-preserved
pieces-preserved c =
    let more = next-item c.pieces.names c.pieces.left c.in-Some.rest c.in-Some.piece.now
    c.in_ok-item.item c.in-Some.ensures
    (rw (none-is _ _ c.is_none-in-Some.ensures) at c.in_ok-item.ensures) in
    let pushed = OnTrue_at c.if-not-push.false c.push.ensures.pushed in
    let room = c.push.ensures.room.0 c.if-not-push.false in
    let size = length-append c.pieces.names (c.in_ok-item.item ∷ []) in
    (rw pushed (omega (arith, size, room)), rw pushed (sym more ∙ c.pieces.invariant.1))

-- All items are told.
pub returns-clause-gives : goal.returns-clause-gives
unfolding item_names_of
returns-clause-gives c =
    sym (ap (kept few) (sym c.pieces.invariant.1
    ∙ ap (λ pieces. with_front c.pieces.names (items_in pieces)) c.in_default.ensures)
    ∙ kept-few c.pieces.names c.pieces.invariant.0)

-- They are items of a chain.
pub returns-clause-names : goal.returns-clause-names
returns-clause-names c =
    word-items c.args.word.now c.pieces.names (sym (returns-clause-gives c))

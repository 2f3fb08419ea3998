use Rattle.std.proofs.Common.{◌∙◌, ◌==◌, Some, None, ap, sym, lit<, arith}
use Rattle.std.proofs.lemmas.List.{length_push}
use Rattle.std.proofs.lemmas.Iterator.Consumers.{YieldsList-end, YieldsList-turn}
use Rattle.std.proofs.lemmas.Iterator.Splits.{YieldsList-from_str_split}
use Rattle.std.specs.List.{slice_split}
use Rattle.aeth_slots.proofs.Ascending.{Ascends-push, Ascends-wider}
use Rattle.aeth_text.specs.Limits.{comma}
use Rattle.aeth_answers.proofs.Reading.{number_within-bounds, read-all, read-more, read-none}
use Rattle.aeth_answers.proofs.Reading.{slot_set_of-list}
use Rattle.aeth_answers.proofs.words.slots_in.Goals as goal

-- A piece is no slot, so the word is no list.
pub returns-in_err-slot : goal.returns-in_err-slot
returns-in_err-slot c =
    let word = c.args.word.now in
    let gone = c.loop-piece.yielded in
    let list = YieldsList-from_str_split comma word (lit< tt) (cc) (cc) (cc) in
    let turn = YieldsList-turn list gone _ c.loop-piece.yielded_by _ _ c.in-Some.piece c.in-Some.is
    c.next.ensures.steps in
    let none = read-none c.args.size (slice_split (λ byte. byte == comma) word) _ _ _
    c.in-Some.piece.now c.loop-piece.invariant.read turn.0 turn.1 (sym c.in_err-slot.ensures) in
    rw c.from_residual.ensures (sym (slot_set_of-list c.args.size word None c.if-eq.ensures none))

-- A slot above all before is put behind them.
pub loop-piece-preserved : goal.loop-piece-preserved
loop-piece-preserved c =
    let word = c.args.word.now in
    let gone = c.loop-piece.yielded in
    let slot = c.in_ok-slot.slot in
    let slots = c.loop-piece.set.slots in
    let list = YieldsList-from_str_split comma word (lit< tt) (cc) (cc) (cc) in
    let turn = YieldsList-turn list gone _ c.loop-piece.yielded_by _ _ c.in-Some.piece c.in-Some.is
    c.next.ensures.steps in
    let is_slot = sym c.in_ok-slot.ensures in
    let above = number_within-bounds _ _ _ slot is_slot in
    let below = Ascends-wider 0 c.loop-piece.least 0 slot slots (omega arith) above.0
    c.loop-piece.invariant.below in
    let put = c.insert.ensures.last below in
    record {
      size = ap (λ set. set.size) c.insert.ensures.set ∙ c.loop-piece.invariant.size;
      below = rw put (Ascends-push 0 slot slots (omega arith) below);
      read = read-more c.args.size _ _ _ slot slots c.in-Some.piece.now
          c.loop-piece.invariant.read turn.0 turn.1 is_slot _ _ (length_push gone c.in-Some.piece)
          put;
    }

-- All pieces are slots.
pub returns : goal.returns
returns c =
    let word = c.args.word.now in
    let set = c.loop-piece.set in
    let list = YieldsList-from_str_split comma word (lit< tt) (cc) (cc) (cc) in
    let ended = YieldsList-end list c.loop-piece.yielded _ c.loop-piece.yielded_by _ _ c.in-None.is
    c.next.ensures.steps in
    let all = read-all c.args.size _ _ _ set.slots c.loop-piece.invariant.read (omega
    (arith, ended.1)) in
    ap Some (λ i. record { size = c.loop-piece.invariant.size i; slots = set.slots })
    ∙ sym (slot_set_of-list c.args.size word (Some set.slots) c.if-eq.ensures all)

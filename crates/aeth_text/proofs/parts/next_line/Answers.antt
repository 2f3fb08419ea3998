use Rattle.std.proofs.Common.{◌≡◌, [], ◌∷◌, ℕ, List, None, Some, length, take, drop, ◌-◌, ◌+◌}
use Rattle.std.proofs.Common.{subst, arith, eqb-true}
use Rattle.memchr.specs.Find.{IsFirstByte, is_byte}
use Rattle.aeth_text.specs.{Grammar.parts, Limits.line_feed}
use Rattle.aeth_text.proofs.Cuts.{free_before, parts_at, parts_none}
use Rattle.aeth_text.proofs.LineLaws.{lines_cut, lines_none}
use Rattle.aeth_text.proofs.parts.next_line.Goals as goal

-- A text that is cut at its first line feed.
parts_first : (text : List ℕ) (end : ℕ) → IsFirstByte (is_byte line_feed) text (Some end)
    → parts line_feed text
    ≡ take end text ∷ parts line_feed (take (length text - (end + 1)) (drop (end + 1) text))
parts_first text end first =
    parts_at line_feed text end first.0.high (free_before line_feed text end first.0.before)
    (eqb-true _ line_feed first.1)

-- What is behind the first line feed has the other lines.
pub returns-clause-some : goal.returns-clause-some
returns-clause-some c =
    (lines_cut _ _ _ (parts_first c.args.text.now c.in_ok-end.end
    (subst (IsFirstByte (is_byte line_feed) c.args.text.now) c.in_ok-end.was c.memchr.ensures))).0

pub returns-clause-same : goal.returns-clause-same
returns-clause-same c =
    (lines_cut _ _ _ (parts_first c.args.text.now c.in_ok-end.end
    (subst (IsFirstByte (is_byte line_feed) c.args.text.now) c.in_ok-end.was c.memchr.ensures))).1

-- Without one there is no line.
parts_whole : (text : List ℕ) → IsFirstByte (is_byte line_feed) text None
    → parts line_feed text ≡ text ∷ []
parts_whole text none =
    parts_none line_feed text (length text) (omega arith)
    (free_before line_feed text (length text) none)

pub returns-in_err-end-clause-none : goal.returns-in_err-end-clause-none
returns-in_err-end-clause-none c =
    rw c.from_residual.ensures
    (lines_none _ (parts_whole c.args.text.now
    (subst (IsFirstByte (is_byte line_feed) c.args.text.now) c.in_err-end.was c.memchr.ensures))).0

pub returns-in_err-end-clause-rest : goal.returns-in_err-end-clause-rest
returns-in_err-end-clause-rest c =
    rw c.from_residual.ensures
    (lines_none _ (parts_whole c.args.text.now
    (subst (IsFirstByte (is_byte line_feed) c.args.text.now) c.in_err-end.was c.memchr.ensures))).1

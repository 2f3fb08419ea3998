-- The lines of use cases.
use Rattle.std.proofs.Common.{◌≡◌, ◌<◌, ℕ, All, List, [], ◌∷◌, arith, length}
use Rattle.std.proofs.lemmas.List.Elements.{All-cons, All-head, All-nil, All-tail}
use Rattle.std.proofs.lemmas.List.FromFn.{get_or-map-range_with_len}
use Rattle.aeth_server.specs.declared.shape.ChannelShape.{ChannelShape}
use Rattle.aeth_ni.specs.declared.row.ChannelRow.{ChannelRow}
use Rattle.aeth_accepted.specs.Inputs.{AreAccepted, Inputs}
use Rattle.aeth_schedule.specs.Lines.{all_lines, line_with, lines_at, lines_of, lines_with}
use Rattle.aeth_schedule.specs.declared.lines.Line.{Line}

module _ (inputs : Inputs) (accepted : AreAccepted inputs) where
  -- The lines of a use case out of all.
  pub line-at : (u : ℕ) → u < length inputs.app.uses
      → lines_at (all_lines inputs) u ≡ lines_of inputs u
  line-at u known =
      get_or-map-range_with_len (lines_of inputs) 0 (length inputs.app.uses) u u [] known (omega arith)

-- What holds of all rows gives what holds of all lines.
pub lines-all : (P : ChannelRow → Type 0) (Q : Line → Type 0)
    → ((row : ChannelRow) (shape : ChannelShape) (other : ChannelRow) → P row → P other
    → Q (line_with row shape other))
    → (rows : List ChannelRow) (shapes : List ChannelShape) → All P rows
    → All Q (lines_with rows shapes)
lines-all P Q step [] shapes all = All-nil Q
lines-all P Q step (a ∷ []) shapes all = All-nil Q
lines-all P Q step (a ∷ b ∷ rows) [] all = All-nil Q
lines-all P Q step (a ∷ b ∷ rows) (x ∷ []) all = All-nil Q
lines-all P Q step (a ∷ b ∷ rows) (x ∷ y ∷ shapes) all =
    let first = All-head P a (b ∷ rows) all in
    let tail = All-tail P a (b ∷ rows) all in
    let second = All-head P b rows tail in
    let rest = lines-all P Q step rows shapes (All-tail P b rows tail) in
    All-cons Q (line_with a x b) (line_with b y a ∷ lines_with rows shapes) (step a x b first second)
    (All-cons Q (line_with b y a) (lines_with rows shapes) (step b y a second first) rest)

-- How long switches between use cases take.
-- After Æthereal (2005), whose slot tables are written while the network runs; the rest: this
-- project's own.
use Rattle.std.proofs.Common.{ℕ, ◌+◌, ◌*◌, List}
use Rattle.std.specs.List.{slice_index_or}

-- Spans for so many use cases: for each pair of them, in the order of the one that is left and then
-- of the one that is entered, the lag and the number of writes.
pub record SpanData : Type 0 where
  pub uses : ℕ
  pub pairs : List (ℕ × ℕ)

-- The lag and the number of writes of a switch from a use case to another.
abbrev pub span_of : SpanData → ℕ → ℕ → ℕ × ℕ
span_of spans from to = slice_index_or spans.pairs (from * spans.uses + to) (0, 0)

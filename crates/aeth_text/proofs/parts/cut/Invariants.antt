use Rattle.aeth_text.proofs.Cuts.{IsFreeBefore}
use Rattle.aeth_text.proofs.parts.cut.Given as goal

-- No byte so far is the separator.
abbrev pub invariant-loop-place : goal.invariant-loop-place
invariant-loop-place l = IsFreeBefore l.separator l.text l.place

use Rattle.std.proofs.Common.{◌≡◌, drop, IfSome}
use Rattle.aeth_plan.specs.{Known.IsNamed, Rules.each, Rules.known_grant}
use Rattle.aeth_document.proofs.Fronts.{with_front}
use Rattle.aeth_plan.proofs.known.known_grants.Given as goal

-- The grants so far and those of the lines that are left; the connection that was found last.
abbrev pub invariant-loop-text : goal.invariant-loop-text
invariant-loop-text l = record {
  grants : with_front l.grants.items
      (each (known_grant l.chip l.app l.groups) l.line (drop l.text-index l.texts))
      ≡ each (known_grant l.chip l.app l.groups) l.first l.texts;
  last : IfSome l.last (IsNamed l.app);
}

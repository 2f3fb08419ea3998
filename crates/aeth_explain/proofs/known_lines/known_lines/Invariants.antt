use Rattle.std.proofs.Common.{◌≡◌, ◌++◌, Ok, drop}
use Rattle.aeth_document.specs.Chain.{◌>>=◌}
use Rattle.aeth_plan.specs.Rules.{each}
use Rattle.aeth_explain.specs.CutsText.{known_line}
use Rattle.aeth_explain.proofs.known_lines.known_lines.Given as goal

-- What the lines so far name and what those that are left do.
abbrev pub invariant-loop-text : goal.invariant-loop-text
invariant-loop-text l =
    (each (known_line l.chip l.app l.groups) l.line (drop l.text-index l.texts)
    >>= (λ later. Ok (l.known.items ++ later)))
    ≡ each (known_line l.chip l.app l.groups) 2 l.texts

use Rattle.std.proofs.Common.{◌≡◌, map}
use Rattle.aeth_document.specs.{Arrays.texts_in, Walks.no_name, Walks.walked}
use Rattle.aeth_document.proofs.walk.Walk.names.Given as goal

abbrev pub invariant-loop-text : goal.invariant-loop-text
invariant-loop-text l =
    walked l.walk (map no_name (texts_in l.text-iterator)) ≡ walked l.fn.self (map no_name (texts_in l.fn.texts))

use Rattle.std.proofs.Common.{◌≡◌, map}
use Rattle.aeth_document.specs.{Arrays.texts_in, Walks.walked}
use Rattle.aeth_app.specs.Unknown.{unknown}
use Rattle.aeth_app.proofs.unknown.texts.Given as goal

abbrev pub invariant-loop-text : goal.invariant-loop-text
invariant-loop-text l =
    walked l.walk (map (unknown l.names) (texts_in l.text-iterator))
    ≡ walked l.fn.walk (map (unknown l.names) (texts_in l.fn.texts))

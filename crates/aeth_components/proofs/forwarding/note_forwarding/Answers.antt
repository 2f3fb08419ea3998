use Rattle.std.proofs.{Common.map, lemmas.List.map-set}
use Rattle.aeth_components.{proofs.ForwardingLemmas.AreForwarded-set, specs.Passing.way_of}
use Rattle.aeth_components.proofs.forwarding.note_forwarding.Goals as goal

-- It is noted of this one, and of all others as before.
pub returns : goal.returns
returns c = λ parts before.
    rw (map-set way_of parts c.args.place c.args.part.now)
    (AreForwarded-set (map way_of parts) c.args.noted.now c.args.place (way_of c.args.part.now)
    c.forwarding.result c.requires c.forwarding.ensures before)

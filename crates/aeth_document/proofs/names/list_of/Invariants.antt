use Rattle.std.{proofs.Common.◌≡◌, proofs.Common.◌++◌, specs.List.filter_map}
use Rattle.aeth_document.specs.Arrays.{texts_in}
use Rattle.aeth_base.specs.Name.{name_of}
use Rattle.aeth_document.proofs.names.list_of.Given as goal

-- The names of the texts that are left follow those so far.
abbrev pub invariant-loop-text : goal.invariant-loop-text
invariant-loop-text l = l.list.items ++ filter_map name_of (texts_in l.text-iterator)
    ≡ filter_map name_of (texts_in l.fn.texts)

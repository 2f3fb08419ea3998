use Rattle.std.proofs.Common.{◌≡◌, ◌+◌, length}
use Rattle.aeth_chip.specs.ChipFile.{not_single}
use Rattle.aeth_document.specs.{Arrays.texts_in, Walks.walked}
use Rattle.aeth_chip.proofs.ports.unjoined_nis.Given as goal

abbrev pub invariant-loop-name : goal.invariant-loop-name
invariant-loop-name l = record {
  walk : walked l.walk (not_single l.listed.links.items l.ni (texts_in l.name-iterator))
      ≡ walked l.fn.walk (not_single l.listed.links.items 0 (texts_in l.fn.names));
  count : l.ni + length (texts_in l.name-iterator) ≡ l.nis;
}

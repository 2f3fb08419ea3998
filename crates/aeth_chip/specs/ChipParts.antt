-- A chip of its names and links, as the code holds them.
use Rattle.std.proofs.Common.{ℕ, List}
use Rattle.aeth_chip.specs.Chip.{ChipData}
use Rattle.aeth_chip.specs.declared.{links.NodeNames.NodeNames, node.Link.Link}

-- The chip with so many slots and with these names and links.
abbrev pub chip_with : ℕ → NodeNames → List Link → ChipData
chip_with slots names links = record {
  slots = slots;
  routers = names.routers;
  nis = names.nis;
  links = links;
}

use Rattle.std.proofs.Common.{◌≡◌, drop, length, nat_lt}
use Rattle.std.specs.List.{list_all}
use Rattle.aeth_chip.proofs.chip.Chip.has_links.Given as goal

-- The links before this one are the chip's.
abbrev pub invariant-loop-i : goal.invariant-loop-i
invariant-loop-i l =
    list_all (λ link. nat_lt link.0 (length l.self.links)) (drop l.i l.path)
    ≡ list_all (λ link. nat_lt link.0 (length l.self.links)) l.path

use Rattle.std.proofs.Common.{◌≡◌, ◌++◌, ℕ, sym, append_assoc, codes, decimal}
use Rattle.aeth_design_commands.proofs.chip.chip_line.Goals as goal

-- The parts of the line, from the last to the first and from the first to the last.
line_joined : (slots routers nis links far unreached : ℕ)
    → codes "chip slots " ++ (decimal slots ++ (codes " routers " ++ (decimal routers
    ++ (codes " nis " ++ (decimal nis ++ (codes " links " ++ (decimal links ++ (codes " far "
    ++ (decimal far ++ (codes " unreached " ++ (decimal unreached ++ codes "\n")))))))))))
    ≡ codes "chip slots " ++ decimal slots ++ codes " routers " ++ decimal routers ++ codes " nis "
    ++ decimal nis ++ codes " links " ++ decimal links ++ codes " far " ++ decimal far
    ++ codes " unreached " ++ decimal unreached ++ codes "\n"
line_joined slots routers nis links far unreached = simp append_assoc

-- The line has the numbers of the chip.
pub returns : goal.returns
returns c =
    rw (
      sym c.of-summary.ensures.far,
      sym c.of-summary.ensures.unreached,
      sym c.slots.ensures.slots,
      sym c.routers.ensures.routers,
      sym c.nis.ensures.nis,
      sym c.links.ensures.links,
      c.in_ok-push.ensures.items,
      c.in_ok-push_count-6.ensures.ok,
      c.in_ok-push_count-5.ensures.ok,
      c.in_ok-push_count-4.ensures.ok,
      c.in_ok-push_count-3.ensures.ok,
      c.in_ok-push_count-2.ensures.ok,
      c.in_ok-push_count.ensures.ok,
      c.new-text.ensures.items,
    )
    (simp append_assoc (line_joined c.slots.result c.routers.result c.nis.result c.links.result
    c.of-summary.result.far c.of-summary.result.unreached))

use Rattle.std.proofs.Common.{◌∙◌, ap, length, sym}
use Rattle.aeth_chip.proofs.LinkLemmas.{few_links, told_below, told_ni_below}
use Rattle.aeth_chip.proofs.making.judged_links.Goals as goal

-- The links are those that the file tells, so they are few.
pub listed_links-requires-clause-few : goal.listed_links-requires-clause-few
listed_links-requires-clause-few c =
    rw c.in_ok-links.ensures.links (few_links _ c.requires.range)

-- They join nodes of the file.
pub listed_links-requires-clause-routers : goal.listed_links-requires-clause-routers
listed_links-requires-clause-routers c =
    rw (c.in_ok-links.ensures.links, c.len-routers.ensures, c.requires.routers)
    (told_below _ c.requires.keys c.requires.range c.in_ok-links.ensures.gives)

pub listed_links-requires-clause-nis : goal.listed_links-requires-clause-nis
listed_links-requires-clause-nis c =
    rw (c.in_ok-links.ensures.links, c.len-nis.ensures, c.requires.nis)
    (told_ni_below _ c.requires.keys c.requires.range c.in_ok-links.ensures.gives)

-- The lists are those of so many routers and network interfaces.
pub judge_ports-requires : goal.judge_ports-requires
judge_ports-requires c = c.in_ok-listed.ensures.lists.of_routers

pub judge_nis-requires-clause-lists : goal.judge_nis-requires-clause-lists
judge_nis-requires-clause-lists c = c.in_ok-listed.ensures.lists.of_nis

pub judge_nis-requires-clause-nis : goal.judge_nis-requires-clause-nis
judge_nis-requires-clause-nis c = ap length (sym c.requires.nis) ∙ sym c.len-nis.ensures

pub returns-clause-lists : goal.returns-clause-lists
returns-clause-lists c =
    rw (c.len-routers.ensures, c.len-nis.ensures) at c.in_ok-listed.ensures.lists

use Rattle.std.proofs.Common.{◌∙◌}
use Rattle.aeth_document.proofs.WalkLemmas.{filter_map-name_of}
use Rattle.aeth_chip.proofs.RangeLemmas.{in_range}
use Rattle.aeth_chip.proofs.making.names_in.Goals as goal

-- The routers' names are their texts.
pub returns-clause-routers : goal.returns-clause-routers
returns-clause-routers c =
    rw c.routers_of.ensures at c.in_ok-routers.ensures
    ∙ filter_map-name_of 1 _ (in_range _ c.requires).routers

pub returns-clause-nis : goal.returns-clause-nis
returns-clause-nis c =
    rw c.nis_of.ensures at c.in_ok-nis.ensures
    ∙ filter_map-name_of 1 _ (in_range _ c.requires).nis

-- They are as many as the texts, so few.
pub returns-clause-few_routers : goal.returns-clause-few_routers
returns-clause-few_routers c =
    let range = in_range _ c.requires in
    rw (c.in_ok-routers.ensures, c.routers_of.ensures, filter_map-name_of 1 _ range.routers)
    range.few_routers

pub returns-clause-few_nis : goal.returns-clause-few_nis
returns-clause-few_nis c =
    let range = in_range _ c.requires in
    rw (c.in_ok-nis.ensures, c.nis_of.ensures, filter_map-name_of 1 _ range.nis) range.few_nis

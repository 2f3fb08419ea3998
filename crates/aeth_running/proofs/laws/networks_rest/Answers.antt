use Rattle.aeth_running.proofs.QuietNetworks.{brings-over, rests-over}
use Rattle.aeth_running.proofs.laws.networks_rest.Goals as goal

-- Behind one cycle.
pub returns-clause-one : goal.returns-clause-one
returns-clause-one c = λ inputs accepted routing routes t early still.
    brings-over inputs routing t (c.still_cycles_rest.ensures.components inputs accepted routing routes t early still)

-- Behind so many later ones.
pub returns-clause-later : goal.returns-clause-later
returns-clause-later c = λ inputs accepted routing routes.
    rests-over inputs routing (c.still_cycles_rest.ensures.later inputs accepted routing routes)

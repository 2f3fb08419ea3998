use Rattle.aeth_app.proofs.NeedLemmas.{need_of-most, need_of-some, own_need-fits}
use Rattle.aeth_app.proofs.laws.needs.Goals as goal

-- By the quotient that is rounded up.
pub returns-clause-rate : goal.returns-clause-rate
returns-clause-rate c = own_need-fits

pub returns-clause-some : goal.returns-clause-some
returns-clause-some c = need_of-some

pub returns-clause-most : goal.returns-clause-most
returns-clause-most c = need_of-most

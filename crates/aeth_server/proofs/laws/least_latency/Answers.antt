use Rattle.aeth_server.proofs.LatencyLemmas.{latency_of-enough, latency_of-least}
use Rattle.aeth_server.proofs.laws.least_latency.Goals as goal

-- The greatest of the least latencies is enough for each.
pub returns-clause-enough : goal.returns-clause-enough
returns-clause-enough c = latency_of-enough

-- And each of them is needed.
pub returns-clause-least : goal.returns-clause-least
returns-clause-least c = λ size slots cap rate theta some.
    latency_of-least size slots cap rate some theta

use Rattle.aeth_seats.proofs.SeatLemmas.{sits-placed}
use Rattle.aeth_seats.proofs.laws.seated.Goals as goal

-- Since there is a lowest free seat.
pub returns : goal.returns
returns c = λ seats core ni there free. sits-placed seats.places core ni there free

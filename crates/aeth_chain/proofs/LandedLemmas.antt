-- When the words of a lane land, and how many do.
use Rattle.std.proofs.Common.{ℕ, ◌+◌, ◌<◌, ◌≤◌, ◌≡◌, length, ap, arith}
use Rattle.aeth_server.specs.{Landing.landing_cycle, PrivateServer.landed, WordCycles.sending_cycle}
use Rattle.aeth_server.proofs.WordCycles.{landed-few, landed-reached, lands-more, word-landed}
use Rattle.aeth_chain.specs.{Lanes.IsLane, Lanes.server_in, declared.lane.Lane.Lane}
use Rattle.aeth_chain.proofs.LaneLemmas.{lane-count, lane-opens, shape-paths}

module _ (lane : Lane) (is : IsLane lane) where
  abbrev lands : ℕ → ℕ
  lands place = landing_cycle (server_in lane) lane.cycles (place + 1)

  -- a word lands a path delay after it is sent, where that comes within the run
  pub landed-at : (place sent : ℕ) → sent ≡ sending_cycle (server_in lane) lane.cycles (place + 1)
      → sent + lane.shape.links < lane.cycles → sent + lane.shape.links ≡ lands place
  landed-at place sent same within =
      let at = word-landed (server_in lane) lane.cycles (lane-opens lane is) (place + 1)
      (omega arith) in
      omega (arith, at, same, within)

  -- so it is one of those that land
  pub landed-more : (place : ℕ) → lands place < lane.cycles
      → place + 1 ≤ landed (server_in lane) lane.cycles
  landed-more place within =
      let runs = lane-opens lane is in
      let at = (landed-reached (server_in lane) lane.cycles runs (place + 1) (omega arith)).after
      within in
      let up = lands-more (server_in lane) lane.cycles runs (lands place + 1) lane.cycles
      (omega (arith, within)) in
      omega (arith, at, up)

  -- where it comes later no further word lands
  pub landed-none : (place sent : ℕ)
      → sent ≡ sending_cycle (server_in lane) lane.cycles (place + 1)
      → lane.cycles ≤ sent + lane.shape.links → landed (server_in lane) lane.cycles ≤ place
  landed-none place sent same past =
      let runs = lane-opens lane is in
      let at = word-landed (server_in lane) lane.cycles runs (place + 1) (omega arith) in
      let before = (landed-reached (server_in lane) lane.cycles runs (place + 1)
      (omega arith)).before in
      let end : lands place ≡ lane.cycles = omega (arith, at, same, past) in
      let ends = ap (landed (server_in lane)) end in
      omega (arith, before, ends)

  -- no more land than are offered
  pub landed-all : landed (server_in lane) lane.cycles ≤ length lane.offers.now
  landed-all =
      let few = landed-few (server_in lane) (shape-paths lane.shape is.shape) lane.cycles in
      let count = lane-count lane is in
      omega (arith, few, count)

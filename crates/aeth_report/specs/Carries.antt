-- What a link carries in a cycle: the flits of all private servers that enter it then, as a list, so
-- that two flits on one link in one cycle would be seen.
--
--   sends, returns      the words and credits of the flit that a flow injects in a cycle
--   injects, words_at      whether it injects one, and its words
--   header_at, flit_at      its header and it at a place of the path
--   IsSendable      a flow whose route and queue fit a header
--   is_there      whether it enters a link in a cycle, at a place
--   flits_at, flits_on      the flits of a flow on a link in a cycle, at one place and at all
--   carries      the flits of all flows
--   IsCarried      one of them
-- A header that names route and queue, and brings credits back: after Æthereal (2005).
use Rattle.std.proofs.Common.{ℕ, ◌+◌, ◌-◌, ◌*◌, ◌/◌, ◌^◌, ◌<◌, ◌==◌, ◌&&◌, nat_le, nat_lt, not}
use Rattle.std.proofs.Common.{Bool, if◌then◌else◌, IsTrue, Some, slice_get, ◌≡◌, List, [], ◌∷◌}
use Rattle.std.proofs.Common.{drop, flat_map, slice_index, take}
use Rattle.std.specs.List.{enumerate_from}
use Rattle.aeth_base.specs.declared.ids.LinkId.{LinkId}
use Rattle.aeth_chip.specs.{Paths.offset, declared.node.Link.Link}
use Rattle.aeth_clocked.specs.declared.flit.Flit.{Flit}
use Rattle.aeth_header.specs.{Header.word_of, Layout.port_bits, Layout.queue_bits}
use Rattle.aeth_header.specs.{Layout.route_bits, declared.header.Header.Header}
use Rattle.aeth_server.specs.{PrivateServer.credited, PrivateServer.sent, Shape.HasPaths}
use Rattle.aeth_report.specs.{Flows.Flow, Flows.Run, SessionList.flows_of}

-- How many words a flow's flit of a cycle has.
abbrev pub sends : Flow → ℕ → ℕ
sends flow u = sent flow.server (u + 1) - sent flow.server u

-- How many credits it has: those that the receiver of the opposite channel gives back.
abbrev pub returns : Flow → ℕ → ℕ
returns flow u = credited flow.back (u + 1) - credited flow.back u

-- Whether the flow injects a flit in a cycle: while its session goes, and where there is a word or a
-- credit to send.
abbrev pub injects : Flow → ℕ → Bool
injects flow u =
    nat_le flow.server.go u && nat_lt u flow.server.stop
    && not (sends flow u == 0 && returns flow u == 0)

-- The words of its flit of a cycle.
abbrev pub words_at : Flow → ℕ → List ℕ
words_at flow u = take (sends flow u) (drop (sent flow.server u) flow.values)

-- The header of the flit of cycle u at place i of the path, behind as many hops.
abbrev pub header_at : Flow → ℕ → ℕ → Header
header_at flow i u = record {
  route = flow.route / 2 ^ (port_bits * i);
  queue = flow.remote;
  credits = returns flow u;
  count = sends flow u;
}

-- The flit there; an absent word is 0.
abbrev pub flit_at : Flow → ℕ → ℕ → Flit
flit_at flow i u = record {
  header = word_of (header_at flow i u);
  first = slice_index (words_at flow u) 0;
  second = slice_index (words_at flow u) 1;
}

-- A flow's route and its queue fit a header, and both directions have a path.
pub record IsSendable (flow : Flow) : Type 0 where
  pub route : flow.route < 2 ^ route_bits
  pub remote : flow.remote < 2 ^ queue_bits
  pub paths : HasPaths flow.server.shape
  pub back_paths : HasPaths flow.back.shape

-- Whether a flit of a flow enters a link in a cycle, at a place of its path.
abbrev pub is_there : List Link → Flow → ℕ → ℕ → ℕ × LinkId → Bool
is_there links flow l t place =
    let ahead = offset links flow.path place.0 in
    place.1.0 == l && nat_le ahead t && injects flow (t - ahead)

-- That flit, if there is one.
abbrev pub flits_at : List Link → Flow → ℕ → ℕ → ℕ × LinkId → List Flit
flits_at links flow l t place =
    if is_there links flow l t place
    then flit_at flow place.0 (t - offset links flow.path place.0) ∷ []
    else []

-- Those at all places of its path.
abbrev pub flits_on : List Link → ℕ → ℕ → Flow → List Flit
flits_on links l t flow = flat_map (flits_at links flow l t) (enumerate_from 0 flow.path)

-- The flits that a link carries in a cycle.
abbrev pub carries : Run → ℕ → ℕ → List Flit
carries run l t = flat_map (flits_on run.design.chip.links l t) (flows_of run)

-- Link l carries in cycle t the flit that the flow of number c injected in cycle u, at place i of its
-- path.
pub record IsCarried (run : Run) (l t c i u : ℕ) (flow : Flow) : Type 0 where
  pub flow_is : slice_get (flows_of run) c ≡ Some flow
  pub place : slice_get flow.path i ≡ Some (record { 0 = l })
  pub time : u + offset run.design.chip.links flow.path i ≡ t
  pub injected : IsTrue (injects flow u)

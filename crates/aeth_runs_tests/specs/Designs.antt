-- Worked designs: two routers with an interface each, one or two connections between them, and the
-- plans that their allocations give.
--
--   pair, slow_pair      the chip, and the same with a delay of 2 on a link
--   one_design, slow_design      one connection, on either chip
--   two_design      two connections, and a smooth pair of use cases
--   still, one_spans, two_spans      how long switches take
use Rattle.std.proofs.Common.{ℕ, List, [], ◌∷◌, Bool, true, false, Some, codes, map}
use Rattle.aeth_base.specs.declared.ids.LinkId.{LinkId}
use Rattle.aeth_base.specs.declared.ids.Side.{Side, TheVariants.Back, TheVariants.Fwd}
use Rattle.aeth_chip.specs.Chip.{ChipData}
use Rattle.aeth_chip.specs.declared.node.Link.{Link}
use Rattle.aeth_chip.specs.declared.node.Node.{Node, TheVariants.Ni, TheVariants.Router}
use Rattle.aeth_app.specs.App.{AppData, UseData}
use Rattle.aeth_app.specs.declared.connection.{Connection.Connection, Core.Core}
use Rattle.aeth_app.specs.declared.connection.{Price.TheVariants.Hops, Wish.Wish}
use Rattle.aeth_group.specs.Members.{GroupsData}
use Rattle.aeth_group.specs.declared.grant.{Grant.Grant, SeatLine.SeatLine}
use Rattle.aeth_trace.specs.Spans.{SpanData}
use Rattle.aeth_report.specs.Design.{Design}

-- ---- The chip

abbrev router : ℕ → Node
router r = Router (record { 0 = r })

abbrev ni : ℕ → Node
ni n = Ni (record { 0 = n })

abbrev link : Node → Node → ℕ → Link
link from to delay = record { from = from; to = to; delay = delay }

-- Both ways between each interface and its router, and between the routers, the first with a delay.
abbrev pair_with : ℕ → ChipData
pair_with delay = record {
  slots = 8;
  routers = codes "r0" ∷ codes "r1" ∷ [];
  nis = codes "n0" ∷ codes "n1" ∷ [];
  links = link (ni 0) (router 0) 1 ∷ link (router 0) (ni 0) 1 ∷ link (ni 1) (router 1) 1
      ∷ link (router 1) (ni 1) 1 ∷ link (router 0) (router 1) delay ∷ link (router 1) (router 0) 1
      ∷ [];
}

abbrev pair : ChipData
pair = pair_with 1

abbrev slow_pair : ChipData
slow_pair = pair_with 2

-- ---- The applications

abbrev core : List ℕ → ℕ → Core
core name n = record { name = name; fixed = Some (record { 0 = n }) }

abbrev wish : ℕ → ℕ → ℕ → Wish
wish words per latency = record { words = words; per = per; latency = latency; delay = 0 }

abbrev connection : List ℕ → ℕ → ℕ → Wish → Connection
connection name from to fwd = record {
  name = name;
  from = record { 0 = from };
  to = record { 0 = to };
  fwd = fwd;
  back = wish 0 1 12;
}

abbrev use_case : List ℕ → List Bool → List Bool → UseData
use_case name has smooth = record { name = name; has = has; smooth = smooth }

abbrev app_with : List Core → List Connection → List UseData → AppData
app_with cores connections uses = record {
  slots = 8;
  detour = 0;
  price = Hops;
  cores = cores;
  connections = connections;
  uses = uses;
}

abbrev first_connection : Connection
first_connection = connection (codes "c0") 0 1 (wish 1 2 6)

abbrev second_connection : Connection
second_connection = connection (codes "c1") 2 1 (wish 1 8 12)

abbrev pub one_app : AppData
one_app =
    app_with (core (codes "cpu") 0 ∷ core (codes "mem") 1 ∷ []) (first_connection ∷ [])
    (use_case (codes "main") (true ∷ []) (false ∷ []) ∷ [])

abbrev pub two_app : AppData
two_app =
    app_with (core (codes "cpu") 0 ∷ core (codes "mem") 1 ∷ core (codes "dsp") 0 ∷ [])
    (first_connection ∷ second_connection ∷ [])
    (use_case (codes "u0") (true ∷ false ∷ []) (false ∷ true ∷ [])
    ∷ use_case (codes "u1") (true ∷ true ∷ []) (false ∷ false ∷ []) ∷ [])

abbrev pub one_groups : GroupsData
one_groups =
    record { connections = 1; count = 1; uses = record { group = 0; has = true ∷ [] } ∷ [] }

abbrev pub two_groups : GroupsData
two_groups = record {
  connections = 2;
  count = 1;
  uses = record { group = 0; has = true ∷ false ∷ [] }
      ∷ record { group = 0; has = true ∷ true ∷ [] } ∷ [];
}

-- ---- The plans

abbrev seat : ℕ → ℕ → ℕ → SeatLine
seat core n place = record { core = record { 0 = core }; ni = record { 0 = n }; seat = place }

abbrev path_of : List ℕ → List LinkId
path_of links = map (λ l. record { 0 = l }) links

-- A grant of group 0.
abbrev grant : ℕ → Side → List ℕ → List ℕ → Grant
grant c side path slots = record {
  unit = record { conn = record { 0 = c }; group = record { 0 = 0 } };
  side = side;
  path = path_of path;
  slots = record { size = 8; slots = slots };
}

abbrev there : List ℕ
there = 0 ∷ 4 ∷ 3 ∷ []

abbrev home : List ℕ
home = 2 ∷ 5 ∷ 1 ∷ []

-- The plan for one connection, with these slots forward.
abbrev one_with : ChipData → List ℕ → Design
one_with chip slots = record {
  chip = chip;
  app = one_app;
  groups = one_groups;
  seats = seat 0 0 0 ∷ seat 1 1 0 ∷ [];
  grants = grant 0 Fwd there slots ∷ grant 0 Back home (0 ∷ []) ∷ [];
}

abbrev pub one_design : Design
one_design = one_with pair (0 ∷ 4 ∷ [])

abbrev pub slow_design : Design
slow_design = one_with slow_pair (0 ∷ 2 ∷ 5 ∷ [])

abbrev pub two_design : Design
two_design = record {
  chip = pair;
  app = two_app;
  groups = two_groups;
  seats = seat 0 0 0 ∷ seat 1 1 0 ∷ seat 2 0 1 ∷ [];
  grants = grant 0 Fwd there (0 ∷ 4 ∷ []) ∷ grant 0 Back home (0 ∷ [])
      ∷ grant 1 Fwd there (1 ∷ []) ∷ grant 1 Back home (1 ∷ []) ∷ [];
}

-- ---- The spans

-- A switch from a use case to itself takes no time.
abbrev still : ℕ × ℕ
still = (0, 0)

abbrev pub one_spans : SpanData
one_spans = record { uses = 1; pairs = still ∷ [] }

-- The switch that opens the second connection makes four writes; that back closes it, and waits for
-- three cycles before.
abbrev pub two_spans : SpanData
two_spans = record { uses = 2; pairs = still ∷ (0, 4) ∷ (3, 4) ∷ still ∷ [] }

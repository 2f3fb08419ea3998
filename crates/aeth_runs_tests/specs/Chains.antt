-- Worked chains: what runs of them are to print. A table of 8 slots; connection 0 between two interfaces,
-- by a path of 3 links each way, and connection 1 beside it within an interface, by one of 2.
use Rattle.std.proofs.Common.{◌≡◌, ℕ, List, [], ◌∷◌, ◌++◌, codes}
use Rattle.aeth_base.specs.declared.ids.Channel.{Channel}
use Rattle.aeth_base.specs.declared.ids.Side.{Side, TheVariants.Back, TheVariants.Fwd}
use Rattle.aeth_text.specs.Spelling.{text_of_lines}
use Rattle.aeth_trace.specs.declared.{receivers.PullRow.PullRow, words.WordRow.WordRow}
use Rattle.aeth_chain.specs.{Chain.Leg, Chain.bound_of, ChainRun.chain_log, ChainText.chain_lines}

-- A channel.
abbrev channel : ℕ → Side → Channel
channel conn side = record { conn = record { 0 = conn }; side = side }

-- The channels with the work behind them: 2 slots and 4 words a table forward, 1 and 2 otherwise.
abbrev c0_fwd : ℕ → Leg
c0_fwd work = record {
  channel = channel 0 Fwd;
  shape = record {
    size = 8;
    slots = 0 ∷ 4 ∷ [];
    path_delay = 3;
    rate = 4;
    receiver_delay = 0;
    back_slots = 0 ∷ [];
    back_path_delay = 3;
  };
  work = work;
}

abbrev c0_back : ℕ → Leg
c0_back work = record {
  channel = channel 0 Back;
  shape = record {
    size = 8;
    slots = 0 ∷ [];
    path_delay = 3;
    rate = 2;
    receiver_delay = 0;
    back_slots = 0 ∷ 4 ∷ [];
    back_path_delay = 3;
  };
  work = work;
}

abbrev c1_fwd : ℕ → Leg
c1_fwd work = record {
  channel = channel 1 Fwd;
  shape = record {
    size = 8;
    slots = 2 ∷ [];
    path_delay = 2;
    rate = 2;
    receiver_delay = 0;
    back_slots = 3 ∷ [];
    back_path_delay = 2;
  };
  work = work;
}

-- Words 7, 8 and 9, offered on a channel in cycle 0.
abbrev three_on : Channel → List WordRow
three_on on =
    record { channel = on; cycle = 0; value = 7 }
    ∷ record { channel = on; cycle = 0; value = 8 }
    ∷ record { channel = on; cycle = 0; value = 9 } ∷ []

-- A chain in use case `main` prints this text of a run, by the definitions.
abbrev Prints : List Leg → List WordRow → List PullRow → ℕ → List ℕ → Type 0
Prints legs words pulls cycles text =
    text_of_lines (chain_lines (codes "main") (chain_log legs words pulls cycles) (bound_of legs))
    ≡ text

-- Two channels, with work of 3 cycles between them.
abbrev two_legs : List Leg
two_legs = c0_back 3 ∷ c1_fwd 0 ∷ []

abbrev pub AllLand : Type 0
AllLand = Prints two_legs (three_on (channel 0 Back)) [] 30
    (codes "chain 1 main 2 19\nland 1 0 12 23 7\nland 2 0 12 27 8\nland 3 0 20 31 9\n"
    ++ codes "left 0\nend\n")

-- The run ends before the third word lands, and before any does.
abbrev pub OneIsLeft : Type 0
OneIsLeft = Prints two_legs (three_on (channel 0 Back)) [] 13
    (codes "chain 1 main 2 19\nland 1 0 12 23 7\nland 2 0 12 27 8\nleft 1\nend\n")

abbrev pub AllAreLeft : Type 0
AllAreLeft = Prints two_legs (three_on (channel 0 Back)) [] 12
    (codes "chain 1 main 2 19\nleft 3\nend\n")

-- One channel: no core passes anything on.
abbrev pub OneLeg : Type 0
OneLeg = Prints (c0_back 0 ∷ []) (three_on (channel 0 Back)) [] 30
    (codes "chain 1 main 2 6\nland 1 0 3 10 7\nland 2 0 3 14 8\nland 3 0 11 18 9\n"
    ++ codes "left 0\nend\n")

-- Three channels, the first of which has the greatest rate.
abbrev pub LeastRateIsLater : Type 0
LeastRateIsLater =
    Prints (c0_fwd 3 ∷ c0_back 2 ∷ c1_fwd 0 ∷ []) (three_on (channel 0 Fwd)) [] 40
    (codes "chain 1 main 2 30\nland 1 0 20 34 7\nland 2 0 20 38 8\nland 3 0 28 42 9\n"
    ++ codes "left 0\nend\n")

-- The application: a core on each interface, and four rounds of connections, each of which leads from
-- every core to the one that is so many places further on.
--
--   core_text      a core
--   connection_text, round_text      a connection, and those of a round
--   use_text, uses_text      the use cases
--   streams_with, streams_text      the application file
-- This project's own.
use Rattle.std.proofs.Common.{ℕ, ◌+◌, ◌*◌, ◌%◌, ◌++◌, List, codes, decimal}
use Rattle.aeth_demo.specs.{Draws.shift_of, Limits.mesh_routers, Pieces.comma_before}
use Rattle.aeth_demo.specs.{Pieces.names_text, Pieces.texts_below}

-- Core k on interface k.
abbrev pub core_text : ℕ → List ℕ
core_text k =
    comma_before k ++ codes "{name = \"k" ++ decimal k ++ codes "\", ni = \"n" ++ decimal k
    ++ codes "\"}"

-- The connection of a round from core i, with a word in so many cycles forward.
abbrev pub connection_text : ℕ → ℕ → ℕ → ℕ → List ℕ
connection_text round per shift i =
    codes "[[connection]]\nname = \"c" ++ decimal (mesh_routers * round + i)
    ++ codes "\"\nfrom = \"k" ++ decimal i
    ++ codes "\"\nto = \"k" ++ decimal ((i + shift) % mesh_routers)
    ++ codes "\"\nfwd = {words = 1, per = " ++ decimal per
    ++ codes ", latency = 100, delay = 0}\nback = {words = 0, per = 1, latency = 100, delay = 0}\n"

-- The connections of a round.
abbrev pub round_text : ℕ → ℕ → ℕ → List ℕ
round_text round per shift =
    texts_below (connection_text round per shift) mesh_routers

-- A use case with so many connections from a first one on.
abbrev pub use_text : ℕ → ℕ → ℕ → List ℕ
use_text u first count =
    codes "[[use]]\nname = \"u" ++ decimal u ++ codes "\"\nconnections = ["
    ++ names_text (codes "c") first count ++ codes "]\n"

-- The first use case has the first round and is smooth with the second, which has the first two; the
-- others have a round each.
abbrev pub uses_text : List ℕ
uses_text =
    use_text 0 0 16 ++ codes "smooth = [\"u1\"]\n" ++ use_text 1 0 32 ++ use_text 2 32 16
    ++ use_text 3 48 16

-- The application file, where the rounds lead so far.
unfoldable pub streams_with : ℕ → ℕ → ℕ → ℕ → List ℕ
streams_with s0 s1 s2 s3 =
    codes "version = 1\ndetour = 1\ncore = [ " ++ texts_below core_text mesh_routers
    ++ codes " ]\n" ++ round_text 0 64 s0 ++ round_text 1 64 s1 ++ round_text 2 16 s2
    ++ round_text 3 32 s3 ++ uses_text

-- The application file of a number.
abbrev pub streams_text : ℕ → List ℕ
streams_text n = streams_with (shift_of n 0) (shift_of n 1) (shift_of n 2) (shift_of n 3)

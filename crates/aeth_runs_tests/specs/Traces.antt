-- Rows of worked traces.
use Rattle.std.proofs.Common.{ℕ, List, [], ◌∷◌, ◌++◌, map}
use Rattle.aeth_base.specs.declared.ids.{Channel.Channel, Side.TheVariants.Fwd}
use Rattle.aeth_trace.specs.declared.{receivers.PullRow.PullRow, switches.SwitchRow.SwitchRow}
use Rattle.aeth_trace.specs.declared.{words.WordRow.WordRow}

abbrev forward : ℕ → Channel
forward c = record { conn = record { 0 = c }; side = Fwd }

-- Words on the channel forward of a connection, in one cycle.
abbrev pub offers : ℕ → ℕ → List ℕ → List WordRow
offers c cycle values =
    map (λ value. record { channel = forward c; cycle = cycle; value = value }) values

-- A receiver that takes nothing.
abbrev pub holds : ℕ → PullRow
holds c = record { channel = forward c; cycle = 0; pull = 0 }

-- A switch without a drain.
abbrev pub switch : ℕ → ℕ → SwitchRow
switch cycle u = record { cycle = cycle; to = record { 0 = u }; drain = 0 }

-- Five words on the first connection.
abbrev pub five_words : List WordRow
five_words = offers 0 1 (100 ∷ 101 ∷ 102 ∷ 103 ∷ 104 ∷ [])

-- The same, and two on the second, of which one comes too early for it.
abbrev pub seven_words : List WordRow
seven_words = five_words ++ offers 1 9 (199 ∷ []) ++ offers 1 10 (200 ∷ [])

-- Twelve words on the first, behind one on the second.
abbrev pub many_words : List WordRow
many_words = offers 1 0 (200 ∷ []) ++ offers 0 1 (100 ∷ 101 ∷ 102 ∷ 103 ∷ 104 ∷ 105 ∷ 106 ∷ 107
    ∷ 108 ∷ 109 ∷ 110 ∷ 111 ∷ [])

-- Chains of smooth pairs, which join use cases into groups.
-- This project's own.
use Rattle.std.proofs.Common.{◌≡◌, ◌<◌, ℕ, List, [], ◌∷◌, IsTrue, length}
use Rattle.aeth_app.specs.App.{UseData, is_smooth}

-- A list of use cases leads from one use case to another: the first of them is smooth with the one,
-- each is smooth with the next, and the last is the other.
abbrev pub SmoothChain : List UseData → ℕ → List ℕ → ℕ → Type 0
SmoothChain uses u [] v = u ≡ v
SmoothChain uses u (w ∷ chain) v =
    (w < length uses) × IsTrue (is_smooth uses u w) × SmoothChain uses w chain v

-- Two use cases are in one group: a chain of smooth pairs leads from the one to the other.
pub record SameGroup (uses : List UseData) (u v : ℕ) : Type 0 where
  pub chain : List ℕ
  pub leads : SmoothChain uses u chain v

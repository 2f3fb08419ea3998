-- Laws of the marks of links with a flit.
use Rattle.std.proofs.Common.{ℕ, ◌<◌, ◌≤◌, ◌+◌, ◌≡◌, ◌∙◌, sym, ap, inl, inr, Option, None, IsSome}
use Rattle.std.proofs.Common.{is_some, List, [], ◌∷◌, length, unwrap_or}
use Rattle.std.proofs.lemmas.{Bool.cases_lt, Option.slice_get_past}
use Rattle.aeth_clocked.specs.declared.flit.Flit.{Flit}
use Rattle.aeth_clocked.specs.Wires.{flit_on, has_flit, used_from}
use Rattle.aeth_base.proofs.MarkedLemmas.{next-passing, none-passing}
use Rattle.aeth_base.proofs.TestLemmas.{is_some-false}

-- A link that has a flit is one of the links.
pub flit-within : (wires : List (Option Flit)) (link : ℕ) → IsSome (flit_on wires link)
    → link < length wires
flit-within wires link some = elim (cases_lt link (length wires)) [
  | inl within ↦ within
  | inr past ↦
      let none : flit_on wires link ≡ None =
      ap (λ (found : Option (Option Flit)). unwrap_or found None) (slice_get_past wires link past) in
      absurd (cc (sym (ap is_some none) ∙ some))
]

-- The next link with a flit, of those from one on, and the ones behind it.
pub record NextUsed (wires : List (Option Flit)) (from next : ℕ) (rest : List ℕ) : Type 0 where
  pub after : from ≤ next
  pub below : next < length wires
  pub empty : (link : ℕ) → from ≤ link → link < next → flit_on wires link ≡ None
  pub some : IsSome (flit_on wires next)
  pub behind : rest ≡ used_from wires (next + 1)

pub used-next : (wires : List (Option Flit)) (from next : ℕ) (rest : List ℕ)
    → used_from wires from ≡ next ∷ rest → NextUsed wires from next rest
used-next wires from next rest list =
    let found = next-passing (has_flit wires) from (length wires) next rest list in
    record {
      after = found.after;
      below = found.below;
      empty = λ link after below.
          is_some-false (flit_on wires link) (found.none link after below);
      some = found.is;
      behind = found.behind;
    }

-- Where no link with a flit is left, all from there on are empty.
pub used-end : (wires : List (Option Flit)) (from : ℕ) → used_from wires from ≡ []
    → (link : ℕ) → from ≤ link → link < length wires → flit_on wires link ≡ None
used-end wires from list link after below =
    is_some-false (flit_on wires link)
    (none-passing (has_flit wires) from (length wires) list link after below)

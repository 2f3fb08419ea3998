-- Laws of who sent what has come to a wire, where what senders send changes.
use Rattle.std.proofs.Common.{ℕ, ◌≡◌, ◌≢◌, ◌<◌, ◌∙◌, refl, sym, ap, inl, inr, Option, Some, None}
use Rattle.std.proofs.Common.{is_some, IsSome}
use Rattle.std.proofs.lemmas.Bool.{cases_eq}
use Rattle.aeth_clocked.specs.declared.flit.Flit.{Flit}
use Rattle.aeth_router.specs.Onward.{Arrival, CameFrom, Nothing, One, Several, arrived}

-- Just what the first so many senders send makes a difference.
pub CameFrom-same : (old new : ℕ → Option Flit) (to : ℕ) (arrival : Arrival)
    → ((sender : ℕ) → sender < to → new sender ≡ old sender)
    → CameFrom old to arrival → CameFrom new to arrival
CameFrom-same old new to Nothing same came = λ sender below.
    same sender below ∙ came sender below
CameFrom-same old new to (One flit) same came = (
  came.0,
  came.1,
  same came.0 came.1 ∙ came.2,
  λ other below apart. same other below ∙ came.3 other below apart,
)
CameFrom-same old new to Several same came = (
  came.0,
  came.1,
  came.2,
  came.3,
  came.4,
  ap is_some (same came.0 came.2) ∙ came.5,
  ap is_some (same came.1 came.3) ∙ came.6,
)

-- Who sends something is not who sends nothing.
apart-sends : (sent : ℕ → Option Flit) (sender idle : ℕ) → IsSome (sent sender) → sent idle ≡ None
    → sender ≢ idle
apart-sends sent sender idle some none same =
    cc (sym (ap is_some (ap sent same ∙ none)) ∙ some)

-- A flit comes where a sender sends it that sent nothing, and all others send what they sent.
came-more : (old new : ℕ → Option Flit) (to idle : ℕ) (flit : Option Flit) (arrival : Arrival)
    → idle < to → old idle ≡ None → new idle ≡ flit
    → ((other : ℕ) → other < to → other ≢ idle → new other ≡ old other)
    → CameFrom old to arrival → CameFrom new to (arrived flit arrival)
came-more old new to idle None arrival within none is same came =
    CameFrom-same old new to arrival (λ sender below. elim (cases_eq sender idle) [
      | inl here ↦ ap new here ∙ is ∙ sym none ∙ ap old (sym here)
      | inr apart ↦ same sender below apart
    ]) came
came-more old new to idle (Some flit) Nothing within none is same came =
    (idle, within, is, λ other below apart. same other below apart ∙ came other below)
came-more old new to idle (Some flit) (One first) within none is same came =
    let apart = apart-sends old came.0 idle (ap is_some came.2) none in (
      came.0,
      idle,
      came.1,
      within,
      apart,
      ap is_some (same came.0 came.1 apart ∙ came.2),
      ap is_some is,
    )
came-more old new to idle (Some flit) Several within none is same came =
    let first = apart-sends old came.0 idle came.5 none in
    let second = apart-sends old came.1 idle came.6 none in (
      came.0,
      came.1,
      came.2,
      came.3,
      came.4,
      ap is_some (same came.0 came.2 first) ∙ came.5,
      ap is_some (same came.1 came.3 second) ∙ came.6,
    )

pub CameFrom-more : (old new : ℕ → Option Flit) (to idle : ℕ) (arrival : Arrival) → idle < to
    → old idle ≡ None → ((other : ℕ) → other < to → other ≢ idle → new other ≡ old other)
    → CameFrom old to arrival → CameFrom new to (arrived (new idle) arrival)
CameFrom-more old new to idle arrival within none =
    came-more old new to idle (new idle) arrival within none refl

-- What a wire carries to which flits came from senders of which one, or none, sends.
use Rattle.std.proofs.Common.{ℕ, ◌≡◌, ◌<◌, refl, sym, ◌∙◌, subst, Option, None, IsSome}
use Rattle.aeth_clocked.specs.declared.flit.Flit.{Flit}
use Rattle.aeth_router.specs.Onward.{Arrival, CameFrom, Nothing, One, Several, carried}
use Rattle.aeth_router.specs.Passing.{IsSole}

-- Where no sender sends, nothing is carried.
pub carried-none : (sent : ℕ → Option Flit) (to : ℕ) (arrival : Arrival) → CameFrom sent to arrival
    → ((sender : ℕ) → sender < to → sent sender ≡ None) → carried arrival ≡ None
carried-none sent to Nothing came none = refl
carried-none sent to (One flit) came none =
    let (sender, below, sends, others) = came in
    sym sends ∙ none sender below
carried-none sent to Several came none = refl

-- What came from some of the senders, of which others send nothing, is what those send.
pub carried-sole : (Is : ℕ → Type 0) (sent own : ℕ → Option Flit) (to : ℕ) (arrival : Arrival)
    (result : Option Flit) → CameFrom sent to arrival → IsSole Is own result
    → ((sender : ℕ) → Is sender → sender < to)
    → ((sender : ℕ) → Is sender → sent sender ≡ own sender)
    → ((sender : ℕ) → sender < to → IsSome (sent sender) → Is sender)
    → carried arrival ≡ result
carried-sole Is sent own to Nothing result came sole within same mine =
    sym (sole.none (λ sender is. sym (same sender is) ∙ came sender (within sender is)))
carried-sole Is sent own to (One flit) result came sole within same mine =
    let (sender, below, sends, others) = came in
    let here : Is sender = mine sender below (subst IsSome (sym sends) refl) in
    sym (sole.one sender flit here (sym (same sender here) ∙ sends)
    (λ other is apart. sym (same other is) ∙ others other (within other is) apart))
carried-sole Is sent own to Several result came sole within same mine =
    let (sender, other, below, below_too, apart, some, some_too) = came in
    let here : Is sender = mine sender below some in
    let there : Is other = mine other below_too some_too in
    sym (sole.several sender other here there apart (subst IsSome (same sender here) some)
    (subst IsSome (same other there) some_too))

-- Laws of rules that are judged one after the other.
use Rattle.std.proofs.Common.{◌≡◌, ℕ, List, Option, Some, None, refl, Result, Ok, Err}
use Rattle.aeth_base.specs.{Faults.BrokenRule, declared.shown.Broken.Broken}
use Rattle.aeth_document.specs.{Chain.◌>>=◌, Walks.judged}

-- Where a chain gives a value, so does its first rule, and the rest gives it of that.
pub bind_ok : {A B : Type 0} (first : Result A BrokenRule) (next : A → Result B BrokenRule) (y : B)
    → (first >>= next) ≡ Ok y → (x : A) × (first ≡ Ok x) × (next x ≡ Ok y)
bind_ok (Ok x) next y e = (x, refl, e)
bind_ok (Err broken) next y e = absurd (cc e)

-- A rule that is kept has a walk that finds nothing.
pub judged-none : (rule : ℕ) (name : List ℕ) (found : Option Broken) (kept : Unit {0})
    → judged rule name found ≡ Ok kept → found ≡ None
judged-none rule name None kept is = refl
judged-none rule name (Some broken) kept is = absurd (cc is)

-- Where a rule and what comes after it give a value, the rule is kept, and the rest gives it.
pub judged-kept : {X : Type 0} (rule : ℕ) (name : List ℕ) (found : Option Broken)
    (next : Result X BrokenRule) (value : X) → (judged rule name found >>= (λ _. next)) ≡ Ok value
    → (found ≡ None) × (next ≡ Ok value)
judged-kept rule name None next value is = (refl, is)
judged-kept rule name (Some broken) next value is = absurd (cc is)

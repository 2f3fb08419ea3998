-- Laws of tests and of what they tell: of truth values, of options, and of an order turned round.
use Rattle.std.proofs.Common.{◌≡◌, ◌≢◌, Bool, true, false, IsTrue, Option, Some, None, refl, rules}
use Rattle.std.proofs.Common.{is_some}
use Rattle.std.specs.Ordering.{ordering_reverse, ordering_then}
use Rattle.std.specs.declared.cmp.Ordering.{Ordering}
use Rattle.std.specs.declared.cmp.Ordering.TheVariants.{Equal, Greater, Less}

-- A test of which it is said that it is true is true.
pub true_from_IsTrue : (b : Bool) → IsTrue b → b ≡ true
true_from_IsTrue b test = search rules

-- And the other way round.
pub IsTrue_from_true : (b : Bool) → b ≡ true → IsTrue b
IsTrue_from_true b test = search rules

-- Where the test says that there is something, there is.
pub is_some-true : {X : Type 0} (o : Option X) → is_some o ≡ true → (x : X) × (o ≡ Some x)
is_some-true None is = absurd (cc is)
is_some-true (Some x) is = (x, refl)

-- Where it says that there is nothing, there is nothing.
pub is_some-false : {X : Type 0} (o : Option X) → is_some o ≡ false → o ≡ None
is_some-false None is = refl
is_some-false (Some x) is = absurd (cc is)

-- Where neither an order nor the same turned round is less, it is equal.
pub equal_from_turned : (order turned : Ordering) → order ≡ ordering_reverse turned → order ≢ Less
    → turned ≢ Less → order ≡ Equal
equal_from_turned Less turned is not_before not_after = absurd (not_before refl)
equal_from_turned Equal turned is not_before not_after = refl
equal_from_turned Greater Less is not_before not_after = absurd (not_after refl)
equal_from_turned Greater Equal is not_before not_after = cc
equal_from_turned Greater Greater is not_before not_after = cc

-- Where neither of two comparisons tells two apart, each doesn't.
pub then-Equal : (o p : Ordering) → ordering_then o p ≡ Equal → (o ≡ Equal) × (p ≡ Equal)
then-Equal Less p is = cc is
then-Equal Equal p is = (refl, is)
then-Equal Greater p is = cc is

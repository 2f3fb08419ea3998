-- What rules give: one value, or a broken rule.
use Rattle.std.proofs.Common.{◌≡◌, Result, Ok, Err}
use Rattle.aeth_base.specs.Faults.{BrokenRule}

pub ok_is : {A : Type 0} (x y : A) → ◌≡◌ {A = Result A BrokenRule} (Ok x) (Ok y) → x ≡ y
ok_is x y e = cc

pub err_ok : {A : Type 0} (broken : BrokenRule) (y : A)
    → ◌≡◌ {A = Result A BrokenRule} (Err broken) (Ok y) → ⊥
err_ok broken y e = cc e

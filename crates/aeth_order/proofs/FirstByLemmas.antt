-- The first of a list of units by a comparison.
use Rattle.std.proofs.Common.{◌≡◌, ◌⊎◌, ◌∙◌, cond, List, [], ◌∷◌, Contains, Option, Some, None}
use Rattle.std.proofs.Common.{refl, sym, ap, inl, inr, IfSome, fold}
use Rattle.std.proofs.lemmas.Option.{same_Some}
use Rattle.std.specs.Cmp.{IsTotalOrder}
use Rattle.std.specs.Ordering.{is_lt, ordering_reverse}
use Rattle.std.specs.declared.cmp.Ordering.{Ordering}
use Rattle.std.specs.declared.cmp.Ordering.TheVariants.{Less, Equal, Greater}
use Rattle.aeth_order.specs.{declared.keys.UnitKeys.UnitKeys, Order.earlier, Order.first_by}
use Rattle.aeth_base.proofs.Members.{Contains-nil, Contains-here, Contains-there, Contains-cases}

-- A unit is the one, or comes after it.
abbrev pub IsAfter : (UnitKeys → UnitKeys → Ordering) → UnitKeys → UnitKeys → Type 0
IsAfter order first a = (a ≡ first) ⊎ (order first a ≡ Less)

-- A unit of a list before all others.
pub record HasFirst (order : UnitKeys → UnitKeys → Ordering) (units : List UnitKeys)
    (first : UnitKeys) : Type 0 where
  pub is_in : Contains units first
  pub before : (a : UnitKeys) → Contains units a → IsAfter order first a

-- The earlier of two that come after the first, or are it.
earlier-after : (order : UnitKeys → UnitKeys → Ordering) (m a b : UnitKeys) (o : Ordering)
    → IsAfter order m a → IsAfter order m b → IsAfter order m (cond (is_lt o) b a)
earlier-after order m a b Less after after' = after'
earlier-after order m a b Equal after after' = after
earlier-after order m a b Greater after after' = after

-- What comes after isn't before.
not-before : (order : UnitKeys → UnitKeys → Ordering) → IsTotalOrder order → (m a : UnitKeys)
    → order m a ≡ Less → order a m ≡ Greater
not-before order total m a after = total.antisymm a m ∙ ap ordering_reverse after

earlier-is : (order : UnitKeys → UnitKeys → Ordering) → IsTotalOrder order
    → (m a b : UnitKeys) (o : Ordering) → order b a ≡ o → IsAfter order m a → IsAfter order m b
    → (a ≡ m) ⊎ (b ≡ m) → cond (is_lt o) b a ≡ m
earlier-is order total m a b Less is after (inl same) (inl here) = same
earlier-is order total m a b Less is after (inr later) (inl here) =
    let wrong : Less ≡ Greater =
    sym is ∙ ap (order b) here ∙ not-before order total m b later in
    cc
earlier-is order total m a b Less is after after' (inr here) = here
earlier-is order total m a b Equal is after after' (inl here) = here
earlier-is order total m a b Equal is (inl same) after' (inr here) = same
earlier-is order total m a b Equal is (inr later) after' (inr here) =
    let wrong : Less ≡ Equal = sym later ∙ ap (λ c. order c a) (sym here) ∙ is in cc
earlier-is order total m a b Greater is after after' (inl here) = here
earlier-is order total m a b Greater is (inl same) after' (inr here) = same
earlier-is order total m a b Greater is (inr later) after' (inr here) =
    let wrong : Less ≡ Greater = sym later ∙ ap (λ c. order c a) (sym here) ∙ is in cc

-- Going on from what was first so far, if anything, leads to the first.
folds-to : (order : UnitKeys → UnitKeys → Ordering) → IsTotalOrder order → (m : UnitKeys)
    → (units : List UnitKeys) (best : Option UnitKeys)
    → IfSome best (IsAfter order m)
    → ((a : UnitKeys) → Contains units a → IsAfter order m a)
    → (best ≡ Some m) ⊎ Contains units m → fold (earlier order) best units ≡ Some m
folds-to order total m [] best after all (inl is) = is
folds-to order total m [] best after all (inr has) = Contains-nil has
folds-to order total m (x ∷ units) None after all there =
    folds-to order total m units (Some x) (all x (Contains-here x units))
    (λ a has. all a (Contains-there x units a has)) (elim there [
      | inl is ↦ cc is
      | inr has ↦ elim (Contains-cases x units m has) [
        | inl here ↦ inl (ap Some here)
        | inr later ↦ inr later
      ]
    ])
folds-to order total m (x ∷ units) (Some a) after all there =
    let here = all x (Contains-here x units) in
    folds-to order total m units (Some (cond (is_lt (order x a)) x a))
    (earlier-after order m a x (order x a) after here)
    (λ b has. all b (Contains-there x units b has)) (elim there [
      | inl is ↦ inl (ap Some (earlier-is order total m a x (order x a) refl after here
          (inl (same_Some a m is))))
      | inr has ↦ elim (Contains-cases x units m has) [
        | inl same ↦ inl (ap Some (earlier-is order total m a x (order x a) refl after here
            (inr same)))
        | inr later ↦ inr later
      ]
    ])

-- The first of a list is what it is before all others.
pub first_by-is : (order : UnitKeys → UnitKeys → Ordering) → IsTotalOrder order
    → (units : List UnitKeys) (m : UnitKeys) → HasFirst order units m
    → first_by order units ≡ Some m
first_by-is order total units m first =
    folds-to order total m units None tt first.before (inr first.is_in)

use Rattle.std.proofs.Common.{◌≡◌, ◌∙◌, ◌+◌, ◌++◌, ◌∷◌, ℕ, zero, suc, List, [], ap, refl}
use Rattle.std.proofs.lemmas.List.{length_push}
use Rattle.std.specs.declared.{vec.Vec.Vec, alloc.Global.Global}
use Rattle.aeth_base.specs.declared.ids.LinkId.{LinkId}
use Rattle.aeth_chip.specs.Index.{list_at}
use Rattle.aeth_chip.proofs.lists.empty_lists.Goals as goal

-- An empty list was put behind empty ones.
none_more : (lists : List (Vec LinkId Global)) (list : Vec LinkId Global) → list.items ≡ []
    → ((place : ℕ) → list_at lists place ≡ [])
    → (place : ℕ) → list_at (lists ++ list ∷ []) place ≡ []
none_more [] list none each zero = none
none_more [] list none each (suc place) = refl
none_more (first ∷ lists) list none each zero = each zero
none_more (first ∷ lists) list none each (suc place) =
    none_more lists list none (λ p. each (suc p)) place

-- One more list.
pub loop-preserved : goal.loop-preserved
loop-preserved c =
    let lists = c.loop.lists.items in
    let list = c.in_ok-with_capacity.field-0 in
    record {
      size = rw c.in_ok-push.ensures.items
          (length_push lists list ∙ ap (λ n. n + 1) c.loop.invariant.size);
      empty = rw c.in_ok-push.ensures.items
          (none_more lists list c.in_ok-with_capacity.ensures.items c.loop.invariant.empty);
    }

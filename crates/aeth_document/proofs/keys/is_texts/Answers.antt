use Rattle.std.proofs.Common.{◌∙◌, is_some}
use Rattle.toml.specs.{Data.as_str, View.view}
use Rattle.aeth_document.proofs.TableLemmas.{all_items-view}
use Rattle.aeth_document.proofs.keys.is_texts.Goals as goal

-- The array's items pass the test where the values that they show do.
pub returns-in-Some : goal.returns-in-Some
returns-in-Some c =
    rw c.deref.ensures.value at c.are_texts.ensures
    ∙ all_items-view (λ x. is_some (as_str x)) (view c.args.value.now) _ c.in-Some.ensures

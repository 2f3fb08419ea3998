use Rattle.std.proofs.Common.{sym}
use Rattle.aeth_document.{proofs.TableLemmas.listed-items_view, specs.Values.items_at}
use Rattle.aeth_document.proofs.values.items_at.Goals as goal

pub returns-in-Some-as_array : goal.returns-in-Some-as_array
unfolding items_at
returns-in-Some-as_array c =
    rw (← c.in-Some.ensures, ← c.in-Some-as_array.ensures, c.as_slice.ensures.value)
    (sym (listed-items_view _))

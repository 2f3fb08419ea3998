use Rattle.std.proofs.Common.{◌<◌, ◌+◌, ℕ, List, arith, get_or, inl, inr, length}
use Rattle.std.proofs.lemmas.{Bool.cases_lt, Option.slice_get-get_or}
use Rattle.aeth_schedule.specs.{Windows.IsInWindow, declared.windows.Window.Window}
use Rattle.aeth_network.specs.Next.{HasWindow}
use Rattle.aeth_network.proofs.KnownFirsts.{first-of, known-fewer, known-more, known-none, known-of}
use Rattle.aeth_network.proofs.Passed.{past-test}
use Rattle.aeth_network.proofs.WindowLemmas.{begins-late}
use Rattle.aeth_network.proofs.windows.next_window.Goals as goal

-- A window in which a cycle lies, at its place.
window-at : (windows : List Window) (number t : ℕ) (d : Window) → number < length windows
    → IsInWindow (get_or windows number d) t → HasWindow windows t
window-at windows number t d within is = record {
  number = number;
  window = get_or windows number d;
  at = slice_get-get_or windows number d within;
  within = is;
}

-- Those before the first place are over.
pub windows-init : goal.windows-init
windows-init c = known-none c.requires.to (λ t since early seen.
    c.requires.over.over seen.number t seen.item seen.less seen.at since seen.has)

-- One window more, up to the first cycle of those before it.
pub windows-preserved : goal.windows-preserved
windows-preserved c =
    known-more (c.windows.at + 1) _ (λ number t window behind less at is. absurd (omega arith))
    (λ t is. is) c.windows.invariant
    (known-of (λ t. window-at c.args.windows.now c.windows.at t _
    (c.is_begun.ensures.within c.windows-test.true)) c.next_within-next.ensures)

-- All of them: those that are left begin later.
pub returns : goal.returns
returns c =
    let past = past-test c.is_begun.ensures.exact c.windows-test.false in
    first-of (known-fewer (λ t since less has. elim (cases_lt has.number c.windows.at) [
      | inl seen ↦ record {
        number = has.number;
        item = has.window;
        less = seen;
        at = has.at;
        has = has.within;
      }
      | inr left ↦
          absurd (begins-late c.args.windows.now c.requires.order c.windows.next has.number t has.window
          (omega arith) has.at less has.within)
    ]) c.windows.invariant)

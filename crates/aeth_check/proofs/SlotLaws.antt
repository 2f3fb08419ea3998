-- Slots that suffice.
use Rattle.std.proofs.Common.{◌≡◌, ◌↔◌, ℕ, Bool, true, Option, Some}
use Rattle.aeth_slots.specs.Choice.{IsSuitable}
use Rattle.aeth_slots.proofs.ChoiceLemmas.{is_suitable-true, true-is_suitable}
use Rattle.aeth_chip.specs.Chip.{ChipData}
use Rattle.aeth_app.specs.{App.AppData, Rates.need_of, declared.connection.Connection.Connection}
use Rattle.aeth_group.{specs.declared.grant.Grant.Grant, proofs.ListLemmas.same_tests}
use Rattle.aeth_check.specs.Channels.{fits_slots}
use Rattle.aeth_plan.specs.Accepted.{gap_for}

-- What decides whether slots are suitable for a connection's need and gap is the test.
pub suffices : (chip : ChipData) (app : AppData) (grant : Grant) (connection : Connection)
    (found : Option Connection) (need gap : ℕ) (answer : Bool) → found ≡ Some connection
    → need ≡ need_of app.slots connection grant.side → gap ≡ gap_for chip connection grant
    → ((answer ≡ true) ↔ IsSuitable need gap grant.slots) → answer ≡ fits_slots chip app grant found
suffices chip app grant connection found need gap answer is need_is gap_is decides =
    let suits = rw (need_is, gap_is) at decides in
    rw is (same_tests answer _ (λ yes. true-is_suitable _ _ _ (suits.0 yes))
    (λ yes. suits.1 (is_suitable-true _ _ _ yes)))

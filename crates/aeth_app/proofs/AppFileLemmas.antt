-- Every application that a file tells is one, for the chip with which it is read.
use Rattle.std.proofs.Common.{◌≡◌, ℕ, List, Option, Some, None, length, refl, subst, codes, Err, Ok}
use Rattle.std.proofs.Common.{Result}
use Rattle.toml.specs.Data.{Members}
use Rattle.aeth_base.specs.Faults.{BrokenRule}
use Rattle.aeth_chip.specs.Chip.{ChipData, IsChip}
use Rattle.aeth_document.specs.{Chain.◌>>=◌, Document.document_of}
use Rattle.aeth_document.proofs.ChainLemmas.{judged-kept, judged-none}
use Rattle.aeth_app.specs.declared.connection.{Connection.Connection, Core.Core}
use Rattle.aeth_app.specs.App.{AppData, IsApp, IsAppOf}
use Rattle.aeth_app.specs.AppFile.{app_in, app_of, app_of_document, told_app}
use Rattle.aeth_app.specs.Demands.{IsWithinDemands, demands}
use Rattle.aeth_app.proofs.{RangeLemmas.in_range, RepeatLemmas.are_apart, ToldLemmas.is_app}
use Rattle.aeth_app.proofs.{ToldLemmas.is_app_of}

-- Rules on what an application asks for that are kept.
demands-kept : (nis : ℕ) (cores : List Core) (connections : List Connection) (kept : Unit {0})
    → demands nis cores connections ≡ Ok kept → IsWithinDemands nis cores connections
unfolding demands
demands-kept nis cores connections kept is =
    let rates = judged-kept 6 (codes "RateTooHigh") _ _ kept is in
    let apart = judged-kept 7 (codes "CoreToItself") _ _ kept rates.1 in
    let busy = judged-kept 8 (codes "CoreTooBusy") _ _ kept apart.1 in
    let seats = judged-kept 9 (codes "TooFewSeats") _ _ kept busy.1 in
    record {
      rates = rates.0;
      apart = apart.0;
      busy = busy.0;
      seats = seats.0;
      fixed = judged-none 10 (codes "SeatsOverfull") _ kept seats.1;
    }

-- What rules that are kept hand on.
handed_on : (rules : Result (Unit {0}) BrokenRule) (told app : AppData)
    → (rules >>= (λ _. Ok told)) ≡ Ok app → (rules ≡ Ok tt) × (told ≡ app)
handed_on (Ok kept) told app is = (refl, cc is)
handed_on (Err broken) told app is = absurd (cc is)

-- An application of a root table is one, for the chip.
app_in-kept : (chip : ChipData) (root : Members) (app : AppData) → IsChip chip
    → app_in chip root ≡ Ok app → IsApp app × IsAppOf chip app
unfolding app_in
app_in-kept chip root app is_chip is =
    let told = told_app chip root in
    let keys = judged-kept 2 (codes "WrongKey") _ _ app is in
    let ranges = judged-kept 3 (codes "OutOfRange") _ _ app keys.1 in
    let apart = judged-kept 4 (codes "NameTwice") _ _ app ranges.1 in
    let known = judged-kept 5 (codes "UnknownName") _ _ app apart.1 in
    let kept = handed_on (demands (length chip.nis) told.cores told.connections) told app known.1 in
    let within = demands-kept (length chip.nis) told.cores told.connections tt kept.0 in
    let of_tables = is_app chip root is_chip (in_range root ranges.0) (are_apart root apart.0) known.0
    within in (
      subst IsApp kept.1 of_tables,
      subst (IsAppOf chip) kept.1 (is_app_of chip root within),
    )

app_of_document-kept : (chip : ChipData) (document : Option Members) (app : AppData)
    → IsChip chip → app_of_document chip document ≡ Ok app → IsApp app × IsAppOf chip app
app_of_document-kept chip None app is_chip is = absurd (cc is)
app_of_document-kept chip (Some root) app is_chip is = app_in-kept chip root app is_chip is

-- What a file tells with a chip is an application, and one for that chip.
pub app_of-kept : (chip : ChipData) (bytes : List ℕ) (app : AppData) → IsChip chip
    → app_of chip bytes ≡ Ok app → IsApp app × IsAppOf chip app
unfolding app_of
app_of-kept chip bytes app is_chip is =
    app_of_document-kept chip (document_of bytes) app is_chip is

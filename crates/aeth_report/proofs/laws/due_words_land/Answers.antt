use Rattle.aeth_report.proofs.RunRows.{due_words}
use Rattle.aeth_report.proofs.laws.due_words_land.Goals as goal

-- By the bound of the private server.
pub returns-clause-lands : goal.returns-clause-lands
returns-clause-lands c run sound order channel session has granted i t due inside =
    (due_words run sound order channel session has granted i t due inside).0

pub returns-clause-in_time : goal.returns-clause-in_time
returns-clause-in_time c run sound order channel session has granted i t due inside =
    (due_words run sound order channel session has granted i t due inside).1

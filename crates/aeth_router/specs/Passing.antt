-- What components send on of the flits that they have, one by one.
--
--   passed      what a component sends on an output of the flit on one of its inputs
--   forwarded, has_table      what it sends on in every cycle alike, and which components look a table up
--   IsSole      what is sent is what one of some senders sends, where just one does
--
-- This project's own.
use Rattle.std.proofs.Common.{◌≡◌, ◌≢◌, ℕ, ◌==◌, ◌%◌, if◌then◌else◌, Option, Some, None, IsSome}
use Rattle.std.proofs.Common.{Bool, false, option_map, true}
use Rattle.aeth_clocked.specs.declared.flit.Flit.{Flit}
use Rattle.aeth_router.specs.Ports.{hopped, toward}
use Rattle.aeth_router.specs.Single.{is_sent_by}
use Rattle.aeth_router.specs.TableRouter.{sent_on}
use Rattle.aeth_router.specs.declared.part.Part.{Part}
use Rattle.aeth_router.specs.declared.part.Part.TheVariants.{Interface, Router, Stage, TableRouter}

-- What a component sends on an output in a cycle of what it has from a wire. A router sends a flit on
-- the port that the flit names, one with a table on each port whose entry for the slot is the place of
-- the wire, both behind its hop; a stage sends it as it is. An interface sends none on.
abbrev pub passed : Part → ℕ → ℕ → ℕ → Option Flit → Option Flit
passed (Interface ni) cycle out wire flit = None
passed (Router router) cycle out wire flit = sent_on router.outgoing (λ port. toward port flit) out
passed (TableRouter router) cycle out wire flit =
    sent_on router.outgoing (λ port. if is_sent_by router (cycle % router.slots) wire port
    then option_map hopped flit else None) out
passed (Stage stage) cycle out wire flit = if stage.output.0 == out then flit else None

-- What a component sends on an output of a flit in every cycle alike: a router by the flit's header, and a
-- stage. What a router with a table sends depends on the cycle, and an interface sends none on.
abbrev pub forwarded : Part → ℕ → Option Flit → Option Flit
forwarded (Interface ni) out flit = None
forwarded (Router router) out flit = sent_on router.outgoing (λ port. toward port flit) out
forwarded (TableRouter router) out flit = None
forwarded (Stage stage) out flit = if stage.output.0 == out then flit else None

-- Whether a component is a router with a table.
abbrev pub has_table : Part → Bool
has_table (Interface ni) = false
has_table (Router router) = false
has_table (TableRouter router) = true
has_table (Stage stage) = false

-- What is sent is what some senders send, where just one of them does; nothing where none does, or
-- several do.
pub record IsSole (Is : ℕ → Type 0) (sent : ℕ → Option Flit) (result : Option Flit) : Type 0 where
  pub none : ((sender : ℕ) → Is sender → sent sender ≡ None) → result ≡ None
  pub one : (sender : ℕ) (flit : Flit) → Is sender → sent sender ≡ Some flit
      → ((other : ℕ) → Is other → other ≢ sender → sent other ≡ None) → result ≡ Some flit
  pub several : (sender other : ℕ) → Is sender → Is other → sender ≢ other → IsSome (sent sender)
      → IsSome (sent other) → result ≡ None

-- What the cores and connections of an application ask for, and the rules on it.
--
--   rate_too_high, core_to_itself, core_too_busy, too_few_seats, seats_overfull    the walks
--   IsWithinDemands    what holds where none finds anything
--   demands    the rules, one after the other
-- This project's own.
use Rattle.std.proofs.Common.{ℕ, ◌≡◌, ◌*◌, ◌==◌, nat_le, List, [], ◌∷◌, map, flat_map, length}
use Rattle.std.proofs.Common.{codes, count_by, slice_get, Option, Some, None, Result, if◌then◌else◌}
use Rattle.std.specs.List.{range_with_len}
use Rattle.aeth_base.specs.Faults.{BrokenRule}
use Rattle.aeth_base.specs.Limits.{words_per_flit}
use Rattle.aeth_base.specs.declared.shown.{Broken.Broken, Shown.Shown, Shown.TheVariants.Nothing}
use Rattle.aeth_base.specs.declared.shown.{Shown.TheVariants.Number, Shown.TheVariants.Word}
use Rattle.aeth_document.specs.{Chain.◌>>=◌, Walks.first_broken, Walks.judged}
use Rattle.aeth_app.specs.declared.connection.{Connection.Connection, Core.Core, Wish.Wish}
use Rattle.aeth_app.specs.App.{is_end, is_fixed_to}
use Rattle.aeth_app.specs.Limits.{max_core_connections, seats_per_ni}

-- The words of a wish that has more than two a cycle.
abbrev pub too_fast : Wish → Option Shown
too_fast wish =
    if nat_le wish.words (words_per_flit * wish.per) then None else Some (Number wish.words)

-- Rule 6, RateTooHigh: a wish has more than two words a cycle. The place is twice the connection,
-- and one more for `back`; the value is the words.
abbrev pub rate_too_high : List Connection → Option Broken
rate_too_high connections =
    first_broken 0 (flat_map (λ c. too_fast c.fwd ∷ too_fast c.back ∷ []) connections)

-- The name of a core that may be missing.
abbrev pub shown_core : Option Core → Shown
shown_core None = Nothing
shown_core (Some core) = Word core.name

-- The core that a connection leads from and to, where it is one.
abbrev pub own_end : List Core → Connection → Option Shown
own_end cores connection =
    if connection.from.0 == connection.to.0
    then Some (shown_core (slice_get cores connection.from.0))
    else None

-- Rule 7, CoreToItself: a connection leads from a core to itself. The place is the connection; the
-- value is the core's name.
abbrev pub core_to_itself : List Core → List Connection → Option Broken
core_to_itself cores connections = first_broken 0 (map (own_end cores) connections)

-- A count where it is above the most that is allowed.
abbrev pub above : ℕ → ℕ → Option Shown
above most count = if nat_le count most then None else Some (Number count)

-- Rule 8, CoreTooBusy: a core is an end of too many connections. The place is the core; the value
-- is their number.
abbrev pub core_too_busy : ℕ → List Connection → Option Broken
core_too_busy cores connections =
    first_broken 0 (map (λ core. above max_core_connections
    (count_by (is_end (record { 0 = core })) connections)) (range_with_len 0 cores))

-- Rule 9, TooFewSeats: there are more cores than seats. The place is 0; the value is the number of
-- cores.
abbrev pub too_few_seats : ℕ → ℕ → Option Broken
too_few_seats nis cores = first_broken 0 (above (seats_per_ni * nis) cores ∷ [])

-- Rule 10, SeatsOverfull: more cores are fixed to a network interface than it has seats. The place
-- is the interface; the value is their number.
abbrev pub seats_overfull : ℕ → List Core → Option Broken
seats_overfull nis cores =
    first_broken 0
    (map (λ ni. above seats_per_ni (count_by (is_fixed_to ni) cores)) (range_with_len 0 nis))

-- What holds where none of these rules is broken.
pub record IsWithinDemands (nis : ℕ) (cores : List Core) (connections : List Connection)
    : Type 0 where
  pub rates : rate_too_high connections ≡ None
  pub apart : core_to_itself cores connections ≡ None
  pub busy : core_too_busy (length cores) connections ≡ None
  pub seats : too_few_seats nis (length cores) ≡ None
  pub fixed : seats_overfull nis cores ≡ None

-- These rules, on so many network interfaces, one after the other.
unfoldable pub demands : ℕ → List Core → List Connection → Result (Unit {0}) BrokenRule
demands nis cores connections = do
  rates ← judged 6 (codes "RateTooHigh") (rate_too_high connections)
  apart ← judged 7 (codes "CoreToItself") (core_to_itself cores connections)
  busy ← judged 8 (codes "CoreTooBusy") (core_too_busy (length cores) connections)
  seats ← judged 9 (codes "TooFewSeats") (too_few_seats nis (length cores))
  judged 10 (codes "SeatsOverfull") (seats_overfull nis cores)

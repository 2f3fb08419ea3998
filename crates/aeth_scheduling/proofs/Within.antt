-- Events below the end of a run.
use Rattle.std.proofs.Common.{◌≡◌, ◌≤◌, ◌<◌, ◌+◌, ◌++◌, ◌∙◌, ℕ, List, [], ◌∷◌, append_assoc, arith}
use Rattle.std.proofs.Common.{map, refl, nat_lt}
use Rattle.std.proofs.lemmas.{Bool.Decides.nat_tests, List.Elements.filter-append}
use Rattle.aeth_ni.specs.Program.{program_of}
use Rattle.aeth_ni.specs.declared.{row.ChannelRow.ChannelRow, write.Write.Write}
use Rattle.aeth_report.specs.declared.session.Close.{Close}
use Rattle.aeth_components.specs.declared.event.Event.TheVariants.{Finish, Halt}
use Rattle.aeth_schedule.specs.{Lines.end_of, Timed.events_with, Timed.finishes_at, Timed.halts_at}
use Rattle.aeth_schedule.specs.{Timed.within, Timed.writes_from, declared.timed.Timed.Timed}

-- Events of a cycle past the end are none of the run's.
pub within-late : {X : Type 0} (f : X → Timed) (end cycle : ℕ) (xs : List X)
    → ((x : X) → (f x).cycle ≡ cycle) → end ≤ cycle → within end (map f xs) ≡ []
within-late f end cycle [] at late = refl
within-late f end cycle (x ∷ xs) at late =
    let later = within-late f end cycle xs at late in
    let here = at x in
    grind (arith, nat_tests)

-- Events of an earlier cycle are all the run's.
pub within-early : {X : Type 0} (f : X → Timed) (end cycle : ℕ) (xs : List X)
    → ((x : X) → (f x).cycle ≡ cycle) → cycle < end → within end (map f xs) ≡ map f xs
within-early f end cycle [] at early = refl
within-early f end cycle (x ∷ xs) at early =
    let later = within-early f end cycle xs at early in
    let here = at x in
    grind (arith, nat_tests)

-- So are writes from a cycle past the end on.
pub writes-late : (end cycle : ℕ) (writes : List Write) → end ≤ cycle
    → within end (writes_from cycle writes) ≡ []
writes-late end cycle [] late = refl
writes-late end cycle (write ∷ writes) late =
    let later = writes-late end (cycle + 1) writes (omega arith) in
    grind (arith, nat_tests)

-- A switch past the end does nothing in the run.
pub switch-late : (end : ℕ) (close : Close) (closing opening : List ChannelRow) → end ≤ close.stop
    → close.stop ≤ close.fin → within end (events_with close closing opening) ≡ []
switch-late end close closing opening late behind =
    let below = λ (one : Timed). nat_lt one.cycle end in
    let halts = within-late
    (λ (row : ChannelRow). record { cycle = close.stop; event = Halt (end_of row) })
    end close.stop closing (λ row. refl) late in
    let finishes = within-late
    (λ (row : ChannelRow). record { cycle = close.fin; event = Finish (end_of row) })
    end close.fin closing (λ row. refl) (omega arith) in
    let writes = writes-late end close.fin (program_of closing opening) (omega arith) in
    rw (
      filter-append below (halts_at close.stop closing)
          (finishes_at close.fin closing ++ writes_from close.fin (program_of closing opening)),
      filter-append below (finishes_at close.fin closing)
          (writes_from close.fin (program_of closing opening)),
      halts,
      finishes,
      writes,
    ) refl

-- The halts, the finishes and the writes, one behind the other.
pub three-within : (end : ℕ) (before halts finishes writes : List Timed)
    → ((before ++ within end halts) ++ within end finishes) ++ within end writes
    ≡ before ++ within end (halts ++ (finishes ++ writes))
three-within end before halts finishes writes =
    let below = λ (one : Timed). nat_lt one.cycle end in
    rw (filter-append below halts (finishes ++ writes), filter-append below finishes writes)
    (append_assoc (before ++ within end halts) (within end finishes) (within end writes)
    ∙ append_assoc before (within end halts) (within end finishes ++ within end writes))

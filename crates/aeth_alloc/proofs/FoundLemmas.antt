-- What the search finds is the first candidate.
use Rattle.std.proofs.Common.{◌≡◌, ℕ, List, Option, Some, None, subst, sym, IfOk, MatchOption}
use Rattle.std.proofs.Common.{Result, Ok, Err}
use Rattle.aeth_base.specs.declared.ids.{CoreId.CoreId, NiId.NiId, Side.Side}
use Rattle.aeth_base.specs.declared.ids.{Unit.Unit as GroupUnit}
use Rattle.aeth_chip.specs.Chip.{ChipData, IsChip}
use Rattle.aeth_app.specs.declared.connection.Connection.{Connection}
use Rattle.aeth_app.specs.Connections.{receiver, sender}
use Rattle.aeth_book.specs.Book.{BookData, IsBook}
use Rattle.aeth_seats.specs.Seats.{candidates_of, crowded_of}
use Rattle.aeth_paths.specs.Candidates.{IsCandidate, IsFirst}
use Rattle.aeth_paths.specs.declared.request.{Found.Found, Request.Request}
use Rattle.aeth_alloc.specs.Channels.{Design, Reserved, first_for, request_of}
use Rattle.aeth_alloc.specs.FirstCandidate.{first_candidate}
use Rattle.aeth_alloc.specs.Holds.{IsReservedOf}
use Rattle.aeth_alloc.proofs.FirstCandidateLemmas.{first_candidate-none, first_candidate-some}

-- What a search over these lists answers.
abbrev pub Answers : BookData → List ℕ → Request → List NiId → List NiId → List NiId
    → Option Found → Type 0
Answers book prices ask from to crowded found = MatchOption found
    ((other : Found) → IsCandidate book ask from to crowded other → ⊥)
    (IsFirst book prices ask from to crowded)

module _ (chip : ChipData) (book : BookData) (prices : List ℕ) (ask : Request)
    (from to crowded : List NiId) (is_chip : IsChip chip) (is_book : IsBook book)
    (links : book.links ≡ chip.links) where
  -- It is the first candidate as a function.
  first-of : (found : Option Found) → Answers book prices ask from to crowded found
      → found ≡ first_candidate chip book prices ask from to crowded
  first-of None never =
      sym (first_candidate-none chip book ask from to crowded is_chip is_book links prices never)
  first-of (Some found) first =
      sym (first_candidate-some chip book ask from to crowded is_chip is_book links prices found
      first)

  pub first-answer : {E : Type 0} (answer : Result (Option Found) E)
      → IfOk answer (Answers book prices ask from to crowded)
      → IfOk answer (λ found. found ≡ first_candidate chip book prices ask from to crowded)
  first-answer (Ok found) is = first-of found is
  first-answer (Err e) is = tt

-- What a search for a channel answers is the first candidate for it. The design, what is reserved and
-- the two cores are told by what the search reads.
pub first-for-answer : {E : Type 0} (inside design : Design) (before reserved : Reserved)
    (connection : Connection) (unit : GroupUnit) (side : Side) (a b : CoreId) (ask : Request)
    (from to crowded : List NiId) → inside ≡ design → before ≡ reserved
    → a ≡ sender connection side → b ≡ receiver connection side → IsChip inside.chip
    → IsBook before.book → IsReservedOf design reserved
    → ask ≡ request_of inside.app connection unit side → from ≡ candidates_of before.seats a.0
    → to ≡ candidates_of before.seats b.0 → crowded ≡ crowded_of before.seats a.0 b.0
    → (answer : Result (Option Found) E)
    → IfOk answer (Answers before.book inside.prices ask from to crowded)
    → IfOk answer (λ found. found ≡ first_for design reserved connection unit side)
first-for-answer inside design before reserved connection unit side a b ask from to crowded view
    viewed sends receives chip book of asks froms tos crowds answer found =
    first-answer design.chip reserved.book design.prices
    (request_of design.app connection unit side)
    (candidates_of reserved.seats (sender connection side).0)
    (candidates_of reserved.seats (receiver connection side).0)
    (crowded_of reserved.seats (sender connection side).0 (receiver connection side).0)
    (subst (λ (d : Design). IsChip d.chip) view chip)
    (subst (λ (r : Reserved). IsBook r.book) viewed book) of.links answer
    (rw (asks, froms, tos, crowds, sends, receives, viewed, view) at found)

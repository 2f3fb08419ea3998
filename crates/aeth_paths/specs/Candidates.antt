-- Candidates for a channel, and the first of them: over the grants and links of a book, without
-- the search. After UMARS (2005); the order of candidates is this project's own.
--
--   is_live      whether the free starts of a path have suitable slots
--   slots_of      the slots that go with a path
--   link_cost, path_cost      what links and paths cost
--   IsAllowed      which pairs of interfaces may be joined
--   IsCandidate      a path between an allowed pair, and its slots
--   path_order, IsFirst      the order of candidates, and the first one
use Rattle.std.proofs.Common.{ℕ, ◌+◌, ◌-◌, ◌≡◌, ◌≢◌, Bool, List, Option, Some, Contains, length}
use Rattle.std.proofs.Common.{map, sum_by}
use Rattle.std.specs.Cmp.Lexicographic.{slice_cmp}
use Rattle.std.specs.declared.cmp.Ordering.{Ordering, TheVariants.Less}
use Rattle.std.specs.Ordering.{nat_cmp, on, then_cmp}
use Rattle.aeth_base.specs.declared.ids.{LinkId.LinkId, NiId.NiId, Unit.Unit as GroupUnit}
use Rattle.aeth_slots.specs.{SlotSet.Slots, Choice.chosen, Choice.is_suitable}
use Rattle.aeth_chip.specs.Paths.{IsAdmissible, delay_of, path_delay}
use Rattle.aeth_book.specs.{Book.BookData, Free.free_starts, Free.used_slots}
use Rattle.aeth_paths.specs.Costs.{price}
use Rattle.aeth_paths.specs.declared.request.{Request.Request, Found.Found}

-- The greatest gap of slots on a path: the latency that is asked for and one more, without the
-- path's delay.
abbrev pub gap_on : BookData → Request → List LinkId → ℕ
gap_on book ask path = ask.latency + 1 - path_delay book.links path

-- Whether some of the free starts of a path are suitable. Then all of them are.
abbrev pub is_live : BookData → Request → List LinkId → Bool
is_live book ask path =
    is_suitable ask.need (gap_on book ask path) (free_starts book ask.unit path)

-- The slots that go with a path: those chosen out of its free starts.
abbrev pub slots_of : BookData → Request → List LinkId → Option Slots
slots_of book ask path = chosen (free_starts book ask.unit path) ask.need (gap_on book ask path)

-- The cost of a link for a unit: the price of its delay and of the slots that are used on it.
abbrev pub link_cost : BookData → List ℕ → GroupUnit → LinkId → ℕ
link_cost book prices unit link =
    price prices (delay_of book.links link) (used_slots book unit link.0)

-- The cost of a path: the sum over its links.
abbrev pub path_cost : BookData → List ℕ → GroupUnit → List LinkId → ℕ
path_cost book prices unit path = sum_by (link_cost book prices unit) path

-- A sender and a receiver may be joined, which are not one crowded interface.
pub record IsAllowed (from to crowded : List NiId) (a b : NiId) : Type 0 where
  pub sender : Contains from a
  pub receiver : Contains to b
  pub room : a ≡ b → Contains crowded a → ⊥

-- An admissible path between an allowed pair, with the slots chosen out of its free starts.
pub record IsCandidate (book : BookData) (ask : Request) (from to crowded : List NiId)
    (found : Found) : Type 0 where
  pub allowed : IsAllowed from to crowded found.from found.to
  pub path : IsAdmissible book.links ask.detour found.from found.to found.path
  pub slots : slots_of book ask found.path ≡ Some found.slots

-- The order of paths: by cost, then by number of links, then by the list of link numbers.
abbrev pub path_order : (LinkId → ℕ) → List LinkId → List LinkId → Ordering
path_order cost = then_cmp (on (sum_by cost) nat_cmp)
    (then_cmp (on (λ path. length path) nat_cmp)
    (on (map (λ (link : LinkId). link.0)) (slice_cmp nat_cmp)))

-- The first candidate: it is one, and none comes before it.
pub record IsFirst (book : BookData) (prices : List ℕ) (ask : Request)
    (from to crowded : List NiId) (found : Found) : Type 0 where
  pub candidate : IsCandidate book ask from to crowded found
  pub first : (other : Found) → IsCandidate book ask from to crowded other
      → path_order (link_cost book prices ask.unit) other.path found.path ≢ Less

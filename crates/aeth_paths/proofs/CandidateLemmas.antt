-- Candidates are the paths that are offered, with the slots that go with them; there is one first.
use Rattle.std.proofs.Common.{◌≡◌, ◌≢◌, ◌∙◌, ℕ, true, false, eqb, List, Contains, None, Some, sym}
use Rattle.std.proofs.Common.{refl, ap, subst, inl, inr, eq-eqb, eqb-true}
use Rattle.std.proofs.lemmas.Bool.{and_from, and_parts, both_ways, false≢true, false_from_ne_true}
use Rattle.std.proofs.lemmas.Option.{none-some}
use Rattle.std.specs.Ordering.{is_lt}
use Rattle.std.specs.declared.cmp.Ordering.{Ordering}
use Rattle.std.specs.declared.cmp.Ordering.TheVariants.{Equal, Greater, Less}
use Rattle.aeth_base.specs.declared.ids.{LinkId.LinkId, NiId.NiId}
use Rattle.aeth_slots.specs.SlotSet.{Slots}
use Rattle.aeth_slots.proofs.ChoiceLemmas.{chosen-whole, true-is_suitable}
use Rattle.aeth_book.specs.{Book.BookData, Free.free_starts}
use Rattle.aeth_group.proofs.ListLemmas.{any_from_passes, passes_from_any}
use Rattle.aeth_paths.specs.{declared.request.Found.Found, declared.request.Request.Request}
use Rattle.aeth_paths.specs.{Candidates.IsAllowed, Candidates.IsCandidate, Candidates.IsFirst}
use Rattle.aeth_paths.specs.{Candidates.gap_on, Candidates.is_live, Candidates.path_order}
use Rattle.aeth_paths.specs.{Candidates.slots_of, Open.is_crowded, Pairs.HasEnds, Pairs.IsOffered}
use Rattle.aeth_paths.specs.{Pairs.OfferedFrom, Pairs.Tries, declared.prefix.Task.Task}
use Rattle.aeth_paths.specs.{Trials.IsSized, Walk.IsTask, Walk.costs_of}
use Rattle.aeth_paths.proofs.LiveLemmas.{free_starts-set, sized}
use Rattle.aeth_chip.specs.{declared.node.Link.Link, Paths.IsAdmissible, Paths.IsPath}

one-ni : (a b : NiId) → a.0 ≡ b.0 → a ≡ b
one-ni a b same = ap (λ n. record { 0 = n }) same

-- A pair has room exactly where it isn't one crowded interface.
pub room-from : (crowded : List NiId) (a b : NiId) → (a ≡ b → Contains crowded a → ⊥)
    → is_crowded crowded a b ≡ false
room-from crowded a b room = false_from_ne_true (is_crowded crowded a b) (λ is.
    let (same, among) = and_parts (eqb a.0 b.0) _ is in
    let found = passes_from_any (λ (n : NiId). eqb n.0 a.0) crowded among in
    room (one-ni a b (eqb-true a.0 b.0 same))
    (subst (Contains crowded) (one-ni found.item a (eqb-true _ _ found.passes)) found.is_in))

pub from-room : (crowded : List NiId) (a b : NiId) → is_crowded crowded a b ≡ false
    → a ≡ b → Contains crowded a → ⊥
from-room crowded a b room same is_in =
    both_ways (is_crowded crowded a b) room
    (and_from _ _ (eq-eqb a.0 b.0 (ap (λ (n : NiId). n.0) same))
    (any_from_passes (λ (n : NiId). eqb n.0 a.0) crowded a is_in (eq-eqb a.0 a.0 refl)))

module _ (book : BookData) (ask : Request) (from to crowded : List NiId) (is : IsSized book) where
  -- A path with slots is live.
  pub slots-live : (path : List LinkId) (slots : Slots) → slots_of book ask path ≡ Some slots
      → is_live book ask path ≡ true
  slots-live path slots some =
      let free : Slots = free_starts book ask.unit path in
      true-is_suitable ask.need (gap_on book ask path) free
      ((chosen-whole free ask.need (gap_on book ask path) (free_starts-set book ask path is)).0
      (rw some refl))

  -- The path of a candidate is offered.
  pub candidate-offered : (found : Found) → IsCandidate book ask from to crowded found
      → OfferedFrom book ask crowded from to found.path
  candidate-offered found candidate =
      let allowed = candidate.allowed in (
        found.from,
        allowed.sender,
        (
          found.to,
          allowed.receiver,
          record {
            room = room-from crowded found.from found.to allowed.room;
            admissible = candidate.path;
            live = slots-live found.path found.slots candidate.slots;
          },
        ),
      )

-- What is offered, with its ends and its slots, is a candidate.
pub offered-candidate : (book : BookData) (ask : Request) (from to crowded : List NiId)
    (path : List LinkId) (found : Found)
    → (offered : OfferedFrom book ask crowded from to path) → found.path ≡ path
    → found.from ≡ offered.0 → found.to ≡ offered.2.0
    → slots_of book ask path ≡ Some found.slots → IsCandidate book ask from to crowded found
offered-candidate book ask from to crowded path found offered same begins ends slots =
    let is : IsOffered book ask crowded offered.0 offered.2.0 path = offered.2.2 in
    record {
      allowed = subst (λ (a : NiId). IsAllowed from to crowded a found.to) (sym begins)
          (subst (λ (b : NiId). IsAllowed from to crowded offered.0 b) (sym ends) (record {
            sender = offered.1;
            receiver = offered.2.1;
            room = from-room crowded offered.0 offered.2.0 is.room;
          }));
      path = subst (λ (a : NiId). IsAdmissible book.links ask.detour a found.to found.path)
          (sym begins)
          (subst (λ (b : NiId). IsAdmissible book.links ask.detour offered.0 b found.path)
          (sym ends)
          (subst (IsAdmissible book.links ask.detour offered.0 offered.2.0) (sym same)
          is.admissible));
      slots = ap (slots_of book ask) same ∙ slots;
    }

-- What isn't before isn't less.
pub not-less : (order : Ordering) → is_lt order ≡ false → order ≢ Less
not-less Less is same = absurd (false≢true (sym is))
not-less Equal is same = absurd (cc same)
not-less Greater is same = absurd (cc same)

-- What is best is one of those that were tried.
pub tried : (cost : LinkId → ℕ) (path : List LinkId) (Offered : List LinkId → Type 0)
    → Tries cost None (Some path) Offered → Offered path
tried cost path Offered tries = elim (tries.among path refl) [
  | inl none ↦ absurd (none-some path none)
  | inr offered ↦ offered
]

module _ (task : Task) (from to crowded : List NiId) (is : IsTask task) where
  -- Where nothing is best there is no candidate.
  pub task-none : Tries (costs_of task) None None
      (OfferedFrom task.book.now task.ask crowded from to)
      → (other : Found) → IsCandidate task.book.now task.ask from to crowded other → ⊥
  task-none tries other candidate =
      tries.least other.path
      (candidate-offered task.book.now task.ask from to crowded
      (sized task.book.now is.is_book) other candidate)

  -- A path that is best has ends.
  pub task-ends : (path : List LinkId) → Tries (costs_of task) None (Some path)
      (OfferedFrom task.book.now task.ask crowded from to) → HasEnds task.chip.now.links path
  task-ends path tries =
      let offered = tried (costs_of task) path
      (OfferedFrom task.book.now task.ask crowded from to) tries in
      let one : IsOffered task.book.now task.ask crowded offered.0 offered.2.0 path = offered.2.2 in
      record {
        from = offered.0;
        to = offered.2.0;
        is_path = subst (λ (ls : List Link). IsPath ls offered.0 offered.2.0 path) is.book
            one.admissible.is_path;
      }

  -- With its ends and its slots it is the first candidate.
  pub task-first : (path : List LinkId) (found : Found) → Tries (costs_of task) None (Some path)
      (OfferedFrom task.book.now task.ask crowded from to) → found.path ≡ path
      → ((a b : NiId) → IsPath task.chip.now.links a b path → (found.from ≡ a) × (found.to ≡ b))
      → slots_of task.book.now task.ask path ≡ Some found.slots
      → IsFirst task.book.now task.prices.now task.ask from to crowded found
  task-first path found tries same ends slots =
      let offered = tried (costs_of task) path
      (OfferedFrom task.book.now task.ask crowded from to) tries in
      let one : IsOffered task.book.now task.ask crowded offered.0 offered.2.0 path = offered.2.2 in
      let both = ends offered.0 offered.2.0
      (subst (λ (ls : List Link). IsPath ls offered.0 offered.2.0 path) is.book
      one.admissible.is_path) in
      record {
        candidate = offered-candidate task.book.now task.ask from to crowded path found offered same
            both.0 both.1 slots;
        first = λ other candidate.
            subst (λ (p : List LinkId). path_order (costs_of task) other.path p ≢ Less) (sym same)
            (not-less (path_order (costs_of task) other.path path)
            (tries.least other.path
            (candidate-offered task.book.now task.ask from to crowded
            (sized task.book.now is.is_book) other candidate)));
      }

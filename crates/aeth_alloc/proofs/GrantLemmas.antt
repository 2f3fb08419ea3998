-- What a book asks of a grant holds of one for a candidate.
use Rattle.std.proofs.Common.{◌≡◌, ◌<◌, ℕ, List, All, Contains, length, sym, ap, subst, get_or}
use Rattle.std.proofs.lemmas.{List.Elements.Contains-get_or, Option.slice_get_within}
use Rattle.aeth_base.proofs.Members.{map-Contains}
use Rattle.aeth_base.specs.declared.ids.{LinkId.LinkId, NiId.NiId}
use Rattle.aeth_chip.specs.{declared.node.Node.TheVariants.Ni, Paths.BeginsAt, Paths.to_of}
use Rattle.aeth_chip.proofs.JoinedLaws.{joined-each}
use Rattle.aeth_slots.specs.{Choice.sublists, SlotSet.Slots}
use Rattle.aeth_slots.proofs.{ChoiceLemmas.chosen-some, Sublists.sublist-member}
use Rattle.aeth_book.specs.{Book.BookData, Free.free_starts}
use Rattle.aeth_paths.specs.Candidates.{IsCandidate, gap_on}
use Rattle.aeth_paths.specs.declared.request.{Found.Found, Request.Request}

module _ (book : BookData) (ask : Request) (from to crowded : List NiId) (found : Found)
    (is : IsCandidate book ask from to crowded found) where
  abbrev free : Slots
  free = free_starts book ask.unit found.path

  -- Its slots are a sublist of the free starts, in a table of the book's size.
  parts : (slots : List ℕ) × (record { size = free.size; slots = slots } ≡ found.slots)
      × Contains (sublists free.slots) slots
  parts = map-Contains (λ slots. record { size = free.size; slots = slots }) (sublists free.slots)
      found.slots (chosen-some free ask.need (gap_on book ask found.path) found.slots is.slots).subset

  pub candidate-size : found.slots.size ≡ book.size
  candidate-size = ap (λ (s : Slots). s.size) (sym parts.1)

  pub candidate-free : (start : ℕ) → Contains found.slots.slots start
      → Contains free.slots start
  candidate-free start has =
      sublist-member free.slots parts.0 parts.2 start
      (subst (λ (s : Slots). Contains s.slots start) (sym parts.1) has)

  -- Its path is of links of the book.
  pub candidate-links : All (λ (link : LinkId). link.0 < length book.links) found.path
  candidate-links i d within =
      let (start, goes) = joined-each (BeginsAt book.links) (to_of book.links) (Ni found.from)
      found.path is.path.is_path.joins.joined (get_or found.path i d)
      (Contains-get_or found.path i d within) in
      slice_get_within book.links _ goes.link goes.is

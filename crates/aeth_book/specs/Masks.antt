-- The masks that a book keeps beside its grants. This project's own.
use Rattle.std.proofs.Common.{◌≡◌, ◌*◌, List, length}
use Rattle.aeth_slots.specs.SlotSet.{Slots}
use Rattle.aeth_group.specs.Tables.{IsTable}
use Rattle.aeth_book.specs.{Book.BookData, Book.IsBook, Free.is_occupied}

-- The masks that a book keeps.
pub record IsKept (book : BookData) (masks : List Slots) : Type 0 where
  pub is_book : IsBook book
  pub count : length masks ≡ length book.groups.uses * length book.links
  pub table : IsTable book.size (length book.links) (is_occupied book) masks

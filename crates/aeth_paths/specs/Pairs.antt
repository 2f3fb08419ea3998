-- What tries over pairs of interfaces keep true. This project's own.
--
--   IsOffered, OfferedTo, OfferedFrom      a path of a pair, of one sender, and of some senders
--   NotBeaten, Tries      what is best after some paths were tried
--   HasEnds      a path leads from an interface to an interface
use Rattle.std.proofs.Common.{◌≡◌, ◌⊎◌, ℕ, true, false, List, Option, None, Some, Contains}
use Rattle.std.specs.Ordering.{is_lt}
use Rattle.aeth_base.specs.declared.ids.{LinkId.LinkId, NiId.NiId}
use Rattle.aeth_chip.specs.{declared.node.Link.Link, Paths.IsAdmissible, Paths.IsPath}
use Rattle.aeth_book.specs.Book.{BookData}
use Rattle.aeth_paths.specs.{declared.request.Request.Request, Candidates.is_live}
use Rattle.aeth_paths.specs.{Candidates.path_order, Open.is_crowded}

-- A live admissible path between a pair that isn't one crowded interface.
pub record IsOffered (book : BookData) (ask : Request) (crowded : List NiId) (a b : NiId)
    (path : List LinkId) : Type 0 where
  pub room : is_crowded crowded a b ≡ false
  pub admissible : IsAdmissible book.links ask.detour a b path
  pub live : is_live book ask path ≡ true

-- Such a path from one sender to some receivers, and from some senders.
abbrev pub OfferedTo : BookData → Request → List NiId → NiId → List NiId → List LinkId → Type 0
OfferedTo book ask crowded a to path =
    (b : NiId) × Contains to b × IsOffered book ask crowded a b path

abbrev pub OfferedFrom : BookData → Request → List NiId → List NiId → List NiId → List LinkId
    → Type 0
OfferedFrom book ask crowded from to path =
    (a : NiId) × Contains from a × OfferedTo book ask crowded a to path

-- What was best doesn't come before what is best now.
abbrev pub NotBeaten : (LinkId → ℕ) → Option (List LinkId) → Option (List LinkId) → Type 0
NotBeaten cost None now = Unit {0}
NotBeaten cost (Some best) None = ⊥
NotBeaten cost (Some best) (Some now) = is_lt (path_order cost best now) ≡ false

-- What is best after some paths were tried: what was best or one of them, and none of these comes
-- before it.
pub record Tries (cost : LinkId → ℕ) (old new : Option (List LinkId))
    (Offered : List LinkId → Type 0) : Type 0 where
  pub among : (path : List LinkId) → new ≡ Some path → (old ≡ Some path) ⊎ Offered path
  pub kept : NotBeaten cost old new
  pub least : (path : List LinkId) → Offered path → NotBeaten cost (Some path) new

-- A path leads from an interface to an interface.
pub record HasEnds (links : List Link) (path : List LinkId) : Type 0 where
  pub from : NiId
  pub to : NiId
  pub is_path : IsPath links from to path

-- From the data of a book to what a search reads. This project's own.
--
--   links_from      the links that leave a node
--   field      what a search to an interface reads
use Rattle.std.proofs.Common.{ℕ, List, map}
use Rattle.aeth_base.specs.declared.ids.{LinkId.LinkId, NiId.NiId}
use Rattle.aeth_chip.specs.{declared.node.Link.Link, declared.node.Node.Node}
use Rattle.aeth_chip.specs.{declared.node.Node.TheVariants.Ni, Nodes.sends_on, Paths.to_of}
use Rattle.aeth_book.specs.Book.{BookData}
use Rattle.aeth_paths.specs.{declared.request.Request.Request, Candidates.is_live}
use Rattle.aeth_paths.specs.{Candidates.link_cost, Search.Field}

-- The links that leave a node, in file order.
abbrev pub links_from : List Link → Node → List LinkId
links_from links node = map (λ number. record { 0 = number }) (sends_on node links)

-- What a search to an interface reads, over paths of at most so many links.
abbrev pub field : BookData → List ℕ → Request → NiId → ℕ → Field
field book prices ask goal most = record {
  leaving = links_from book.links;
  to = to_of book.links;
  cost = link_cost book prices ask.unit;
  live = is_live book ask;
  goal = Ni goal;
  most = most;
}

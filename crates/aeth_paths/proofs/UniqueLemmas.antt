-- There is one first candidate.
use Rattle.std.proofs.Common.{◌≡◌, ◌≢◌, ◌∙◌, ℕ, List, [], ◌∷◌, map, sym, refl, ap, subst, arith}
use Rattle.std.proofs.lemmas.{Map.Lookups.exact_bytes, Option.same_Some}
use Rattle.std.specs.declared.cmp.Ordering.TheVariants.{Less}
use Rattle.aeth_base.specs.declared.ids.{LinkId.LinkId, NiId.NiId}
use Rattle.aeth_base.proofs.TestLemmas.{equal_from_turned, then-Equal}
use Rattle.aeth_chip.specs.declared.node.Link.{Link}
use Rattle.aeth_chip.specs.declared.node.Node.{Node, TheVariants.Ni, TheVariants.Router}
use Rattle.aeth_chip.specs.Paths.{IsPath, to_of}
use Rattle.aeth_chip.proofs.JoinedLaws.{end_of-ends}
use Rattle.aeth_book.specs.Book.{BookData}
use Rattle.aeth_paths.specs.declared.request.{Found.Found, Request.Request}
use Rattle.aeth_paths.specs.Candidates.{IsFirst, link_cost, path_order, slots_of}
use Rattle.aeth_paths.proofs.{EndLemmas.path-some, FirstLemmas.path_total}

links-back : (path : List LinkId)
    → map (λ n. record { 0 = n }) (map (λ (link : LinkId). link.0) path) ≡ path
links-back [] = refl
links-back (link ∷ path) = ap (λ links. link ∷ links) (links-back path)

same-links : (path other : List LinkId)
    → map (λ (link : LinkId). link.0) path ≡ map (λ (link : LinkId). link.0) other → path ≡ other
same-links path other same =
    sym (links-back path) ∙ ap (map (λ n. record { 0 = n })) same ∙ links-back other

-- Two paths of which neither comes before the other are one.
pub one-path : (cost : LinkId → ℕ) (path other : List LinkId)
    → path_order cost path other ≢ Less → path_order cost other path ≢ Less → path ≡ other
one-path cost path other not_before not_after =
    let equal = equal_from_turned (path_order cost path other) (path_order cost other path)
    ((path_total cost).antisymm path other) not_before not_after in
    same-links path other (exact_bytes _ _ (then-Equal _ _ (then-Equal _ _ equal).1).1)

-- Interfaces that are one node are one.
pub same-ni : (a b : NiId) → Ni a ≡ Ni b → a ≡ b
same-ni a b same =
    let number : Node → ℕ = elim [ Router r ↦ r.0 | Ni n ↦ n.0 ] in
    ap (λ n. record { 0 = n }) (ap number same)

-- A path leads from one interface to one.
pub one-start : (links : List Link) (a b c d : NiId) (path : List LinkId)
    → IsPath links a b path → IsPath links c d path → a ≡ c
one-start links a b c d [] first second =
    absurd (omega (arith, path-some links a b [] first))
one-start links a b c d (link ∷ path) first second =
    let one = first.joins.joined.0 in
    let two = second.joins.joined.0 in
    let same : one.link ≡ two.link = same_Some _ _ (sym one.is ∙ two.is) in
    same-ni a c (sym one.begins ∙ ap (λ (l : Link). l.from) same ∙ two.begins)

pub one-end : (links : List Link) (a b c d : NiId) (path : List LinkId)
    → IsPath links a b path → IsPath links c d path → b ≡ d
one-end links a b c d path first second =
    same-ni b d (sym (end_of-ends (to_of links) (Ni a) path _ (Ni b) first.joins.ends)
    ∙ end_of-ends (to_of links) (Ni a) path _ (Ni d) second.joins.ends)

-- There is one first candidate: so what is found is a function of the book, the costs, the request
-- and the lists of interfaces.
pub first-unique : (book : BookData) (prices : List ℕ) (ask : Request)
    (from to crowded : List NiId) (found other : Found)
    → IsFirst book prices ask from to crowded found → IsFirst book prices ask from to crowded other
    → found ≡ other
first-unique book prices ask from to crowded found other first second =
    let one = first.candidate in
    let two = second.candidate in
    let paths : found.path ≡ other.path =
    one-path (link_cost book prices ask.unit) found.path other.path (second.first found one)
    (first.first other two) in
    let its = subst (IsPath book.links other.from other.to) (sym paths) two.path.is_path in
    let starts : found.from ≡ other.from =
    one-start book.links found.from found.to other.from other.to found.path one.path.is_path its in
    let ends : found.to ≡ other.to =
    one-end book.links found.from found.to other.from other.to found.path one.path.is_path its in
    let slots : found.slots ≡ other.slots =
    same_Some _ _ (sym one.slots ∙ ap (slots_of book ask) paths ∙ two.slots) in
    λ i. record { from = starts i; to = ends i; path = paths i; slots = slots i }

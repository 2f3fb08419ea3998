-- Why a list is given up, from least distances and costs, and why else it is open.
use Rattle.std.proofs.Common.{◌≡◌, ◌∙◌, ◌+◌, ◌++◌, ◌≤◌, ℕ, true, false, List, [], sum_by, ◌∷◌}
use Rattle.std.proofs.Common.{length, Contains, Option, None, Some, slice_get, sym, ap, subst, inl}
use Rattle.std.proofs.Common.{inr, arith, le-leb}
use Rattle.std.proofs.lemmas.{Bool.and_from, Option.same_Some}
use Rattle.aeth_base.specs.declared.ids.{LinkId.LinkId, NiId.NiId}
use Rattle.aeth_base.proofs.Members.{Contains-cases, Contains-nil}
use Rattle.aeth_chip.specs.declared.node.Link.{Link}
use Rattle.aeth_chip.specs.declared.node.Node.{Node, TheVariants.Ni, TheVariants.Router}
use Rattle.aeth_chip.specs.Chip.{ChipData, IsChip, IsNode}
use Rattle.aeth_chip.specs.Paths.{IsLinkFrom, delay_in, to_of}
use Rattle.aeth_chip.specs.LeastOnward.{least_from}
use Rattle.aeth_chip.proofs.LeastDistanceLemmas.{distance_is_least_distance}
use Rattle.aeth_chip.proofs.LeastOnwardLemmas.{distance_is_least_onward}
use Rattle.aeth_book.{specs.Book.BookData, specs.Book.IsBook, proofs.UseLemmas.used_slots-within}
use Rattle.aeth_paths.specs.{declared.request.Request.Request, Costs.AreCosts, Least.PathsCost}
use Rattle.aeth_paths.specs.{Open.is_near, Open.is_open, Search.Field, Search.Walks, Task.field}
use Rattle.aeth_paths.specs.{declared.search.Goal.Goal, declared.priced.Priced.Priced}
use Rattle.aeth_paths.specs.{declared.prefix.Task.Task, Walk.GainsNothing, Walk.IsLeastFrom}
use Rattle.aeth_paths.specs.{Walk.IsTask, Walk.Stands, Walk.costs_of, Walk.field_of, Walk.is_before}
use Rattle.aeth_paths.specs.{Walk.path_in, Walk.priced}
use Rattle.aeth_paths.proofs.GiveUpLemmas.{AllCost, fewest-cost, outdone-none}
use Rattle.aeth_paths.proofs.JoinLemmas.{begins-sent, leaving-begins, onward-from-walk}
use Rattle.aeth_paths.proofs.JoinLemmas.{route-from-walk}

-- No link leads from an interface to an interface.
pub no-direct : (chip : ChipData) → IsChip chip → (a b : NiId) (link : LinkId)
    → IsLinkFrom chip.links link (Ni a) (Ni b) → ⊥
no-direct chip is a b link goes =
    let inside : IsNode chip.routers chip.nis (Ni a) =
    subst (IsNode chip.routers chip.nis) goes.begins (is.links link.0 goes.link goes.is).from in
    let single = is.single a inside in
    let one : link.0 ≡ single.leaving.0 =
    elim (Contains-cases single.leaving.0 [] link.0
    (subst (λ (ls : List ℕ). Contains ls link.0) single.sends
    (begins-sent chip.links link (Ni a) (Ni b) goes))) [
      | inl same ↦ sym same
      | inr none ↦ Contains-nil none
    ] in
    let at : slice_get chip.links link.0 ≡ Some single.out =
    ap (slice_get chip.links) one ∙ single.is_out in
    let same : goes.link ≡ single.out = same_Some _ _ (sym goes.is ∙ at) in
    let ends : Router single.router ≡ Ni b =
    sym single.to ∙ ap (λ (l : Link). l.to) (sym same) ∙ goes.ends in
    cc

module _ (book : BookData) (prices : List ℕ) (ask : Request) (b : NiId) (most : ℕ)
    (none : (a : NiId) (link : LinkId) → IsLinkFrom book.links link (Ni a) (Ni b) → ⊥) where
  -- The least number of links is that of each list that walks on, or less.
  pub near-walk : (node : Node) (path : List LinkId) (more : ℕ)
      → IsLeastFrom book.links b node (Some more) → Stands (to_of book.links) node path
      → (rest : List LinkId) → Walks (field book prices ask b most) node path rest
      → more ≤ length rest
  near-walk (Router r) path more least stands rest walks =
      least.none_shorter rest (onward-from-walk book prices ask b most r path rest stands walks)
  near-walk (Ni a) path more least stands rest walks =
      least.none_shorter rest (route-from-walk book prices ask b most a rest (none a)
      (subst (λ (p : List LinkId). Walks (field book prices ask b most) (Ni a) p rest) stands
      walks))

  -- Where there is none, no list walks on.
  pub never-walk : (node : Node) (path : List LinkId)
      → IsLeastFrom book.links b node None → Stands (to_of book.links) node path
      → (rest : List LinkId) → Walks (field book prices ask b most) node path rest → ⊥
  never-walk (Router r) path least stands rest walks =
      least rest (onward-from-walk book prices ask b most r path rest stands walks)
  never-walk (Ni a) path least stands rest walks =
      least rest (route-from-walk book prices ask b most a rest (none a)
      (subst (λ (p : List LinkId). Walks (field book prices ask b most) (Ni a) p rest) stands
      walks))

-- Each link that leaves a node of a chip costs something.
pub all-cost : (chip : ChipData) (book : BookData) (prices : List ℕ) (ask : Request) (b : NiId)
    (most : ℕ) → IsChip chip → IsBook book → book.links ≡ chip.links → AreCosts prices
    → AllCost (field book prices ask b most)
all-cost chip book prices ask b most is is_book same costs node link leaves =
    let goes = leaving-begins book.links link node leaves in
    let at : slice_get chip.links link.0 ≡ Some goes.link =
    ap (λ (ls : List Link). slice_get ls link.0) (sym same) ∙ goes.is in
    let of_chip = is.links link.0 goes.link at in
    let delay = ap delay_in goes.is in
    costs.some _ (omega (
      arith,
      delay,
      of_chip.takes_time,
      of_chip.within,
      used_slots-within book ask.unit link.0,
      is_book.within,
    ))

-- The least number of links as a function is the one that was told.
pub least-told : (chip : ChipData) → IsChip chip → (b : NiId) (node : Node) (told : Option ℕ)
    → IsLeastFrom chip.links b node told → least_from chip b node ≡ told
least-told chip is_chip b (Router r) told is =
    sym (distance_is_least_onward chip is_chip r b told is)
least-told chip is_chip b (Ni a) told is = sym (distance_is_least_distance chip is_chip a b told is)

-- A live list whose end is near enough is open.
pub open-from : (f : Field) (least : Node → Option ℕ) (node : Node) (path : List LinkId)
    (more : ℕ) → f.live path ≡ true → least node ≡ Some more → length path + more ≤ f.most
    → is_open f least node path ≡ true
open-from f least node [] more live is near =
    ap (is_near f.most []) is ∙ le-leb (length {A = LinkId} [] + more) f.most near
open-from f least node (link ∷ path) more live is near =
    and_from _ _ live
    (ap (is_near f.most (link ∷ path)) is ∙ le-leb (length (link ∷ path) + more) f.most near)

-- ---- the same of a task

-- Each link costs something.
pub task-cost : (task : Task) (goal : Goal) → IsTask task → AllCost (field_of task goal)
task-cost task goal is =
    all-cost task.chip.now task.book.now task.prices.now task.ask goal.ni goal.most is.is_chip
    is.is_book is.book is.costs

module _ (task : Task) (goal : Goal) (node : Node) (path : List LinkId) where
  apart : IsTask task → (a : NiId) (link : LinkId)
      → IsLinkFrom task.book.now.links link (Ni a) (Ni goal.ni) → ⊥
  apart is a link =
      subst (λ (ls : List Link). IsLinkFrom ls link (Ni a) (Ni goal.ni) → ⊥) (sym is.book)
      (no-direct task.chip.now is.is_chip a goal.ni link)

  told : (more : Option ℕ) → IsTask task → IsLeastFrom task.far.now goal.ni node more
      → IsLeastFrom task.book.now.links goal.ni node more
  told more is least =
      subst (λ (ls : List Link). IsLeastFrom ls goal.ni node more) (is.far ∙ sym is.book) least

  -- A list that walks on has at least so many links.
  pub task-near : (more : ℕ) → IsTask task → Stands (to_of task.book.now.links) node path
      → IsLeastFrom task.far.now goal.ni node (Some more)
      → (rest : List LinkId) → Walks (field_of task goal) node path rest → more ≤ length rest
  task-near more is stands least =
      near-walk task.book.now task.prices.now task.ask goal.ni goal.most (apart is) node path more
      (told (Some more) is least) stands

  -- No list walks on.
  pub task-never : IsTask task → Stands (to_of task.book.now.links) node path
      → IsLeastFrom task.far.now goal.ni node None
      → (rest : List LinkId) → Walks (field_of task goal) node path rest → ⊥
  task-never is stands least =
      never-walk task.book.now task.prices.now task.ask goal.ni goal.most (apart is) node path
      (told None is least) stands

  -- Paths that go on cost at least as much as the list and the links that are still needed.
  pub task-fewest : (more cost : ℕ) → IsTask task → Stands (to_of task.book.now.links) node path
      → IsLeastFrom task.far.now goal.ni node (Some more)
      → cost ≤ sum_by (costs_of task) path + more
      → PathsCost (field_of task goal) node path cost
  task-fewest more cost is stands least cheap =
      fewest-cost (field_of task goal) node path more cost (task-cost task goal is)
      (task-near more is stands least) cheap

  -- No path that goes on comes before the best.
  pub task-outdone : (given : Option Priced) (best : Priced) (more cost links : ℕ) → IsTask task
      → Stands (to_of task.book.now.links) node path
      → IsLeastFrom task.far.now goal.ni node (Some more)
      → given ≡ priced (costs_of task) (path_in given) → given ≡ Some best
      → PathsCost (field_of task goal) node path cost → links ≤ length path + more
      → ((its : ℕ) (rest : List LinkId) → cost ≤ its → links ≤ length (path ++ rest)
      → is_before its (path ++ rest) best.cost best.path ≡ false)
      → GainsNothing (field_of task goal) (path_in given) node path
  task-outdone given best more cost links is stands least are at dear short outdone =
      let f = field_of task goal in
      let priced_so : best.cost ≡ sum_by (costs_of task) best.path =
      ap (λ (p : Priced). p.cost) (same_Some _ _
      (subst (λ (o : Option Priced). o ≡ priced (costs_of task) (path_in o)) at are)) in
      subst (λ (o : Option Priced). GainsNothing f (path_in o) node path) (sym at)
      (outdone-none f best.path node path more cost links
      (task-near more is stands least) dear short (λ its rest. subst (λ n. cost ≤ its
      → links ≤ length (path ++ rest) → is_before its (path ++ rest) n best.path ≡ false) priced_so
      (outdone its rest)))

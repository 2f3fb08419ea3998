-- A list with one more link, which leads to a new router.
use Rattle.std.proofs.Common.{◌≡◌, ◌∙◌, ◌+◌, ◌++◌, ◌<◌, ◌≤◌, List, [], ◌∷◌, Contains, Some}
use Rattle.std.proofs.Common.{slice_get, length, refl, sym, ap, subst, arith, sum_by}
use Rattle.std.proofs.lemmas.List.Sums.{sum_by-append, sum_by-cons}
use Rattle.std.proofs.lemmas.Option.{slice_get_within}
use Rattle.aeth_base.specs.declared.ids.LinkId.{LinkId}
use Rattle.aeth_chip.specs.Paths.{to_in, to_of}
use Rattle.aeth_chip.specs.declared.node.{Link.Link, Node.Node}
use Rattle.aeth_paths.specs.{Search.turn_of, Task.links_from, Walk.IsPrefix, Walk.IsTask}
use Rattle.aeth_paths.specs.{Walk.Stands, Walk.costs_of, Walk.field_of, declared.search.Goal.Goal}
use Rattle.aeth_paths.specs.{declared.prefix.Prefix.Prefix, declared.prefix.Task.Task}
use Rattle.aeth_paths.specs.{declared.search.Turn.TheVariants.Goes}
use Rattle.aeth_paths.proofs.{HopelessLemmas.task-cost, JoinLemmas.leaving-begins}
use Rattle.aeth_paths.proofs.{StepLemmas.stands-goes}

-- What is known of it: it leads to the end of the link, and costs more than the list.
pub record IsLonger (task : Task) (prefix : Prefix) (link : LinkId) (node : Node) : Type 0 where
  pub ends : node ≡ to_of task.book.now.links link
  pub stands : Stands (to_of task.book.now.links) node (prefix.path ++ link ∷ [])
  pub dearer : prefix.cost + 1 ≤ sum_by (costs_of task) (prefix.path ++ link ∷ [])

module _ (task : Task) (goal : Goal) (prefix : Prefix) (link : LinkId) (is : IsTask task)
    (has : Contains (links_from task.chip.now.links prefix.end) link) where
  -- The link is one of the chip.
  pub link-there : link.0 < length task.chip.now.links
  link-there =
      let goes = leaving-begins task.chip.now.links link prefix.end has in
      slice_get_within task.chip.now.links link.0 goes.link goes.is

  pub longer-is : (found : Link) → IsPrefix task prefix
      → turn_of (field_of task goal) prefix.path link ≡ Goes
      → slice_get task.chip.now.links link.0 ≡ Some found → IsLonger task prefix link found.to
  longer-is found known goes at =
      let ends : found.to ≡ to_of task.book.now.links link =
      sym (ap (λ (ls : List Link). to_of ls link) is.book ∙ ap to_in at) in
      let costs = task-cost task goal is prefix.end link
      (subst (λ (ls : List Link). Contains (links_from ls prefix.end) link) (sym is.book) has) in
      record {
        ends = ends;
        stands = stands-goes (field_of task goal) prefix.path (prefix.path ++ link ∷ []) link found.to
            goes refl ends;
        dearer = omega (
          arith,
          known.cost,
          costs,
          sum_by-append (costs_of task) prefix.path (link ∷ []),
          sum_by-cons (costs_of task) link [],
        );
      }

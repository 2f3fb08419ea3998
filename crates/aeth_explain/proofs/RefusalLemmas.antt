-- A try has a certificate exactly where it has no candidate; and what is listed are the shortest
-- cuts.
use Rattle.std.proofs.Common.{◌≡◌, ◌↔◌, ◌++◌, ◌&&◌, Bool, true, false, not, cond, List, Option}
use Rattle.std.proofs.Common.{None, Some, Contains, length, refl, ap, subst, arith, IsSome}
use Rattle.std.proofs.Common.{MatchOption}
use Rattle.std.proofs.Math.Seq.{take-length}
use Rattle.std.proofs.lemmas.Bool.{and_from, and_parts, both_ways, false_from_ne_true, not-true}
use Rattle.std.proofs.lemmas.List.Elements.{Contains-get_or}
use Rattle.std.specs.Bool.{Decides}
use Rattle.aeth_base.specs.declared.ids.LinkId.{LinkId}
use Rattle.aeth_slots.proofs.ChoiceLemmas.{chosen-whole, is_suitable-true}
use Rattle.aeth_slots.specs.SlotSet.{Slots}
use Rattle.aeth_chip.specs.{Chip.ChipData, Chip.IsChip, Paths.BeginsAt, declared.node.Node.Node}
use Rattle.aeth_group.specs.Members.{GroupsData}
use Rattle.aeth_group.proofs.ListLemmas.{any_from_passes, passes_from_any}
use Rattle.aeth_book.specs.{Book.BookData, Free.free_starts}
use Rattle.aeth_paths.specs.{Candidates.IsCandidate, Candidates.gap_on, Candidates.is_live}
use Rattle.aeth_paths.specs.{Candidates.slots_of, Task.links_from, Trials.IsSized, Trials.TrialData}
use Rattle.aeth_paths.specs.{Trials.book_of, declared.request.Found.Found}
use Rattle.aeth_paths.proofs.CandidateLemmas.{slots-live}
use Rattle.aeth_paths.proofs.JoinLemmas.{begins-leaving, leaving-begins}
use Rattle.aeth_paths.proofs.LiveLemmas.{dead-stays, free_starts-set}
use Rattle.aeth_explain.specs.Certificate.{IsFirstCut, certificate_of, cuts_of, has_candidate}
use Rattle.aeth_explain.specs.Cuts.{HasCandidate, IsCertificate, IsCut}
use Rattle.aeth_explain.specs.TryPaths.{MayTake, is_dead, leaving_lists, may_take}
use Rattle.aeth_explain.proofs.CompleteLemmas.{cuts-complete, first-has, front-has, path-some}
use Rattle.aeth_explain.proofs.CutLemmas.{certified-dead, each-cut, each-first}
use Rattle.aeth_explain.proofs.TryPathLemmas.{link-known, may_take-Decides}

module _ (chip : ChipData) (groups : GroupsData) (trial : TrialData) (is : IsChip chip) where
  abbrev book : BookData
  book = book_of chip groups trial

  sized : IsSized book
  sized = record { some_size = is.some_slots; within = is.slots }

  -- Dead links stay dead, however they go on.
  pub front-dead : (path rest : List LinkId) → is_dead chip groups trial path ≡ true
      → is_dead chip groups trial (path ++ rest) ≡ true
  front-dead path rest dead =
      ap not (dead-stays book trial.ask path rest sized (not-true _ dead))

  -- ---- candidates

  some-of : {X : Type 0} (o : Option X) → IsSome o → (x : X) × (o ≡ Some x)
  some-of None some = absurd (cc some)
  some-of (Some x) some = (x, refl)

  -- A live path that the try may take is one with its slots.
  live-candidate : (path : List LinkId) → MayTake chip trial path
      → is_live book trial.ask path ≡ true → HasCandidate chip groups trial
  live-candidate path may live =
      let free : Slots = free_starts book trial.ask.unit path in
      let set = free_starts-set book trial.ask path sized in
      let (slots, at) = some-of (slots_of book trial.ask path)
      ((chosen-whole free trial.ask.need (gap_on book trial.ask path) set).1
      (is_suitable-true trial.ask.need (gap_on book trial.ask path) free live)) in (
        record { from = may.from; to = may.to; path = path; slots = slots },
        record { allowed = may.allowed; path = may.admissible; slots = at },
      )

  -- The path of a candidate is one that the try may take, and live.
  candidate-live : (found : Found)
      → IsCandidate book trial.ask trial.from trial.to trial.crowded found
      → MayTake chip trial found.path × (is_live book trial.ask found.path ≡ true)
  candidate-live found candidate = (
    record {
      from = found.from;
      to = found.to;
      allowed = candidate.allowed;
      admissible = candidate.path;
    },
    slots-live book trial.ask trial.from trial.to trial.crowded sized found.path found.slots
        candidate.slots,
  )

  leaves : (link : LinkId) (node to : Node) → BeginsAt chip.links link node
      → Contains (links_from chip.links node) link
  leaves link node to begins = begins-leaving chip.links link node begins

  decides : (path : List LinkId) → MayTake chip trial path → may_take chip trial path ≡ true
  decides path may = (may_take-Decides chip trial is path).1 may

  -- A path that the try may take is one of the lists that leave its senders.
  pub path-listed : (path : List LinkId) → MayTake chip trial path
      → Contains (leaving_lists chip trial.from) path
  path-listed path may =
      subst (Contains (leaving_lists chip trial.from)) (take-length path)
      (front-has chip groups trial leaves (link-known chip.links) decides path may (length path)
      (path-some chip groups trial leaves (link-known chip.links) decides path may) (omega arith))

  -- The test decides whether there is a candidate.
  pub has_candidate-Decides : Decides (has_candidate chip groups trial)
      (HasCandidate chip groups trial)
  has_candidate-Decides = (
    (λ told.
        let found =
        passes_from_any (λ path. may_take chip trial path && is_live book trial.ask path)
        (leaving_lists chip trial.from) told in
        let (may, live) = and_parts (may_take chip trial found.item) _ found.passes in
        live-candidate found.item ((may_take-Decides chip trial is found.item).0 may) live),
    (λ (found, candidate).
        let (may, live) = candidate-live found candidate in
        any_from_passes (λ path. may_take chip trial path && is_live book trial.ask path)
        (leaving_lists chip trial.from) found.path (path-listed found.path may)
        (and_from _ _ ((may_take-Decides chip trial is found.path).1 may) live)),
  )

  -- ---- certificates

  -- What is listed is exactly what is a shortest cut.
  pub first-cuts : (cut : List LinkId)
      → Contains (cuts_of chip groups trial) cut ↔ IsFirstCut chip groups trial cut
  first-cuts cut = (
    each-first chip groups trial (leaving-begins chip.links)
        (λ path. (may_take-Decides chip trial is path).0) cut,
    first-has chip groups trial leaves (link-known chip.links) decides cut,
  )

  -- Without a candidate the shortest cuts are a certificate.
  pub certificate-exists : (HasCandidate chip groups trial → ⊥)
      → IsCertificate chip groups trial (cuts_of chip groups trial)
  certificate-exists none =
      record {
        cuts_are = λ i d low. each-cut chip groups trial (leaving-begins chip.links) _
            (Contains-get_or (cuts_of chip groups trial) i d low);
        complete = cuts-complete chip groups trial leaves (link-known chip.links) decides
            (λ path may.
            ap not (false_from_ne_true _ (λ live. none (live-candidate path may live))));
      }

  -- With a certificate there is no candidate.
  pub certificate-sound : (cuts : List (List LinkId)) → IsCertificate chip groups trial cuts
      → HasCandidate chip groups trial → ⊥
  certificate-sound cuts certificate (found, candidate) =
      let (may, live) = candidate-live found candidate in
      let dead = certified-dead chip groups trial (leaving-begins chip.links) front-dead cuts
      (λ cut (i, low, at). subst (IsCut chip groups trial) at (certificate.cuts_are i cut low))
      certificate.complete found.path may in
      both_ways _ (not-true _ dead) live

  certificate-by : (b : Bool) → has_candidate chip groups trial ≡ b
      → MatchOption (cond b None (Some (cuts_of chip groups trial)))
      (HasCandidate chip groups trial)
      (IsCertificate chip groups trial)
  certificate-by true told = has_candidate-Decides.0 told
  certificate-by false told =
      certificate-exists (λ some. both_ways _ told (has_candidate-Decides.1 some))

  -- The certificate of a try is one; there is none exactly where there is a candidate.
  pub certificate-is : MatchOption (certificate_of chip groups trial)
      (HasCandidate chip groups trial)
      (IsCertificate chip groups trial)
  certificate-is = certificate-by (has_candidate chip groups trial) refl

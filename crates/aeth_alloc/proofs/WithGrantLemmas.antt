-- A book with one more grant whose starts are free is a book.
use Rattle.std.proofs.Common.{◌≡◌, ◌∙◌, ◌<◌, ◌≤◌, ◌+◌, ◌%◌, ℕ, All, Contains, get_or, length, sym}
use Rattle.std.proofs.Common.{ap, subst, true, arith, eq-eqb}
use Rattle.std.proofs.lemmas.{Bool.and_from, List.Elements.All-push, List.Elements.Contains-get_or}
use Rattle.std.proofs.lemmas.{List.Quantifiers.all_pairs_push}
use Rattle.aeth_base.specs.declared.ids.LinkId.{LinkId}
use Rattle.aeth_chip.specs.{Chip.ChipData, Chip.IsChip, Paths.offset}
use Rattle.aeth_app.specs.Limits.{max_uses}
use Rattle.aeth_group.specs.{Conflict.Conflict, Members.GroupsData, Members.are_together}
use Rattle.aeth_group.specs.{Occupation.Occupies, declared.grant.Grant.Grant}
use Rattle.aeth_group.proofs.ConflictLemmas.{conflict_from_held}
use Rattle.aeth_book.specs.Book.{AreApart, BookData, IsBook, IsFit, empty_book, with_grant}
use Rattle.aeth_book.specs.Free.{free_starts, is_rival}
use Rattle.aeth_book.proofs.StartLemmas.{free_starts-each}

-- The book without grants is one.
pub first-book : (chip : ChipData) (groups : GroupsData) → IsChip chip
    → length groups.uses ≤ max_uses → IsBook (empty_book chip groups)
first-book chip groups is few = record {
  some_size = is.some_slots;
  within = is.slots;
  few_links = is.few_links;
  delays = λ l link at. (is.links l link at).within;
  few_uses = few;
  fit = λ k d low. absurd (omega arith);
  apart = λ i j d less low. absurd (omega arith);
}

module _ (book : BookData) (grant : Grant) (sizes : grant.slots.size ≡ book.size)
    (free : (start : ℕ) → Contains grant.slots.slots start
    → Contains (free_starts book grant.unit grant.path).slots start) where
  -- A grant that conflicts with one whose starts are free isn't in the book.
  clear : (other : Grant) → Contains book.grants other → Conflict book.groups book.links other grant
      → ⊥
  clear other has conflict =
      let second : Occupies book.links grant conflict.link conflict.slot = conflict.second in
      let start = (free_starts-each book grant.unit grant.path second.start).0
      (free second.start second.starts) in
      let place = second.place in
      let at : (second.start + offset book.links grant.path place) % book.size ≡ conflict.slot =
      ap (λ n. (second.start + offset book.links grant.path place) % n) (sym sizes)
      ∙ second.slot in
      let rival : is_rival book.groups grant.unit other ≡ true =
      and_from _ _ (eq-eqb other.unit.group.0 grant.unit.group.0 conflict.one_group)
      (subst (λ g. are_together book.groups g other.unit.conn.0 grant.unit.conn.0 ≡ true)
      conflict.one_group conflict.together) in
      start.clear place second.link other second.on_path has rival
      (subst (λ l. Occupies book.links other l
      ((second.start + offset book.links grant.path place) % book.size)) (sym second.is_link)
      (subst (λ s. Occupies book.links other conflict.link s) (sym at) conflict.first))

  -- Such a grant is apart from those of the book.
  apart-from : (other : Grant) → Contains book.grants other
      → AreApart book.groups book.links other grant
  apart-from other has u l s theirs ours =
      clear other has (conflict_from_held book.groups book.links other grant
      (record { use_case = u; link = l; slot = s; first = theirs; second = ours }))

  -- With it the book is one.
  pub book-with_grant : IsBook book
      → All (λ (link : LinkId). link.0 < length book.links) grant.path
      → IsBook (with_grant book grant)
  book-with_grant is on_chip = record {
    some_size = is.some_size;
    within = is.within;
    few_links = is.few_links;
    delays = is.delays;
    few_uses = is.few_uses;
    fit = All-push (IsFit book.size (length book.links)) book.grants grant is.fit
        (record { slots = sizes; path = on_chip });
    apart = all_pairs_push (AreApart book.groups book.links) book.grants grant is.apart
        (λ k d low. apart-from (get_or book.grants k d) (Contains-get_or book.grants k d low));
  }

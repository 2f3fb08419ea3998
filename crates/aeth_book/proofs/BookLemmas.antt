-- Laws of books: a first one, one with a grant more, and one with a grant less.
use Rattle.std.proofs.Common.{◌≡◌, ◌∙◌, ◌<◌, ◌+◌, ◌*◌, ◌%◌, ◌++◌, ◌&&◌, ◌||◌, ℕ, Bool, true, false}
use Rattle.std.proofs.Common.{cond, eqb, List, [], ◌∷◌, length, take, All, Contains, Some, get_or}
use Rattle.std.proofs.Common.{refl, sym, ap, subst, inl, inr, arith, eqb-true, lt-ltb}
use Rattle.std.proofs.Math.{Bool.or-false, Nat.mul-le-mul_right, Seq.get_or-append_seam}
use Rattle.std.proofs.lemmas.{Bool.and_from, Bool.and_parts, Bool.both_ways, Bool.cases_lt}
use Rattle.std.proofs.lemmas.{Bool.false≢true, Bool.not-true, Bool.or_cases}
use Rattle.std.proofs.lemmas.{List.get_or_append_left, List.get_or_default, List.length_push}
use Rattle.std.proofs.lemmas.{List.Elements.All-push, List.Folds.list_any-append}
use Rattle.std.proofs.lemmas.{List.Quantifiers.all_pairs_push, Option.slice_get-get_or}
use Rattle.std.specs.List.{range_with_len}
use Rattle.aeth_base.specs.declared.ids.{LinkId.LinkId, Unit.Unit as GroupUnit}
use Rattle.aeth_base.proofs.Filters.{filter-none}
use Rattle.aeth_chip.specs.{declared.node.Link.Link, Paths.delay_of}
use Rattle.aeth_slots.{specs.SlotSet.Slots, proofs.TestLemmas.Contains-where}
use Rattle.aeth_group.specs.{declared.grant.Grant.Grant, Members.GroupsData, Members.has_unit}
use Rattle.aeth_group.specs.{Occupation.enters, Occupation.holds_in, Tables.Changes, Tables.IsTable}
use Rattle.aeth_group.specs.{Tables.hits_uses}
use Rattle.aeth_group.proofs.{Ranges.any_from_passer, RowLemmas.use_is_there}
use Rattle.aeth_group.proofs.{OccupationLemmas.is_at, TableLemmas.either, TableLemmas.table-same}
use Rattle.aeth_group.proofs.{ListLemmas.any_from_passes, ListLemmas.passes_from_any}
use Rattle.aeth_book.specs.Book.{AreApart, BookData, IsBook, IsFit, with_grant}
use Rattle.aeth_book.specs.Free.{free_starts, is_occupied, is_open, is_taken}
use Rattle.aeth_book.specs.Masks.{IsKept}
use Rattle.aeth_book.proofs.UseLemmas.{taken_from_blocked}

-- A row that begins within a table is one of its rows.
row_below : (u l links uses : ℕ) → u * links + l < uses * links → u < uses
row_below u l links uses within = elim (cases_lt u uses) [
  | inl before ↦ before
  | inr past ↦ absurd (omega (arith, within, mul-le-mul_right links past))
]

-- With one more grant is occupied what was, and what the grant holds.
pub is_occupied-push : (book : BookData) (grant : Grant) (u l s : ℕ)
    → is_occupied (with_grant book grant) u l s
    ≡ (is_occupied book u l s || holds_in book.groups book.links u l s grant)
is_occupied-push book grant u l s =
    list_any-append (holds_in book.groups book.links u l s) book.grants (grant ∷ [])
    ∙ ap (λ b. is_occupied book u l s || b) (or-false (holds_in book.groups book.links u l s grant))

-- What a grant hits in a table's rows is what it holds.
hits-holds : (book : BookData) (grant : Grant) (u l s : ℕ) → u < length book.groups.uses
    → hits_uses grant.slots book.links book.groups grant.unit grant.path
    (length book.groups.uses) u l s
    ≡ holds_in book.groups book.links u l s grant
hits-holds book grant u l s below =
    ap (λ b. b && holds_in book.groups book.links u l s grant) (lt-ltb u _ below)

-- ---- a grant more

-- Where a flit that meets no rival enters a link, no rival occupies the slot.
open_misses : (book : BookData) (unit : GroupUnit) (starts : Slots) (after : ℕ)
    (path : List LinkId) (l s : ℕ) → starts.size ≡ book.size
    → ((x : ℕ) → Contains starts.slots x → is_open book unit after path x ≡ true)
    → enters starts book.links after path l s ≡ true → is_taken book unit l s ≡ false
open_misses book unit starts after [] l s sizes opens found = absurd (false≢true found)
open_misses book unit starts after (k ∷ path) l s sizes opens found =
    elim (or_cases (eqb k.0 l && is_at starts after s) _ found) [
      | inl here ↦
          let (same, at) = and_parts (eqb k.0 l) (is_at starts after s) here in
          let start = passes_from_any (λ x. eqb ((x + after) % starts.size) s) starts.slots at in
          let clear : is_taken book unit k.0 ((start.item + after) % book.size) ≡ false =
          not-true _ (and_parts _ _ (opens start.item start.is_in)).0 in
          let enter : (start.item + after) % book.size ≡ s =
          ap (λ size. (start.item + after) % size) (sym sizes) ∙ eqb-true _ _ start.passes in
          sym (ap (λ j. is_taken book unit j s) (eqb-true _ _ same))
          ∙ sym (ap (is_taken book unit k.0) enter) ∙ clear
      | inr onward ↦
          open_misses book unit starts (after + delay_of book.links k) path l s sizes
          (λ x has. (and_parts _ _ (opens x has)).1) onward
    ]

-- A grant whose starts are free is apart from those of the book.
free_is_apart : (book : BookData) (grant : Grant) → grant.slots.size ≡ book.size
    → ((x : ℕ) → Contains grant.slots.slots x
    → Contains (free_starts book grant.unit grant.path).slots x)
    → (u l s : ℕ) → is_occupied book u l s ≡ true
    → holds_in book.groups book.links u l s grant ≡ true → ⊥
free_is_apart book grant sizes free u l s occupied holds =
    let (has, enter) = and_parts (has_unit book.groups grant.unit u) _ holds in
    let missed : is_taken book grant.unit l s ≡ false =
    open_misses book grant.unit grant.slots 0 grant.path l s sizes
    (λ x is_in. ((Contains-where book.size (is_open book grant.unit 0 grant.path) x).0
    (free x is_in)).1) enter in
    both_ways (is_taken book grant.unit l s) missed
    (taken_from_blocked book grant.unit l s
    (any_from_passer (λ v. has_unit book.groups grant.unit v && is_occupied book v l s)
    (length book.groups.uses) u (use_is_there book.groups grant.unit u has)
    (and_from _ _ has occupied)))

-- The book with one more grant is kept.
pub kept-add : (book : BookData) (grant : Grant) (old new : List Slots) → IsKept book old
    → All (λ (link : LinkId). link.0 < length book.links) grant.path
    → grant.slots.size ≡ book.size
    → ((x : ℕ) → Contains grant.slots.slots x
    → Contains (free_starts book grant.unit grant.path).slots x)
    → Changes grant.slots.size (length book.links)
    (hits_uses grant.slots book.links book.groups grant.unit grant.path
    (length book.groups.uses)) true old new
    → IsKept (with_grant book grant) new
kept-add book grant old new kept on_chip sizes free changes =
    let is_book : IsBook book = kept.is_book in
    let links : ℕ = length book.links in
    let hits : ℕ → ℕ → ℕ → Bool = hits_uses grant.slots book.links book.groups grant.unit
    grant.path (length book.groups.uses) in
    let table : IsTable book.size links (λ u l s. cond (hits u l s) true (is_occupied book u l s))
    new =
    subst (λ size. IsTable size links
    (λ u l s. cond (hits u l s) true (is_occupied book u l s)) new) sizes
    (changes.table (is_occupied book)
    (subst (λ size. IsTable size links (is_occupied book) old) (sym sizes) kept.table)) in
    record {
      is_book = record {
        some_size = is_book.some_size;
        within = is_book.within;
        few_links = is_book.few_links;
        delays = is_book.delays;
        few_uses = is_book.few_uses;
        fit = All-push (IsFit book.size links) book.grants grant is_book.fit
            (record { slots = sizes; path = on_chip });
        apart = all_pairs_push (AreApart book.groups book.links) book.grants grant is_book.apart
            (λ k d below u l s holds holds'.
            free_is_apart book grant sizes free u l s
            (any_from_passes (holds_in book.groups book.links u l s) book.grants
            (get_or book.grants k d)
            (k, below, get_or_default book.grants k (get_or book.grants k d) d below) holds)
            holds');
      };
      count = changes.count ∙ kept.count;
      table = table-same book.size links
          (λ u l s. cond (hits u l s) true (is_occupied book u l s))
          (is_occupied (with_grant book grant)) new table
          (λ u l s low within below.
          let row = row_below u l links (length book.groups.uses)
          (omega (arith, changes.count, kept.count)) in
          ap (λ b. cond b true (is_occupied book u l s)) (hits-holds book grant u l s row)
          ∙ sym (either (is_occupied book u l s) (holds_in book.groups book.links u l s grant))
          ∙ sym (is_occupied-push book grant u l s));
    }

-- ---- a grant less

taken_out : (f h : Bool) → (f ≡ true → h ≡ true → ⊥) → cond h false (f || h) ≡ f
taken_out true true apart = absurd (apart refl refl)
taken_out false true apart = refl
taken_out true false apart = refl
taken_out false false apart = refl

-- The last grant is of the book's chip.
pub last_fit : (book : BookData) (grant : Grant) → IsBook (with_grant book grant)
    → IsFit book.size (length book.links) grant
last_fit book grant is_book =
    subst (IsFit book.size (length book.links)) (get_or-append_seam book.grants grant [] grant)
    (is_book.fit (length book.grants) grant (omega (arith, length_push book.grants grant)))

-- The book without its last grant is kept.
pub kept-remove : (book : BookData) (grant : Grant) (old new : List Slots)
    → IsKept (with_grant book grant) old
    → Changes grant.slots.size (length book.links)
    (hits_uses grant.slots book.links book.groups grant.unit grant.path
    (length book.groups.uses)) false old new
    → IsKept book new
kept-remove book grant old new kept changes =
    let is_book : IsBook (with_grant book grant) = kept.is_book in
    let links : ℕ = length book.links in
    let longer = length_push book.grants grant in
    let last : (d : Grant) → get_or (book.grants ++ grant ∷ []) (length book.grants) d ≡ grant =
    λ d. get_or-append_seam book.grants grant [] d in
    let early : (k : ℕ) (d : Grant) → k < length book.grants
    → get_or (book.grants ++ grant ∷ []) k d ≡ get_or book.grants k d =
    λ k d low. get_or_append_left book.grants (grant ∷ []) d k low in
    let sizes : grant.slots.size ≡ book.size = (last_fit book grant is_book).slots in
    let hits : ℕ → ℕ → ℕ → Bool = hits_uses grant.slots book.links book.groups grant.unit
    grant.path (length book.groups.uses) in
    let was : ℕ → ℕ → ℕ → Bool = is_occupied (with_grant book grant) in
    let table : IsTable book.size links (λ u l s. cond (hits u l s) false (was u l s)) new =
    subst (λ size. IsTable size links (λ u l s. cond (hits u l s) false (was u l s)) new) sizes
    (changes.table was (subst (λ size. IsTable size links was old) (sym sizes) kept.table)) in
    let apart : (u l s : ℕ) → is_occupied book u l s ≡ true
    → holds_in book.groups book.links u l s grant ≡ true → ⊥ =
    λ u l s occupied holds.
    let other = passes_from_any (holds_in book.groups book.links u l s) book.grants occupied in
    let at = other.is_in in
    let found : get_or (book.grants ++ grant ∷ []) at.0 other.item ≡ other.item =
    early at.0 other.item at.1 ∙ at.2 in
    is_book.apart at.0 (length book.grants) other.item at.1 (omega arith) u l s
    (rw found other.passes) (rw (last other.item) holds) in
    record {
      is_book = record {
        some_size = is_book.some_size;
        within = is_book.within;
        few_links = is_book.few_links;
        delays = is_book.delays;
        few_uses = is_book.few_uses;
        fit = λ k d low. subst (IsFit book.size links) (early k d low)
            (is_book.fit k d (omega arith));
        apart = λ i j d before low.
            subst (λ (g : Grant). AreApart book.groups book.links g (get_or book.grants j d))
            (early i d (omega arith))
            (subst (AreApart book.groups book.links (get_or (book.grants ++ grant ∷ []) i d))
            (early j d low) (is_book.apart i j d before (omega arith)));
      };
      count = changes.count ∙ kept.count;
      table = table-same book.size links (λ u l s. cond (hits u l s) false (was u l s))
          (is_occupied book) new table
          (λ u l s low within below.
          let row = row_below u l links (length book.groups.uses)
          (omega (arith, changes.count, kept.count)) in
          ap (λ b. cond b false (was u l s)) (hits-holds book grant u l s row)
          ∙ ap (cond (holds_in book.groups book.links u l s grant) false)
          (is_occupied-push book grant u l s)
          ∙ taken_out (is_occupied book u l s) (holds_in book.groups book.links u l s grant)
          (apart u l s));
    }

-- ---- no grant

-- The first book is kept beside masks without slots.
pub kept-none : (size : ℕ) (links : List Link) (groups : GroupsData) (masks : List Slots)
    → IsBook (record { size = size; links = links; groups = groups; grants = [] })
    → length masks ≡ length groups.uses * length links
    → All (λ (mask : Slots). mask ≡ record { size = size; slots = [] }) masks
    → IsKept (record { size = size; links = links; groups = groups; grants = [] }) masks
kept-none size links groups masks is_book count empty = record {
  is_book = is_book;
  count = count;
  table = λ u l low within.
      let none : Slots = record { size = size; slots = [] } in
      slice_get-get_or masks (u * length links + l) none within
      ∙ ap Some (empty (u * length links + l) none within
      ∙ (λ i. record { size = size; slots = sym (filter-none (range_with_len 0 size)) i }));
}

take_whole : {X : Type 0} (new rest : List X) → take (length new) (new ++ rest) ≡ new
take_whole [] rest = refl
take_whole (x ∷ new) rest = ap (λ ys. x ∷ ys) (take_whole new rest)

-- What was written back to a vector is what it holds.
pub written : {X : Type 0} (new rest : List X) (len : ℕ) → length new ≡ len
    → take len (new ++ rest) ≡ new
written new rest len is = rw (← is) (take_whole new rest)

-- Laws of tables of slots: what a write to one mask changes, and changes one after the other.
use Rattle.std.proofs.Common.{◌≡◌, ◌≢◌, ◌∙◌, ◌<◌, ◌+◌, ◌*◌, ◌%◌, ◌&&◌, ◌||◌, ℕ, Bool, true, false}
use Rattle.std.proofs.Common.{not, cond, eqb, List, length, Some, slice_get, set, get_or, take}
use Rattle.std.proofs.Common.{refl, sym, ap, inl, inr, arith, zero-add, eq-eqb, eqb-true, ne_eqb}
use Rattle.std.proofs.Math.{Bool.and-or_distrib_left, ListN.length-set}
use Rattle.std.proofs.lemmas.{Nat.same_from_place, Bool.and_left, Bool.and_right, Bool.both_ways}
use Rattle.std.proofs.lemmas.{Bool.cases_eq, Bool.not-true, Bool.not_from_false, Option.same_Some}
use Rattle.std.proofs.lemmas.{Option.slice_get-get_or}
use Rattle.aeth_base.proofs.Lists.{slice_get-slice_set_same, slice_get-slice_set_other}
use Rattle.aeth_base.proofs.Members.{Contains-filter, filter-Contains}
use Rattle.aeth_base.specs.declared.ids.LinkId.{LinkId}
use Rattle.aeth_slots.specs.SlotSet.{Slots, has_slot, rotated, slots_where, without}
use Rattle.aeth_slots.proofs.Ascending.{Ascends-filter}
use Rattle.aeth_slots.proofs.SlotSetLemmas.{Contains-rotated}
use Rattle.aeth_slots.proofs.TestLemmas.{Ascends-where, Contains-where, has_slot-Decides}
use Rattle.aeth_slots.proofs.TestLemmas.{has_slot-where, is_where, where-same}
use Rattle.aeth_chip.specs.{declared.node.Link.Link, Paths.offset}
use Rattle.aeth_group.specs.Occupation.{enters}
use Rattle.aeth_group.specs.Tables.{Changes, HasTable, IsTable, changed, hits_row}
use Rattle.aeth_group.proofs.ListLemmas.{any_from_passes, passes_from_any, same_tests, take-at}
use Rattle.aeth_group.proofs.OccupationLemmas.{enters-push, is_at}

-- Tests that agree within a table have the same table.
pub table-same : (size links : ℕ) (test other : ℕ → ℕ → ℕ → Bool) (masks : List Slots)
    → IsTable size links test masks
    → ((u l s : ℕ) → l < links → u * links + l < length masks → s < size
    → test u l s ≡ other u l s)
    → IsTable size links other masks
table-same size links test other masks table same u l low within =
    table u l low within
    ∙ ap Some (where-same size (test u l) (other u l) (λ s below. same u l s low within below))

put_once : (a p t : Bool) → (a ≡ false) → cond a p t ≡ t
put_once true p t none = absurd (both_ways true none refl)
put_once false p t none = refl

put_twice : (a b p t : Bool) → cond b p (cond a p t) ≡ cond (a || b) p t
put_twice true true p t = refl
put_twice true false p t = refl
put_twice false true p t = refl
put_twice false false p t = refl

-- Where nothing is hit, nothing changes.
pub changes-none : (size links : ℕ) (hits : ℕ → ℕ → ℕ → Bool) (put : Bool) (masks : List Slots)
    → ((u l s : ℕ) → hits u l s ≡ false) → Changes size links hits put masks masks
changes-none size links hits put masks none = record {
  count = refl;
  table = λ test table. table-same size links test (λ u l s. cond (hits u l s) put (test u l s))
      masks table
      (λ u l s low within below. sym (put_once (hits u l s) put (test u l s) (none u l s)));
}

-- What is hit may be said otherwise.
pub changes-same : (size links : ℕ) (hits other : ℕ → ℕ → ℕ → Bool) (put : Bool)
    (old new : List Slots) → Changes size links hits put old new
    → ((u l s : ℕ) → l < links → u * links + l < length old → s < size
    → hits u l s ≡ other u l s)
    → Changes size links other put old new
changes-same size links hits other put old new changes same = record {
  count = changes.count;
  table = λ test table. table-same size links (λ u l s. cond (hits u l s) put (test u l s))
      (λ u l s. cond (other u l s) put (test u l s)) new (changes.table test table)
      (λ u l s low within below. ap (λ b. cond b put (test u l s))
      (same u l s low (omega (arith, changes.count)) below));
}

-- One change after another.
pub changes-then : (size links : ℕ) (first second : ℕ → ℕ → ℕ → Bool) (put : Bool)
    (old mid new : List Slots) → Changes size links first put old mid
    → Changes size links second put mid new
    → Changes size links (λ u l s. first u l s || second u l s) put old new
changes-then size links first second put old mid new one two = record {
  count = two.count ∙ one.count;
  table = λ test table.
      table-same size links
      (λ u l s. cond (second u l s) put (cond (first u l s) put (test u l s)))
      (λ u l s. cond (first u l s || second u l s) put (test u l s)) new
      (two.table (λ u l s. cond (first u l s) put (test u l s)) (one.table test table))
      (λ u l s low within below. put_twice (first u l s) (second u l s) put (test u l s));
}

pub either : (f h : Bool) → (f || h) ≡ cond h true f
either true true = refl
either true false = refl
either false true = refl
either false false = refl

out : (f h : Bool) → (f ≡ true) → (h ≡ false) → cond h false f ≡ true
out f true is none = absurd (both_ways true none refl)
out f false is none = is

kept : (f h : Bool) → cond h false f ≡ true → (h ≡ false) × (f ≡ true)
kept f true is = absurd (both_ways true (sym is) refl)
kept f false is = (refl, is)

-- A mask of a test with slots put in, or taken out, is the mask of a test.
pub changed-where : (put : Bool) (size : ℕ) (test : ℕ → Bool) (other : Slots)
    → changed put (slots_where size test) other
    ≡ slots_where size (λ s. cond (has_slot other s) put (test s))
changed-where true size test other =
    where-same size (λ s. has_slot (slots_where size test) s || has_slot other s)
    (λ s. cond (has_slot other s) true (test s))
    (λ s below. ap (λ b. b || has_slot other s) (has_slot-where size test s below)
    ∙ either (test s) (has_slot other s))
changed-where false size test other =
    let outside : ℕ → Bool = λ s. not (has_slot other s) in
    is_where (without (slots_where size test) other) size
    (λ s. cond (has_slot other s) false (test s)) refl
    (Ascends-filter outside 0 size _ (Ascends-where size test)) (λ s. (
      (λ has. let found = filter-Contains outside (slots_where size test).slots s has in
          let is = (Contains-where size test s).0 found.0 in
          (is.0, out (test s) (has_slot other s) is.1 (not-true _ found.1))),
      (λ (below, is). let both = kept (test s) (has_slot other s) is in
          Contains-filter outside (slots_where size test).slots s
          ((Contains-where size test s).1 (below, both.1)) (not_from_false _ both.0)),
    ))

-- The slots of a rotated set are those where flits that start in the set are later.
pub has_slot-rotated : (starts : Slots) (after s : ℕ)
    → has_slot (rotated after starts) s ≡ is_at starts after s
has_slot-rotated starts after s =
    let decides = has_slot-Decides (rotated after starts) s in
    let is = Contains-rotated after starts s in
    let test : ℕ → Bool = λ x. eqb ((x + after) % starts.size) s in
    same_tests (has_slot (rotated after starts) s) (is_at starts after s)
    (λ has. let found = is.0 (decides.0 has) in
    any_from_passes test starts.slots found.0 found.1 (eq-eqb _ s (sym found.2)))
    (λ at. let start = passes_from_any test starts.slots at in
    decides.1 (is.1 (start.item, start.is_in, sym (eqb-true _ s start.passes))))

missed : (u k v l links : ℕ) → v * links + l ≢ u * links + k → (b : Bool)
    → (eqb v u && (eqb k l && b)) ≡ false
missed u k v l links differs b = elim (cases_eq v u) [
  | inl row ↦ elim (cases_eq k l) [
    | inl column ↦ absurd (differs (rw (row, column) refl))
    | inr other ↦ and_right (eqb v u) _ (and_left (eqb k l) b (ne_eqb k l other))
  ]
  | inr other ↦ and_left (eqb v u) _ (ne_eqb v u other)
]

-- A mask was written: it has slots put in, or taken out.
pub changes-write : (size links u k : ℕ) (put : Bool) (old : List Slots) (mask other : Slots)
    (hit : ℕ → Bool) → k < links → slice_get old (u * links + k) ≡ Some mask
    → u * links + k < length old → ((s : ℕ) → has_slot other s ≡ hit s)
    → Changes size links (λ v l s. eqb v u && (eqb k l && hit s)) put old
    (set old (u * links + k) (changed put mask other))
changes-write size links u k put old mask other hit low at within is = record {
  count = length-set old (u * links + k) (changed put mask other);
  table = λ test table v l low' within'. elim (cases_eq (v * links + l) (u * links + k)) [
    | inl same ↦
        let place = same_from_place v l u k links low' low same in
        let was : mask ≡ slots_where size (test u k) =
        same_Some _ _ (sym at ∙ table u k low within) in
        ap (slice_get (set old (u * links + k) (changed put mask other))) same
        ∙ slice_get-slice_set_same old (u * links + k) (changed put mask other) within
        ∙ ap Some (
        ap (λ m. changed put m other) was ∙ changed-where put size (test u k) other
        ∙ where-same size (λ s. cond (has_slot other s) put (test u k s))
        (λ s. cond (eqb v u && (eqb k l && hit s)) put (test v l s))
        (λ s below.
        rw (place.0, place.1, is s, eq-eqb u u refl, eq-eqb k k refl) refl)
        )
    | inr differs ↦
        slice_get-slice_set_other old (u * links + k) (v * links + l) (changed put mask other)
        differs
        ∙ table v l low' (omega (arith, length-set old (u * links + k) (changed put mask other)))
        ∙ ap Some (where-same size (test v l)
        (λ s. cond (eqb v u && (eqb k l && hit s)) put (test v l s)) (λ s below.
        sym (put_once _ put (test v l s) (missed u k v l links differs (hit s)))))
  ];
}

-- A table that has changed is one.
pub still_table : (size links : ℕ) (hits : ℕ → ℕ → ℕ → Bool) (put : Bool) (old new : List Slots)
    → Changes size links hits put old new → HasTable size links old → HasTable size links new
still_table size links hits put old new changes (test, table) =
    ((λ u l s. cond (hits u l s) put (test u l s)), changes.table test table)

-- A mask of a table is of the table's size.
pub mask_size : (size links : ℕ) (masks : List Slots) (u k : ℕ) (mask : Slots)
    → HasTable size links masks → k < links → u * links + k < length masks
    → (get_or masks (u * links + k) mask).size ≡ size
mask_size size links masks u k mask (test, table) low within =
    ap (λ (m : Slots). m.size)
    (same_Some _ _ (sym (slice_get-get_or masks (u * links + k) mask within)
    ∙ table u k low within))

-- One more link of a path has changed its mask.
pub row_step : (size : ℕ) (starts : Slots) (links : List Link) (u : ℕ) (path : List LinkId)
    (i : ℕ) (k : LinkId) (after : ℕ) (put : Bool) (old now : List Slots) (mask other new : Slots)
    → slice_get path i ≡ Some k → after ≡ offset links path i → k.0 < length links
    → u * length links + k.0 < length now
    → mask ≡ get_or now (u * length links + k.0) mask
    → other ≡ rotated after starts → new ≡ changed put mask other
    → Changes size (length links) (hits_row starts links u (take i path)) put old now
    → Changes size (length links) (hits_row starts links u (take (i + 1) path)) put old
    (set now (u * length links + k.0) new)
row_step size starts links u path i k after put old now mask other new on_path is_after low within at
    turned is changes =
    let place : ℕ = u * length links + k.0 in
    let found : slice_get now place ≡ Some mask =
    slice_get-get_or now place mask within ∙ ap Some (sym at) in
    let write =
    changes-write size (length links) u k.0 put now mask other
    (λ s. is_at starts (offset links path i) s) low found within
    (λ s. ap (λ o. has_slot o s) turned ∙ has_slot-rotated starts after s
    ∙ ap (λ a. is_at starts a s) is_after) in
    rw is (changes-same size (length links) _ (hits_row starts links u (take (i + 1) path))
    put old (set now place (changed put mask other))
    (changes-then size (length links) (hits_row starts links u (take i path)) _ put old now
    (set now place (changed put mask other)) changes write)
    (λ v l s low' within' below.
    sym (and-or_distrib_left (eqb v u) (enters starts links 0 (take i path) l s)
    (eqb k.0 l && is_at starts (offset links path i) s))
    ∙ ap (λ b. eqb v u && b) (sym (
    ap (λ p. enters starts links 0 p l s) (take-at path i k on_path)
    ∙ enters-push starts links 0 (take i path) k l s
    ∙ rw (zero-add (offset links path i)) refl
    ))))

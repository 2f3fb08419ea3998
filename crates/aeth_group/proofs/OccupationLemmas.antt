-- Laws of occupation: a path with one more link, and the fact that the test decides.
use Rattle.std.proofs.Common.{◌≡◌, ◌∙◌, ◌+◌, ◌%◌, ◌++◌, ◌&&◌, ◌||◌, ℕ, zero, suc, Bool, true, eqb}
use Rattle.std.proofs.Common.{List, [], ◌∷◌, Contains, Some, slice_get, take, refl, sym, ap, inl}
use Rattle.std.proofs.Common.{inr, arith, false, eqb-true, eq-eqb}
use Rattle.std.proofs.Math.Bool.{or-false}
use Rattle.std.proofs.lemmas.Bool.{and_from, and_parts, or_cases, or_left, or_right, false≢true}
use Rattle.std.proofs.lemmas.Option.{same_Some, none-some}
use Rattle.std.proofs.lemmas.List.Sums.{sum_by-cons}
use Rattle.std.specs.{Bool.Decides, List.list_any}
use Rattle.aeth_base.specs.declared.ids.LinkId.{LinkId}
use Rattle.aeth_chip.specs.{declared.node.Link.Link, Paths.delay_of, Paths.offset, Paths.path_delay}
use Rattle.aeth_slots.specs.SlotSet.{Slots}
use Rattle.aeth_group.specs.declared.grant.Grant.{Grant}
use Rattle.aeth_group.specs.Occupation.{enters, occupies, Occupies}
use Rattle.aeth_group.proofs.ListLemmas.{any_from_passes, passes_from_any}

-- Whether a flit that starts in one of these slots is so many cycles later in this slot.
abbrev pub is_at : Slots → ℕ → ℕ → Bool
is_at starts after s = list_any (λ x. eqb ((x + after) % starts.size) s) starts.slots

or-assoc : (a b c : Bool) → (a || (b || c)) ≡ ((a || b) || c)
or-assoc true b c = refl
or-assoc false b c = refl

later : (a d p : ℕ) → (a + d) + p ≡ a + (d + p)
later a d p = omega arith

-- Along a path with one more link flits enter what they entered before, or that link.
pub enters-push : (starts : Slots) (links : List Link) (after : ℕ) (path : List LinkId)
    (k : LinkId) (l s : ℕ) → enters starts links after (path ++ k ∷ []) l s
    ≡ (enters starts links after path l s
    || (eqb k.0 l && is_at starts (after + path_delay links path) s))
enters-push starts links after [] k l s =
    let now : after + 0 ≡ after = omega arith in
    rw now (or-false _)
enters-push starts links after (j ∷ path) k l s =
    let here : Bool = eqb j.0 l && is_at starts after s in
    let delay : after + path_delay links (j ∷ path)
    ≡ (after + delay_of links j) + path_delay links path =
    ap (λ d. after + d) (sum_by-cons (delay_of links) j path)
    ∙ sym (later after (delay_of links j) (path_delay links path)) in
    rw delay (
    ap (λ b. here || b) (enters-push starts links (after + delay_of links j) path k l s)
    ∙ or-assoc here (enters starts links (after + delay_of links j) path l s)
    (eqb k.0 l && is_at starts ((after + delay_of links j) + path_delay links path) s)
    )

-- A place of a path where flits enter a link in a slot.
pub record Entry (starts : Slots) (links : List Link) (after : ℕ) (path : List LinkId) (l s : ℕ)
    : Type 0 where
  pub place : ℕ
  pub link : LinkId
  pub start : ℕ
  pub on_path : slice_get path place ≡ Some link
  pub is_link : link.0 ≡ l
  pub starts_in : Contains starts.slots start
  pub slot : (start + (after + offset links path place)) % starts.size ≡ s

entry_from_enters : (starts : Slots) (links : List Link) (after : ℕ) (path : List LinkId)
    (l s : ℕ) → enters starts links after path l s ≡ true → Entry starts links after path l s
entry_from_enters starts links after [] l s found = absurd (false≢true found)
entry_from_enters starts links after (k ∷ path) l s found =
    elim (or_cases (eqb k.0 l && is_at starts after s) _ found) [
      | inl here ↦
          let (same, at) = and_parts (eqb k.0 l) (is_at starts after s) here in
          let start = passes_from_any (λ x. eqb ((x + after) % starts.size) s) starts.slots at in
          let now : after + 0 ≡ after = omega arith in
          record {
            place = 0;
            link = k;
            start = start.item;
            on_path = refl;
            is_link = eqb-true k.0 l same;
            starts_in = start.is_in;
            slot = rw now (eqb-true _ s start.passes);
          }
      | inr onward ↦
          let rest = entry_from_enters starts links (after + delay_of links k) path l s onward in
          let delay : after + offset links (k ∷ path) (suc rest.place)
          ≡ (after + delay_of links k) + offset links path rest.place =
          ap (λ d. after + d) (sum_by-cons (delay_of links) k (take rest.place path))
          ∙ sym (later after (delay_of links k) (offset links path rest.place)) in
          record {
            place = suc rest.place;
            link = rest.link;
            start = rest.start;
            on_path = rest.on_path;
            is_link = rest.is_link;
            starts_in = rest.starts_in;
            slot = rw delay rest.slot;
          }
    ]

enters_from_entry : (starts : Slots) (links : List Link) (after : ℕ) (path : List LinkId)
    (l s place start : ℕ) (link : LinkId) → slice_get path place ≡ Some link → link.0 ≡ l
    → Contains starts.slots start
    → (start + (after + offset links path place)) % starts.size ≡ s
    → enters starts links after path l s ≡ true
enters_from_entry starts links after [] l s place start link on is has slot =
    absurd (none-some link on)
enters_from_entry starts links after (k ∷ path) l s zero start link on is has slot =
    let now : after + 0 ≡ after = omega arith in
    let first : k ≡ link = same_Some k link on in
    or_left _ _ (and_from _ _ (eq-eqb k.0 l (ap (λ (j : LinkId). j.0) first ∙ is))
    (any_from_passes (λ x. eqb ((x + after) % starts.size) s) starts.slots start has
    (eq-eqb _ s (ap (λ a. (start + a) % starts.size) (sym now) ∙ slot))))
enters_from_entry starts links after (k ∷ path) l s (suc place) start link on is has slot =
    let delay : after + offset links (k ∷ path) (suc place)
    ≡ (after + delay_of links k) + offset links path place =
    ap (λ d. after + d) (sum_by-cons (delay_of links) k (take place path))
    ∙ sym (later after (delay_of links k) (offset links path place)) in
    or_right (eqb k.0 l && is_at starts after s) _
    (enters_from_entry starts links (after + delay_of links k) path l s place start link on is has
    (ap (λ a. (start + a) % starts.size) (sym delay) ∙ slot))

-- The test of a grant decides the fact.
pub occupies-Decides : (links : List Link) (grant : Grant) (l s : ℕ)
    → Decides (occupies links grant l s) (Occupies links grant l s)
occupies-Decides links grant l s = (
  (λ found. let entry = entry_from_enters grant.slots links 0 grant.path l s found in
      let now : 0 + offset links grant.path entry.place ≡ offset links grant.path entry.place =
      omega arith in
      record {
        place = entry.place;
        link = entry.link;
        start = entry.start;
        on_path = entry.on_path;
        is_link = entry.is_link;
        starts = entry.starts_in;
        slot = rw now at entry.slot;
      }),
  (λ fact. let now : 0 + offset links grant.path fact.place ≡ offset links grant.path fact.place =
      omega arith in
      enters_from_entry grant.slots links 0 grant.path l s fact.place fact.start fact.link
      fact.on_path fact.is_link fact.starts (rw now fact.slot)),
)

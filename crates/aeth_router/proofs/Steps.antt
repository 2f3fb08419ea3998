-- What each turn of the loops over links of a router adds.
use Rattle.std.proofs.Common.{◌≡◌, ◌<◌, ◌≤◌, ◌+◌, ℕ, Bool, false, refl, sym, ap, ◌∙◌, inl, inr}
use Rattle.std.proofs.Common.{arith, eqb, ◌||◌, List, [], ◌∷◌, ◌++◌, length, map, take, get_or}
use Rattle.std.proofs.Common.{replicate, Option, Some, None, true, slice_get, unwrap_or, eqb-true}
use Rattle.std.proofs.lemmas.Bool.{cases_Bool, cases_eq, cases_lt, Decides.nat_tests}
use Rattle.std.proofs.lemmas.List.{get_or-replicate, length-map, length-replicate, map-append}
use Rattle.std.proofs.lemmas.List.Folds.{list_any-append}
use Rattle.std.proofs.lemmas.Option.{slice_get-get_or, slice_get-map, slice_get_past}
use Rattle.std.specs.{List.slice_set, Option.option_map}
use Rattle.aeth_base.proofs.Lists.{same_list, slice_get-slice_set_other, slice_get-slice_set_same}
use Rattle.aeth_base.proofs.Lists.{take-slice_get}
use Rattle.aeth_base.specs.declared.ids.LinkId.{LinkId}
use Rattle.aeth_clocked.specs.{declared.flit.Flit.Flit, Resting.HasNoFlit, Wires.AreLinks}
use Rattle.aeth_clocked.specs.{Wires.Drives, Wires.flit_on}
use Rattle.aeth_clocked.proofs.WiresLemmas.{Drives-same, Drives-slice_set, Drives-then}
use Rattle.aeth_router.specs.Router.{is_among, numbers_of}
use Rattle.aeth_router.proofs.LinkLemmas.{is_among-at}

-- The number at a place.
pub numbers_of-at : (links : List LinkId) (place : ℕ) (default : LinkId) → place < length links
    → slice_get (numbers_of links) place ≡ Some (get_or links place default).0
numbers_of-at links place default within =
    slice_get-map (λ link. link.0) links place
    ∙ ap (λ (link : Option LinkId). option_map (λ link. link.0) link)
    (slice_get-get_or links place default within)

-- So is that of the link that is got at a place.
pub numbers_of-got : (links : List LinkId) (place : ℕ) (link : LinkId)
    → place < length links → link ≡ get_or links place link
    → slice_get (numbers_of links) place ≡ Some link.0
numbers_of-got links place link within is =
    numbers_of-at links place link within
    ∙ ap (λ (there : LinkId). Some there.0) (sym is)

-- It is a link, where all are.
pub numbers_of-below : (links : List LinkId) (place count : ℕ) (default : LinkId)
    → AreLinks (is_among (numbers_of links)) count → place < length links
    → (get_or links place default).0 < count
numbers_of-below links place count default are_links within =
    are_links (get_or links place default).0
    (is_among-at (numbers_of links) place (get_or links place default).0
    (numbers_of-at links place default within))

-- One link more, and what a function makes of its number.
pub numbers_of-more : (change : ℕ → ℕ) (links made : List LinkId) (place : ℕ)
    (default more : LinkId) → place < length links
    → more.0 ≡ change (get_or links place default).0
    → numbers_of made ≡ map change (take place (numbers_of links))
    → numbers_of (made ++ more ∷ []) ≡ map change (take (place + 1) (numbers_of links))
numbers_of-more change links made place default more within is before =
    let number = (get_or links place default).0 in
    rw (
      map-append (λ (link : LinkId). link.0) made (more ∷ []),
      take-slice_get (numbers_of links) place number (numbers_of-at links place default within),
      map-append change (take place (numbers_of links)) (number ∷ []),
    ) (rw (before, is) refl)

-- What is held of the wires up to a place, where nothing was held, and whether it is anything.
pub record HasTaken (wires first : List (Option Flit)) (links : List ℕ) (place : ℕ)
    (held : List (Option Flit)) (is_any : Bool) : Type 0 where
  pub taken : (i : ℕ) → i < place → slice_get held i ≡ slice_get (map (flit_on wires) links) i
  pub rest : (i : ℕ) → place ≤ i → slice_get held i ≡ slice_get first i
  pub none : is_any ≡ false → held ≡ first

-- Where nothing was held, nothing is at a place.
pub free-at : (held : List (Option Flit)) (place : ℕ) → held ≡ replicate (length held) None
    → place < length held → slice_get held place ≡ Some None
free-at held place none within =
    slice_get-get_or held place None within
    ∙ ap (λ (list : List (Option Flit)). Some (get_or list place None)) none
    ∙ ap (λ (there : Option Flit). Some there)
    (get_or-replicate (length held) place None None within)

-- There are as many places as links, and nothing is held where all were made empty.
pub empty-places : (links : List LinkId) (held : List (Option Flit)) (count : ℕ)
    → held ≡ replicate count None → count ≡ length links
    → (length held ≡ length (numbers_of links)) × (held ≡ replicate (length held) None)
empty-places links held count empty places =
    let size : length held ≡ count = ap length empty ∙ length-replicate count None in (
      size ∙ places ∙ sym (length-map links (λ (link : LinkId). link.0)),
      empty ∙ ap (λ n. replicate n None) (sym size),
    )

-- What the wire of a place has.
pub taken-at : (wires : List (Option Flit)) (links : List ℕ) (place link : ℕ)
    → slice_get links place ≡ Some link
    → slice_get (map (flit_on wires) links) place ≡ Some (flit_on wires link)
taken-at wires links place link at =
    slice_get-map (flit_on wires) links place
    ∙ ap (λ (link : Option ℕ). option_map (flit_on wires) link) at

-- Of one wire more nothing is held, where it is empty.
pub HasTaken-none : (wires first : List (Option Flit)) (links : List ℕ) (place link : ℕ)
    (held : List (Option Flit)) (is_any : Bool) → slice_get links place ≡ Some link
    → slice_get first place ≡ Some None → flit_on wires link ≡ None
    → HasTaken wires first links place held is_any
    → HasTaken wires first links (place + 1) held is_any
HasTaken-none wires first links place link held is_any at free empty before =
    record {
      taken = λ i within.
          elim (cases_eq i place) [
            | inl same ↦
                rw same (before.rest place (omega arith)
                ∙ free
                ∙ sym (taken-at wires links place link at
                ∙ ap (λ (flit : Option Flit). Some flit) empty))
            | inr other ↦ before.taken i (omega arith)
          ];
      rest = λ i from. before.rest i (omega arith);
      none = before.none;
    }

-- Of one wire more its flit is held.
pub HasTaken-some : (wires first : List (Option Flit)) (links : List ℕ) (place link : ℕ)
    (held : List (Option Flit)) (is_any : Bool) (flit : Option Flit)
    → slice_get links place ≡ Some link → place < length held → slice_get wires link ≡ Some flit
    → HasTaken wires first links place held is_any
    → HasTaken wires first links (place + 1) (slice_set held place flit) true
HasTaken-some wires first links place link held is_any flit at within on before =
    let is : flit ≡ flit_on wires link =
    ap (λ (there : Option (Option Flit)). unwrap_or there None) (sym on) in
    record {
      taken = λ i below.
          elim (cases_eq i place) [
            | inl same ↦
                rw same (slice_get-slice_set_same held place flit within
                ∙ ap (λ (flit : Option Flit). Some flit) is
                ∙ sym (taken-at wires links place link at))
            | inr other ↦
                slice_get-slice_set_other held place i flit other ∙ before.taken i (omega arith)
          ];
      rest = λ i from.
          slice_get-slice_set_other held place i flit (λ same. absurd (omega arith))
          ∙ before.rest i (omega arith);
      none = λ is. absurd (cc is);
    }

-- Once all have been asked, what they have is held.
pub HasTaken-all : (wires first : List (Option Flit)) (links : List ℕ) (count : ℕ)
    (held : List (Option Flit)) (is_any : Bool) → count ≡ length links → length held ≡ length links
    → HasTaken wires first links count held is_any → held ≡ map (flit_on wires) links
HasTaken-all wires first links count held is_any whole places taken =
    let size = length-map links (flit_on wires) in
    same_list held (map (flit_on wires) links) (λ i.
    elim (cases_lt i (length links)) [
      | inl within ↦ taken.taken i (omega arith)
      | inr past ↦
          slice_get_past held i (omega arith)
          ∙ sym (slice_get_past (map (flit_on wires) links) i (omega arith))
    ])

-- The links up to a place, and the one at it.
is_among-more : (links : List ℕ) (place link other : ℕ) → slice_get links place ≡ Some link
    → is_among (take (place + 1) links) other
    ≡ (is_among (take place links) other || eqb link other)
is_among-more links place link other at =
    rw (take-slice_get links place link at)
    (list_any-append (λ among. eqb among other) (take place links) (link ∷ [])
    ∙ grind (arith, nat_tests))

-- One wire more is empty.
pub HasNoFlit-more : (links : List ℕ) (wires : List (Option Flit)) (place link : ℕ)
    → slice_get links place ≡ Some link → flit_on wires link ≡ None
    → HasNoFlit (is_among (take place links)) wires
    → HasNoFlit (is_among (take (place + 1) links)) wires
HasNoFlit-more links wires place link at empty before = λ other is.
    elim (cases_Bool (is_among (take place links) other)) [
      | inl earlier ↦ before other earlier
      | inr apart ↦
          let more = is_among-more links place link other at in
          let last : eqb link other ≡ true = sym (rw apart at more) ∙ is in
          ap (flit_on wires) (sym (eqb-true link other last)) ∙ empty
    ]

-- One link more is driven.
pub Drives-more : (links : List ℕ) (flit_on : ℕ → Option Flit) (place link : ℕ)
    (old middle : List (Option Flit)) → slice_get links place ≡ Some link → link < length old
    → Drives (is_among (take place links)) flit_on old middle
    → Drives (is_among (take (place + 1) links)) flit_on old
    (slice_set middle link (flit_on link))
Drives-more links flit_on place link old middle at within before =
    let size = before.links in
    let then = Drives-slice_set link flit_on middle (omega arith) in
    Drives-same (λ other. is_among (take place links) other || eqb link other)
    (is_among (take (place + 1) links)) flit_on old (slice_set middle link (flit_on link))
    (λ other. sym (is_among-more links place link other at))
    (Drives-then (is_among (take place links)) (λ other. eqb link other) flit_on flit_on
    old middle (slice_set middle link (flit_on link)) (λ other is. refl) before then)

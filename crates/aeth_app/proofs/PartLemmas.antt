-- Parts of an application made from tables: marks, places of names, and what holds of the parts.
--
--   length-named_marks, named_marks-none, named_marks-known, named_marks-unknown    marks
--   end_of-within, ni_of-within    places of names
--   IsFixedBelow, cores_fixed, uses_marked    what holds of cores and use cases
use Rattle.std.proofs.Common.{◌≡◌, ◌+◌, ◌++◌, ◌<◌, ℕ, zero, suc, true, false, List, [], ◌∷◌, length}
use Rattle.std.proofs.Common.{map, Option, Some, None, refl, ap, arith, Bool, ◌||◌, ◌==◌, inl, inr}
use Rattle.std.proofs.Common.{subst, All, option_map, replicate, codes, ne_eqb, append-nil}
use Rattle.std.proofs.lemmas.Bool.{cases_Bool, Decides.Decides-eqb}
use Rattle.std.proofs.lemmas.List.FromFn.{length-map-range_with_len}
use Rattle.std.proofs.lemmas.List.Elements.{filter_map-append, All-cons, All-nil}
use Rattle.std.proofs.lemmas.Option.{same_Some}
use Rattle.std.specs.List.{filter_map, list_any, range_with_len, slice_set}
use Rattle.toml.specs.Data.{Members}
use Rattle.aeth_document.specs.{Values.text_if, Values.texts_at, Walks.place_of}
use Rattle.aeth_document.proofs.WalkLemmas.{place_of-within}
use Rattle.aeth_app.specs.{Parts.named_marks, Parts.core_of, Parts.end_of, Parts.ni_of}
use Rattle.aeth_app.specs.{Parts.use_of, declared.connection.Core.Core, App.IsUse, Unknown.unknown}
use Rattle.aeth_base.specs.declared.ids.NiId.{NiId}

-- Whether a place is one of some places.
abbrev marked : List ℕ → ℕ → Bool
marked places place = list_any (λ m. m == place) places

-- The last place is marked.
marked-last : (places : List ℕ) (last : ℕ) → marked (places ++ last ∷ []) last ≡ true
marked-last [] last = rw ((Decides-eqb last last).1 refl) refl
marked-last (p ∷ places) last =
    let rest = marked-last places last in
    elim (cases_Bool (p == last)) [
      | inl here ↦ rw here refl
      | inr other ↦ rw other rest
    ]

-- Another place is marked where it was.
marked-other : (places : List ℕ) (last place : ℕ) → (last == place) ≡ false
    → marked (places ++ last ∷ []) place ≡ marked places place
marked-other [] last place other = rw other refl
marked-other (p ∷ places) last place other =
    ap (λ b. (p == place) || b) (marked-other places last place other)

-- A place before the first that is asked for changes no mark.
marks_past : (first count last : ℕ) (places : List ℕ) → last < first
    → map (marked places) (range_with_len first count)
    ≡ map (marked (places ++ last ∷ [])) (range_with_len first count)
marks_past first zero last places below = refl
marks_past first (suc count) last places below =
    let here : marked (places ++ last ∷ []) first ≡ marked places first =
    marked-other places last first (ne_eqb last first (λ same. absurd (omega arith))) in
    let rest = marks_past (first + 1) count last places (omega arith) in
    rw (here, rest) refl

-- Setting a mark marks one place more.
marks_set : (first count i last : ℕ) (places : List ℕ) → last ≡ first + i
    → slice_set (map (marked places) (range_with_len first count)) i true
    ≡ map (marked (places ++ last ∷ [])) (range_with_len first count)
marks_set first zero i last places is = refl
marks_set first (suc count) zero last places is =
    let same : last ≡ first = omega arith in
    let here : marked (places ++ last ∷ []) first ≡ true = rw same (marked-last places first) in
    let rest = marks_past (first + 1) count last places (omega arith) in
    rw (here, rest) refl
marks_set first (suc count) (suc i) last places is =
    let here : marked (places ++ last ∷ []) first ≡ marked places first =
    marked-other places last first (ne_eqb last first (λ equal. absurd (omega arith))) in
    let rest = marks_set (first + 1) count i last places (omega arith) in
    rw (here, rest) refl

-- At no places there are no marks.
marks_none : (first count : ℕ)
    → replicate count false ≡ map (marked []) (range_with_len first count)
marks_none first zero = refl
marks_none first (suc count) = ap (λ ms. false ∷ ms) (marks_none (first + 1) count)

-- There is a mark for each name.
pub length-named_marks : (names texts : List (List ℕ))
    → length (named_marks names texts) ≡ length names
length-named_marks names texts =
    length-map-range_with_len (marked (filter_map (place_of names) texts)) 0 (length names)

-- At no texts there are no marks.
pub named_marks-none : (names : List (List ℕ))
    → replicate (length names) false ≡ named_marks names []
named_marks-none names = marks_none 0 (length names)

-- The mark of a text that is a name is set.
pub named_marks-known : (names texts : List (List ℕ)) (text : List ℕ) (place : ℕ)
    → Some place ≡ place_of names text
    → slice_set (named_marks names texts) place true ≡ named_marks names (texts ++ text ∷ [])
named_marks-known names texts text place known =
    let places = filter_map (place_of names) texts in
    let set = marks_set 0 (length names) place place places (omega arith) in
    rw (filter_map-append (place_of names) texts (text ∷ []), ← known) set

-- Another text marks nothing.
pub named_marks-unknown : (names texts : List (List ℕ)) (text : List ℕ)
    → None ≡ place_of names text
    → named_marks names texts ≡ named_marks names (texts ++ text ∷ [])
named_marks-unknown names texts text unknown =
    rw (filter_map-append (place_of names) texts (text ∷ []), ← unknown, append-nil) refl

end_within : (names : List (List ℕ)) (text : List ℕ) (place : Option ℕ)
    → place_of names text ≡ place → unknown names text ≡ None
    → (end_of names text).0 < length names
end_within names text None is known = absurd (cc (rw is at known))
end_within names text (Some place) is known = rw is (place_of-within names text place is)

-- An end that isn't unknown is one of the cores.
pub end_of-within : (names : List (List ℕ)) (text : List ℕ) → unknown names text ≡ None
    → (end_of names text).0 < length names
end_of-within names text known = end_within names text (place_of names text) refl known

ni_within : (nis : List (List ℕ)) (text : List ℕ) (place : Option ℕ) (ni : NiId)
    → place_of nis text ≡ place → option_map (λ p. record { 0 = p }) place ≡ Some ni
    → ni.0 < length nis
ni_within nis text None ni is found = absurd (cc found)
ni_within nis text (Some place) ni is found =
    let within = place_of-within nis text place is in
    let same : record { 0 = place } ≡ ni = same_Some _ _ found in
    subst (λ (n : NiId). n.0 < length nis) same within

-- A network interface that a text names is one of the chip's.
pub ni_of-within : (nis : List (List ℕ)) (text : Option (List ℕ)) (ni : NiId)
    → ni_of nis text ≡ Some ni → ni.0 < length nis
ni_of-within nis None ni found = absurd (cc found)
ni_of-within nis (Some text) ni found = ni_within nis text (place_of nis text) ni refl found

-- What holds of a core's network interface, if it has one.
abbrev pub IsFixedBelow : ℕ → Core → Type 0
IsFixedBelow nis core = (ni : NiId) → core.fixed ≡ Some ni → ni.0 < nis

-- The network interfaces of the cores are the chip's.
pub cores_fixed : (nis : List (List ℕ)) (tables : List Members)
    → All (IsFixedBelow (length nis)) (map (core_of nis) tables)
cores_fixed nis [] = All-nil (IsFixedBelow (length nis))
cores_fixed nis (table ∷ tables) =
    All-cons (IsFixedBelow (length nis)) (core_of nis table) (map (core_of nis) tables)
    (ni_of-within nis (text_if (codes "ni") table)) (cores_fixed nis tables)

-- Each use case has a mark for each connection and for each use case.
pub uses_marked : (connections uses : List (List ℕ)) (tables : List Members)
    → All (IsUse (length connections) (length uses)) (map (use_of connections uses) tables)
uses_marked connections uses [] = All-nil (IsUse (length connections) (length uses))
uses_marked connections uses (table ∷ tables) =
    All-cons (IsUse (length connections) (length uses)) (use_of connections uses table)
    (map (use_of connections uses) tables)
    (record {
      has = length-named_marks connections (texts_at (codes "connections") table);
      smooth = length-named_marks uses (texts_at (codes "smooth") table);
    })
    (uses_marked connections uses tables)

-- The lag and the writes of switches, by what each connection adds.
use Rattle.std.proofs.Common.{◌≡◌, ◌<◌, ◌≤◌, ◌+◌, ◌++◌, ◌∙◌, ℕ, zero, suc, Bool, true, false, List}
use Rattle.std.proofs.Common.{[], ◌∷◌, length, map, max, not, refl, sym, ap, inl, inr, Some}
use Rattle.std.proofs.Common.{append_assoc, arith, drop, get_or, flat_map, sum_by}
use Rattle.std.proofs.lemmas.Bool.{cases_Bool}
use Rattle.std.proofs.lemmas.List.{drop_more, Concat.flat_map-cons, Sums.sum_by-append}
use Rattle.std.proofs.lemmas.List.{Sums.sum_by-cons, FromFn.get_or-map-range_with_len}
use Rattle.std.proofs.lemmas.List.{FromFn.map-range_with_len_more}
use Rattle.std.proofs.lemmas.Option.{get_or_from_slice_get, slice_get-get_or}
use Rattle.std.specs.List.{range_with_len}
use Rattle.aeth_slots.specs.SlotSet.{greatest}
use Rattle.aeth_chip.specs.{Chip.ChipData, Paths.path_delay}
use Rattle.aeth_app.specs.App.{AppData}
use Rattle.aeth_group.specs.Members.{GroupsData, is_kept}
use Rattle.aeth_plan.specs.Plan.{PlanData}
use Rattle.aeth_ni.specs.Program.{write_count}
use Rattle.aeth_tables.specs.Changes.{change_of, changes_at, lag_in, made, span_in, spans_in}
use Rattle.aeth_tables.specs.Changes.{writes_in}
use Rattle.aeth_tables.specs.Granted.{granted_in}
use Rattle.aeth_tables.specs.Switching.{changing, delays_in, lag_of, rows_in, spans_from, writes_of}
use Rattle.aeth_tables.specs.Tables.{row_on, rows_on}
use Rattle.aeth_tables.specs.declared.changes.Change.{Change}
use Rattle.aeth_tables.specs.declared.granted.GrantedConnection.{GrantedConnection}
use Rattle.aeth_base.specs.declared.ids.Side.TheVariants.{Back, Fwd}

-- ---- Lists over a range

-- Functions that agree on the numbers of a range have the same images.
pub map_range : {X : Type 0} (f g : ℕ → X) (low size : ℕ)
    → ((k : ℕ) → low ≤ k → k < low + size → f k ≡ g k)
    → map f (range_with_len low size) ≡ map g (range_with_len low size)
map_range f g low zero same = refl
map_range f g low (suc size) same =
    let here = same low (omega arith) (omega arith) in
    let rest = map_range f g (low + 1) size (λ k least most. same k (omega arith) (omega arith)) in
    rw (here, rest) refl

-- The same of lists of images.
pub flat_map_range : {X : Type 0} (f g : ℕ → List X) (low size : ℕ)
    → ((k : ℕ) → low ≤ k → k < low + size → f k ≡ g k)
    → flat_map f (range_with_len low size) ≡ flat_map g (range_with_len low size)
flat_map_range f g low zero same = refl
flat_map_range f g low (suc size) same =
    let here = same low (omega arith) (omega arith) in
    let rest = flat_map_range f g (low + 1) size
    (λ k least most. same k (omega arith) (omega arith)) in
    flat_map-cons f low (range_with_len (low + 1) size)
    ∙ ap (λ xs. xs ++ flat_map f (range_with_len (low + 1) size)) here
    ∙ ap (λ xs. g low ++ xs) rest
    ∙ sym (flat_map-cons g low (range_with_len (low + 1) size))

-- ---- What each connection adds

module _ (chip : ChipData) (app : AppData) (groups : GroupsData) (u v : ℕ) where
  -- Whether a switch changes a connection.
  abbrev changes : GrantedConnection → Bool
  changes one = not (is_kept groups u v one.conn.0)

  -- The greatest delay of two paths and others.
  greater : (one other rest : ℕ) → max (max one other) rest ≡ max one (max other rest)
  greater one other rest = omega arith

  -- The lag is the greatest path delay of the connections that change.
  pub lag_in-made : (connections : List GrantedConnection)
      → lag_in (made groups u v (map (change_of chip) connections))
      ≡ greatest (delays_in chip (changing groups u v connections))
  lag_in-made [] = refl
  lag_in-made (one ∷ rest) = elim (cases_Bool (changes one)) [
    | inl here ↦
        let fwd = path_delay chip.links one.fwd.path in
        let back = path_delay chip.links one.back.path in
        rw (here, lag_in-made rest)
        (greater fwd back (greatest (delays_in chip (changing groups u v rest)))
        ∙ ap greatest (sym (flat_map-cons (λ (g : GrantedConnection).
        path_delay chip.links g.fwd.path ∷ path_delay chip.links g.back.path ∷ []) one
        (changing groups u v rest))))
    | inr other ↦ rw other (lag_in-made rest)
  ]

  -- The writes are those of the rows of the connections that change.
  pub writes_in-made : (connections : List GrantedConnection)
      → writes_in (made groups u v (map (change_of chip) connections))
      ≡ sum_by write_count (rows_in chip app (changing groups u v connections))
  writes_in-made [] = refl
  writes_in-made (one ∷ rest) = elim (cases_Bool (changes one)) [
    | inl here ↦
        let more = writes_in-made rest in
        let first = sum_by-cons (λ (change : Change). change.writes) (change_of chip one)
        (made groups u v (map (change_of chip) rest)) in
        let rows = flat_map-cons (rows_on chip app) one (changing groups u v rest) in
        let two = sum_by-append write_count (rows_on chip app one)
        (rows_in chip app (changing groups u v rest)) in
        rw here (omega (
          arith,
          more,
          first,
          two,
          ap (sum_by write_count) rows,
          sum_by-cons write_count (row_on chip app one Fwd) (row_on chip app one Back ∷ []),
          sum_by-cons write_count (row_on chip app one Back) [],
        ))
    | inr other ↦ rw other (writes_in-made rest)
  ]

-- ---- Change by change

-- The greatest lag, once one more change was seen.
module _ (groups : GroupsData) (u v : ℕ) where
  pub lag-made : (changes : List Change) (i : ℕ) (d : Change) (lag new total : ℕ)
      → i < length changes → is_kept groups u v (get_or changes i d).conn.0 ≡ false
      → new ≡ max lag (get_or changes i d).lag
      → max lag (lag_in (made groups u v (drop i changes))) ≡ total
      → max new (lag_in (made groups u v (drop (i + 1) changes))) ≡ total
  lag-made changes i d lag new total within here is left =
      let one = get_or changes i d in
      let rest = drop (i + 1) changes in
      let next = drop_more changes i d within in
      let more : lag_in (made groups u v (one ∷ rest)) ≡ max one.lag (lag_in (made groups u v rest)) =
      rw here refl in
      let same = ap (λ xs. lag_in (made groups u v xs)) next in
      omega (arith, is, left, more, same)

  pub lag-kept : (changes : List Change) (i : ℕ) (d : Change) (lag new total : ℕ)
      → i < length changes → is_kept groups u v (get_or changes i d).conn.0 ≡ true
      → new ≡ lag → max lag (lag_in (made groups u v (drop i changes))) ≡ total
      → max new (lag_in (made groups u v (drop (i + 1) changes))) ≡ total
  lag-kept changes i d lag new total within kept is left =
      let one = get_or changes i d in
      let rest = drop (i + 1) changes in
      let next = drop_more changes i d within in
      let more : lag_in (made groups u v (one ∷ rest)) ≡ lag_in (made groups u v rest) =
      rw kept refl in
      let same = ap (λ xs. lag_in (made groups u v xs)) next in
      omega (arith, is, left, more, same)

-- ---- All switches

module _ (chip : ChipData) (app : AppData) (groups : GroupsData) (plan : PlanData) where
  -- What the connections of each use case add.
  abbrev pub all_changes : List (List Change)
  all_changes = map (λ u. map (change_of chip) (granted_in app groups plan u))
      (range_with_len 0 (length groups.uses))

  changes_at-all : (u : ℕ) → u < length groups.uses
      → changes_at all_changes u ≡ map (change_of chip) (granted_in app groups plan u)
  changes_at-all u within =
      get_or-map-range_with_len (λ (w : ℕ). map (change_of chip) (granted_in app groups plan w)) 0
      (length groups.uses) u u [] within (omega arith)

  span_in-all : (u v : ℕ) → u < length groups.uses → v < length groups.uses
      → span_in groups u v (changes_at all_changes u) (changes_at all_changes v)
      ≡ (lag_of chip app groups plan u v, writes_of chip app groups plan u v)
  span_in-all u v first second =
      let closing = granted_in app groups plan u in
      let opening = granted_in app groups plan v in
      rw (
        changes_at-all u first,
        changes_at-all v second,
        lag_in-made chip app groups u v closing,
        writes_in-made chip app groups u v closing,
        writes_in-made chip app groups u v opening,
      ) refl

  -- The spans of all switches are those that are defined.
  pub spans_in-all :
      flat_map (spans_in groups all_changes) (range_with_len 0 (length groups.uses))
      ≡ flat_map (spans_from chip app groups plan) (range_with_len 0 (length groups.uses))
  spans_in-all = flat_map_range (spans_in groups all_changes) (spans_from chip app groups plan) 0
      (length groups.uses) (λ u least most.
      map_range (λ v. span_in groups u v (changes_at all_changes u) (changes_at all_changes v))
      (λ v. (lag_of chip app groups plan u v, writes_of chip app groups plan u v)) 0
      (length groups.uses) (λ v low high. span_in-all u v (omega arith) (omega arith)))

-- ---- Switch by switch

-- The changes of a use case are those at its place.
pub changes_are : (all : List (List Change)) (u : ℕ) (one : List Change) → u < length all
    → one ≡ get_or all u one → one ≡ changes_at all u
changes_are all u one within at =
    sym (get_or_from_slice_get all u one [] (slice_get-get_or all u one within
    ∙ ap (λ (xs : List Change). Some xs) (sym at)))

-- One more span.
pub spans-more : (groups : GroupsData) (all : List (List Change)) (u v : ℕ)
    (closing opening : List Change) (start pairs new : List (ℕ × ℕ)) (span : ℕ × ℕ)
    → closing ≡ changes_at all u → opening ≡ changes_at all v
    → pairs ≡ start ++ map (λ w. span_in groups u w (changes_at all u) (changes_at all w))
    (range_with_len 0 v)
    → span ≡ span_in groups u v closing opening → new ≡ pairs ++ span ∷ []
    → new ≡ start ++ map (λ w. span_in groups u w (changes_at all u) (changes_at all w))
    (range_with_len 0 (v + 1))
spans-more groups all u v closing opening start pairs new span left entered so_far is more =
    let to = λ (w : ℕ). span_in groups u w (changes_at all u) (changes_at all w) in
    let here : span ≡ to v = is ∙ ap (λ cs. span_in groups u v cs opening) left
    ∙ ap (λ cs. span_in groups u v (changes_at all u) cs) entered in
    more ∙ ap (λ xs. xs ++ span ∷ []) so_far
    ∙ append_assoc start (map to (range_with_len 0 v)) (span ∷ [])
    ∙ ap (λ s. start ++ (map to (range_with_len 0 v) ++ s ∷ [])) here
    ∙ ap (λ xs. start ++ xs) (sym (map-range_with_len_more to 0 v v (omega arith)))

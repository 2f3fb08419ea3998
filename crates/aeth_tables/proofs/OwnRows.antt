-- Lists of the rows of each interface.
use Rattle.std.proofs.Common.{◌≡◌, ◌∙◌, ◌<◌, ◌++◌, ◌==◌, ℕ, cond, List, [], ◌∷◌, Some, arith}
use Rattle.std.proofs.Common.{get_or, inl, inr, length, sym, ap, flat_map, slice_set, eq-eqb}
use Rattle.std.proofs.Common.{eqb-true, append-nil}
use Rattle.std.proofs.lemmas.{Bool.cases_Bool, Bool.false≢true, List.Elements.filter-append}
use Rattle.std.proofs.lemmas.{Option.slice_get-get_or}
use Rattle.std.specs.{List.range_with_len, declared.alloc.Global.Global, declared.vec.Vec.Vec}
use Rattle.aeth_base.proofs.Lists.{slice_get-slice_set_other, slice_get-slice_set_same}
use Rattle.aeth_tables.specs.TableText.{AreOwn, list_at, rows_at, rows_in_list}
use Rattle.aeth_tables.specs.declared.promised.PromisedRow.{PromisedRow}
use Rattle.aeth_tables.proofs.SpanLaws.{flat_map_range}

abbrev pub Lists : Type 0
Lists = List (Vec PromisedRow Global)

-- A row that is put at the end of the list of its interface is one of its rows, and no other's.
pub put-own : (lists : Lists) (d pushed : Vec PromisedRow Global) (one : PromisedRow)
    → one.row.ni.0 < length lists → pushed.items ≡ (get_or lists one.row.ni.0 d).items ++ one ∷ []
    → (ni : ℕ) → list_at (slice_set lists one.row.ni.0 pushed) ni
    ≡ list_at lists ni ++ rows_at ni (one ∷ [])
put-own lists d pushed one within items ni =
    let place = one.row.ni.0 in
    elim (cases_Bool (place == ni)) [
      | inl here ↦
          let same = eqb-true place ni here in
          let old : (get_or lists place d).items ≡ list_at lists ni =
          ap rows_in_list (sym (slice_get-get_or lists place d within)) ∙ ap (list_at lists) same in
          ap (list_at (slice_set lists place pushed)) (sym same)
          ∙ ap rows_in_list (slice_get-slice_set_same lists place pushed within) ∙ items
          ∙ ap (λ (xs : List PromisedRow). xs ++ one ∷ []) old
          ∙ ap (λ b. list_at lists ni ++ cond b (one ∷ []) []) (sym here)
      | inr other ↦
          ap rows_in_list (slice_get-slice_set_other lists place ni pushed
          (λ same. false≢true (sym other ∙ eq-eqb place ni (sym same))))
          ∙ sym (append-nil (list_at lists ni))
          ∙ ap (λ b. list_at lists ni ++ cond b (one ∷ []) []) (sym other)
    ]

-- The rows of an interface, with one row more.
pub own-more : (rows : List PromisedRow) (one : PromisedRow) (ni : ℕ)
    → rows_at ni (rows ++ one ∷ []) ≡ rows_at ni rows ++ rows_at ni (one ∷ [])
own-more rows one ni = filter-append (λ (p : PromisedRow). p.row.ni.0 == ni) rows (one ∷ [])

-- The list of an interface has its rows.
pub list-own : (lists : Lists) (ni : ℕ) (list : Vec PromisedRow Global) (own : List PromisedRow)
    → ni < length lists → list ≡ get_or lists ni list → own ≡ list.items → own ≡ list_at lists ni
list-own lists ni list own within at is =
    is ∙ sym (ap rows_in_list (slice_get-get_or lists ni list within
    ∙ ap (λ (one : Vec PromisedRow Global). Some one) (sym at)))

-- What is printed of each list is printed of the rows of each interface.
pub listed : (f : List PromisedRow → ℕ → List (List ℕ)) (nis : ℕ) (rows : List PromisedRow)
    (lists : Lists) → AreOwn nis rows lists
    → flat_map (λ ni. f (list_at lists ni) ni) (range_with_len 0 nis)
    ≡ flat_map (λ ni. f (rows_at ni rows) ni) (range_with_len 0 nis)
listed f nis rows lists own =
    flat_map_range (λ ni. f (list_at lists ni) ni) (λ ni. f (rows_at ni rows) ni) 0 nis
    (λ ni low high. ap (λ one. f one ni) (own ni (omega arith)))

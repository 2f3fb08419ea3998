-- What rows make of the table of a router.
use Rattle.std.proofs.Common.{◌≡◌, ◌<◌, ◌∙◌, ◌+◌, ◌*◌, ℕ, zero, suc, refl, sym, ap, subst, inl, inr}
use Rattle.std.proofs.Common.{arith, eqb-true, true, List, [], ◌∷◌, length, replicate, take, get_or}
use Rattle.std.proofs.Common.{set, Option, Some, None, ◌==◌, ◌&&◌, if◌then◌else◌, fold, eq-eqb}
use Rattle.std.proofs.Common.{get_or-set_other, get_or-set_same, length-set}
use Rattle.std.proofs.lemmas.{Bool.cases_Bool, List.length-replicate, List.take_more}
use Rattle.std.proofs.lemmas.{List.Sums.fold_push, Nat.same_from_place}
use Rattle.aeth_base.specs.declared.ids.LinkId.{LinkId}
use Rattle.aeth_router.specs.Rows.{AreRowsFor, IsRowFor, is_at, is_for, link_in, with_row}
use Rattle.aeth_router.specs.Rows.{with_table, without_entries}
use Rattle.aeth_router.specs.TableRouter.{IsTableRouter, TableRouterState, entry_at, place_from}
use Rattle.aeth_router.specs.TableRouter.{with_entry}
use Rattle.aeth_router.specs.declared.router_row.RouterRow.{RouterRow}
use Rattle.aeth_router.proofs.TableLemmas.{entry-within, get_or-same}

-- A row changes entries alone.
with_row-kept : (router : TableRouterState) (row : RouterRow)
    → with_row router row ≡ record router { entries = (with_row router row).entries }
with_row-kept router row =
    elim (cases_Bool (is_for router.number row)) [
      | inl own ↦ rw own refl
      | inr foreign ↦ rw foreign refl
    ]

-- So do many.
fold-kept : (rows : List RouterRow) (router : TableRouterState)
    → fold with_row router rows ≡ record router { entries = (fold with_row router rows).entries }
fold-kept [] router = refl
fold-kept (row ∷ rows) router =
    let first = with_row router row in
    let all = fold with_row first rows in
    fold-kept rows first
    ∙ ap (λ (router : TableRouterState). record router { entries = all.entries })
    (with_row-kept router row)

-- All but the entries of a router stays when rows enter its table.
pub with_table-kept : (rows : List RouterRow) (router : TableRouterState)
    → with_table rows router ≡ record router { entries = (with_table rows router).entries }
with_table-kept rows router = fold-kept rows (without_entries router)

-- A row that is in range stays so.
pub row-fits : (rows : List RouterRow) (router now : TableRouterState) (row : RouterRow)
    → now ≡ with_table rows router → (is_for router.number row ≡ true → IsRowFor router row)
    → is_for now.number row ≡ true → IsRowFor now row
row-fits rows router now row is fits =
    subst (λ (now : TableRouterState). is_for now.number row ≡ true → IsRowFor now row)
    (sym (is ∙ with_table-kept rows router))
    (λ own. let fit = fits own in record { port = fit.port; slot = fit.slot; from = fit.from })

-- One row more has entered.
pub with_table-more : (rows : List RouterRow) (router now new : TableRouterState) (place : ℕ)
    (default : RouterRow) → place < length rows → now ≡ with_table (take place rows) router
    → new ≡ with_row now (get_or rows place default)
    → new ≡ with_table (take (place + 1) rows) router
with_table-more rows router now new place default within so_far is =
    let row = get_or rows place default in
    let first = without_entries router in
    is ∙ ap (λ (router : TableRouterState). with_row router row) so_far
    ∙ sym (fold_push with_row first (take place rows) row)
    ∙ ap (fold with_row first) (sym (take_more rows place default within))

-- What is in a slot of a port once the entry of another, or of the same, is set.
module _ (entries : List (Option ℕ)) (ports slots port slot : ℕ) (is_port : port < ports)
    (is_slot : slot < slots) (size : length entries ≡ ports * slots) where
  -- The same has the entry.
  pub entry-same : (entry : Option ℕ)
      → entry_at (set entries (port * slots + slot) entry) slots port slot ≡ entry
  entry-same entry =
      let within = entry-within port slot ports slots is_port is_slot in
      get_or-set_same entries (port * slots + slot) entry None (omega arith)

  -- Any other stays.
  pub entry-other : (other_port other_slot : ℕ) (entry : Option ℕ) → other_slot < slots
      → (other_port ≡ port → other_slot ≡ slot → ⊥)
      → entry_at (set entries (other_port * slots + other_slot) entry) slots port slot
      ≡ entry_at entries slots port slot
  entry-other other_port other_slot entry is_other apart =
      get_or-set_other entries (other_port * slots + other_slot) (port * slots + slot) entry None
      (λ same.
      let one = same_from_place other_port other_slot port slot slots is_other is_slot (sym same) in
      apart one.0 one.1)

-- What a slot of a port has once rows have entered.
module _ (router : TableRouterState) (port slot : ℕ) (is_port : port < length router.outgoing)
    (is_slot : slot < router.slots) where
  abbrev Has : List (Option ℕ) → Option LinkId → Type 0
  Has entries found = entry_at entries router.slots port slot ≡ place_from router.links found

  -- The entry of a row is in its slot of its port, and nowhere else.
  entry-own : (row : RouterRow) (entries : List (Option ℕ)) (found : Option LinkId)
      → length entries ≡ length router.outgoing * router.slots → IsRowFor router row
      → Has entries found
      → Has (with_entry row.port row.slot (Some row.from)
      (record router { entries = entries })).entries
      (if row.port == port && row.slot == slot then Some row.from else found)
  entry-own row entries found size fit has =
      let entry = place_from router.links (Some row.from) in
      let other = entry-other entries (length router.outgoing) router.slots port slot is_port
      is_slot size row.port row.slot entry fit.slot in
      elim (cases_Bool (row.port == port)) [
        | inl same_port ↦ elim (cases_Bool (row.slot == slot)) [
          | inl same_slot ↦
              rw (same_port, same_slot)
              (ap (λ n. entry_at (set entries n entry) router.slots port slot)
              (rw (eqb-true row.port port same_port, eqb-true row.slot slot same_slot) refl)
              ∙ entry-same entries (length router.outgoing) router.slots port slot is_port is_slot
              size entry)
          | inr apart ↦
              rw (same_port, apart)
              (other (λ _ same. cc (sym apart ∙ eq-eqb row.slot slot same)) ∙ has)
        ]
        | inr apart ↦ rw apart (other (λ same _. cc (sym apart ∙ eq-eqb row.port port same)) ∙ has)
      ]

  one-row : (row : RouterRow) (entries : List (Option ℕ)) (found : Option LinkId)
      → length entries ≡ length router.outgoing * router.slots
      → (is_for router.number row ≡ true → IsRowFor router row) → Has entries found
      → Has (with_row (record router { entries = entries }) row).entries
      (if is_at router.number port slot row then Some row.from else found)
  one-row row entries found size fits has =
      elim (cases_Bool (is_for router.number row)) [
        | inl own ↦ rw own (entry-own row entries found size (fits own) has)
        | inr foreign ↦ rw foreign has
      ]

  -- A row changes no number of entries.
  length-row : (row : RouterRow) (entries : List (Option ℕ))
      → length (with_row (record router { entries = entries }) row).entries ≡ length entries
  length-row row entries =
      elim (cases_Bool (is_for router.number row)) [
        | inl own ↦
            rw own (length-set entries (row.port * router.slots + row.slot)
            (place_from router.links (Some row.from)))
        | inr foreign ↦ rw foreign refl
      ]

  fold-entry : (rows : List RouterRow) (entries : List (Option ℕ)) (found : Option LinkId)
      → length entries ≡ length router.outgoing * router.slots → AreRowsFor rows router
      → Has entries found
      → Has (fold with_row (record router { entries = entries }) rows).entries
      (fold (λ found row. if is_at router.number port slot row then Some row.from else found) found
      rows)
  fold-entry [] entries found size fits has = has
  fold-entry (row ∷ rows) entries found size fits has =
      let now = with_row (record router { entries = entries }) row in
      ap (λ (now : TableRouterState).
      entry_at (fold with_row now rows).entries router.slots port slot)
      (with_row-kept (record router { entries = entries }) row)
      ∙ fold-entry rows now.entries
      (if is_at router.number port slot row then Some row.from else found)
      (length-row row entries ∙ size)
      (λ place default within. fits (suc place) default (omega arith))
      (one-row row entries found size (fits zero row (omega arith)) has)

  -- It has the place of the link that the last of the rows for it has, and no entry where there is
  -- none.
  pub entry-with_table : (rows : List RouterRow) → IsTableRouter router → AreRowsFor rows router
      → entry_at (with_table rows router).entries router.slots port slot
      ≡ place_from router.links (link_in rows router.number port slot)
  entry-with_table rows is fits =
      fold-entry rows (replicate (length router.entries) None) None
      (length-replicate (length router.entries) None ∙ is.entries) fits
      (get_or-same None (length router.entries) (port * router.slots + slot))

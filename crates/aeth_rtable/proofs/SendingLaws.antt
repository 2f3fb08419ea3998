-- From which wire the rows of all routers' tables send a wire on: by the one row for its port and the
-- slot.
use Rattle.std.proofs.Common.{◌≡◌, ◌⊎◌, ◌∙◌, ◌&&◌, ℕ, Bool, true, cond, eqb, List, [], ◌∷◌, Option}
use Rattle.std.proofs.Common.{Some, None, Contains, get_or, refl, sym, ap, subst, inl, inr, arith}
use Rattle.std.proofs.Common.{fold, if◌then◌else◌, eq-eqb, eqb-true}
use Rattle.std.proofs.lemmas.Bool.{and_from, and_parts, cases_Bool, cases_lt}
use Rattle.std.proofs.lemmas.Option.{get_or_from_slice_get, none-some, same_Some, slice_get_within}
use Rattle.std.specs.List.{AllPairs}
use Rattle.aeth_base.specs.declared.ids.{LinkId.LinkId, RouterId.RouterId}
use Rattle.aeth_base.proofs.Members.{Contains-cases, Contains-here, Contains-nil, Contains-there}
use Rattle.aeth_base.proofs.Members.{slice_get-Contains}
use Rattle.aeth_rtable.specs.RouterTables.{IsBefore}
use Rattle.aeth_router.specs.{Rows.is_at, Rows.link_in, declared.router_row.RouterRow.RouterRow}

-- A row before another isn't of the same slot of the same port.
before-apart : (a b : RouterRow) → IsBefore a b → a.router.0 ≡ b.router.0 → a.port ≡ b.port
    → a.slot ≡ b.slot → ⊥
before-apart a b before router port slot = elim before [
  | inl less ↦ absurd (omega (arith, less, router))
  | inr later ↦ elim (later.1) [
    | inl less ↦ absurd (omega (arith, less, port))
    | inr last ↦ let less = last.1 in absurd (omega (arith, less, slot))
  ]
]

-- So of rows that ascend two of one slot of one port are one.
one_row : (rows : List RouterRow) → AllPairs IsBefore rows → (a b : RouterRow) → Contains rows a
    → Contains rows b → a.router.0 ≡ b.router.0 → a.port ≡ b.port → a.slot ≡ b.slot → a ≡ b
one_row rows rise a b has_a has_b router port slot =
    let (i, at_i) = slice_get-Contains rows a has_a in
    let (j, at_j) = slice_get-Contains rows b has_b in
    let one : get_or rows i a ≡ a = get_or_from_slice_get rows i a a at_i in
    let two : get_or rows j a ≡ b = get_or_from_slice_get rows j b a at_j in
    elim (cases_lt i j) [
      | inl less ↦
          let before = rise i j a less (slice_get_within rows j b at_j) in
          absurd (before-apart a b (subst (λ (x : RouterRow). IsBefore x b) one
          (subst (λ (y : RouterRow). IsBefore (get_or rows i a) y) two before)) router port slot)
      | inr past ↦ elim (cases_lt j i) [
        | inl more ↦
            let before = rise j i a more (slice_get_within rows i a at_i) in
            absurd (before-apart b a (subst (λ (x : RouterRow). IsBefore x a) two
            (subst (λ (y : RouterRow). IsBefore (get_or rows j a) y) one before)) (sym router)
            (sym port) (sym slot))
        | inr same ↦
            let place : i ≡ j = omega (arith, past, same) in
            sym one ∙ ap (λ (n : ℕ). get_or rows n a) place ∙ two
      ]
    ]

module _ (router : RouterId) (port slot : ℕ) where
  -- The link so far, behind one row more.
  abbrev noted : Option LinkId → RouterRow → Option LinkId
  noted found row = if is_at router port slot row then Some row.from else found

  -- A row is one of the slot of the port.
  record IsOf (row : RouterRow) : Type 0 where
    router_is : row.router.0 ≡ router.0
    port_is : row.port ≡ port
    slot_is : row.slot ≡ slot

  passes-of : (row : RouterRow) → is_at router port slot row ≡ true → IsOf row
  passes-of row is =
      let outer = and_parts (eqb row.router.0 router.0) (eqb row.port port && eqb row.slot slot) is in
      let inner = and_parts (eqb row.port port) (eqb row.slot slot) outer.1 in
      record {
        router_is = eqb-true row.router.0 router.0 outer.0;
        port_is = eqb-true row.port port inner.0;
        slot_is = eqb-true row.slot slot inner.1;
      }

  -- Such a row is there, with this link.
  pub record IsRowAt (rows : List RouterRow) (link : LinkId) : Type 0 where
    pub row : RouterRow
    pub has : Contains rows row
    pub router_is : row.router.0 ≡ router.0
    pub port_is : row.port ≡ port
    pub slot_is : row.slot ≡ slot
    pub from : row.from ≡ link

  row-at : (row : RouterRow) (rows : List RouterRow) → is_at router port slot row ≡ true
      → IsRowAt (row ∷ rows) row.from
  row-at row rows is =
      let of = passes-of row is in
      record {
        row = row;
        has = Contains-here row rows;
        router_is = of.router_is;
        port_is = of.port_is;
        slot_is = of.slot_is;
        from = refl;
      }

  row-later : (row : RouterRow) (rows : List RouterRow) (link : LinkId) → IsRowAt rows link
      → IsRowAt (row ∷ rows) link
  row-later row rows link at = record {
    row = at.row;
    has = Contains-there row rows at.row at.has;
    router_is = at.router_is;
    port_is = at.port_is;
    slot_is = at.slot_is;
    from = at.from;
  }

  -- The link that is found is that of a row, or was found before.
  noted-is : (rows : List RouterRow) (found : Option LinkId) (link : LinkId)
      → fold noted found rows ≡ Some link → (found ≡ Some link) ⊎ IsRowAt rows link
  noted-is [] found link is = inl is
  noted-is (row ∷ rows) found link is =
      elim (noted-is rows (noted found row) link is) [
        | inr later ↦ inr (row-later row rows link later)
        | inl here ↦ elim (cases_Bool (is_at router port slot row)) [
          | inl passes ↦
              let first : noted found row ≡ Some row.from =
              ap (λ (b : Bool). cond b (Some row.from) found) passes in
              let same : row.from ≡ link = same_Some row.from link (sym first ∙ here) in
              inr (subst (λ (x : LinkId). IsRowAt (row ∷ rows) x) same (row-at row rows passes))
          | inr fails ↦
              let first : noted found row ≡ found =
              ap (λ (b : Bool). cond b (Some row.from) found) fails in
              inl (sym first ∙ here)
        ]
      ]

  pub link-row : (rows : List RouterRow) (link : LinkId)
      → link_in rows router port slot ≡ Some link → IsRowAt rows link
  link-row rows link is = elim (noted-is rows None link is) [
    | inl before ↦ absurd (none-some link before)
    | inr row ↦ row
  ]

  -- All rows of the slot of the port have this link.
  abbrev HaveLink : List RouterRow → LinkId → Type 0
  HaveLink rows link = (row : RouterRow) → Contains rows row
      → is_at router port slot row ≡ true → row.from ≡ link

  later-link : (row : RouterRow) (rows : List RouterRow) (link : LinkId)
      → HaveLink (row ∷ rows) link → HaveLink rows link
  later-link row rows link have = λ other has is.
      have other (Contains-there row rows other has) is

  -- It stays the one that is found.
  noted-stays : (rows : List RouterRow) (link : LinkId) → HaveLink rows link
      → fold noted (Some link) rows ≡ Some link
  noted-stays [] link have = refl
  noted-stays (row ∷ rows) link have =
      let first : noted (Some link) row ≡ Some link =
      elim (cases_Bool (is_at router port slot row)) [
        | inl passes ↦ ap (λ (b : Bool). cond b (Some row.from) (Some link)) passes
            ∙ ap (λ (x : LinkId). Some x) (have row (Contains-here row rows) passes)
        | inr fails ↦ ap (λ (b : Bool). cond b (Some row.from) (Some link)) fails
      ] in
      ap (λ (o : Option LinkId). fold noted o rows) first
      ∙ noted-stays rows link (later-link row rows link have)

  noted-there : (rows : List RouterRow) (found : Option LinkId) (row : RouterRow)
      → Contains rows row → is_at router port slot row ≡ true → HaveLink rows row.from
      → fold noted found rows ≡ Some row.from
  noted-there [] found row has is have = Contains-nil has
  noted-there (first ∷ rows) found row has is have =
      let later = later-link first rows row.from have in
      elim (Contains-cases first rows row has) [
        | inl same ↦
            let passes : is_at router port slot first ≡ true =
            ap (is_at router port slot) same ∙ is in
            let here : noted found first ≡ Some row.from =
            ap (λ (b : Bool). cond b (Some first.from) found) passes
            ∙ ap (λ (x : RouterRow). Some x.from) same in
            ap (λ (o : Option LinkId). fold noted o rows) here ∙ noted-stays rows row.from later
        | inr there ↦ noted-there rows (noted found first) row there is later
      ]

  -- Of rows that ascend the one of the slot of the port is found.
  pub row-link : (rows : List RouterRow) → AllPairs IsBefore rows → (row : RouterRow)
      → Contains rows row → row.router.0 ≡ router.0 → row.port ≡ port → row.slot ≡ slot
      → link_in rows router port slot ≡ Some row.from
  row-link rows rise row has router_is port_is slot_is =
      let passes : is_at router port slot row ≡ true =
      and_from (eqb row.router.0 router.0) (eqb row.port port && eqb row.slot slot)
      (eq-eqb row.router.0 router.0 router_is) (and_from (eqb row.port port) (eqb row.slot slot)
      (eq-eqb row.port port port_is) (eq-eqb row.slot slot slot_is)) in
      noted-there rows None row has passes (λ other there is.
      let of = passes-of other is in
      let same : other ≡ row = one_row rows rise other row there has (of.router_is ∙ sym router_is)
      (of.port_is ∙ sym port_is) (of.slot_is ∙ sym slot_is) in
      ap (λ (x : RouterRow). x.from) same)

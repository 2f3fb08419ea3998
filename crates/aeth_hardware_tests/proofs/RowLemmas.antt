-- Rows that the routers of a chip can have enter the tables of all its components.
use Rattle.std.proofs.Common.{◌≡◌, ℕ, List, [], ◌∷◌, ◌++◌, get_or, length, map, ap, eqb-true, Some}
use Rattle.std.proofs.Common.{refl, slice_get, All}
use Rattle.std.proofs.lemmas.List.Elements.{All-append, All-map, All-nil}
use Rattle.std.specs.List.{flat_map, range_with_len}
use Rattle.aeth_base.specs.declared.ids.RouterId.{RouterId}
use Rattle.aeth_chip.specs.{Chip.ChipData, declared.node.Link.Link}
use Rattle.aeth_router.specs.{Rows.AreRowsFor, Rows.IsRowFor, TableRouter.new_table_router}
use Rattle.aeth_router.specs.{declared.router_row.RouterRow.RouterRow}
use Rattle.aeth_components.specs.Entering.{TakesRows}
use Rattle.aeth_components.specs.Wirings.{wiring_of}
use Rattle.aeth_components.specs.Making.{link_stages, made_interface, made_router, made_stage}
use Rattle.aeth_components.specs.Making.{made_stages, new_parts}
use Rattle.aeth_components.specs.declared.making.RouterKind.TheVariants.{ByHeader, ByTable}

-- Each row is one that its router can have.
abbrev pub DoFit : ChipData → List RouterRow → Type 0
DoFit chip rows = All (λ row. IsRowFor (new_table_router row.router chip) row) rows

same-router : (a b : RouterId) → a.0 ≡ b.0 → a ≡ b
same-router a b is = ap (λ n. record { 0 = n }) is

-- So those are in range that are a router's.
pub fit-router : (chip : ChipData) (rows : List RouterRow) → DoFit chip rows → (number : RouterId)
    → AreRowsFor rows (new_table_router number chip)
fit-router chip rows fit number place default within own =
    rw (← same-router (get_or rows place default).router number
    (eqb-true (get_or rows place default).router.0 number.0 own)) (fit place default within)

-- No stage has a table.
stages-take : (rows : List RouterRow) (links : List Link) (numbers : List ℕ)
    → All (TakesRows rows) (flat_map (link_stages links) numbers)
stages-take rows links [] = All-nil (TakesRows rows)
stages-take rows links (link ∷ numbers) =
    All-append (TakesRows rows) (link_stages links link) (flat_map (link_stages links) numbers)
    (All-map (TakesRows rows) (made_stage links link) _ (λ place default within. tt))
    (stages-take rows links numbers)

-- So it is of all components that are made.
pub fit-parts : (chip : ChipData) (rooms : List ℕ) (rows : List RouterRow) → DoFit chip rows
    → All (TakesRows rows) (new_parts chip ByTable rooms)
fit-parts chip rooms rows fit =
    let interfaces = map (made_interface chip rooms) (range_with_len 0 (length chip.nis)) in
    let routers = map (made_router chip ByTable) (range_with_len 0 (length chip.routers)) in
    All-append (TakesRows rows) (interfaces ++ routers) (made_stages chip.links (length chip.links))
    (All-append (TakesRows rows) interfaces routers
    (All-map (TakesRows rows) (made_interface chip rooms) (range_with_len 0 (length chip.nis))
    (λ place default within. tt))
    (All-map (TakesRows rows) (made_router chip ByTable) (range_with_len 0 (length chip.routers))
    (λ place default within. fit-router chip rows fit
    (record { 0 = get_or (range_with_len 0 (length chip.routers)) place default }))))
    (stages-take rows chip.links (range_with_len 0 (length chip.links)))

-- The routers of a chip with two interfaces and two routers are the third component and the fourth.
pub routers-at : (chip : ChipData) (rooms : List ℕ) → length chip.nis ≡ 2 → length chip.routers ≡ 2
    → (slice_get (map wiring_of (new_parts chip ByHeader rooms)) 2
    ≡ Some (wiring_of (made_router chip ByHeader 0)))
    × (slice_get (map wiring_of (new_parts chip ByHeader rooms)) 3
    ≡ Some (wiring_of (made_router chip ByHeader 1)))
routers-at chip rooms nis routers = rw (nis, routers) (refl, refl)

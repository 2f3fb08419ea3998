-- Components that are seen with what their wires have: rows that enter, what is counted of them, who sends,
-- and what they are at first.
use Rattle.std.proofs.Common.{ℕ, zero, suc, ◌≡◌, ◌∙◌, refl, sym, ap, ap₂, subst, arith, inl, inr}
use Rattle.std.proofs.Common.{List, [], ◌∷◌, ◌++◌, length, map, fold, replicate, get_or, slice_get}
use Rattle.std.proofs.Common.{Option, Some, None}
use Rattle.std.proofs.lemmas.{Bool.cases_Bool, List.get_or-map, List.length-map, List.map-append}
use Rattle.std.specs.{List.All, List.flat_map, List.range_with_len, Option.option_map_or}
use Rattle.aeth_base.{specs.declared.ids.LinkId.LinkId, proofs.Lists.map-at}
use Rattle.aeth_chip.specs.{Chip.ChipData, Wires.wire_at, declared.node.Link.Link}
use Rattle.aeth_clocked.proofs.ClearLemmas.{flit_on-replicate}
use Rattle.aeth_clocked.specs.{Wires.flit_on, declared.flit.Flit.Flit}
use Rattle.aeth_router.specs.Router.{entering_wires, new_router}
use Rattle.aeth_router.specs.Rows.{is_for, with_row, without_entries}
use Rattle.aeth_router.specs.TableRouter.{TableRouterState, new_table_router, table_absorb}
use Rattle.aeth_router.specs.declared.part.Part.{Part}
use Rattle.aeth_router.specs.declared.part.Part.TheVariants.{Interface, Router, Stage, TableRouter}
use Rattle.aeth_router.specs.declared.router_row.RouterRow.{RouterRow}
use Rattle.aeth_ni.specs.Component.{arrival_of, interface_absorb, last_of}
use Rattle.aeth_ni.specs.Interface.{InterfaceState}
use Rattle.aeth_components.specs.Changes.{on_interface}
use Rattle.aeth_components.specs.Counting.{counted, noted}
use Rattle.aeth_components.specs.Entering.{TakesRows, entered, with_rows}
use Rattle.aeth_components.specs.First.{HasSender, IsFirst}
use Rattle.aeth_components.specs.Making.{link_stages, made_interface, made_router, made_stage}
use Rattle.aeth_components.specs.Making.{made_stages, new_parts}
use Rattle.aeth_components.specs.Queues.{brought_by, words_for}
use Rattle.aeth_components.specs.Seen.{all_seen, flits_landed, interfaces_latched, landed, seen}
use Rattle.aeth_components.specs.FlitsOnWires.{sends_own}
use Rattle.aeth_components.specs.declared.channel_state.ChannelState.{ChannelState}
use Rattle.aeth_components.specs.declared.making.RouterKind.{RouterKind}
use Rattle.aeth_components.specs.declared.making.RouterKind.TheVariants.{ByHeader, ByTable}
use Rattle.aeth_components.proofs.WiringLemmas.{from-map}

module _ (wires : List (Option Flit)) where
  -- What a router holds is nothing to the rows that enter its table.
  with_row-seen : (router : TableRouterState) (row : RouterRow)
      → with_row (table_absorb router wires) row ≡ table_absorb (with_row router row) wires
  with_row-seen router row =
      elim (cases_Bool (is_for router.number row)) [
        | inl own ↦ rw own refl
        | inr foreign ↦ rw foreign refl
      ]

  with_fold-seen : (rows : List RouterRow) (router : TableRouterState)
      → fold with_row (table_absorb router wires) rows ≡ table_absorb (fold with_row router rows) wires
  with_fold-seen [] router = refl
  with_fold-seen (row ∷ rows) router =
      ap (λ (router : TableRouterState). fold with_row router rows) (with_row-seen router row)
      ∙ with_fold-seen rows (with_row router row)

  entered-seen : (rows : List RouterRow) (part : Part)
      → entered rows (seen wires part) ≡ seen wires (entered rows part)
  entered-seen rows (Interface ni) = refl
  entered-seen rows (Router router) = refl
  entered-seen rows (TableRouter router) =
      ap (λ (router : TableRouterState). TableRouter router)
      (with_fold-seen rows (without_entries router))
  entered-seen rows (Stage stage) = refl

  pub with_rows-seen : (rows : List RouterRow) (parts : List Part)
      → with_rows rows (all_seen wires parts) ≡ all_seen wires (with_rows rows parts)
  with_rows-seen rows [] = refl
  with_rows-seen rows (part ∷ parts) = rw (entered-seen rows part, with_rows-seen rows parts) refl

  takes_rows-bare : (rows : List RouterRow) (part : Part) → TakesRows rows (seen wires part)
      → TakesRows rows part
  takes_rows-bare rows (Interface ni) takes = tt
  takes_rows-bare rows (Router router) takes = tt
  takes_rows-bare rows (TableRouter router) takes = λ place default within own.
      let fits = takes place default within own in
      record { port = fits.port; slot = fits.slot; from = fits.from }
  takes_rows-bare rows (Stage stage) takes = tt

  pub TakesRows-bare : (rows : List RouterRow) (parts : List Part)
      → All (TakesRows rows) (all_seen wires parts) → All (TakesRows rows) parts
  TakesRows-bare rows parts all place default within =
      takes_rows-bare rows (get_or parts place default)
      (subst (TakesRows rows) (get_or-map (seen wires) parts place default (seen wires default) within)
      (all place (seen wires default) (let size = length-map parts (seen wires) in omega arith)))

  -- Behind the landing as many words were brought to a component that is seen with what the wires have as to one
  -- that has latched it.
  entering-landed : (flit : Option Flit) (ni : InterfaceState)
      → (landed flit ni).entering ≡ ni.entering
  entering-landed None ni = refl
  entering-landed (Some flit) ni = refl

  brought_by-landed : (queue : ℕ) (part : Part)
      → brought_by queue (on_interface (λ ni. interface_absorb ni wires) part)
      ≡ brought_by queue (seen wires
      (on_interface (λ ni. landed (flit_on wires ni.entering.0) ni) part))
  brought_by-landed queue (Interface ni) =
      ap (λ (link : LinkId). words_for queue (last_of (arrival_of (flit_on wires link.0))))
      (sym (entering-landed (flit_on wires ni.entering.0) ni))
  brought_by-landed queue (Router router) = refl
  brought_by-landed queue (TableRouter router) = refl
  brought_by-landed queue (Stage stage) = refl

  brought_from-landed : (queue place : ℕ) (parts : List Part)
      → option_map_or (brought_by queue) (slice_get (interfaces_latched wires parts) place) 0
      ≡ option_map_or (brought_by queue)
      (slice_get (all_seen wires (flits_landed wires parts)) place) 0
  brought_from-landed queue place [] = refl
  brought_from-landed queue zero (part ∷ parts) = brought_by-landed queue part
  brought_from-landed queue (suc place) (part ∷ parts) = brought_from-landed queue place parts

  -- So the same is counted and noted.
  pub counted-landed : (cycle : ℕ) (parts : List Part) (channel_states : List ChannelState)
      → map (counted cycle (interfaces_latched wires parts)) channel_states
      ≡ map (counted cycle (all_seen wires (flits_landed wires parts))) channel_states
  counted-landed cycle parts [] = refl
  counted-landed cycle parts (channel_state ∷ channel_states) =
      rw (
        brought_from-landed channel_state.receiver.queue channel_state.receiver.ni.0 parts,
        counted-landed cycle parts channel_states,
      ) refl

  pub noted-landed : (cycle : ℕ) (parts : List Part) (channel_states : List ChannelState)
      (landings : List ℕ)
      → fold (noted cycle (interfaces_latched wires parts)) landings channel_states
      ≡ fold (noted cycle (all_seen wires (flits_landed wires parts))) landings channel_states
  noted-landed cycle parts [] landings = refl
  noted-landed cycle parts (channel_state ∷ channel_states) landings =
      rw (brought_from-landed channel_state.receiver.queue channel_state.receiver.ni.0 parts)
      (noted-landed cycle parts channel_states
      (noted cycle (all_seen wires (flits_landed wires parts)) landings channel_state))

  -- The same components send something of their own.
  pub sends_own-seen : (cycle : ℕ) (part : Part)
      → sends_own cycle (seen wires part) ≡ sends_own cycle part
  sends_own-seen cycle (Interface ni) = refl
  sends_own-seen cycle (Router router) = refl
  sends_own-seen cycle (TableRouter router) = refl
  sends_own-seen cycle (Stage stage) = refl

  pub HasSender-bare : (parts : List Part) (cycle : ℕ) → HasSender (all_seen wires parts) cycle
      → HasSender parts cycle
  HasSender-bare parts cycle sender =
      let found = from-map (seen wires) parts sender.number sender.part sender.at in
      record {
        number = sender.number;
        part = found.0;
        at = found.1;
        sends = sym (sends_own-seen cycle found.0) ∙ ap (sends_own cycle) (sym found.2) ∙ sender.sends;
      }

  pub HasSender-seen : (parts : List Part) (cycle : ℕ) → HasSender parts cycle
      → HasSender (all_seen wires parts) cycle
  HasSender-seen parts cycle sender = record {
    number = sender.number;
    part = seen wires sender.part;
    at = map-at (seen wires) parts sender.number sender.part sender.at;
    sends = sends_own-seen cycle sender.part ∙ sender.sends;
  }

  pub IsFirst-seen : (parts : List Part) (from to result : ℕ)
      → IsFirst (HasSender parts) from to result
      → IsFirst (HasSender (all_seen wires parts)) from to result
  IsFirst-seen parts from to result first = record {
    least = first.least;
    most = first.most;
    before = λ other over below sender.
        first.before other over below (HasSender-bare parts other sender);
    holds = λ below. HasSender-seen parts result (first.holds below);
  }

-- Where no wire has a flit the components of a chip hold what they do at first.
module _ (count : ℕ) where
  held-none : (links : List ℕ)
      → map (flit_on (replicate count None)) links ≡ replicate (length links) None
  held-none [] = refl
  held-none (link ∷ links) = rw (flit_on-replicate count link, held-none links) refl

  router-new : (chip : ChipData) (kind : RouterKind) (number : ℕ)
      → seen (replicate count None) (made_router chip kind number) ≡ made_router chip kind number
  router-new chip ByHeader number =
      ap (λ held. Router (record (new_router (record { 0 = number }) chip.links) { held = held }))
      (held-none (entering_wires (record { 0 = number }) chip.links))
  router-new chip ByTable number =
      ap (λ held. TableRouter (record (new_table_router (record { 0 = number }) chip) { held = held }))
      (held-none (entering_wires (record { 0 = number }) chip.links))

  interface-new : (chip : ChipData) (rooms : List ℕ) (number : ℕ)
      → seen (replicate count None) (made_interface chip rooms number)
      ≡ made_interface chip rooms number
  interface-new chip rooms number = rw (flit_on-replicate count _) refl

  stage-new : (links : List Link) (link place : ℕ)
      → seen (replicate count None) (made_stage links link place) ≡ made_stage links link place
  stage-new links link place =
      rw (flit_on-replicate count (wire_at links link place)) refl

  made-new : (made : ℕ → Part) → ((n : ℕ) → seen (replicate count None) (made n) ≡ made n)
      → (numbers : List ℕ) → all_seen (replicate count None) (map made numbers) ≡ map made numbers
  made-new made same [] = refl
  made-new made same (n ∷ numbers) = rw (same n, made-new made same numbers) refl

  stages-new : (links : List Link) (numbers : List ℕ)
      → all_seen (replicate count None) (flat_map (link_stages links) numbers)
      ≡ flat_map (link_stages links) numbers
  stages-new links [] = refl
  stages-new links (link ∷ numbers) =
      map-append (seen (replicate count None)) (link_stages links link)
      (flat_map (link_stages links) numbers)
      ∙ ap₂ (λ (some others : List Part). some ++ others)
      (made-new (made_stage links link) (stage-new links link) _) (stages-new links numbers)

  pub new_parts-seen : (chip : ChipData) (kind : RouterKind) (rooms : List ℕ)
      → all_seen (replicate count None) (new_parts chip kind rooms) ≡ new_parts chip kind rooms
  new_parts-seen chip kind rooms =
      let interfaces = map (made_interface chip rooms) (range_with_len 0 (length chip.nis)) in
      let routers = map (made_router chip kind) (range_with_len 0 (length chip.routers)) in
      let stages = made_stages chip.links (length chip.links) in
      map-append (seen (replicate count None)) (interfaces ++ routers) stages
      ∙ ap₂ (λ (some others : List Part). some ++ others)
      (map-append (seen (replicate count None)) interfaces routers
      ∙ ap₂ (λ (some others : List Part). some ++ others)
      (made-new (made_interface chip rooms) (interface-new chip rooms)
      (range_with_len 0 (length chip.nis)))
      (made-new (made_router chip kind) (router-new chip kind)
      (range_with_len 0 (length chip.routers))))
      (stages-new chip.links (range_with_len 0 (length chip.links)))

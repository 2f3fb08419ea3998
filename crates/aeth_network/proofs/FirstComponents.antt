-- The components of a network before its first cycle, and the room of its channels.
use Rattle.std.proofs.Common.{◌≡◌, ◌≤◌, ◌<◌, ◌+◌, ◌∙◌, ◌^◌, ℕ, List, None, ap, arith, length, map}
use Rattle.std.proofs.Common.{replicate, subst, sym, count_by, slice_index}
use Rattle.std.proofs.lemmas.{Bool.Decides.nat_tests, List.get_or-replicate, List.length-map}
use Rattle.std.proofs.lemmas.{List.length-replicate, List.Elements.All-replicate}
use Rattle.std.proofs.lemmas.{Option.get_or_from_slice_get, Option.slice_get_within}
use Rattle.aeth_chip.proofs.WireLemmas.{have_delays, wires_of-few, wires_of-split}
use Rattle.aeth_chip.specs.{Chip.ChipData, Chip.IsChip, Wires.wires_of}
use Rattle.aeth_components.specs.{Changes.switched, Components.ComponentsState}
use Rattle.aeth_components.specs.{Components.IsComponents, Components.first_components}
use Rattle.aeth_components.specs.{Components.wirings_of, Components.part_count, Wirings.Wiring}
use Rattle.aeth_components.specs.{Wirings.IsWired, Wirings.wiring_of, ChannelStates.IsChannelState}
use Rattle.aeth_components.specs.{Making.new_parts, declared.event.Event.Event}
use Rattle.aeth_components.specs.{declared.making.RouterKind.TheVariants.ByHeader}
use Rattle.aeth_components.proofs.MadeLemmas.{IsWired-new, length-new_parts}
use Rattle.aeth_components.proofs.PartLemmas.{wirings-switched}
use Rattle.aeth_report.proofs.Sums.{count_by-never}
use Rattle.aeth_running.proofs.PlayedTables.{wirings-first}
use Rattle.aeth_running.specs.Routing.{Routing, entered_first, kind_of}
use Rattle.aeth_stimuli.specs.{Loaded.no_channel_state, Stimuli.Offer}
use Rattle.aeth_network.specs.Fits.{AreFit, HaveCounts, is_accepted}

-- A channel of which no session has gone.
pub IsChannelState-none : (words parts : ℕ) → 0 < parts
    → IsChannelState words parts no_channel_state
IsChannelState-none words parts some = record {
  sender = record { part = some; queue = omega arith };
  receiver = record { part = some; queue = omega arith };
  taken = omega arith;
  landed = omega arith;
  enqueued = omega arith;
  within = omega arith;
}

-- Components with events done before the first cycle, and the first rows in tables.
module _ (routing : Routing) (chip : ChipData) (is_chip : IsChip chip) (rooms : List ℕ) (count : ℕ) (words : List ℕ)
    (events : List Event) where
  abbrev pub made : ComponentsState
  made = first_components chip (kind_of routing) rooms (replicate count no_channel_state) words

  abbrev pub with_loaded : ComponentsState
  with_loaded = record made { parts = entered_first routing (switched events made.parts) }

  pub loaded-wirings : wirings_of with_loaded ≡ map wiring_of (new_parts chip ByHeader rooms)
  loaded-wirings =
      wirings-first routing chip rooms events
      ∙ wirings-switched events (new_parts chip ByHeader rooms)

  pub loaded-size : length with_loaded.parts ≡ part_count chip
  loaded-size =
      sym (length-map with_loaded.parts wiring_of)
      ∙ ap length loaded-wirings ∙ length-map (new_parts chip ByHeader rooms) wiring_of
      ∙ length-new_parts chip rooms

  pub IsComponents-loaded : IsComponents with_loaded
  IsComponents-loaded =
      let wires : length with_loaded.wires ≡ wires_of chip.links =
      length-replicate (wires_of chip.links) None in
      let size = loaded-size in
      let some = is_chip.some_nis in
      let links = is_chip.few_links in
      let split = wires_of-split chip.links (have_delays chip is_chip) in
      let flits : length with_loaded.flits ≡ length chip.links =
      length-replicate (length chip.links) 0 in
      record {
        wired = subst (λ (wirings : List Wiring). IsWired wirings (length with_loaded.wires))
            (sym loaded-wirings)
            (subst (IsWired (map wiring_of (new_parts chip ByHeader rooms))) (sym wires)
            (IsWired-new chip is_chip rooms));
        channel_states =
            All-replicate (IsChannelState (length words) (length with_loaded.parts)) count
            no_channel_state
            (IsChannelState-none (length words) (length with_loaded.parts) (omega arith));
        landings = length-replicate (length words) 0;
        flits = omega arith;
        few = omega arith;
      }

  -- There aren't many.
  pub few-parts : length with_loaded.parts < 2 ^ 32
  few-parts =
      let size = loaded-size in
      let nis = is_chip.nis in
      let routers = is_chip.routers in
      let links = is_chip.few_links in
      let split = wires_of-split chip.links (have_delays chip is_chip) in
      let few = wires_of-few chip.links (have_delays chip is_chip) in
      omega arith

-- Channels of which no session has gone accept none.
pub AreFit-none : (words parts count : ℕ) (coming : List Offer) → 0 < parts
    → AreFit words parts (replicate count 0) coming (replicate count no_channel_state)
AreFit-none words parts count coming some number channel_state at =
    let within = slice_get_within (replicate count no_channel_state) number channel_state at in
    let size = length-replicate count no_channel_state in
    let same : channel_state ≡ no_channel_state =
    sym (get_or_from_slice_get (replicate count no_channel_state) number channel_state
    no_channel_state at)
    ∙ get_or-replicate count number no_channel_state no_channel_state (omega arith) in
    let until : slice_index (replicate count 0) number ≡ 0 =
    get_or-replicate count number 0 0 (omega arith) in
    let none = count_by-never (is_accepted (replicate count 0) number) coming
    (λ i offer at. grind (arith, nat_tests, until)) in
    let empty = IsChannelState-none words parts some in
    let fits : no_channel_state.first + no_channel_state.accepted
    + count_by (is_accepted (replicate count 0) number) coming ≤ words = omega arith in
    rw same (record { sound = empty; room = fits })

-- Nothing is counted yet.
pub HaveCounts-none : (count : ℕ) (coming : List Offer) → length coming < 2 ^ 32
    → HaveCounts coming (replicate count 0)
HaveCounts-none count coming few =
    All-replicate (λ n. n + length coming < 2 ^ 32) count 0 (omega arith)

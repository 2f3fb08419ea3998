-- Before the first cycle: the ends of a chip's wires, and that no wire has a flit.
use Rattle.std.proofs.Common.{ℕ, ◌≡◌, ◌<◌, ◌≤◌, ◌*◌, ◌∙◌, refl, sym, ap, arith, subst, cond}
use Rattle.std.proofs.Common.{is_some, List, get_or, length, map, None, Option, replicate}
use Rattle.std.proofs.Common.{slice_get, Some, true, false}
use Rattle.std.proofs.lemmas.List.{length-map, length-replicate, Elements.All-map}
use Rattle.std.proofs.lemmas.List.{Folds.sum_by-replicate}
use Rattle.std.proofs.lemmas.Option.{slice_get-get_or, slice_get-map}
use Rattle.std.specs.{List.All, Option.option_and_then, Option.option_map}
use Rattle.aeth_chip.specs.{Chip.ChipData, Chip.IsChip, Wires.wires_of}
use Rattle.aeth_clocked.proofs.ClearLemmas.{flit_on-replicate}
use Rattle.aeth_clocked.specs.{Wires.flit_on, declared.flit.Flit.Flit}
use Rattle.aeth_router.proofs.OnwardLemmas.{arrival_at-none}
use Rattle.aeth_router.specs.{Onward.Nothing, Passing.forwarded, Passing.has_table}
use Rattle.aeth_router.specs.{declared.part.Part.Part}
use Rattle.aeth_components.specs.{Components.part_count, Ends.AreEnds, Ends.AreEndsOf}
use Rattle.aeth_components.specs.{Ends.is_interface, Wirings.wiring_of, Making.new_parts}
use Rattle.aeth_components.specs.{Passing.AreForwarded, Passing.way_of, Ready.AreReady}
use Rattle.aeth_components.specs.{FlitsOnWires.flits_on, declared.ends.Ends.Ends}
use Rattle.aeth_components.specs.{declared.making.RouterKind.RouterKind}
use Rattle.aeth_components.specs.{declared.making.RouterKind.TheVariants.ByHeader}
use Rattle.aeth_components.specs.{declared.turns.Turns.Turns}
use Rattle.aeth_components.proofs.EndLemmas.{IsAtEnds-receivers, IsAtEnds-senders}
use Rattle.aeth_components.proofs.KindLemmas.{wirings-kind}
use Rattle.aeth_components.proofs.MadeLemmas.{Made, IsInterface, IsRouter, IsStage}
use Rattle.aeth_components.proofs.MadeLemmas.{length-new_parts, made-at, part-at}
use Rattle.aeth_components.proofs.ReceivedLemmas.{AreReceived-new}
use Rattle.aeth_components.proofs.WayLemmas.{forwarded-empty}

module _ (chip : ChipData) (rooms : List ℕ) where
  -- The interfaces are the first components.
  made-first : (i : ℕ) (part : Part) → Made chip rooms i part → i < length chip.nis
      → is_interface (wiring_of part) ≡ true
  made-first i part (IsInterface within is) less = rw is refl
  made-first i part (IsRouter r within place is) less = absurd (omega (arith, place, less))
  made-first i part (IsStage k few place stage) less = absurd (omega (arith, place, less))

  made-others : (i : ℕ) (part : Part) → Made chip rooms i part → length chip.nis ≤ i
      → is_interface (wiring_of part) ≡ false
  made-others i part (IsInterface within is) over = absurd (omega (arith, within, over))
  made-others i part (IsRouter r within place is) over = rw is refl
  made-others i part (IsStage k few place stage) over = rw stage.is refl

  -- None has a table where routers read headers.
  made-way : (i : ℕ) (part : Part) → Made chip rooms i part → has_table part ≡ false
  made-way i part (IsInterface within is) = ap has_table is
  made-way i part (IsRouter r within place is) = ap has_table is
  made-way i part (IsStage k few place stage) = ap has_table stage.is

  ways-new : All (λ way. way.by_table ≡ false) (map way_of (new_parts chip ByHeader rooms))
  ways-new =
      let parts = new_parts chip ByHeader rooms in
      All-map (λ way. way.by_table ≡ false) way_of parts
      (λ place default within.
      made-way place (get_or parts place default)
      (part-at chip rooms place (get_or parts place default)
      (slice_get-get_or parts place default within)))

module _ (chip : ChipData) (is_chip : IsChip chip) (rooms : List ℕ) where
  AreEnds-new : (ends : Ends) → AreEndsOf chip ends
      → AreEnds (map wiring_of (new_parts chip ByHeader rooms)) (wires_of chip.links) ends
  AreEnds-new ends are =
      let parts = are.parts in
      let interfaces = are.interfaces in
      let few = are.few_parts in
      let below = λ (list : List ℕ) (all : All (λ number. number < part_count chip) list).
      subst (λ n. All (λ number. number < n) list) (sym parts) all in
      record {
        fits = record {
          senders = are.senders.size;
          receivers = are.receivers.size;
          senders_below = below ends.senders.items are.senders.below;
          receivers_below = below ends.receivers.items are.receivers.below;
          interfaces = omega (arith, parts, interfaces);
          few_wires = are.few_wires;
          few_parts = omega (arith, parts, few);
        };
        count = parts ∙ sym (length-map (new_parts chip ByHeader rooms) wiring_of
            ∙ length-new_parts chip rooms);
        sends = IsAtEnds-senders chip is_chip rooms ends.senders.items are.senders;
        receives = IsAtEnds-receivers chip is_chip rooms ends.receivers.items are.receivers;
        received = AreReceived-new chip is_chip rooms;
        first = λ i wiring at less.
            let made = made-at chip is_chip rooms i wiring at in
            rw made.2 (made-first chip rooms i made.0 made.1 (omega (arith, less, interfaces)));
        others = λ i wiring at over.
            let made = made-at chip is_chip rooms i wiring at in
            rw made.2 (made-others chip rooms i made.0 made.1 (omega (arith, over, interfaces)));
      }

-- Of empty wires nothing is passed on.
sent-none : (found : Option Part) (wires : List (Option Flit)) (out wire : ℕ)
    → flit_on wires wire ≡ None
    → option_and_then (λ way. way.sent out (flit_on wires wire)) (option_map way_of found) ≡ None
sent-none None wires out wire empty = refl
sent-none (Some part) wires out wire empty = ap (forwarded part out) empty ∙ forwarded-empty part out

forwarded-none : (end : Option ℕ) (parts : List Part) (wires : List (Option Flit)) (out wire : ℕ)
    → flit_on wires wire ≡ None
    → option_and_then (λ way. way.sent out (flit_on wires wire))
    (option_and_then (slice_get (map way_of parts)) end) ≡ None
forwarded-none None parts wires out wire empty = refl
forwarded-none (Some i) parts wires out wire empty =
    rw (slice_get-map way_of parts i) (sent-none (slice_get parts i) wires out wire empty)

-- So components are ready where no wire has a flit, and nothing has been passed on.
pub AreReady-none : (parts : List Part) (count : ℕ) (turns : Turns)
    → AreEnds (map wiring_of parts) count turns.ends → turns.flits ≡ 0
    → turns.onward ≡ replicate count Nothing
    → AreForwarded (map way_of parts) turns.forwarding.items
    → (turns.has_tables ≡ false → All (λ way. way.by_table ≡ false) (map way_of parts))
    → AreReady (map wiring_of parts) (map way_of parts) (replicate count None) turns
AreReady-none parts count turns ends flits onward noted tables =
    let empty = flit_on-replicate count in
    let size = length-replicate {A = Option Flit} count None in
    record {
      ends = rw size ends;
      noted = noted;
      flits = (
          let none : flits_on (replicate count None) ≡ count * 0 =
          sum_by-replicate (λ (flit : Option Flit). cond (is_some flit) 1 0) count None in
          omega (arith, flits, none));
      size = rw (onward, size) (length-replicate count Nothing);
      forwarded = λ out below.
          rw (onward, arrival_at-none count out)
          (λ wire within.
          forwarded-none (slice_get turns.ends.receivers.items wire) parts (replicate count None) out
          wire (empty wire));
      tables = tables;
    }

module _ (chip : ChipData) (is_chip : IsChip chip) (kind : RouterKind) (rooms : List ℕ) where
  -- So they are before the first cycle.
  pub AreReady-new : (turns : Turns) → AreEndsOf chip turns.ends → turns.flits ≡ 0
      → turns.onward ≡ replicate (wires_of chip.links) Nothing
      → AreForwarded (map way_of (new_parts chip kind rooms)) turns.forwarding.items
      → (turns.has_tables ≡ false → kind ≡ ByHeader)
      → AreReady (map wiring_of (new_parts chip kind rooms))
      (map way_of (new_parts chip kind rooms))
      (replicate (wires_of chip.links) None) turns
  AreReady-new turns are flits onward noted by_header =
      AreReady-none (new_parts chip kind rooms) (wires_of chip.links) turns
      (rw (wirings-kind chip kind rooms) (AreEnds-new chip is_chip rooms turns.ends are)) flits
      onward
      noted (λ none. rw (by_header none) (ways-new chip rooms))

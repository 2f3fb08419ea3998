-- The rooms for what the channels of all groups need are those for the channels of all use cases.
use Rattle.std.proofs.Common.{◌≡◌, ◌∙◌, ◌<◌, ◌*◌, ◌==◌, ℕ, true, List, [], ◌∷◌, All, Contains, ap}
use Rattle.std.proofs.Common.{arith, filter, inl, inr, length, map, refl, subst, sym, flat_map}
use Rattle.std.proofs.lemmas.Grind.{same_number_lists}
use Rattle.std.proofs.lemmas.List.FromFn.{get_or-map-range_with_len, length-map-range_with_len}
use Rattle.std.specs.List.{range_with_len}
use Rattle.aeth_base.proofs.Members.{Contains-cases, Contains-filter, Contains-flat_map}
use Rattle.aeth_base.proofs.Members.{Contains-here, Contains-map, Contains-nil, Contains-there}
use Rattle.aeth_base.proofs.Members.{filter-Contains, flat_map-Contains, map-Contains}
use Rattle.aeth_base.proofs.Ranges.{Contains-range, range-Contains}
use Rattle.aeth_base.specs.declared.ids.Side.{Side, TheVariants.Back, TheVariants.Fwd}
use Rattle.aeth_chip.specs.Chip.{ChipData}
use Rattle.aeth_app.specs.App.{AppData}
use Rattle.aeth_group.specs.Members.{groups_of}
use Rattle.aeth_ni.specs.Limits.{queues_of_interface}
use Rattle.aeth_tables.specs.Buffers.{buffer_on, buffers_of, buffers_on}
use Rattle.aeth_tables.specs.Granted.{Granted, granted_in}
use Rattle.aeth_tables.specs.Tables.{row_on, rows_on, shape_on, shapes_on, tables_of}
use Rattle.aeth_tables.specs.declared.buffering.Buffer.{Buffer}
use Rattle.aeth_tables.proofs.BufferLaws.{buffer-granted, granted-buffer}
use Rattle.aeth_tables.proofs.ListLaws.{all_from_places, all_has, has_place}
use Rattle.aeth_accepted.specs.Inputs.{AreAccepted, Inputs}
use Rattle.aeth_accepted.proofs.SoundRuns.{greatest-above}
use Rattle.aeth_schedule.specs.Lines.{all_lines, line_with, lines_of, lines_with}
use Rattle.aeth_schedule.specs.Rooms.{landing_number, queue_number, room_at, rooms_in}
use Rattle.aeth_schedule.specs.declared.lines.Line.{Line}
use Rattle.aeth_scheduling.proofs.RoomLemmas.{need_at, needs_in}
use Rattle.aeth_scheduling.proofs.ScheduleLemmas.{Fits, all-fit, greatest-below}

-- The lines of a connection's two channels.
abbrev lines_on : ChipData → AppData → Granted → List Line
lines_on chip app one =
    line_with (row_on chip app one Fwd) (shape_on chip app one Fwd) (row_on chip app one Back)
    ∷ line_with (row_on chip app one Back) (shape_on chip app one Back) (row_on chip app one Fwd) ∷ []

lines-granted : (chip : ChipData) (app : AppData) (ones : List Granted)
    → lines_with (flat_map (rows_on chip app) ones) (flat_map (shapes_on chip app) ones)
    ≡ flat_map (lines_on chip app) ones
lines-granted chip app [] = refl
lines-granted chip app (one ∷ ones) =
    let rest = lines-granted chip app ones in
    ap (λ (lines : List Line). line_with (row_on chip app one Fwd) (shape_on chip app one Fwd)
    (row_on chip app one Back)
    ∷ line_with (row_on chip app one Back) (shape_on chip app one Back) (row_on chip app one Fwd)
    ∷ lines) rest

-- A line needs what a channel needs: it lands at the same queue, for which it needs as much room.
pub record Needs (line : Line) (one : Buffer) : Type 0 where
  pub number : queue_number line ≡ landing_number one
  pub words : line.row.credits ≡ one.words

module _ (chip : ChipData) (app : AppData) (granted : Granted) where
  abbrev line_of : Side → Side → Line
  line_of side other =
      line_with (row_on chip app granted side) (shape_on chip app granted side)
      (row_on chip app granted other)

  line-buffer : (line : Line) → Contains (lines_on chip app granted) line
      → (one : Buffer) × Contains (buffers_on chip app granted) one × Needs line one
  line-buffer line has =
      let fwd = buffer_on chip app granted Fwd in
      let back = buffer_on chip app granted Back in
      let own_fwd : Needs (line_of Fwd Back) fwd = record { number = refl; words = refl } in
      let own_back : Needs (line_of Back Fwd) back = record { number = refl; words = refl } in
      elim (Contains-cases (line_of Fwd Back) (line_of Back Fwd ∷ []) line has) [
        | inl same ↦ (
          fwd,
          Contains-here fwd (back ∷ []),
          subst (λ (one : Line). Needs one fwd) same own_fwd,
        )
        | inr later ↦ elim (Contains-cases (line_of Back Fwd) [] line later) [
          | inl same ↦ (
            back,
            Contains-there fwd (back ∷ []) back (Contains-here back []),
            subst (λ (one : Line). Needs one back) same own_back,
          )
          | inr none ↦ Contains-nil none
        ]
      ]

  buffer-line : (one : Buffer) → Contains (buffers_on chip app granted) one
      → (line : Line) × Contains (lines_on chip app granted) line × Needs line one
  buffer-line one has =
      let fwd = line_of Fwd Back in
      let back = line_of Back Fwd in
      let own_fwd : Needs fwd (buffer_on chip app granted Fwd) = record { number = refl; words = refl } in
      let own_back : Needs back (buffer_on chip app granted Back) = record { number = refl; words = refl } in
      elim (Contains-cases (buffer_on chip app granted Fwd) (buffer_on chip app granted Back ∷ []) one
      has) [
        | inl same ↦ (
          fwd,
          Contains-here fwd (back ∷ []),
          subst (λ (buffer : Buffer). Needs fwd buffer) same own_fwd,
        )
        | inr later ↦ elim (Contains-cases (buffer_on chip app granted Back) [] one later) [
          | inl same ↦ (
            back,
            Contains-there fwd (back ∷ []) back (Contains-here back []),
            subst (λ (buffer : Buffer). Needs back buffer) same own_back,
          )
          | inr none ↦ Contains-nil none
        ]
      ]

module _ (inputs : Inputs) (accepted : AreAccepted inputs) where
  abbrev everything : List Line
  everything = flat_map (λ lines. lines) (all_lines inputs)

  abbrev needed : List Buffer
  needed = buffers_of inputs.chip inputs.app (groups_of inputs.app) inputs.plan

  -- The lines of a use case are those of its connections.
  lines-are-granted : (u : ℕ) → lines_of inputs u ≡ flat_map (lines_on inputs.chip inputs.app)
      (granted_in inputs.app (groups_of inputs.app) inputs.plan u)
  unfolding tables_of
  lines-are-granted u =
      lines-granted inputs.chip inputs.app (granted_in inputs.app (groups_of inputs.app) inputs.plan u)

  -- Each line has its buffer.
  has-buffer : (line : Line) → Contains everything line
      → (one : Buffer) × Contains needed one × Needs line one
  has-buffer line has =
      let all = granted_in inputs.app (groups_of inputs.app) inputs.plan in
      let on = lines_on inputs.chip inputs.app in
      let uses = length inputs.app.uses in
      let (lines, is_in, here) = flat_map-Contains (λ (one : List Line). one) (all_lines inputs) line has in
      let (u, same, known) = map-Contains (lines_of inputs) (range_with_len 0 uses) lines is_in in
      let own : Contains (flat_map on (all u)) line =
      subst (λ (list : List Line). Contains list line) (sym same ∙ lines-are-granted u) here in
      let (granted, given, inside) = flat_map-Contains on (all u) line own in
      let (one, of, needs) = line-buffer inputs.chip inputs.app granted line inside in (
        one,
        granted-buffer inputs.chip inputs.app inputs.plan accepted.design u
            (range-Contains uses u known) granted given one of,
        needs,
      )

  -- Each buffer has its line.
  has-line : (one : Buffer) → Contains needed one
      → (line : Line) × Contains everything line × Needs line one
  has-line one has =
      let all = granted_in inputs.app (groups_of inputs.app) inputs.plan in
      let on = lines_on inputs.chip inputs.app in
      let uses = length inputs.app.uses in
      let (u, within, granted, given, of) = buffer-granted inputs.chip inputs.app inputs.plan
      accepted.design one has in
      let (line, inside, needs) = buffer-line inputs.chip inputs.app granted one of in
      let own : Contains (lines_of inputs u) line =
      subst (λ (list : List Line). Contains list line) (sym (lines-are-granted u))
      (Contains-flat_map on (all u) granted line given inside) in
      let at = Contains-map (lines_of inputs) (range_with_len 0 uses) u
      (Contains-range 0 uses u (omega arith) (omega (arith, within))) in (
        line,
        Contains-flat_map (λ (list : List Line). list) (all_lines inputs) (lines_of inputs u) line
            at own,
        needs,
      )

  -- So each queue needs as much room by the one as by the other.
  same-need : (k : ℕ) → need_at needed k ≡ room_at everything k
  same-need k =
      let lands = λ (one : Buffer). landing_number one == k in
      let comes = λ (line : Line). queue_number line == k in
      let words = λ (one : Buffer). one.words in
      let credits = λ (line : Line). line.row.credits in
      let most = greatest-below (map words (filter lands needed)) (room_at everything k) (λ x has.
      let (one, is, passes) = map-Contains words (filter lands needed) x has in
      let (is_in, here) = filter-Contains lands needed one passes in
      let (line, there, needs) = has-line one is_in in
      let test : comes line ≡ true = ap (λ (n : ℕ). n == k) needs.number ∙ here in
      let most = greatest-above (map credits (filter comes everything)) line.row.credits
      (Contains-map credits (filter comes everything) line (Contains-filter comes everything line there test)) in
      omega (arith, most, is, needs.words)) in
      let least = greatest-below (map credits (filter comes everything)) (need_at needed k) (λ x has.
      let (line, is, passes) = map-Contains credits (filter comes everything) x has in
      let (is_in, here) = filter-Contains comes everything line passes in
      let (one, there, needs) = has-buffer line is_in in
      let test : lands one ≡ true = ap (λ (n : ℕ). n == k) (sym needs.number) ∙ here in
      let most = greatest-above (map words (filter lands needed)) one.words
      (Contains-map words (filter lands needed) one (Contains-filter lands needed one there test)) in
      omega (arith, most, is, needs.words)) in
      omega (arith, most, least)

  pub same-rooms : (n : ℕ) → needs_in needed n ≡ rooms_in everything n
  same-rooms n =
      let long = length-map-range_with_len (need_at needed) 0 n in
      same_number_lists (needs_in needed n) (rooms_in everything n)
      (long ∙ sym (length-map-range_with_len (room_at everything) 0 n))
      (λ k inside.
      get_or-map-range_with_len (need_at needed) 0 n k k 0 (omega (arith, long)) (omega arith)
      ∙ (same-need k
      ∙ sym (get_or-map-range_with_len (room_at everything) 0 n k k 0 (omega (arith, long)) (omega arith))))

  -- All land at queues of the chip.
  pub all-land : All (λ one. landing_number one < queues_of_interface * length inputs.chip.nis) needed
  all-land =
      all_from_places (λ one. landing_number one < queues_of_interface * length inputs.chip.nis) needed
      (λ place one at.
      let (line, there, needs) = has-line one (has_place needed place one at) in
      let (lines, is_in, here) = flat_map-Contains (λ (list : List Line). list) (all_lines inputs) line there in
      let fit = all_has (λ (list : List Line). All (Fits inputs accepted) list) (all_lines inputs) lines
      (all-fit inputs accepted) is_in in
      let own = all_has (Fits inputs accepted) lines line fit here in
      omega (arith, own.1, needs.number))

-- The rows of lines are those of the tables, and what a switch changes of them is what closes and
-- opens.
use Rattle.std.proofs.Common.{◌≡◌, ◌∙◌, ◌<◌, ◌≤◌, ◌-◌, ◌++◌, ◌&&◌, ℕ, Bool, not, List, [], ◌∷◌, ap}
use Rattle.std.proofs.Common.{arith, filter, get_or, inl, inr, length, map, refl, sym, take, drop}
use Rattle.std.proofs.Common.{flat_map, append_assoc, take_all}
use Rattle.std.proofs.lemmas.Bool.{cases_Bool}
use Rattle.std.specs.List.{range_with_len}
use Rattle.aeth_base.{specs.declared.ids.Channel.Channel, specs.declared.ids.Side.TheVariants.Back}
use Rattle.aeth_base.{specs.declared.ids.Side.TheVariants.Fwd, proofs.Filters.filter-filter}
use Rattle.aeth_server.specs.declared.shape.ChannelShape.{ChannelShape}
use Rattle.aeth_group.specs.Members.{GroupsData, group_at, groups_of, has_at, is_kept}
use Rattle.aeth_ni.specs.declared.row.ChannelRow.{ChannelRow}
use Rattle.aeth_report.specs.{Channels.channels_with, Design.Design}
use Rattle.aeth_reconf.specs.Rows.{rows_that}
use Rattle.aeth_tables.specs.Tables.{tables_of}
use Rattle.aeth_accepted.specs.Inputs.{AreAccepted, Inputs, design_of, row_at}
use Rattle.aeth_accepted.proofs.TableFlows.{rows-of_tables}
use Rattle.aeth_schedule.specs.Lines.{line_with, lines_of, lines_with}
use Rattle.aeth_schedule.specs.declared.lines.Line.{Line}
use Rattle.aeth_scheduling.specs.Made.{changed_rows}

-- Lines have the rows that they were made from, where there are as many shapes.
pub rows-with : (f : Channel → ChannelRow) (cs : List ℕ) (shapes : List ChannelShape)
    → length shapes ≡ length (map f (flat_map channels_with cs))
    → map (λ line. line.row) (lines_with (map f (flat_map channels_with cs)) shapes)
    ≡ map f (flat_map channels_with cs)
rows-with f [] shapes same = refl
rows-with f (c ∷ cs) [] same =
    absurd (omega arith)
rows-with f (c ∷ cs) (a ∷ []) same =
    absurd (omega arith)
rows-with f (c ∷ cs) (a ∷ b ∷ shapes) same =
    let rest = rows-with f cs shapes (omega arith) in
    ap (λ (rows : List ChannelRow). f (record { conn = record { 0 = c }; side = Fwd })
    ∷ f (record { conn = record { 0 = c }; side = Back }) ∷ rows) rest

-- A test on the connections of lines is one on those of their rows.
changed-rows : (groups : GroupsData) (u v : ℕ) (lines : List Line)
    → changed_rows groups u v lines
    ≡ filter (λ row. not (is_kept groups u v row.channel.conn.0)) (map (λ line. line.row) lines)
changed-rows groups u v [] = refl
changed-rows groups u v (line ∷ lines) =
    let rest = changed-rows groups u v lines in
    elim (cases_Bool (is_kept groups u v line.row.channel.conn.0)) [
      | inl kept ↦ rw kept rest
      | inr changed ↦ rw changed (ap (λ (rows : List ChannelRow). line.row ∷ rows) rest)
    ]

-- It picks connections.
rows-filter : (design : Design) (group : ℕ) (test : ℕ → Bool) (cs : List ℕ)
    → filter (λ row. test row.channel.conn.0) (map (row_at design group) (flat_map channels_with cs))
    ≡ map (row_at design group) (flat_map channels_with (filter test cs))
rows-filter design group test [] = refl
rows-filter design group test (c ∷ cs) =
    let rest = rows-filter design group test cs in
    let has = row_at design group in
    elim (cases_Bool (test c)) [
      | inl passes ↦ rw passes
          (ap (λ (rows : List ChannelRow). has (record { conn = record { 0 = c }; side = Fwd })
          ∷ has (record { conn = record { 0 = c }; side = Back }) ∷ rows) rest)
      | inr fails ↦ rw fails rest
    ]

module _ (inputs : Inputs) (accepted : AreAccepted inputs) where
  -- The rows of those which a switch doesn't keep are those of channels that it doesn't.
  pub changed-of : (u v w : ℕ) → w < length inputs.app.uses
      → length (tables_of inputs.chip inputs.app (groups_of inputs.app) inputs.plan
      (record { 0 = w })).rows
      ≡ length (tables_of inputs.chip inputs.app (groups_of inputs.app) inputs.plan
      (record { 0 = w })).shapes
      → changed_rows (groups_of inputs.app) u v (lines_of inputs w)
      ≡ rows_that (groups_of inputs.app) (row_at (design_of inputs))
      (group_at (groups_of inputs.app) w)
      (λ c. has_at (groups_of inputs.app) w c && not (is_kept (groups_of inputs.app) u v c))
  changed-of u v w known count =
      let groups = groups_of inputs.app in
      let group = group_at groups w in
      let has = row_at (design_of inputs) group in
      let conns = filter (has_at groups w) (range_with_len 0 groups.connections) in
      let tables = tables_of inputs.chip inputs.app groups inputs.plan (record { 0 = w }) in
      let rows = rows-of_tables inputs accepted (record { 0 = w }) known in
      let as_many : length tables.shapes ≡ length (map has (flat_map channels_with conns)) =
      sym count ∙ ap (λ (list : List ChannelRow). length list) rows in
      let lines = rows-with has conns tables.shapes as_many in
      let kept = λ (c : ℕ). not (is_kept groups u v c) in
      changed-rows groups u v (lines_of inputs w)
      ∙ (rw rows (ap (filter (λ (row : ChannelRow). kept row.channel.conn.0)) lines)
      ∙ (rows-filter (design_of inputs) group kept conns
      ∙ ap (λ (cs : List ℕ). map has (flat_map channels_with cs))
      (filter-filter (has_at groups w) kept (range_with_len 0 groups.connections))))

-- The first two of a list, and the rest.
pub two-first : {X : Type 0} (xs : List X) (a b : X) → 2 ≤ length xs → a ≡ get_or xs 0 a
    → b ≡ get_or xs 1 b → xs ≡ a ∷ b ∷ take (length xs - 2) (drop 2 xs)
two-first [] a b long first second = absurd (omega arith)
two-first (x ∷ []) a b long first second = absurd (omega arith)
two-first (x ∷ y ∷ zs) a b long first second =
    let all : take (length (x ∷ y ∷ zs) - 2) zs ≡ zs =
    take_all (length (x ∷ y ∷ zs) - 2) zs (omega arith) in
    rw (first, second, all) refl

-- The lines of a connection's two channels, before those of the rest.
pub pair-first : (items : List Line) (rows rs : List ChannelRow) (shapes ss : List ChannelShape)
    (a b : ChannelRow) (x y : ChannelShape) → rows ≡ a ∷ b ∷ rs → shapes ≡ x ∷ y ∷ ss
    → ((items ++ line_with a x b ∷ []) ++ line_with b y a ∷ []) ++ lines_with rs ss
    ≡ items ++ lines_with rows shapes
pair-first items rows rs shapes ss a b x y rows_are shapes_are =
    rw (rows_are, shapes_are)
    (append_assoc (items ++ line_with a x b ∷ []) (line_with b y a ∷ []) (lines_with rs ss)
    ∙ append_assoc items (line_with a x b ∷ []) (line_with b y a ∷ lines_with rs ss))

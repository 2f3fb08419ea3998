-- What accepted inputs give fits the components of their chip.
use Rattle.std.proofs.Common.{◌≤◌, ◌<◌, ◌+◌, ◌*◌, ℕ, All, List, Option, ap, arith, count_by, filter}
use Rattle.std.proofs.Common.{length, subst, sym, nat_lt}
use Rattle.std.proofs.lemmas.List.{length-map}
use Rattle.std.proofs.lemmas.List.Elements.{All-filter, All-map, All-weaker}
use Rattle.std.specs.List.Sorted.{IsNonDecreasingBy}
use Rattle.aeth_base.specs.declared.ids.Side.{Side, TheVariants.Back, TheVariants.Fwd}
use Rattle.aeth_base.specs.declared.ids.UseId.{UseId}
use Rattle.aeth_group.specs.Members.{groups_of}
use Rattle.aeth_ni.specs.declared.row.ChannelRow.{ChannelRow}
use Rattle.aeth_trace.specs.{Channels.channel_number, declared.receivers.PullRow.PullRow}
use Rattle.aeth_trace.specs.{declared.switches.SwitchRow.SwitchRow, declared.words.WordRow.WordRow}
use Rattle.aeth_trace.proofs.OrderLemmas.{rise-filter}
use Rattle.aeth_report.specs.Sessions.{Switch}
use Rattle.aeth_tables.specs.{Promises.HasNumbers, TableText.IsRowOf, Tables.tables_of}
use Rattle.aeth_tables.proofs.PromiseLaws.{keep_promises}
use Rattle.aeth_components.specs.{Components.wirings_of, Wirings.Wiring, Wirings.wiring_of}
use Rattle.aeth_components.specs.{ChannelStates.IsEnd, ChannelStates.IsChannelState}
use Rattle.aeth_components.specs.{Making.new_parts, declared.making.RouterKind.TheVariants.ByHeader}
use Rattle.aeth_components.proofs.{MadeLemmas.length-new_parts, PartLemmas.wirings-switched}
use Rattle.aeth_accepted.specs.Inputs.{AreAccepted, Inputs}
use Rattle.aeth_schedule.specs.{SessionStarts.session_starts_of, Lines.all_lines, Lines.end_of}
use Rattle.aeth_schedule.specs.{Lines.lines_at, Rooms.rooms_of, Switching.loaded_of}
use Rattle.aeth_schedule.specs.{Values.values_of, declared.lines.Line.Line}
use Rattle.aeth_schedule.proofs.LineLemmas.{line-at, lines-all}
use Rattle.aeth_stimuli.specs.Loaded.{loaded_components}
use Rattle.aeth_stimuli.specs.Stimuli.{Offer, Take, is_offered_in, offer_of, stimuli_of, take_of}
use Rattle.aeth_stimuli.proofs.SessionStartLists.{by, session_starts-all}
use Rattle.aeth_stimuli.proofs.OfferedWords.{offered-few, rise-map}
use Rattle.aeth_stimuli.proofs.WordPlaces.{window-placed}

-- The number of a channel of one of so many connections.
number-known : (c : ℕ) (side : Side) (connections : ℕ) → c < connections
    → channel_number (record { conn = record { 0 = c }; side = side }) < 2 * connections
number-known c Fwd connections known = omega arith
number-known c Back connections known = omega arith

module _ (inputs : Inputs) (accepted : AreAccepted inputs) where
  -- How many connections there are, how many words, and how many components.
  abbrev connections : ℕ
  connections = length inputs.app.connections

  abbrev words : ℕ
  words = length (values_of inputs.words (length inputs.app.connections))

  abbrev parts : ℕ
  parts = length (wirings_of (loaded_components inputs))

  -- The interfaces of the chip are among the components.
  interfaces-first : length inputs.chip.nis ≤ parts
  interfaces-first =
      let made = new_parts inputs.chip ByHeader (rooms_of inputs) in
      let kept = ap (λ (wirings : List Wiring). length wirings)
      (wirings-switched (loaded_of inputs) made) in
      let size = length-map made wiring_of in
      let count = length-new_parts inputs.chip (rooms_of inputs) in
      omega (arith, kept, size, count)

  -- ---- the lines of use cases

  -- A line names a connection, and sends and lands at queues of interfaces.
  pub record Fits (line : Line) : Type 0 where
    pub known : line.row.channel.conn.0 < length inputs.app.connections
    pub sender : IsEnd (length (wirings_of (loaded_components inputs))) (end_of line.row)
    pub receiver : IsEnd (length (wirings_of (loaded_components inputs))) line.receiver

  -- A row's queue is one of an interface of the chip.
  end-fits : (row : ChannelRow) → IsRowOf inputs.chip inputs.app row → HasNumbers row
      → IsEnd (length (wirings_of (loaded_components inputs))) (end_of row)
  end-fits row is numbers =
      let ni = is.ni in
      record { part = omega (arith, ni, interfaces-first); queue = numbers.queue }

  lines-fit : (u : ℕ) → u < length inputs.app.uses → All Fits (lines_at (all_lines inputs) u)
  lines-fit u known =
      let number : UseId = record { 0 = u } in
      let tables = tables_of inputs.chip inputs.app (groups_of inputs.app) inputs.plan number in
      let kept = keep_promises inputs.chip inputs.app inputs.plan accepted.design number known in
      subst (λ (lines : List Line). All Fits lines) (sym (line-at inputs accepted u known))
      (lines-all (λ row. IsRowOf inputs.chip inputs.app row × HasNumbers row) Fits
      (λ row shape other one two. record {
        known = one.0.conn;
        sender = end-fits row one.0 one.1;
        receiver = end-fits other two.0 two.1;
      })
      tables.rows tables.shapes (λ k d within. (kept.known k d within, kept.numbered k d within)))

  -- ---- the sessions

  -- Each is of a connection of the application.
  pub session_starts-known : All
      (λ session_start. session_start.channel.conn.0 < length inputs.app.connections)
      (session_starts_of inputs)
  session_starts-known = session_starts-all inputs accepted Fits
      (λ session_start. session_start.channel.conn.0 < length inputs.app.connections) lines-fit
      (λ opening u rows line fits. fits.known)

  -- So its channel has a number.
  pub session_starts-numbered : All
      (λ session_start. channel_number session_start.channel < 2 * connections)
      (session_starts_of inputs)
  session_starts-numbered = All-weaker (λ session_start. session_start.channel.conn.0 < connections)
      (λ session_start. channel_number session_start.channel < 2 * connections)
      (λ session_start known. number-known session_start.channel.conn.0 session_start.channel.side
      connections known)
      (session_starts_of inputs) session_starts-known

  -- The session of a line's channel that comes with a use case, as it stands when it goes: nothing of
  -- it is done.
  channel_state-fits : (opening : Option Switch) (u : ℕ) (rows : List SwitchRow) (line : Line)
      → Fits line
      → IsChannelState words parts (by inputs accepted opening u rows line).channel_state
  channel_state-fits opening u rows line fits =
      let session_start = by inputs accepted opening u rows line in
      let placed = window-placed inputs.words connections line.row.channel fits.known
      session_start.channel_state.go session_start.until in
      record {
        sender = fits.sender;
        receiver = fits.receiver;
        taken = omega arith;
        landed = omega arith;
        enqueued = omega arith;
        within = omega (arith, placed);
      }

  -- It has room for the words that it accepts within the run.
  room-fits : (opening : Option Switch) (u : ℕ) (rows : List SwitchRow) (line : Line) → Fits line
      → (by inputs accepted opening u rows line).channel_state.first
      + count_by (is_offered_in (by inputs accepted opening u rows line)) (stimuli_of inputs).offers
      ≤ words
  room-fits opening u rows line fits =
      let session_start = by inputs accepted opening u rows line in
      let placed = window-placed inputs.words connections line.row.channel fits.known
      session_start.channel_state.go session_start.until in
      let few = offered-few session_start inputs.cycles inputs.words in
      omega (arith, placed, few)

  pub session_starts-channel_states : All
      (λ session_start. IsChannelState words parts session_start.channel_state)
      (session_starts_of inputs)
  session_starts-channel_states =
      session_starts-all inputs accepted Fits
      (λ session_start. IsChannelState words parts session_start.channel_state) lines-fit
      channel_state-fits

  pub session_starts-room : All (λ session_start. session_start.channel_state.first
      + count_by (is_offered_in session_start) (stimuli_of inputs).offers ≤ words)
      (session_starts_of inputs)
  session_starts-room = session_starts-all inputs accepted Fits
      (λ session_start. session_start.channel_state.first
      + count_by (is_offered_in session_start) (stimuli_of inputs).offers ≤ words) lines-fit
      room-fits

  -- ---- the rows of traces

  -- Words are offered to channels of the application, in the order of cycles.
  pub offers-known : All (λ offer. offer.number < 2 * connections) (stimuli_of inputs).offers
  offers-known =
      let within = λ (row : WordRow). nat_lt row.cycle inputs.cycles in
      All-map (λ offer. offer.number < 2 * connections) offer_of (filter within inputs.words)
      (All-filter within (λ row. channel_number row.channel < 2 * connections) inputs.words
      (All-weaker (λ row. row.channel.conn.0 < connections)
      (λ row. channel_number row.channel < 2 * connections)
      (λ row known. number-known row.channel.conn.0 row.channel.side connections known)
      inputs.words accepted.words.known))

  pub offers-ordered : IsNonDecreasingBy (λ offer. offer.cycle) (stimuli_of inputs).offers
  offers-ordered =
      let within = λ (row : WordRow). nat_lt row.cycle inputs.cycles in
      rise-map (λ (offer : Offer). offer.cycle) offer_of (filter within inputs.words)
      (rise-filter (λ (row : WordRow). row.cycle) within inputs.words accepted.words.order)

  -- So do receivers take.
  pub takes-known : All (λ take. take.number < 2 * connections) (stimuli_of inputs).takes
  takes-known =
      let within = λ (row : PullRow). nat_lt row.cycle inputs.cycles in
      All-map (λ take. take.number < 2 * connections) take_of (filter within inputs.pulls)
      (All-filter within (λ row. channel_number row.channel < 2 * connections) inputs.pulls
      (All-weaker (λ row. row.channel.conn.0 < connections)
      (λ row. channel_number row.channel < 2 * connections)
      (λ row known. number-known row.channel.conn.0 row.channel.side connections known)
      inputs.pulls accepted.pulls.known))

  pub takes-ordered : IsNonDecreasingBy (λ take. take.cycle) (stimuli_of inputs).takes
  takes-ordered =
      let within = λ (row : PullRow). nat_lt row.cycle inputs.cycles in
      rise-map (λ (take : Take). take.cycle) take_of (filter within inputs.pulls)
      (rise-filter (λ (row : PullRow). row.cycle) within inputs.pulls accepted.pulls.order)

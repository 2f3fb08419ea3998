-- What the log of a run tells of a channel of a connection that is in use in one session throughout.
use Rattle.std.proofs.Common.{◌≡◌, ◌∙◌, ◌<◌, ◌≤◌, ◌+◌, ℕ, zero, suc, true, List, [], ◌∷◌, ◌++◌}
use Rattle.std.proofs.Common.{cond, filter, flat_map, map, refl, sym, ap, inl, inr, arith, ◌==◌}
use Rattle.std.proofs.Common.{All, None, nat_lt, slice_index, eq-eqb, le-leb, le-ltb, lt-ltb}
use Rattle.std.proofs.Common.{ne_eqb, append-nil}
use Rattle.std.proofs.lemmas.{Bool.cases_lt, Bool.cases_eq, List.Elements.All-head}
use Rattle.std.proofs.lemmas.{List.Elements.All-tail, List.Elements.filter-append}
use Rattle.std.proofs.lemmas.{Grind.flat_map-append, Simd.map-map}
use Rattle.std.specs.List.{range_with_len}
use Rattle.aeth_base.specs.{declared.ids.Channel.Channel, declared.ids.Side.Side}
use Rattle.aeth_base.specs.{declared.ids.Side.TheVariants.Back, declared.ids.Side.TheVariants.Fwd}
use Rattle.aeth_base.specs.{Sides.channels_with, Limits.max_path_delay}
use Rattle.aeth_base.proofs.{Filters.filter-map, Ranges.range_with_len-more}
use Rattle.aeth_group.specs.Members.{group_at, has_at}
use Rattle.aeth_server.specs.{Landing.landing_cycle, PrivateServer.PrivateServer}
use Rattle.aeth_server.specs.{PrivateServer.landed, Shape.buffer_of}
use Rattle.aeth_trace.specs.{Channels.is_channel, Receivers.pull_at, Words.words_on}
use Rattle.aeth_trace.specs.{declared.words.WordRow.WordRow}
use Rattle.aeth_report.specs.{Channels.channels_of, Design.shape_at, Flows.Run, Flows.flow_of}
use Rattle.aeth_report.specs.{Flows.is_within, Flows.server_of, Flows.sessions_in}
use Rattle.aeth_report.specs.{Flows.values_of as run_values, Log.ChannelData, RunLog.channel_log}
use Rattle.aeth_report.specs.{RunLog.counted_to, RunLog.flow_log, RunLog.landing_of, RunLog.log_of}
use Rattle.aeth_report.specs.{declared.session.Session.Session, declared.log.Landing.Landing}
use Rattle.aeth_chain.specs.{Chain.Leg, ChainInputs.landings_on, ChainInputs.row_of}
use Rattle.aeth_chain.specs.{ChainInputs.told, ChainRun.landing_on, ChainRun.server_on}
use Rattle.aeth_chain.specs.{ChainRun.values_of, Lanes.AreOffers, declared.passing.Offer.Offer}

-- A channel of a connection.
abbrev channel : ℕ → Side → Channel
channel conn side = record { conn = record { 0 = conn }; side = side }

-- It is one of the channels of its connection, and none of another.
with-channel : (conn : ℕ) (side : Side) (c : ℕ)
    → filter (is_channel (channel conn side)) (channels_with c)
    ≡ cond (conn == c) (channel conn side ∷ []) []
with-channel conn Fwd c = elim (cases_eq conn c) [
  | inl same ↦ rw (eq-eqb conn c same) (ap (λ n. channel n Fwd ∷ []) (sym same))
  | inr other ↦ rw (ne_eqb conn c other) refl
]
with-channel conn Back c = elim (cases_eq conn c) [
  | inl same ↦ rw (eq-eqb conn c same) (ap (λ n. channel n Back ∷ []) (sym same))
  | inr other ↦ rw (ne_eqb conn c other) refl
]

-- So it is one of the channels of all connections.
one-channel : (conn : ℕ) (side : Side) (n : ℕ)
    → filter (is_channel (channel conn side)) (channels_of n)
    ≡ cond (nat_lt conn n) (channel conn side ∷ []) []
one-channel conn side zero = rw (le-ltb conn 0 (omega arith)) refl
one-channel conn side (suc n) =
    let split : channels_of (suc n) ≡ channels_of n ++ channels_with n =
    ap (flat_map channels_with) (range_with_len-more 0 n n (omega arith))
    ∙ flat_map-append channels_with (range_with_len 0 n) (n ∷ [])
    ∙ ap (λ xs. channels_of n ++ xs) (append-nil (channels_with n)) in
    let both = ap (filter (is_channel (channel conn side))) split
    ∙ filter-append (is_channel (channel conn side)) (channels_of n) (channels_with n)
    ∙ ap (λ xs. xs ++ filter (is_channel (channel conn side)) (channels_with n))
    (one-channel conn side n)
    ∙ ap (λ xs. cond (nat_lt conn n) (channel conn side ∷ []) [] ++ xs) (with-channel conn side n) in
    both ∙ elim (cases_lt conn n) [
      | inl before ↦
          rw (
            lt-ltb conn n before,
            lt-ltb conn (suc n) (omega arith),
            ne_eqb conn n (λ same. omega (arith, before, same)),
          ) refl
      | inr later ↦ elim (cases_eq conn n) [
        | inl here ↦
            rw (le-ltb conn n later, lt-ltb conn (suc n) (omega arith), eq-eqb conn n here) refl
        | inr past ↦
            rw (le-ltb conn n later, le-ltb conn (suc n) (omega arith), ne_eqb conn n past) refl
      ]
    ]

-- The landings of a channel in the log of a run are those of its sessions.
pub landings-of : (run : Run) (conn : ℕ) (side : Side) → conn < run.design.groups.connections
    → landings_on (log_of run) (channel conn side)
    ≡ flat_map (λ session. session.rows) (channel_log run (channel conn side)).sessions
landings-of run conn side known =
    let found : filter (λ one. is_channel (channel conn side) one.channel)
    (map (channel_log run) (channels_of run.design.groups.connections))
    ≡ channel_log run (channel conn side) ∷ [] =
    filter-map (λ (one : ChannelData). is_channel (channel conn side) one.channel)
    (channel_log run) (channels_of run.design.groups.connections)
    ∙ ap (map (channel_log run)) (one-channel conn side run.design.groups.connections
    ∙ ap (λ b. cond b (channel conn side ∷ []) []) (lt-ltb conn run.design.groups.connections known)) in
    ap (flat_map (λ (one : ChannelData). flat_map (λ session. session.rows) one.sessions)) found
    ∙ append-nil (flat_map (λ session. session.rows) (channel_log run (channel conn side)).sessions)

-- Rows of a run are within a session of the whole of it.
within-all : (own : Channel) (end : ℕ) (offers : List Offer)
    → All (λ offer. offer.cycle < end) offers
    → filter (is_within 0 end) (map (row_of own) offers) ≡ map (row_of own) offers
within-all own end [] within = refl
within-all own end (offer ∷ offers) within =
    let here = All-head (λ (offer : Offer). offer.cycle < end) offer offers within in
    let rest = within-all own end offers
    (All-tail (λ (offer : Offer). offer.cycle < end) offer offers within) in
    rw (le-leb 0 offer.cycle (omega arith), lt-ltb offer.cycle end here)
    (ap (λ xs. row_of own offer ∷ xs) rest)

-- ---- one session
module _ (run : Run) (u : ℕ) (own : Channel)
    (rows : run.switches ≡ record { cycle = 0; to = record { 0 = u }; drain = 0 } ∷ [])
    (has : has_at run.design.groups u own.conn.0 ≡ true) (some : 1 ≤ run.cycles) where
  -- the session of the use case, which no switch closes
  abbrev pub session : Session
  session = record {
    go = 0;
    group = record { 0 = group_at run.design.groups u };
    close = None;
  }

  sessions-are : sessions_in run own.conn.0 ≡ session ∷ []
  sessions-are = rw rows (rw has refl)

  -- the landings of the channel are those of its private server
  pub session-rows : flat_map (λ one. one.rows) (channel_log run own).sessions
      ≡ (flow_log run.cycles (flow_of run own session)).rows
  session-rows =
      let early = lt-ltb 0 run.cycles some in
      ap (λ sessions. flat_map (λ one. one.rows) (map (flow_log run.cycles)
      (filter (λ flow. nat_lt flow.server.go run.cycles) (map (flow_of run own) sessions))))
      sessions-are
      ∙ rw early (append-nil (flow_log run.cycles (flow_of run own session)).rows)

  -- ---- it is a leg of a chain
  module _ (leg : Leg) (offers : List Offer) (same : leg.channel ≡ own)
      (shape : leg.shape ≡ shape_at run.design own (group_at run.design.groups u))
      (words : words_on run.words own ≡ map (row_of own) offers)
      (are : AreOffers run.cycles offers) where
    -- with the private server of the leg
    server-same : server_of run own session ≡ server_on run.pulls run.cycles leg offers
    server-same =
        let cycles = ap (map (λ (row : WordRow). row.cycle)) words
        ∙ map-map (λ (row : WordRow). row.cycle) (row_of own) offers in
        λ i. record {
          shape = sym shape i;
          buffer = buffer_of (sym shape i);
          go = 0;
          until = run.cycles;
          stop = run.cycles;
          finish = run.cycles + max_path_delay;
          offers = cycles i;
          pull = pull_at run.pulls (sym same i);
        }

    -- the values of its words
    values-same : run_values run own session ≡ values_of offers
    values-same =
        let kept = ap (filter (is_within 0 run.cycles)) words
        ∙ within-all own run.cycles offers are.within in
        ap (map (λ (row : WordRow). row.value)) kept
        ∙ map-map (λ (row : WordRow). row.value) (row_of own) offers

    -- so its landings tell the same
    pub told-same : (all : List Leg) (first : List Offer)
        → told (flow_log run.cycles (flow_of run own session)).rows
        ≡ told (map (landing_on run.cycles all first
        (record { offers = offers; server = server_on run.pulls run.cycles leg offers }))
        (range_with_len 0 (landed (server_on run.pulls run.cycles leg offers) run.cycles)))
    told-same all first =
        let whole : counted_to run.cycles (server_of run own session) ≡ run.cycles = omega arith in
        let tells : PrivateServer → List ℕ → ℕ → ℕ → ℕ × ℕ =
        λ server values end k. (landing_cycle server end (k + 1), slice_index values k) in
        map-map (λ (row : Landing). (row.landed, row.value))
        (landing_of run.cycles (server_of run own session) (run_values run own session))
        (range_with_len 0 (landed (server_of run own session)
        (counted_to run.cycles (server_of run own session))))
        ∙ ap (λ end. map (λ k. (
          landing_cycle (server_of run own session) end (k + 1),
          slice_index (run_values run own session) k,
        ))
        (range_with_len 0 (landed (server_of run own session) end))) whole
        ∙ ap (λ server. map (λ k. (
          landing_cycle server run.cycles (k + 1),
          slice_index (run_values run own session) k,
        ))
        (range_with_len 0 (landed server run.cycles))) server-same
        ∙ ap (λ values. map (λ k. (
          landing_cycle (server_on run.pulls run.cycles leg offers)
              run.cycles (k + 1),
          slice_index values k,
        ))
        (range_with_len 0 (landed (server_on run.pulls run.cycles leg offers) run.cycles)))
        values-same
        ∙ sym (map-map (λ (row : Landing). (row.landed, row.value))
        (landing_on run.cycles all first
        (record { offers = offers; server = server_on run.pulls run.cycles leg offers }))
        (range_with_len 0 (landed (server_on run.pulls run.cycles leg offers) run.cycles)))

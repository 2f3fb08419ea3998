-- Sessions by their numbers: each is one of a known channel, at its place among those. Each stay of
-- a channel has one number, and beside it is the same stay's session on the opposite channel.
use Rattle.std.proofs.Common.{◌≡◌, ◌<◌, ◌+◌, ◌*◌, ◌++◌, ◌∙◌, ◌==◌, ℕ, All, Bool, true, List, []}
use Rattle.std.proofs.Common.{◌∷◌, Option, Some, None, ap, arith, eq-eqb, eqb-true, filter, length}
use Rattle.std.proofs.Common.{option_map, slice_get, sym, take}
use Rattle.std.proofs.lemmas.List.Elements.{All-append, All-filter, All-map, All-nil, filter_passes}
use Rattle.std.proofs.lemmas.Option.{get_or_from_slice_get, slice_get-get_or, slice_get-map}
use Rattle.std.proofs.lemmas.Option.{slice_get_within}
use Rattle.std.specs.List.{range_with_len}
use Rattle.aeth_base.specs.{Sides.other_side, declared.ids.Channel.Channel}
use Rattle.aeth_base.proofs.{Lists.option_map-some, Members.All-slice_get, Ranges.All-range}
use Rattle.aeth_group.specs.Members.{GroupsData, has_at}
use Rattle.aeth_trace.specs.{Channels.side_number, declared.switches.SwitchRow.SwitchRow}
use Rattle.aeth_report.specs.Flows.{Run, sessions_in}
use Rattle.aeth_report.specs.Sessions.{Stay, Switch, opens, session_of, stays_of}
use Rattle.aeth_report.specs.SessionList.{ChannelSession, ConnectionStay, entered_behind}
use Rattle.aeth_report.specs.SessionList.{entered_from, entered_in, entered_with, is_of, listed_at}
use Rattle.aeth_report.specs.SessionList.{no_session, pair_of, partner_of, place_at, session_list}
use Rattle.aeth_report.specs.SessionList.{session_on, side_of, stay_by, turned}
use Rattle.aeth_report.proofs.ChannelSessions.{entered-of}
use Rattle.aeth_report.proofs.FilterPlaces.{filter-at, filter-from, filter-once}
use Rattle.aeth_report.proofs.SessionMeetings.{mapped_at}
use Rattle.aeth_report.proofs.SessionPairs.{number-is, numbered-pair, pair-at, partner-pair}
use Rattle.aeth_report.proofs.SessionPairs.{partner-side}
use Rattle.aeth_report.proofs.Stays.{switch_of}

module _ (groups : GroupsData) where
  abbrev Known : ConnectionStay → Type 0
  Known one = one.conn < groups.connections

  -- Stays are of known connections.
  joined-known : (comes : ℕ → Bool) (opening : Option Switch) (u : ℕ) (rows : List SwitchRow)
      (later : List ConnectionStay) → All Known later
      → All Known (entered_with groups comes opening u rows ++ later)
  joined-known comes opening u rows later rest =
      let range = range_with_len 0 groups.connections in
      All-append Known (entered_with groups comes opening u rows) later
      (All-map Known (stay_by groups opening u rows) (filter comes range)
      (All-filter comes (λ c. c < groups.connections) range (All-range groups.connections))) rest

  behind-known : (u : ℕ) (rows : List SwitchRow) → All Known (entered_behind groups u rows)
  behind-known u [] = All-nil Known
  behind-known u (row ∷ rows) =
      joined-known (opens groups u row.to.0) (Some (switch_of u row)) row.to.0 rows
      (entered_behind groups row.to.0 rows) (behind-known row.to.0 rows)

  entered-known : (rows : List SwitchRow) → All Known (entered_from groups rows)
  entered-known [] = All-nil Known
  entered-known (first ∷ rows) =
      joined-known (has_at groups first.to.0) None first.to.0 rows
      (entered_behind groups first.to.0 rows) (behind-known first.to.0 rows)

module _ (run : Run) where
  abbrev entered : List ConnectionStay
  entered = entered_in run

  -- The stay of a number, whose session on its side it is.
  record IsPairAt (c : ℕ) : Type 0 where
    one : ConnectionStay
    there : slice_get (entered_in run) (pair_of c) ≡ Some one
    is : session_on one (side_of c) ≡ listed_at run c
    conn : (listed_at run c).channel.conn.0 ≡ one.conn

  pair-there : (c : ℕ) → c < length (session_list run) → IsPairAt c
  pair-there c within =
      let (one, there, is) = option_map-some
      (λ (stay : ConnectionStay). session_on stay (side_of c)) (slice_get entered (pair_of c))
      (listed_at run c)
      (sym (pair-at entered c) ∙ slice_get-get_or (session_list run) c no_session within) in
      record {
        one = one;
        there = there;
        is = is;
        conn = sym (ap (λ (s : ChannelSession). s.channel.conn.0) is);
      }

  -- What stands at a number is a session of a known channel, at its place.
  pub record IsListedAt (c : ℕ) (session : ChannelSession) : Type 0 where
    pub known : session.channel.conn.0 < run.design.groups.connections
    pub stay_at : slice_get (stays_of run.design.groups session.channel.conn.0 run.switches)
        (place_at run c) ≡ Some session.stay

  pub listed-there : (c : ℕ) → c < length (session_list run) → IsListedAt c (listed_at run c)
  listed-there c within =
      let groups = run.design.groups in
      let pair = pair-there c within in
      let one = pair.one in
      let conn = (listed_at run c).channel.conn.0 in
      let same = pair.conn in
      let kept = filter (is_of conn) entered in
      let stay : ConnectionStay → Stay = λ other. other.stay in
      let below = All-slice_get (Known groups) entered (pair_of c) one
      (entered-known groups run.switches) pair.there in
      let known : conn < groups.connections = omega (arith, same, below) in
      record {
        known = known;
        stay_at = ap (λ (list : List Stay). slice_get list (place_at run c))
            (sym (entered-of groups conn known run.switches))
            ∙ slice_get-map stay kept (place_at run c)
            ∙ ap (option_map stay) (filter-at (is_of conn) entered (pair_of c) one pair.there
            (eq-eqb conn one.conn same))
            ∙ ap (λ (s : ChannelSession). Some s.stay) pair.is;
      }

  -- It is one of its connection's sessions.
  pub listed-among : (c : ℕ) → c < length (session_list run)
      → slice_get (sessions_in run (listed_at run c).channel.conn.0) (place_at run c)
      ≡ Some (session_of run.spans (listed_at run c).stay)
  listed-among c within =
      slice_get-map (session_of run.spans)
      (stays_of run.design.groups (listed_at run c).channel.conn.0 run.switches) (place_at run c)
      ∙ ap (option_map (session_of run.spans)) (listed-there c within).stay_at

  -- Each stay of a known channel has a number.
  pub record IsNumbered (channel : Channel) (place : ℕ) (stay : Stay) : Type 0 where
    pub number : ℕ
    pub known : number < length (session_list run)
    pub is : listed_at run number ≡ record { channel = channel; stay = stay }
    pub place_is : place_at run number ≡ place

  pub numbered : (channel : Channel) (i : ℕ) (stay : Stay)
      → channel.conn.0 < run.design.groups.connections
      → slice_get (stays_of run.design.groups channel.conn.0 run.switches) i ≡ Some stay
      → IsNumbered channel i stay
  numbered channel i stay known at =
      let conn = channel.conn.0 in
      let all = session_list run in
      let kept = filter (is_of conn) entered in
      let (one, there, own) = mapped_at (λ (other : ConnectionStay). other.stay) kept i stay
      (ap (λ (list : List Stay). slice_get list i)
      (entered-of run.design.groups conn known run.switches) ∙ at) in
      let passes = All-slice_get (λ (other : ConnectionStay). is_of conn other ≡ true) kept i one
      (filter_passes (is_of conn) entered) there in
      let same : one.conn ≡ conn = sym (eqb-true conn one.conn passes) in
      let (k, at_k, counts) = filter-from (is_of conn) entered i one there in
      let number = 2 * k + side_number channel.side in
      let (pair, side) = numbered-pair k channel.side in
      let stands : slice_get all number ≡ Some (session_on one channel.side) =
      pair-at entered number
      ∙ (λ j. option_map (λ (other : ConnectionStay). session_on other (side j))
      (slice_get entered (pair j)))
      ∙ ap (option_map (λ (other : ConnectionStay). session_on other channel.side)) at_k in
      let is : listed_at run number ≡ record { channel = channel; stay = stay } =
      get_or_from_slice_get all number (session_on one channel.side) no_session stands
      ∙ (λ j. record {
        channel = record { conn = record { 0 = same j }; side = channel.side };
        stay = own j;
      }) in
      record {
        number = number;
        known = slice_get_within all number (session_on one channel.side) stands;
        is = is;
        place_is = (λ j. length (filter (is_of (is j).channel.conn.0) (take (pair j) entered)))
            ∙ counts;
      }

  -- It has one alone.
  pub one_number : (c d : ℕ) → c < length (session_list run) → d < length (session_list run)
      → (listed_at run c).channel ≡ (listed_at run d).channel → place_at run c ≡ place_at run d
      → c ≡ d
  one_number c d known_c known_d same places =
      let one = pair-there c known_c in
      let two = pair-there d known_d in
      let conn = (listed_at run c).channel.conn.0 in
      let conns : conn ≡ (listed_at run d).channel.conn.0 =
      ap (λ (channel : Channel). channel.conn.0) same in
      let count : place_at run c ≡ length (filter (is_of conn) (take (pair_of d) entered)) =
      places ∙ (λ j. length (filter (is_of (sym conns j)) (take (pair_of d) entered))) in
      let pairs = filter-once (is_of conn) entered (pair_of c) (pair_of d) one.one two.one one.there
      two.there (eq-eqb conn one.one.conn one.conn)
      (eq-eqb conn two.one.conn (conns ∙ two.conn)) count in
      let sides : side_number (side_of c) ≡ side_number (side_of d) =
      ap (λ (s : ChannelSession). side_number s.channel.side) one.is
      ∙ ap (λ (channel : Channel). side_number channel.side) same
      ∙ sym (ap (λ (s : ChannelSession). side_number s.channel.side) two.is) in
      let number_c = number-is c in
      let number_d = number-is d in
      omega (arith, pairs, sides, number_c, number_d)

  -- Beside a session is that of its stay on the opposite channel, at the same place.
  pub record IsPartner (c : ℕ) : Type 0 where
    pub known : partner_of c < length (session_list run)
    pub is : listed_at run (partner_of c) ≡ turned (listed_at run c)
    pub place : place_at run (partner_of c) ≡ place_at run c

  pub partner-is : (c : ℕ) → c < length (session_list run) → IsPartner c
  partner-is c within =
      let pair = pair-there c within in
      let one = pair.one in
      let d = partner_of c in
      let all = session_list run in
      let other = session_on one (other_side (side_of c)) in
      let there : slice_get all d ≡ Some other = pair-at entered d
      ∙ (λ j. option_map (λ (stay : ConnectionStay). session_on stay (partner-side c j))
      (slice_get entered (partner-pair c j)))
      ∙ ap (option_map (λ (stay : ConnectionStay). session_on stay (other_side (side_of c))))
      pair.there in
      let is : listed_at run d ≡ turned (listed_at run c) =
      get_or_from_slice_get all d other no_session there ∙ ap turned pair.is in
      record {
        known = slice_get_within all d other there;
        is = is;
        place = λ j. length (filter (is_of (is j).channel.conn.0)
            (take (partner-pair c j) entered));
      }

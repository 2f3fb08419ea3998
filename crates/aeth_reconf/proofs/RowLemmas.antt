-- The rows of a switch between two use cases, and what its writes touch.
use Rattle.std.proofs.Common.{◌≡◌, ◌⊎◌, ◌∙◌, ◌+◌, ◌-◌, ℕ, Bool, true, [], ◌∷◌, Contains, filter}
use Rattle.std.proofs.Common.{length, map, refl, sym, ap, subst, inl, inr, arith, IsTrue, not}
use Rattle.std.proofs.lemmas.Bool.{and_from, and_parts, both_ways, cases_Bool, cases_lt}
use Rattle.std.proofs.lemmas.Bool.{not_from_false, not_from_true}
use Rattle.std.proofs.lemmas.List.Elements.{Contains-append_cases}
use Rattle.std.specs.List.{flat_map, range_with_len}
use Rattle.aeth_base.specs.declared.ids.Channel.{Channel}
use Rattle.aeth_base.proofs.Members.{Contains-cases, Contains-filter, Contains-flat_map}
use Rattle.aeth_base.proofs.Members.{Contains-map, Contains-nil, filter-Contains, flat_map-Contains}
use Rattle.aeth_base.proofs.Members.{map-Contains}
use Rattle.aeth_group.specs.Members.{GroupsData, group_at, has_at, is_kept}
use Rattle.aeth_ni.specs.Program.{closing_writes, entries_after, opening_writes}
use Rattle.aeth_ni.specs.Switch.{IsSwitch}
use Rattle.aeth_ni.specs.declared.row.ChannelRow.{ChannelRow}
use Rattle.aeth_ni.specs.declared.write.Write.{Write}
use Rattle.aeth_ni.specs.declared.write.Write.TheVariants.{ClearRoute, ClearSlot, SetRoute, SetSlot}
use Rattle.aeth_ni.proofs.SwitchLemmas.{entered-while_opening, left-while_closing}
use Rattle.aeth_report.specs.{Channels.channels_with, Sessions.closes, Sessions.opens}
use Rattle.aeth_report.proofs.{ChannelLemmas.of_connection, Stays.kept-is}
use Rattle.aeth_reconf.specs.Rows.{AreApart, AreWithin, Meets, RowOf, Touches, rows_closing}
use Rattle.aeth_reconf.specs.Rows.{rows_entered, rows_kept, rows_left, rows_opening, rows_that}
use Rattle.aeth_reconf.specs.Rows.{switch_program}

-- ---- what the writes of a row touch

-- What a write that closes a row touches shares a queue or a slot with it.
closing-meets : (row other : ChannelRow) (write : Write) → Contains (closing_writes row) write
    → Touches write other → Meets row other
closing-meets row other write has touches =
    let clears = map (λ slot. ClearSlot row.ni slot) row.slots.slots in
    let last = ClearRoute row.ni row.queue in
    elim (Contains-append_cases clears (last ∷ []) write has) [
      | inl clear ↦
          let found = map-Contains (λ slot. ClearSlot row.ni slot) row.slots.slots write clear in
          let named = subst (λ (w : Write). Touches w other) (sym found.1) touches in
          record { ni = named.0; shares = inr (found.0, found.2, named.1) }
      | inr route ↦ elim (Contains-cases last [] write route) [
        | inl same ↦
            let named = subst (λ (w : Write). Touches w other) (sym same) touches in
            record { ni = named.0; shares = inl named.1 }
        | inr none ↦ Contains-nil none
      ]
    ]

-- So does what a write that opens a row touches.
opening-meets : (row other : ChannelRow) (write : Write) → Contains (opening_writes row) write
    → Touches write other → Meets row other
opening-meets row other write has touches =
    let set = λ (slot : ℕ). SetSlot row.ni slot row.queue in
    let first = SetRoute row.ni row.queue row.route row.remote row.credits in
    elim (Contains-cases first (map set row.slots.slots) write has) [
      | inl same ↦
          let named = subst (λ (w : Write). Touches w other) (sym same) touches in
          record { ni = named.0; shares = inl named.1 }
      | inr later ↦
          let found = map-Contains set row.slots.slots write later in
          let named = subst (λ (w : Write). Touches w other) (sym found.1) touches in
          record {
            ni = named.0;
            shares = elim named.1 [
              | inl slot ↦ inr (found.0, found.2, slot)
              | inr queue ↦ inl queue
            ];
          }
    ]

module _ (groups : GroupsData) (row_of : RowOf) where
  -- ---- the rows of some connections

  -- A row is that of a channel of one of them.
  pub record IsRowOf (group : ℕ) (test : ℕ → Bool) (row : ChannelRow) : Type 0 where
    pub channel : Channel
    pub known : Contains (range_with_len 0 groups.connections) channel.conn.0
    pub passes : test channel.conn.0 ≡ true
    pub own : Contains (channels_with channel.conn.0) channel
    pub is : row_of group channel ≡ row

  -- Each of the rows is one.
  pub row_from : (group : ℕ) (test : ℕ → Bool) (row : ChannelRow)
      → Contains (rows_that groups row_of group test) row → IsRowOf group test row
  row_from group test row has =
      let range = range_with_len 0 groups.connections in
      let channels = flat_map channels_with (filter test range) in
      let found = map-Contains (row_of group) channels row has in
      let at = flat_map-Contains channels_with (filter test range) found.0 found.2 in
      let kept = filter-Contains test range at.0 at.1 in
      let back = sym (of_connection at.0 found.0 at.2) in
      record {
        channel = found.0;
        known = subst (λ (n : ℕ). Contains range n) back kept.0;
        passes = subst (λ (n : ℕ). test n ≡ true) back kept.1;
        own = subst (λ (n : ℕ). Contains (channels_with n) found.0) back at.2;
        is = found.1;
      }

  -- And each such one is one of the rows.
  row_to : (group : ℕ) (test : ℕ → Bool) (row : ChannelRow) → IsRowOf group test row
      → Contains (rows_that groups row_of group test) row
  row_to group test row of =
      let range = range_with_len 0 groups.connections in
      let kept = Contains-filter test range of.channel.conn.0 of.known of.passes in
      let channels = flat_map channels_with (filter test range) in
      let has = Contains-flat_map channels_with (filter test range) of.channel.conn.0 of.channel kept
      of.own in
      subst (λ (r : ChannelRow). Contains (rows_that groups row_of group test) r) of.is
      (Contains-map (row_of group) channels of.channel has)

  -- The same row by another test, in the same group.
  retested : (group other : ℕ) (test again : ℕ → Bool) (row : ChannelRow) → group ≡ other
      → (of : IsRowOf group test row) → again of.channel.conn.0 ≡ true
      → Contains (rows_that groups row_of other again) row
  retested group other test again row same of passes = row_to other again row (record {
    channel = of.channel;
    known = of.known;
    passes = passes;
    own = of.own;
    is = ap (λ (g : ℕ). row_of g of.channel) (sym same) ∙ of.is;
  })

  module _ (u v : ℕ) where
    -- ---- the rows of a switch

    -- The rows of the use case that is left are kept or close, and those of the one that is entered
    -- are kept or open.
    pub is_switch : IsSwitch (rows_left groups row_of u v) (rows_entered groups row_of u v)
        (rows_kept groups row_of u v) (rows_closing groups row_of u v)
        (rows_opening groups row_of u v)
    is_switch =
        let left = group_at groups u in
        let entered = group_at groups v in
        let keeps = λ (c : ℕ). is_kept groups u v c in
        record {
          leaves = λ row has.
              let of = row_from left (has_at groups u) row has in
              let c = of.channel.conn.0 in
              elim (cases_Bool (keeps c)) [
                | inl kept ↦ inl (retested left left (has_at groups u) keeps row refl of kept)
                | inr shut ↦ inr (retested left left (has_at groups u) (closes groups u v) row refl
                    of (and_from (has_at groups u c) (not (keeps c)) of.passes
                    (not_from_false (keeps c) shut)))
              ];
          enters = λ row has.
              let of = row_from entered (has_at groups v) row has in
              let c = of.channel.conn.0 in
              elim (cases_Bool (keeps c)) [
                | inl kept ↦ inl (retested entered left (has_at groups v) keeps row
                    (sym (kept-is groups u v c kept).group) of kept)
                | inr shut ↦ inr (retested entered entered (has_at groups v) (opens groups u v) row
                    refl of (and_from (has_at groups v c) (not (keeps c)) of.passes
                    (not_from_false (keeps c) shut)))
              ];
          kept_left = λ row has.
              let of = row_from left keeps row has in
              retested left left keeps (has_at groups u) row refl of
              (kept-is groups u v of.channel.conn.0 of.passes).left;
          kept_entered = λ row has.
              let of = row_from left keeps row has in
              let is = kept-is groups u v of.channel.conn.0 of.passes in
              retested left entered keeps (has_at groups v) row is.group of is.entered;
          opened = λ row has.
              let of = row_from entered (opens groups u v) row has in
              let c = of.channel.conn.0 in
              retested entered entered (opens groups u v) (has_at groups v) row refl of
              (and_parts (has_at groups v c) (not (keeps c)) of.passes).0;
        }

    -- After each number of writes the entries lie within those of one of the two.
    pub entries_within : (count : ℕ)
        → AreWithin
        (entries_after (rows_left groups row_of u v) (switch_program groups row_of u v) count)
        (rows_left groups row_of u v)
        ⊎ AreWithin
        (entries_after (rows_left groups row_of u v) (switch_program groups row_of u v) count)
        (rows_entered groups row_of u v)
    entries_within count =
        let left = rows_left groups row_of u v in
        let entered = rows_entered groups row_of u v in
        let kept = rows_kept groups row_of u v in
        let closing = rows_closing groups row_of u v in
        let opening = rows_opening groups row_of u v in
        let all = length (flat_map closing_writes closing) in
        elim (cases_lt count all) [
          | inl early ↦ inl (λ entry has.
              left-while_closing left entered kept closing opening is_switch count entry (omega arith)
              has)
          | inr late ↦
              let is : all + (count - all) ≡ count = omega arith in
              inr (λ entry has.
              entered-while_opening left entered kept closing opening is_switch (count - all) entry
              (rw is has))
        ]

    -- ---- the channels that are kept

    -- Two channels of which a switch keeps one alone aren't one.
    one-kept : (one other : Channel) → one ≡ other → is_kept groups u v other.conn.0 ≡ true
        → not (is_kept groups u v one.conn.0) ≡ true → ⊥
    one-kept one other same kept shut =
        let too : is_kept groups u v one.conn.0 ≡ true =
        ap (λ (ch : Channel). is_kept groups u v ch.conn.0) same ∙ kept in
        both_ways (not (is_kept groups u v one.conn.0))
        (not_from_true (is_kept groups u v one.conn.0) too) shut

    -- No write touches one that is kept.
    pub untouched : AreApart groups row_of u → AreApart groups row_of v → (channel : Channel)
        → IsTrue (is_kept groups u v channel.conn.0) → (write : Write)
        → Contains (switch_program groups row_of u v) write
        → Touches write (row_of (group_at groups u) channel) → ⊥
    untouched apart_u apart_v channel kept write has touches =
        let left = group_at groups u in
        let entered = group_at groups v in
        let closing = rows_closing groups row_of u v in
        let opening = rows_opening groups row_of u v in
        let keeps = λ (c : ℕ). is_kept groups u v c in
        let is = kept-is groups u v channel.conn.0 kept in
        let own = row_of left channel in
        elim (Contains-append_cases (flat_map closing_writes closing)
        (flat_map opening_writes opening) write has) [
          | inl closes_one ↦
              let found = flat_map-Contains closing_writes closing write closes_one in
              let of = row_from left (closes groups u v) found.0 found.1 in
              let c = of.channel.conn.0 in
              let parts = and_parts (has_at groups u c) (not (keeps c)) of.passes in
              let meets = closing-meets found.0 own write found.2 touches in
              let same = apart_u of.channel channel parts.0 is.left
              (subst (λ (r : ChannelRow). Meets r own) (sym of.is) meets) in
              one-kept of.channel channel same kept parts.1
          | inr opens_one ↦
              let found = flat_map-Contains opening_writes opening write opens_one in
              let of = row_from entered (opens groups u v) found.0 found.1 in
              let c = of.channel.conn.0 in
              let parts = and_parts (has_at groups v c) (not (keeps c)) of.passes in
              let meets = opening-meets found.0 own write found.2 touches in
              let there = subst (λ (r : ChannelRow). Meets r own) (sym of.is) meets in
              let same = apart_v of.channel channel parts.0 is.entered
              (subst (λ (g : ℕ). Meets (row_of entered of.channel) (row_of g channel)) is.group
              there) in
              one-kept of.channel channel same kept parts.1
        ]

-- Of all sessions those of a channel are its connection's stays, in their order.
use Rattle.std.proofs.Common.{◌≡◌, ◌≤◌, ◌<◌, ◌+◌, ◌++◌, ◌∙◌, ℕ, zero, suc, Bool, List, [], ◌∷◌}
use Rattle.std.proofs.Common.{Option, Some, None, ap, arith, filter, inl, inr, map, refl, sym, ◌==◌}
use Rattle.std.proofs.Common.{flat_map, eq-eqb, eqb-true, ne_eqb}
use Rattle.std.proofs.lemmas.{Bool.cases_Bool, Bool.cases_eq, List.Elements.filter-append}
use Rattle.std.specs.List.{range_with_len}
use Rattle.aeth_base.specs.declared.ids.Channel.{Channel}
use Rattle.aeth_base.specs.declared.ids.Side.{Side, TheVariants.Back, TheVariants.Fwd}
use Rattle.aeth_base.proofs.Filters.{filter-map, filter-no, filter-swap, filter-yes}
use Rattle.aeth_group.specs.Members.{GroupsData, has_at}
use Rattle.aeth_trace.specs.declared.switches.SwitchRow.{SwitchRow}
use Rattle.aeth_report.specs.Flows.{Run}
use Rattle.aeth_report.specs.Sessions.{Stay, Switch, opens, stay_with, stays_behind, stays_of}
use Rattle.aeth_report.specs.SessionList.{ConnectionStay, both_of, entered_behind, entered_with}
use Rattle.aeth_report.specs.SessionList.{entered_from, is_of, is_on, session_list, stay_by}
use Rattle.aeth_report.proofs.Stays.{switch_of}

-- A number stands once in a range.
range-none : (c k n : ℕ) → c < k → filter (λ d. c == d) (range_with_len k n) ≡ []
range-none c k zero less = refl
range-none c k (suc n) less =
    filter-no (λ d. c == d) k (range_with_len (k + 1) n)
    (ne_eqb c k (λ same. omega (arith, less, same)))
    ∙ range-none c (k + 1) n (omega (arith, less))

range-one : (c k n : ℕ) → k ≤ c → c < k + n → filter (λ d. c == d) (range_with_len k n) ≡ c ∷ []
range-one c k zero from below = absurd (omega (arith, from, below))
range-one c k (suc n) from below = elim (cases_eq c k) [
  | inl here ↦
      filter-yes (λ d. c == d) k (range_with_len (k + 1) n) (eq-eqb c k here)
      ∙ (λ i. sym here i ∷ range-none c (k + 1) n (omega (arith, here)) i)
  | inr other ↦
      filter-no (λ d. c == d) k (range_with_len (k + 1) n) (ne_eqb c k other)
      ∙ range-one c (k + 1) n (omega (arith, from, other)) (omega (arith, below))
]

-- The stays of a connection out of a list.
abbrev pub stays_among : ℕ → List ConnectionStay → List Stay
stays_among c list = map (λ (one : ConnectionStay). one.stay) (filter (is_of c) list)

module _ (groups : GroupsData) (c : ℕ) (known : c < groups.connections) where
  -- Those that come with a use case, before others: that of the connection, where the test says so.
  entered-are : (comes : ℕ → Bool) (opening : Option Switch) (u : ℕ) (rows : List SwitchRow)
      (later : List ConnectionStay)
      → stays_among c (entered_with groups comes opening u rows ++ later)
      ≡ stay_with groups c (comes c) opening u rows (stays_among c later)
  entered-are comes opening u rows later =
      let at = stay_by groups opening u rows in
      let range = range_with_len 0 groups.connections in
      let one = range-one c 0 groups.connections (omega arith) (omega (arith, known)) in
      let stay : ConnectionStay → Stay = λ one. one.stay in
      let now : filter (is_of c) (map at (filter comes range)) ≡ map at (filter comes (c ∷ [])) =
      filter-map (is_of c) at (filter comes range)
      ∙ ap (map at) (filter-swap (λ d. c == d) comes range ∙ ap (filter comes) one) in
      ap (map stay) (filter-append (is_of c) (map at (filter comes range)) later
      ∙ ap (λ (list : List ConnectionStay). list ++ filter (is_of c) later) now)
      ∙ elim (cases_Bool (comes c)) [
        | inl is ↦ rw is refl
        | inr isnt ↦ rw isnt refl
      ]

  behind-are : (u : ℕ) (rows : List SwitchRow)
      → stays_among c (entered_behind groups u rows) ≡ stays_behind groups c u rows
  behind-are u [] = refl
  behind-are u (row ∷ rows) =
      let v = row.to.0 in
      let opening = Some (switch_of u row) in
      entered-are (opens groups u v) opening v rows (entered_behind groups v rows)
      ∙ ap (stay_with groups c (opens groups u v c) opening v rows) (behind-are v rows)

  -- The stays of a connection over rows are its own.
  pub entered-of : (rows : List SwitchRow)
      → stays_among c (entered_from groups rows) ≡ stays_of groups c rows
  entered-of [] = refl
  entered-of (first ∷ rows) =
      let u = first.to.0 in
      entered-are (has_at groups u) None u rows (entered_behind groups u rows)
      ∙ ap (stay_with groups c (has_at groups u c) None u rows) (behind-are u rows)

-- The sessions of a channel out of those of stays: one for each stay of its connection.
both-on : (c : ℕ) (side : Side) (list : List ConnectionStay)
    → filter (is_on (record { conn = record { 0 = c }; side = side })) (flat_map both_of list)
    ≡ map (λ (stay : Stay). record {
      channel = record { conn = record { 0 = c }; side = side };
      stay = stay;
    }) (stays_among c list)
both-on c side [] = refl
both-on c Fwd (one ∷ list) =
    let rest = both-on c Fwd list in
    elim (cases_Bool (c == one.conn)) [
      | inl is ↦
          let same : one.conn ≡ c = sym (eqb-true c one.conn is) in
          rw is (λ k. record {
            channel = record { conn = record { 0 = same k }; side = Fwd };
            stay = one.stay;
          } ∷ rest k)
      | inr isnt ↦ rw isnt rest
    ]
both-on c Back (one ∷ list) =
    let rest = both-on c Back list in
    elim (cases_Bool (c == one.conn)) [
      | inl is ↦
          let same : one.conn ≡ c = sym (eqb-true c one.conn is) in
          rw is (λ k. record {
            channel = record { conn = record { 0 = same k }; side = Back };
            stay = one.stay;
          } ∷ rest k)
      | inr isnt ↦ rw isnt rest
    ]

-- The sessions of a channel out of all of a run: one for each stay of its connection.
pub sessions-on : (run : Run) (channel : Channel)
    → channel.conn.0 < run.design.groups.connections
    → filter (is_on channel) (session_list run)
    ≡ map (λ (stay : Stay). record { channel = channel; stay = stay })
    (stays_of run.design.groups channel.conn.0 run.switches)
sessions-on run channel known =
    both-on channel.conn.0 channel.side (entered_from run.design.groups run.switches)
    ∙ ap (map (λ (stay : Stay). record { channel = channel; stay = stay }))
    (entered-of run.design.groups channel.conn.0 known run.switches)

-- Stays and the switches of a run: each stay is opened and closed by switches of it, and each switch
-- that opens or closes a connection does so with a stay.
use Rattle.std.proofs.Common.{◌≡◌, ◌∙◌, ℕ, List, [], ◌∷◌, Contains, Option, Some, None, refl, sym}
use Rattle.std.proofs.Common.{ap, subst, inl, inr, IfSome, IsTrue, Ok, not}
use Rattle.std.proofs.lemmas.Bool.{and_from, and_parts, both_ways, cases_Bool, not_from_false}
use Rattle.std.proofs.lemmas.Bool.{not_from_true}
use Rattle.aeth_base.proofs.Members.{Contains-cases, Contains-here, Contains-nil, Contains-there}
use Rattle.aeth_group.specs.Members.{GroupsData, group_at, has_at, is_kept}
use Rattle.aeth_trace.specs.{Switches.is_first_at_zero, declared.switches.SwitchRow.SwitchRow}
use Rattle.aeth_report.specs.Sessions.{Stay, Switch, closes, closing_in, opens, stays_behind}
use Rattle.aeth_report.specs.Sessions.{stays_from, stays_of}
use Rattle.aeth_report.proofs.Stays.{kept-is, opened, stay_with-cases, stay_with-here}
use Rattle.aeth_report.proofs.Stays.{stay_with-there, switch_of}
use Rattle.aeth_schedule.specs.Switching.{later_switches, switches_from}

-- The use case that is loaded before all switches.
abbrev pub loaded_use : List SwitchRow → ℕ
loaded_use [] = 0
loaded_use (first ∷ rows) = first.to.0

module _ (groups : GroupsData) (c : ℕ) where
  -- ---- the switches of a stay

  -- The switch that closes a connection of use case u is one of those behind it.
  closing-among : (rows : List SwitchRow) (u : ℕ)
      → IfSome (closing_in groups c u rows) (λ switch. Contains (switches_from u rows) switch)
  closing-among [] u = tt
  closing-among (row ∷ rows) u =
      let v = row.to.0 in
      let first = switch_of u row in
      let later = switches_from v rows in
      let behind : (o : Option Switch) → IfSome o (λ switch. Contains later switch)
      → IfSome o (λ switch. Contains (first ∷ later) switch) = elim [
        | None ↦ λ none. tt
        | Some switch ↦ λ has. Contains-there first later switch has
      ] in
      elim (cases_Bool (is_kept groups u v c)) [
        | inl kept ↦ rw kept (behind (closing_in groups c v rows) (closing-among rows v))
        | inr shut ↦ rw shut (Contains-here first later)
      ]

  -- What opens a stay of a group: a switch among these, which opens the connection in a use case of
  -- that group, or before all of them the use case that is loaded.
  abbrev pub IsOpenedAmong : ℕ → List Switch → ℕ → Option Switch → Type 0
  IsOpenedAmong loaded switches group None =
      IsTrue (has_at groups loaded c) × (group_at groups loaded ≡ group)
  IsOpenedAmong loaded switches group (Some switch) =
      Contains switches switch × IsTrue (opens groups switch.leaves switch.row.to.0 c)
      × (group_at groups switch.row.to.0 ≡ group)

  -- A stay is opened so, and closed by one of these switches, if it is closed.
  pub record IsAmong (loaded : ℕ) (switches : List Switch) (stay : Stay) : Type 0 where
    pub opening : IsOpenedAmong loaded switches stay.group stay.opening
    pub closing : IfSome stay.closing (λ switch. Contains switches switch)

  -- A stay among some switches is one among one switch more.
  among-more : (loaded : ℕ) (first : Switch) (later : List Switch) (stay : Stay)
      → IsAmong loaded later stay → IsAmong loaded (first ∷ later) stay
  among-more loaded first later stay is =
      let opens_more : (o : Option Switch) → IsOpenedAmong loaded later stay.group o
      → IsOpenedAmong loaded (first ∷ later) stay.group o = elim [
        | None ↦ λ is_loaded. is_loaded
        | Some switch ↦ λ opener. (Contains-there first later switch opener.0, opener.1, opener.2)
      ] in
      let closes_more : (o : Option Switch) → IfSome o (λ switch. Contains later switch)
      → IfSome o (λ switch. Contains (first ∷ later) switch) = elim [
        | None ↦ λ none. tt
        | Some switch ↦ λ has. Contains-there first later switch has
      ] in
      record {
        opening = opens_more stay.opening is.opening;
        closing = closes_more stay.closing is.closing;
      }

  -- So is each stay that rows open, whatever is loaded.
  behind-among : (loaded : ℕ) (rows : List SwitchRow) (u : ℕ) (stay : Stay)
      → Contains (stays_behind groups c u rows) stay → IsAmong loaded (switches_from u rows) stay
  behind-among loaded [] u stay has = Contains-nil has
  behind-among loaded (row ∷ rows) u stay has =
      let v = row.to.0 in
      let first = switch_of u row in
      let later = switches_from v rows in
      let more : (o : Option Switch) → IfSome o (λ switch. Contains later switch)
      → IfSome o (λ switch. Contains (first ∷ later) switch) = elim [
        | None ↦ λ none. tt
        | Some switch ↦ λ is_in. Contains-there first later switch is_in
      ] in
      elim (stay_with-cases groups c (opens groups u v c) (Some first) v rows
      (stays_behind groups c v rows) stay has) [
        | inl here ↦ subst (λ (s : Stay). IsAmong loaded (first ∷ later) s) here.1 (record {
          opening = (Contains-here first later, here.0, refl);
          closing = more (closing_in groups c v rows) (closing-among rows v);
        })
        | inr there ↦ among-more loaded first later stay (behind-among loaded rows v stay there)
      ]

  -- So is each stay of a list of rows.
  pub stay-among : (rows : List SwitchRow) (stay : Stay) → Contains (stays_of groups c rows) stay
      → IsAmong (loaded_use rows) (later_switches rows) stay
  stay-among [] stay has = Contains-nil has
  stay-among (first ∷ rows) stay has =
      let u = first.to.0 in
      elim (stay_with-cases groups c (has_at groups u c) None u rows (stays_behind groups c u rows) stay
      has) [
        | inl here ↦ subst (λ (s : Stay). IsAmong u (switches_from u rows) s) here.1 (record {
          opening = (here.0, refl);
          closing = closing-among rows u;
        })
        | inr there ↦ behind-among u rows u stay there
      ]

  -- ---- the stay of a switch

  -- Among some stays is one that a switch closes.
  pub record HasClosed (stays : List Stay) (switch : Switch) : Type 0 where
    pub stay : Stay
    pub has : Contains stays stay
    pub closing : stay.closing ≡ Some switch

  -- Each switch behind use case u that closes the connection closes a stay that comes with u or behind
  -- it.
  closed-from : (rows : List SwitchRow) (opening : Option Switch) (u : ℕ) (switch : Switch)
      → Contains (switches_from u rows) switch
      → IsTrue (closes groups switch.leaves switch.row.to.0 c)
      → HasClosed (stays_from groups c opening u rows) switch
  closed-from [] opening u switch has shuts = Contains-nil has
  closed-from (row ∷ rows) opening u switch has shuts =
      let v = row.to.0 in
      let first = switch_of u row in
      let behind = stays_behind groups c u (row ∷ rows) in
      let stays = stays_from groups c opening u (row ∷ rows) in
      let keeps = is_kept groups u v c in
      let own = opened groups c opening u (row ∷ rows) in
      elim (Contains-cases first (switches_from v rows) switch has) [
        | inl here ↦
            let (left, goes) = and_parts (has_at groups u c) (not keeps)
            (ap (λ (s : Switch). closes groups s.leaves s.row.to.0 c) here ∙ shuts) in
            record {
              stay = own;
              has = stay_with-here groups c (has_at groups u c) opening u (row ∷ rows) behind left;
              closing = elim (cases_Bool keeps) [
                | inl kept ↦ absurd (both_ways (not keeps) (not_from_true keeps kept) goes)
                | inr shut ↦ rw shut (ap (λ (s : Switch). Some s) here)
              ];
            }
        | inr there ↦
            let rest = closed-from rows (Some first) v switch there shuts in
            let later = stays_behind groups c v rows in
            let inside : Contains behind rest.stay → HasClosed stays switch = λ is_in. record {
              stay = rest.stay;
              has = stay_with-there groups c (has_at groups u c) opening u (row ∷ rows) behind rest.stay
                  is_in;
              closing = rest.closing;
            } in
            elim (stay_with-cases groups c (has_at groups v c) (Some first) v rows later rest.stay
            rest.has) [
              | inr later_one ↦ inside (stay_with-there groups c (opens groups u v c) (Some first) v
                  rows later rest.stay later_one)
              | inl next ↦ elim (cases_Bool keeps) [
                | inl kept ↦
                    let is = kept-is groups u v c kept in
                    let same : closing_in groups c v rows ≡ Some switch =
                    ap (λ (s : Stay). s.closing) next.1 ∙ rest.closing in
                    record {
                      stay = own;
                      has = stay_with-here groups c (has_at groups u c) opening u (row ∷ rows) behind
                          is.left;
                      closing = rw kept same;
                    }
                | inr shut ↦ inside (subst (λ (s : Stay). Contains behind s) next.1
                    (stay_with-here groups c (opens groups u v c) (Some first) v rows later
                    (and_from (has_at groups v c) (not keeps) next.0 (not_from_false keeps shut))))
              ]
            ]
      ]

  pub closed-stay : (rows : List SwitchRow) (switch : Switch)
      → Contains (later_switches rows) switch
      → IsTrue (closes groups switch.leaves switch.row.to.0 c)
      → HasClosed (stays_of groups c rows) switch
  closed-stay [] switch has shuts = Contains-nil has
  closed-stay (first ∷ rows) switch has shuts = closed-from rows None first.to.0 switch has shuts

  -- Among some stays is one of a group that is opened so.
  pub record HasOpened (stays : List Stay) (opening : Option Switch) (group : ℕ) : Type 0 where
    pub stay : Stay
    pub has : Contains stays stay
    pub opening_is : stay.opening ≡ opening
    pub in_group : group ≡ stay.group

  -- Each switch behind use case u that opens the connection opens a stay.
  opened-behind : (rows : List SwitchRow) (u : ℕ) (switch : Switch)
      → Contains (switches_from u rows) switch
      → IsTrue (opens groups switch.leaves switch.row.to.0 c)
      → HasOpened (stays_behind groups c u rows) (Some switch) (group_at groups switch.row.to.0)
  opened-behind [] u switch has is = Contains-nil has
  opened-behind (row ∷ rows) u switch has is =
      let v = row.to.0 in
      let first = switch_of u row in
      let later = stays_behind groups c v rows in
      elim (Contains-cases first (switches_from v rows) switch has) [
        | inl here ↦ record {
          stay = opened groups c (Some first) v rows;
          has = stay_with-here groups c (opens groups u v c) (Some first) v rows later
              (ap (λ (s : Switch). opens groups s.leaves s.row.to.0 c) here ∙ is);
          opening_is = ap (λ (s : Switch). Some s) here;
          in_group = ap (λ (s : Switch). group_at groups s.row.to.0) (sym here);
        }
        | inr there ↦
            let rest = opened-behind rows v switch there is in
            record {
              stay = rest.stay;
              has = stay_with-there groups c (opens groups u v c) (Some first) v rows later rest.stay
                  rest.has;
              opening_is = rest.opening_is;
              in_group = rest.in_group;
            }
      ]

  pub opened-stay : (rows : List SwitchRow) (switch : Switch)
      → Contains (later_switches rows) switch
      → IsTrue (opens groups switch.leaves switch.row.to.0 c)
      → HasOpened (stays_of groups c rows) (Some switch) (group_at groups switch.row.to.0)
  opened-stay [] switch has is = Contains-nil has
  opened-stay (first ∷ rows) switch has is =
      let u = first.to.0 in
      let one = opened-behind rows u switch has is in
      record {
        stay = one.stay;
        has = stay_with-there groups c (has_at groups u c) None u rows (stays_behind groups c u rows)
            one.stay one.has;
        opening_is = one.opening_is;
        in_group = one.in_group;
      }

  -- And the use case that is loaded does.
  pub loaded-stay : (rows : List SwitchRow) → is_first_at_zero rows ≡ Ok tt
      → IsTrue (has_at groups (loaded_use rows) c)
      → HasOpened (stays_of groups c rows) None (group_at groups (loaded_use rows))
  loaded-stay [] some has = absurd (cc some)
  loaded-stay (first ∷ rows) some has =
      let u = first.to.0 in
      record {
        stay = opened groups c None u rows;
        has = stay_with-here groups c (has_at groups u c) None u rows (stays_behind groups c u rows) has;
        opening_is = refl;
        in_group = refl;
      }

-- Sessions go one after the other, so those that go before a cycle come first.
use Rattle.std.proofs.Common.{◌≡◌, ◌≤◌, ◌++◌, ℕ, All, Bool, List, [], ◌∷◌, Option, Some, None, ap}
use Rattle.std.proofs.Common.{arith, filter, inl, inr, length, refl, take, slice_get, zero, suc}
use Rattle.std.proofs.Common.{◌<◌, Ok, flat_map, nat_lt, le-ltb, lt-ltb}
use Rattle.std.proofs.lemmas.Option.{same_Some}
use Rattle.std.proofs.lemmas.Bool.{cases_lt}
use Rattle.std.proofs.lemmas.List.Elements.{All-append, All-cons, All-head, All-map, All-nil}
use Rattle.std.proofs.lemmas.List.Elements.{All-tail, All-weaker}
use Rattle.std.specs.List.{range_with_len, Sorted.IsNonDecreasingBy}
use Rattle.aeth_base.proofs.Members.{All-slice_get}
use Rattle.aeth_base.specs.declared.ids.Side.TheVariants.{Back, Fwd}
use Rattle.aeth_group.specs.Members.{GroupsData, has_at}
use Rattle.aeth_trace.specs.{Spans.SpanData, Switches.are_apart}
use Rattle.aeth_trace.specs.{declared.switches.SwitchRow.SwitchRow}
use Rattle.aeth_trace.proofs.OrderLemmas.{first_least, later_rise, rise-cons}
use Rattle.aeth_report.specs.Flows.{Run}
use Rattle.aeth_report.specs.Sessions.{Switch, go_by, go_of, opens}
use Rattle.aeth_report.specs.SessionList.{ChannelSession, ConnectionStay, both_of, entered_behind}
use Rattle.aeth_report.specs.SessionList.{entered_with, entered_from, session_list, session_on}
use Rattle.aeth_report.specs.SessionList.{stay_by}
use Rattle.aeth_report.proofs.{SessionMeetings.AreInTime, SessionMeetings.in_time, Stays.switch_of}
use Rattle.aeth_report.proofs.{SessionPairs.both-all}

-- ---- lists whose numbers don't fall

module _ {X : Type 0} (n : X → ℕ) where
  -- Those of one number, before others that aren't less.
  pub rise-level : (level : ℕ) (xs ys : List X) → All (λ x. n x ≡ level) xs
      → All (λ y. level ≤ n y) ys → IsNonDecreasingBy n ys → IsNonDecreasingBy n (xs ++ ys)
  rise-level level [] ys same least rises = rises
  rise-level level (x ∷ xs) ys same least rises =
      let here : n x ≡ level = All-head (λ y. n y ≡ level) x xs same in
      let tail = All-tail (λ y. n y ≡ level) x xs same in
      rise-cons n x (xs ++ ys)
      (All-append (λ y. n x ≤ n y) xs ys
      (All-weaker (λ y. n y ≡ level) (λ y. n x ≤ n y) (λ y is. omega (arith, here, is)) xs tail)
      (All-weaker (λ y. level ≤ n y) (λ y. n x ≤ n y) (λ y le. omega (arith, here, le)) ys least))
      (rise-level level xs ys tail least rises)

  -- Where all are late none is early.
  none-early : (bound : ℕ) (xs : List X) → All (λ y. bound ≤ n y) xs
      → filter (λ x. nat_lt (n x) bound) xs ≡ []
  none-early bound [] late = refl
  none-early bound (x ∷ xs) late =
      rw (le-ltb (n x) bound (All-head (λ y. bound ≤ n y) x xs late))
      (none-early bound xs (All-tail (λ y. bound ≤ n y) x xs late))

  -- Those below a bound come first.
  pub early-first : (bound : ℕ) (xs : List X) → IsNonDecreasingBy n xs
      → filter (λ x. nat_lt (n x) bound) xs
      ≡ take (length (filter (λ x. nat_lt (n x) bound) xs)) xs
  early-first bound [] rises = refl
  early-first bound (x ∷ xs) rises = elim (cases_lt (n x) bound) [
    | inl less ↦ rw (lt-ltb (n x) bound less)
        (ap (λ (ys : List X). x ∷ ys) (early-first bound xs (later_rise n x xs rises)))
    | inr most ↦
        let none = none-early bound xs (All-weaker (λ y. n x ≤ n y) (λ y. bound ≤ n y)
        (λ y le. omega (arith, most, le)) xs (first_least n x xs rises)) in
        rw (le-ltb (n x) bound (omega (arith, most)), none) refl
  ]

  -- And among these is each that is below it.
  pub early-within : (bound : ℕ) (xs : List X) (k : ℕ) (x : X) → IsNonDecreasingBy n xs
      → slice_get xs k ≡ Some x → n x < bound → k < length (filter (λ y. nat_lt (n y) bound) xs)
  early-within bound [] k x rises at less = absurd (cc at)
  early-within bound (y ∷ ys) zero x rises at less =
      let same : n y ≡ n x = ap n (same_Some y x at) in
      rw (lt-ltb (n y) bound (omega (arith, same, less))) (omega arith)
  early-within bound (y ∷ ys) (suc k) x rises at less =
      let least = All-slice_get (λ z. n y ≤ n z) ys k x (first_least n y ys rises) at in
      let rest = early-within bound ys k x (later_rise n y ys rises) at less in
      rw (lt-ltb (n y) bound (omega (arith, least, less))) (omega (arith, rest))

module _ (groups : GroupsData) (spans : SpanData) where
  abbrev gone : ConnectionStay → ℕ
  gone one = go_of spans one.stay.opening

  abbrev went : ChannelSession → ℕ
  went session = go_of spans session.stay.opening

  -- Those that come with a use case go together, before later ones.
  joined-rise : (comes : ℕ → Bool) (opening : Option Switch) (u : ℕ) (rows : List SwitchRow)
      (later : List ConnectionStay) → All (λ one. go_of spans opening ≤ gone one) later
      → IsNonDecreasingBy gone later
      → All (λ one. go_of spans opening ≤ gone one)
      (entered_with groups comes opening u rows ++ later)
      × IsNonDecreasingBy gone (entered_with groups comes opening u rows ++ later)
  joined-rise comes opening u rows later least rises =
      let now = entered_with groups comes opening u rows in
      let same = All-map (λ one. gone one ≡ go_of spans opening) (stay_by groups opening u rows)
      (filter comes (range_with_len 0 groups.connections)) (λ k d within. refl) in (
        All-append (λ one. go_of spans opening ≤ gone one) now later
            (All-weaker (λ one. gone one ≡ go_of spans opening)
            (λ one. go_of spans opening ≤ gone one) (λ one is. omega (arith, is)) now same) least,
        rise-level gone (go_of spans opening) now later same least rises,
      )

  behind-rises : (u low : ℕ) (rows : List SwitchRow) → AreInTime spans u low rows
      → All (λ one. low ≤ gone one) (entered_behind groups u rows)
      × IsNonDecreasingBy gone (entered_behind groups u rows)
  behind-rises u low [] times =
      (All-nil (λ one. low ≤ gone one), λ i j d le within. absurd (omega (arith, within)))
  behind-rises u low (row ∷ rows) times =
      let v = row.to.0 in
      let goes = go_by spans (switch_of u row) in
      let first = times.0 in
      let later = behind-rises v goes rows times.1 in
      let all = joined-rise (opens groups u v) (Some (switch_of u row)) v rows
      (entered_behind groups v rows) later.0 later.1 in (
        All-weaker (λ one. goes ≤ gone one) (λ one. low ≤ gone one)
            (λ one le. omega (arith, le, first)) (entered_behind groups u (row ∷ rows)) all.0,
        all.1,
      )

  from-rises : (rows : List SwitchRow) → are_apart spans rows ≡ Ok tt
      → IsNonDecreasingBy gone (entered_from groups rows)
  from-rises [] apart = λ i j d le within. absurd (omega (arith, within))
  from-rises (first ∷ rows) apart =
      let u = first.to.0 in
      let later = behind-rises u 0 rows (in_time spans u 0 2 rows apart) in
      (joined-rise (has_at groups u) None u rows (entered_behind groups u rows) later.0 later.1).1

  both-rise : (list : List ConnectionStay) → IsNonDecreasingBy gone list
      → IsNonDecreasingBy went (flat_map both_of list)
  both-rise [] rises = λ i j d le within. absurd (omega (arith, within))
  both-rise (one ∷ list) rises =
      let rest = flat_map both_of list in
      let least = both-all (λ other. gone one ≤ gone other) (λ session. gone one ≤ went session)
      (λ other side le. le) list (first_least gone one list rises) in
      rise-cons went (session_on one Fwd) (session_on one Back ∷ rest)
      (All-cons (λ session. gone one ≤ went session) (session_on one Back) rest (omega arith) least)
      (rise-cons went (session_on one Back) rest least
      (both-rise list (later_rise gone one list rises)))

-- The sessions of a run go one after the other.
pub sessions-rise : (run : Run) → are_apart run.spans run.switches ≡ Ok tt
    → IsNonDecreasingBy (λ session. go_of run.spans session.stay.opening) (session_list run)
sessions-rise run apart =
    let groups = run.design.groups in
    both-rise groups run.spans (entered_from groups run.switches)
    (from-rises groups run.spans run.switches apart)

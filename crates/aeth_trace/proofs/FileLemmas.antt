-- What holds of the rows of a file that keeps the rules.
use Rattle.std.proofs.Common.{◌≡◌, ◌<◌, ◌≤◌, ℕ, List, [], ◌∷◌, Ok, length, map, refl, subst, sym}
use Rattle.std.proofs.Common.{arith}
use Rattle.std.proofs.lemmas.{Bool.Decides.nat_tests, List.Elements.All-weaker}
use Rattle.aeth_app.specs.App.{AppData}
use Rattle.aeth_base.specs.Limits.{max_cycles}
use Rattle.aeth_document.proofs.ChainLemmas.{bind_ok}
use Rattle.aeth_trace.specs.Limits.{max_pull, max_rows, max_switch_rows}
use Rattle.aeth_trace.specs.Receivers.{AreReceiversOf, heads_receivers, pull_in, receivers_of}
use Rattle.aeth_trace.specs.Rules.{are_few, are_in_order, are_known, table_of}
use Rattle.aeth_trace.specs.Spans.{SpanData}
use Rattle.aeth_trace.specs.Switches.{AreSwitchesOf, are_apart, heads_switches, is_first_at_zero}
use Rattle.aeth_trace.specs.Switches.{switch_in, switches_of, use_names}
use Rattle.aeth_trace.specs.Words.{AreWordsOf, connection_names, heads_words, word_in, words_of}
use Rattle.aeth_trace.specs.declared.{receivers.PullRow.PullRow, switches.SwitchRow.SwitchRow}
use Rattle.aeth_trace.specs.declared.{words.WordRow.WordRow}
use Rattle.aeth_trace.proofs.{KnownLemmas.are_known-All, OrderLemmas.in_order-rises}
use Rattle.aeth_trace.proofs.{ToldLemmas.pull_in-within, ToldLemmas.switch_in-within}
use Rattle.aeth_trace.proofs.{ToldLemmas.table-All, ToldLemmas.word_in-within}
use Rattle.aeth_records.specs.Records.{records_of}

-- Where the rule on their number is kept, rows are few.
pub few : (most rows : ℕ) (kept : Unit {0}) → are_few most rows ≡ Ok kept → rows ≤ most
few most rows kept is = grind (arith, nat_tests)

-- The words of a file that keeps the rules.
pub are_words : (app : AppData) (records : List (List (List ℕ))) (rows : List WordRow)
    (known order small : Unit {0})
    → table_of heads_words (word_in (connection_names app)) records ≡ Ok rows
    → are_known 1 (length app.connections) 1 (map (λ row. row.channel.conn.0) rows) ≡ Ok known
    → are_in_order 0 1 (map (λ row. row.cycle) rows) ≡ Ok order
    → are_few max_rows (length rows) ≡ Ok small → AreWordsOf app rows
are_words app records rows known order small told names cycles count = record {
  few = few max_rows (length rows) small count;
  known = are_known-All (λ (row : WordRow). row.channel.conn.0) 1 (length app.connections) 1 rows
      known names;
  order = (in_order-rises (λ (row : WordRow). row.cycle) 0 1 rows order cycles).1;
  cycles = table-All heads_words (word_in (connection_names app))
      (λ row. row.cycle ≤ max_cycles) (word_in-within (connection_names app)) records rows told;
}

-- The numbers of a receiver's row, and of a switch, are within their limits.
abbrev IsSmallPull : PullRow → Type 0
IsSmallPull row = (row.cycle ≤ max_cycles) × (row.pull ≤ max_pull)

abbrev IsSmallSwitch : SwitchRow → Type 0
IsSmallSwitch row = (row.cycle ≤ max_cycles) × (row.drain ≤ max_cycles)

-- The receivers' rows of a file that keeps the rules.
pub are_receivers : (app : AppData) (records : List (List (List ℕ))) (rows : List PullRow)
    (known order small : Unit {0})
    → table_of heads_receivers (pull_in (connection_names app)) records ≡ Ok rows
    → are_known 1 (length app.connections) 1 (map (λ row. row.channel.conn.0) rows) ≡ Ok known
    → are_in_order 0 1 (map (λ row. row.cycle) rows) ≡ Ok order
    → are_few max_rows (length rows) ≡ Ok small → AreReceiversOf app rows
are_receivers app records rows known order small told names cycles count =
    let within = table-All heads_receivers (pull_in (connection_names app)) IsSmallPull
    (pull_in-within (connection_names app)) records rows told in
    record {
      few = few max_rows (length rows) small count;
      known = are_known-All (λ (row : PullRow). row.channel.conn.0) 1 (length app.connections) 1
          rows known names;
      order = (in_order-rises (λ (row : PullRow). row.cycle) 0 1 rows order cycles).1;
      cycles = All-weaker IsSmallPull (λ row. row.cycle ≤ max_cycles) (λ row both. both.0) rows
          within;
      pulls = All-weaker IsSmallPull (λ row. row.pull ≤ max_pull) (λ row both. both.1) rows
          within;
    }

-- The switches of a file that keeps the rules.
pub are_switches : (app : AppData) (spans : SpanData) (records : List (List (List ℕ)))
    (rows : List SwitchRow) (known order parted small begun : Unit {0})
    → table_of heads_switches (switch_in (use_names app)) records ≡ Ok rows
    → are_known 2 (length app.uses) 1 (map (λ row. row.to.0) rows) ≡ Ok known
    → are_in_order 0 1 (map (λ row. row.cycle) rows) ≡ Ok order
    → are_apart spans rows ≡ Ok parted → are_few max_switch_rows (length rows) ≡ Ok small
    → is_first_at_zero rows ≡ Ok begun → AreSwitchesOf app spans rows
are_switches app spans records rows known order parted small begun told names cycles apart count
    first =
    let within = table-All heads_switches (switch_in (use_names app)) IsSmallSwitch
    (switch_in-within (use_names app)) records rows told in
    record {
      few = few max_switch_rows (length rows) small count;
      known = are_known-All (λ (row : SwitchRow). row.to.0) 2 (length app.uses) 1 rows known names;
      order = (in_order-rises (λ (row : SwitchRow). row.cycle) 0 1 rows order cycles).1;
      cycles = All-weaker IsSmallSwitch (λ row. row.cycle ≤ max_cycles) (λ row both. both.0)
          rows within;
      drains = All-weaker IsSmallSwitch (λ row. row.drain ≤ max_cycles) (λ row both. both.1)
          rows within;
      apart = apart;
      first = first;
    }

-- ---- from a file's bytes

-- The words that a file's bytes tell are those of one that was read with the application.
pub words_of-kept : (app : AppData) (bytes : List ℕ) (rows : List WordRow)
    → words_of app bytes ≡ Ok rows → AreWordsOf app rows
unfolding words_of
words_of-kept app bytes rows is =
    let (told, table, names) = bind_ok (table_of heads_words (word_in (connection_names app))
    (records_of bytes)) _ rows is in
    let (known, are_known_now, cycles) = bind_ok (are_known 1 (length app.connections) 1
    (map (λ row. row.channel.conn.0) told)) _ rows names in
    let (order, in_order_now, count) = bind_ok (are_in_order 0 1 (map (λ row. row.cycle) told)) _
    rows cycles in
    let (small, few_now, same) = bind_ok (are_few max_rows (length told)) _ rows count in
    let are : told ≡ rows = cc same in
    subst (AreWordsOf app) are
    (are_words app (records_of bytes) told known order small table are_known_now in_order_now
    few_now)

-- The same of receivers' rows.
pub receivers_of-kept : (app : AppData) (bytes : List ℕ) (rows : List PullRow)
    → receivers_of app bytes ≡ Ok rows → AreReceiversOf app rows
unfolding receivers_of
receivers_of-kept app bytes rows is =
    let (told, table, names) = bind_ok (table_of heads_receivers (pull_in (connection_names app))
    (records_of bytes)) _ rows is in
    let (known, are_known_now, cycles) = bind_ok (are_known 1 (length app.connections) 1
    (map (λ row. row.channel.conn.0) told)) _ rows names in
    let (order, in_order_now, count) = bind_ok (are_in_order 0 1 (map (λ row. row.cycle) told)) _
    rows cycles in
    let (small, few_now, same) = bind_ok (are_few max_rows (length told)) _ rows count in
    let are : told ≡ rows = cc same in
    subst (AreReceiversOf app) are
    (are_receivers app (records_of bytes) told known order small table are_known_now in_order_now
    few_now)

-- The same of switches.
pub switches_of-kept : (app : AppData) (spans : SpanData) (bytes : List ℕ) (rows : List SwitchRow)
    → switches_of app spans bytes ≡ Ok rows → AreSwitchesOf app spans rows
unfolding switches_of
switches_of-kept app spans bytes rows is =
    let (told, table, names) = bind_ok (table_of heads_switches (switch_in (use_names app))
    (records_of bytes)) _ rows is in
    let (known, are_known_now, cycles) = bind_ok (are_known 2 (length app.uses) 1
    (map (λ row. row.to.0) told)) _ rows names in
    let (order, in_order_now, parted) = bind_ok (are_in_order 0 1 (map (λ row. row.cycle) told)) _
    rows cycles in
    let (apart, apart_now, count) = bind_ok (are_apart spans told) _ rows parted in
    let (small, few_now, begun) = bind_ok (are_few max_switch_rows (length told)) _ rows count in
    let (first, first_now, same) = bind_ok (is_first_at_zero told) _ rows begun in
    let are : told ≡ rows = cc same in
    subst (AreSwitchesOf app spans) are
    (are_switches app spans (records_of bytes) told known order apart small first table
    are_known_now in_order_now apart_now few_now first_now)

-- Without a second row none is too early.
apart-alone : (spans : SpanData) (rows : List SwitchRow) → length rows < 2
    → are_apart spans rows ≡ Ok tt
apart-alone spans [] short = refl
apart-alone spans (first ∷ []) short = refl
apart-alone spans (first ∷ row ∷ rows) short = absurd (omega arith)

-- Where no switch follows the first, a file tells the same whatever the spans.
pub switches_of-alone : (app : AppData) (spans other : SpanData) (bytes : List ℕ)
    (rows : List SwitchRow) → switches_of app spans bytes ≡ Ok rows → length rows < 2
    → switches_of app other bytes ≡ Ok rows
unfolding switches_of
switches_of-alone app spans other bytes rows is short =
    let (told, table, names) = bind_ok (table_of heads_switches (switch_in (use_names app))
    (records_of bytes)) _ rows is in
    let (known, are_known_now, cycles) = bind_ok (are_known 2 (length app.uses) 1
    (map (λ row. row.to.0) told)) _ rows names in
    let (order, in_order_now, parted) = bind_ok (are_in_order 0 1 (map (λ row. row.cycle) told)) _
    rows cycles in
    let (apart, apart_now, count) = bind_ok (are_apart spans told) _ rows parted in
    let (small, few_now, begun) = bind_ok (are_few max_switch_rows (length told)) _ rows count in
    let (first, first_now, same) = bind_ok (is_first_at_zero told) _ rows begun in
    let are : told ≡ rows = cc same in
    let alone =
    apart-alone other told (subst (λ (list : List SwitchRow). length list < 2) (sym are) short) in
    rw (table, are_known_now, in_order_now, alone, few_now, first_now, are) refl

-- The shapes of a chain's channels in the tables of a use case.
use Rattle.std.proofs.Common.{◌≡◌, ◌∙◌, ◌<◌, ◌+◌, ◌-◌, ℕ, zero, suc, true, List, [], ◌∷◌, Contains}
use Rattle.std.proofs.Common.{Option, Some, None, cond, length, map, slice_get, get_or, refl, sym}
use Rattle.std.proofs.Common.{◌++◌, ap, subst, take, inl, inr, arith, option_map, lt-ltb}
use Rattle.std.proofs.lemmas.Bool.{both_ways, cases_lt}
use Rattle.std.proofs.lemmas.List.{length-map, take_more, Elements.filter_map-append}
use Rattle.std.proofs.lemmas.List.{Sums.fails_before_first, Sums.passes_at_first}
use Rattle.std.proofs.lemmas.Option.{get_or_from_slice_get, same_Some, slice_get-get_or}
use Rattle.std.proofs.lemmas.Option.{slice_get-map, slice_get_within}
use Rattle.std.specs.List.{cons_option, filter_map, position_or_len, range_with_len}
use Rattle.std.specs.Option.{option_and_then}
use Rattle.aeth_base.{specs.declared.ids.Channel.Channel, specs.declared.ids.UseId.UseId}
use Rattle.aeth_base.{specs.Sides.channels_with, proofs.Lists.item-at, proofs.Lists.map-slice_get}
use Rattle.aeth_base.{proofs.Members.All-slice_get, proofs.Members.Contains-filter}
use Rattle.aeth_base.{proofs.Members.Contains-flat_map, proofs.Members.slice_get-Contains}
use Rattle.aeth_base.{proofs.Ranges.Contains-range, proofs.SideLemmas.own-channel}
use Rattle.aeth_slots.specs.SlotSet.{Slots}
use Rattle.aeth_server.specs.{ChannelShape.IsShapeInRange, declared.shape.ChannelShape.ChannelShape}
use Rattle.aeth_chip.specs.Chip.{ChipData}
use Rattle.aeth_app.specs.App.{AppData, has_connection}
use Rattle.aeth_group.specs.Members.{groups_of, has_at}
use Rattle.aeth_group.proofs.MemberLemmas.{connections-groups_of, has_at-groups_of}
use Rattle.aeth_plan.specs.Plan.{PlanData}
use Rattle.aeth_ni.specs.declared.row.ChannelRow.{ChannelRow}
use Rattle.aeth_trace.specs.Channels.{is_channel}
use Rattle.aeth_report.proofs.ChannelLemmas.{is_channel-itself, same_channel}
use Rattle.aeth_tables.specs.{Granted.channels_of, Promises.KeepPromises, TableText.IsRowOf}
use Rattle.aeth_tables.specs.{Tables.TablesData, Tables.tables_of}
use Rattle.aeth_chain.specs.{Chain.IsChain, ChainInputs.IsShapeIn}
use Rattle.aeth_chain.specs.{declared.item.ChainItem.ChainItem, ChainItems.AreItemsOf}
use Rattle.aeth_chain.specs.{Shapes.AreShapesIn, Shapes.shape_in, Shapes.shapes_in}
use Rattle.aeth_chain.proofs.WorkLemmas.{works-inner, works-last, works-some}

-- ---- lists

-- The values of a list each element of which has one.
record Mapped {X Y : Type 0} (told : X → Option Y) (xs : List X) : Type 0 where
  count : length (filter_map told xs) ≡ length xs
  each : (i : ℕ) (x : X) (y : Y) → slice_get xs i ≡ Some x
      → slice_get (filter_map told xs) i ≡ Some y → told x ≡ Some y

mapped : {X Y : Type 0} (told : X → Option Y) (xs : List X)
    → ((i : ℕ) (x : X) → slice_get xs i ≡ Some x → (y : Y) × (told x ≡ Some y)) → Mapped told xs
mapped told [] all = record {
  count = refl;
  each = λ i x y at beside. cc;
}
mapped {X} {Y} told (first ∷ xs) all =
    let (value, is) = all 0 first refl in
    let rest = mapped told xs (λ i x at. all (suc i) x at) in
    let head : filter_map told (first ∷ xs) ≡ value ∷ filter_map told xs = rw is refl in
    record {
      count = ap length head ∙ ap suc rest.count;
      each = elim [
        | zero ↦ λ x y at beside.
            let same : first ≡ x = same_Some first x at in
            let own : value ≡ y =
            same_Some value y (subst (λ ys. slice_get ys 0 ≡ Some y) head beside) in
            ap told (sym same) ∙ is ∙ ap (λ z. Some z) own
        | suc i ↦ λ x y at beside.
            rest.each i x y at (subst (λ ys. slice_get ys (suc i) ≡ Some y) head beside)
      ];
    }

-- One more element, with its value where it has one.
pub filter_map-more : {X Y : Type 0} (told : X → Option Y) (xs : List X) (i : ℕ) (d : X)
    → i < length xs → filter_map told (take (i + 1) xs)
    ≡ filter_map told (take i xs) ++ cons_option (told (get_or xs i d)) []
filter_map-more told xs i d within =
    ap (filter_map told) (take_more xs i d within)
    ∙ filter_map-append told (take i xs) (get_or xs i d ∷ [])

-- ---- one channel

module _ (chip : ChipData) (app : AppData) (plan : PlanData) (u : UseId) (tables : TablesData)
    (use_is : tables.uses ≡ u) (keep : KeepPromises chip app plan tables)
    (use_case : u.0 < length app.uses) where
  -- What is found of a channel's shape: it is beside a row of the channel.
  record IsFound (channel : Channel) (shape : ChannelShape) : Type 0 where
    is : shape_in tables channel ≡ Some shape
    beside : IsShapeIn tables channel shape

  -- A channel of the use case has a row.
  has-row : (channel : Channel) → channel.conn.0 < length app.connections
      → has_connection app.uses u.0 channel.conn.0 ≡ true
      → (i : ℕ) × (row : ChannelRow) × (slice_get tables.rows i ≡ Some row)
      × (row.channel ≡ channel)
  has-row channel known used =
      let groups = groups_of app in
      let count = connections-groups_of app in
      let has : has_at groups u.0 channel.conn.0 ≡ true =
      has_at-groups_of app u.0 channel.conn.0 use_case known ∙ used in
      let numbers = range_with_len 0 groups.connections in
      let listed : Contains (channels_of groups u.0) channel =
      Contains-flat_map channels_with _ channel.conn.0 channel
      (Contains-filter (has_at groups u.0) numbers channel.conn.0
      (Contains-range 0 groups.connections channel.conn.0 (omega arith) (omega arith)) has)
      (own-channel channel) in
      let (i, at) = slice_get-Contains (channels_of groups u.0) channel listed in
      let told : map (λ (row : ChannelRow). row.channel) tables.rows ≡ channels_of groups u.0 =
      keep.channels ∙ ap (λ (one : UseId). channels_of groups one.0) use_is in
      let (row, there, same) = map-slice_get (λ (row : ChannelRow). row.channel) tables.rows i
      channel (ap (λ xs. slice_get xs i) told ∙ at) in
      (i, row, there, same)

  -- A channel with a row has a shape.
  found-at : (channel : Channel) (i : ℕ) (row : ChannelRow) → slice_get tables.rows i ≡ Some row
      → row.channel ≡ channel → (shape : ChannelShape) × IsFound channel shape
  found-at channel i row at same =
      let test = λ (one : ChannelRow). is_channel channel one.channel in
      let first = position_or_len test tables.rows in
      let within = slice_get_within tables.rows i row at in
      let passes : test (get_or tables.rows i row) ≡ true =
      ap test (get_or_from_slice_get tables.rows i row row at)
      ∙ ap (is_channel channel) same ∙ is_channel-itself channel in
      let low : first < length tables.rows =
      elim (cases_lt first (length tables.rows)) [
        | inl less ↦ less
        | inr more ↦ absurd (both_ways _
            (fails_before_first test tables.rows i row (omega (arith, more, within))) passes)
      ] in
      let own = get_or tables.rows first row in
      let beside = keep.beside in
      let (shape, shape_is) = item-at tables.shapes first (omega (arith, low, beside)) in (
        shape,
        record {
          is = ap (λ b. option_and_then (slice_get tables.shapes) (cond b (Some first) None))
              (lt-ltb first (length tables.rows) low) ∙ shape_is;
          beside = record {
            place = first;
            row = own;
            row_at = slice_get-get_or tables.rows first row low;
            channel_is = sym (same_channel channel own.channel
                (passes_at_first test tables.rows row low));
            shape_at = shape_is;
          };
        },
      )

  found : (channel : Channel) → channel.conn.0 < length app.connections
      → has_connection app.uses u.0 channel.conn.0 ≡ true
      → (shape : ChannelShape) × IsFound channel shape
  found channel known used =
      let (i, row, at, same) = has-row channel known used in found-at channel i row at same

  -- A shape in the tables is in its range, and has the table's size.
  tabled-size : (channel : Channel) (shape : ChannelShape) → IsShapeIn tables channel shape
      → shape.slots.size ≡ chip.slots
  tabled-size channel shape is =
      ap (λ (slots : Slots). slots.size) (keep.met is.place is.row shape is.row_at is.shape_at).slots
      ∙ (All-slice_get (IsRowOf chip app) tables.rows is.place is.row keep.known is.row_at).size

  tabled-range : (channel : Channel) (shape : ChannelShape) → IsShapeIn tables channel shape
      → IsShapeInRange shape
  tabled-range channel shape is =
      All-slice_get IsShapeInRange tables.shapes is.place shape keep.shapes is.shape_at

  -- ---- a chain

  module _ (items : List ChainItem) (are : AreItemsOf app u.0 items) where
    found-each : Mapped (λ (item : ChainItem). shape_in tables item.channel) items
    found-each = mapped (λ (item : ChainItem). shape_in tables item.channel) items (λ i item at.
        let (shape, is) = found item.channel
        (All-slice_get (λ (one : ChainItem). one.channel.conn.0 < length app.connections) items i
        item are.known at)
        (All-slice_get (λ (one : ChainItem).
        has_connection app.uses u.0 one.channel.conn.0 ≡ true) items i item are.used at) in
        (shape, is.is))

    pub found-shapes : AreShapesIn tables items (shapes_in tables items)
    found-shapes i item shape at beside =
        let known = All-slice_get (λ (one : ChainItem). one.channel.conn.0 < length app.connections)
        items i item are.known at in
        let used = All-slice_get (λ (one : ChainItem).
        has_connection app.uses u.0 one.channel.conn.0 ≡ true) items i item are.used at in
        let (own, is) = found item.channel known used in
        let same : own ≡ shape =
        same_Some own shape (sym is.is ∙ found-each.each i item shape at beside) in
        subst (IsShapeIn tables item.channel) same is.beside

    -- The shape at a place is that of an item.
    own-item : (i : ℕ) (shape : ChannelShape) → slice_get (shapes_in tables items) i ≡ Some shape
        → (item : ChainItem) × IsShapeIn tables item.channel shape
    own-item i shape beside =
        let within = slice_get_within (shapes_in tables items) i shape beside in
        let count = found-each.count in
        let (item, at) = item-at items i (omega (arith, within, count)) in
        (item, found-shapes i item shape at beside)

    abbrev works : List ℕ
    works = map (λ (item : ChainItem). item.work) items

    work-at : (i : ℕ) (item : ChainItem) → slice_get items i ≡ Some item
        → slice_get works i ≡ Some item.work
    work-at i item at =
        slice_get-map (λ (item : ChainItem). item.work) items i
        ∙ ap (option_map (λ (item : ChainItem). item.work)) at

    pub found-chain : IsChain items (shapes_in tables items)
    found-chain = record {
      some = let some = works-some works are.works in
          let size = length-map items (λ (item : ChainItem). item.work) in
          omega (arith, some, size);
      few = are.few;
      beside = found-each.count;
      ranges = λ k d within.
          let at = slice_get-get_or (shapes_in tables items) k d within in
          let (item, is) = own-item k (get_or (shapes_in tables items) k d) at in
          tabled-range item.channel (get_or (shapes_in tables items) k d) is;
      one_size = λ i j a b at beside.
          let (one, is) = own-item i a at in
          let (other, also) = own-item j b beside in
          tabled-size one.channel a is ∙ sym (tabled-size other.channel b also);
      works = λ i item at inner.
          let size = length-map items (λ (item : ChainItem). item.work) in
          works-inner works i item.work are.works (work-at i item at) (omega (arith, size, inner));
      last = λ item at.
          let size = length-map items (λ (item : ChainItem). item.work) in
          let some = works-some works are.works in
          works-last works (length items - 1) item.work are.works
          (work-at (length items - 1) item at) (omega (arith, size, some));
    }

-- The tables of a use case are of it.
pub tables-use : (chip : ChipData) (app : AppData) (plan : PlanData) (u : UseId)
    → (tables_of chip app (groups_of app) plan u).uses ≡ u
unfolding tables_of
tables-use chip app plan u = refl

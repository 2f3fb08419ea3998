-- A word of a chain that is due has landed: with shapes that the tables of an accepted plan have.
use Rattle.std.proofs.Common.{◌≡◌, ℕ, true, List, [], Contains, Some, slice_get, subst, sym, arith}
use Rattle.std.proofs.Common.{All, None}
use Rattle.std.proofs.lemmas.Option.{slice_get_within}
use Rattle.aeth_accepted.specs.Inputs.{AreAccepted, Inputs, run_of}
use Rattle.aeth_base.specs.declared.ids.{Channel.Channel, Side.TheVariants.Fwd, UseId.UseId}
use Rattle.aeth_base.proofs.{Lists.item-at, Members.Contains-here}
use Rattle.aeth_group.specs.Members.{group_at, groups_of, has_at}
use Rattle.aeth_report.specs.{Flows.server_of, Flows.sessions_in, declared.session.Session.Session}
use Rattle.aeth_server.specs.{ChannelShape.shape_of, Shape.IsGranted}
use Rattle.aeth_server.specs.{declared.shape.ChannelShape.ChannelShape}
use Rattle.aeth_tables.proofs.ListLaws.{all_from_places}
use Rattle.aeth_trace.specs.Words.{AreWordsOf}
use Rattle.aeth_chain.specs.{Chain.IsChain, Chain.legs_of, Chain.size_of}
use Rattle.aeth_chain.specs.{ChainBounds.AreDueWordsLanded, ChainInputs.AreTabled, Lanes.AreOffers}
use Rattle.aeth_chain.specs.{declared.item.ChainItem.ChainItem}
use Rattle.aeth_chain.proofs.{AlongLemmas.first-is, AlongLemmas.legs-count, AlongLemmas.legs-lands}
use Rattle.aeth_chain.proofs.{FirstLemmas.first-are, LoggedLemmas.bare, LoggedLemmas.bare-accepted}
use Rattle.aeth_chain.proofs.{LoggedLemmas.item-in_use, ShapeLemmas.chain-legs}

-- What stands for an item where there is none.
abbrev no_item : ChainItem
no_item = record { channel = record { conn = record { 0 = 0 }; side = Fwd }; work = 0 }

-- The channels of sessions of accepted inputs are granted what they ask for.
abbrev pub AreSessionsGranted : Type 0
AreSessionsGranted = (inputs : Inputs) → AreAccepted inputs → (channel : Channel) (session : Session)
    → Contains (sessions_in (run_of inputs) channel.conn.0) session
    → IsGranted (server_of (run_of inputs) channel session).shape

module _ (granted : AreSessionsGranted) (inputs : Inputs) (u : UseId) (items : List ChainItem)
    (shapes : List ChannelShape) (tabled : AreTabled inputs u items shapes)
    (chain : IsChain items shapes) where
  -- The inputs of a run without a cycle.
  abbrev still : Inputs
  still = record inputs { cycles = 0 }

  still-tabled : AreTabled still u items shapes
  still-tabled = record {
    design = tabled.design;
    of_chip = tabled.of_chip;
    use_case = tabled.use_case;
    tabled = tabled.tabled;
  }

  -- These without words and receivers' rows, in this use case throughout.
  abbrev alone : Inputs
  alone = bare still u items shapes still-tabled (omega arith)

  -- The session of a channel of the use case there.
  abbrev only_session : Session
  only_session = record {
    go = 0;
    group = record { 0 = group_at (groups_of inputs.app) u.0 };
    close = None;
  }

  has-session : (c : ℕ) → has_at (groups_of inputs.app) u.0 c ≡ true
      → Contains (sessions_in (run_of alone) c) only_session
  has-session c has = rw has (Contains-here only_session [])

  -- The shape of each item is granted what it asks for.
  item-granted : (i : ℕ) (item : ChainItem) (shape : ChannelShape) → slice_get items i ≡ Some item
      → slice_get shapes i ≡ Some shape → IsGranted (shape_of shape)
  item-granted i item shape at beside =
      let held = item-in_use still u items shapes still-tabled (omega arith) i item shape at beside in
      subst IsGranted (sym held.shape_is)
      (granted alone (bare-accepted still u items shapes still-tabled (omega arith)) item.channel
      only_session (has-session item.channel.conn.0 held.has))

  all-granted : All (λ (shape : ChannelShape). IsGranted (shape_of shape)) shapes
  all-granted = all_from_places (λ (shape : ChannelShape). IsGranted (shape_of shape)) shapes
      (λ i shape beside.
      let same = chain.beside in
      let within = slice_get_within shapes i shape beside in
      let (item, at) = item-at items i (omega arith) in
      item-granted i item shape at beside)

  -- So a word that is due has landed.
  pub due-landed : AreWordsOf inputs.app inputs.words
      → AreDueWordsLanded (legs_of items shapes) inputs.words inputs.pulls inputs.cycles
  due-landed words = λ i t is.
      let first = first-is items shapes no_item inputs.words inputs.cycles chain.some chain.beside in
      let count = legs-count items shapes chain.beside in
      legs-lands inputs.pulls inputs.cycles (size_of (legs_of items shapes)) (legs_of items shapes) _
      (subst (AreOffers inputs.cycles) first
      (first-are inputs.cycles inputs.words _ words.order words.few))
      (chain-legs items shapes chain all-granted) i t is
      (let some = chain.some in omega (arith, count))

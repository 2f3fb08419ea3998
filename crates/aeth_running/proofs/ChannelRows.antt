-- The rows of traces in a cycle, channel by channel: words that are offered, and how receivers take.
use Rattle.std.proofs.Common.{◌≡◌, ◌<◌, ◌∙◌, ◌+◌, ℕ, List, [], ◌∷◌, Option, Some, None, filter}
use Rattle.std.proofs.Common.{fold, length, map, refl, sym, ap, inl, inr, arith, ◌==◌, nat_le}
use Rattle.std.proofs.Common.{nat_lt, unwrap_or, eqb-true, le-leb, le-ltb, lt-ltb}
use Rattle.std.proofs.lemmas.Bool.{cases_lt, lt-leb}
use Rattle.std.proofs.lemmas.List.{length-map, Elements.filter_agree, Folds.fold-map}
use Rattle.std.proofs.lemmas.List.{Sums.fold-append}
use Rattle.std.specs.List.{last_or, Sorted.IsNonDecreasingBy}
use Rattle.aeth_base.specs.declared.ids.Channel.{Channel}
use Rattle.aeth_base.proofs.Filters.{filter-map, filter-swap}
use Rattle.aeth_trace.proofs.OrderLemmas.{rise-filter}
use Rattle.aeth_trace.specs.{Channels.channel_number, Channels.is_channel, Channels.rows_on}
use Rattle.aeth_trace.specs.{Limits.usual_pull, Receivers.pull_at, Receivers.pulls_on}
use Rattle.aeth_trace.specs.{Words.words_on, declared.receivers.PullRow.PullRow}
use Rattle.aeth_trace.specs.{declared.words.WordRow.WordRow}
use Rattle.aeth_accepted.specs.Inputs.{Inputs}
use Rattle.aeth_running.{proofs.ChannelNumbers.numbers-tell, proofs.InOrder.filter-within}
use Rattle.aeth_running.{proofs.InOrder.below-next, specs.Network.offers_in, specs.Network.takes_in}
use Rattle.aeth_stimuli.specs.Stimuli.{Offer, Take, offer_of, stimuli_of, take_of}

-- Of rows within so many cycles those in one, and of these the ones of a channel, are the channel's rows
-- in that cycle.
rows-now : {R : Type 0} (of : R → Channel) (at : R → ℕ) (cycles t : ℕ) → t < cycles
    → (channel : Channel) (rows : List R)
    → filter (λ row. channel_number (of row) == channel_number channel)
    (filter (λ row. at row == t) (filter (λ row. nat_lt (at row) cycles) rows))
    ≡ filter (λ row. at row == t) (rows_on of channel rows)
rows-now {R} of at cycles t early channel rows =
    let own = λ (row : R). channel_number (of row) == channel_number channel in
    let now = λ (row : R). at row == t in
    let within = λ (row : R). nat_lt (at row) cycles in
    ap (λ (some : List R). filter own some) (filter-within now within (λ row is.
    let cycle = eqb-true (at row) t is in
    lt-ltb (at row) cycles (omega (arith, cycle, early))) rows)
    ∙ filter-swap own now rows
    ∙ ap (λ (some : List R). filter now some) (filter_agree own
    (λ (row : R). is_channel channel (of row)) (λ row. numbers-tell channel (of row)) rows)

module _ (inputs : Inputs) (t : ℕ) (early : t < inputs.cycles) (channel : Channel) where
  -- As many words are offered to a channel in a cycle as it has in that cycle.
  pub offers-now : length (filter (λ offer. offer.number == channel_number channel)
      (offers_in (stimuli_of inputs) t))
      ≡ length (filter (λ cycle. cycle == t) (map (λ row. row.cycle) (words_on inputs.words channel)))
  offers-now =
      let within = filter (λ (row : WordRow). nat_lt row.cycle inputs.cycles) inputs.words in
      let own = λ (offer : Offer). offer.number == channel_number channel in
      let now = λ (offer : Offer). offer.cycle == t in
      let mine = words_on inputs.words channel in
      let kept = filter (λ (row : WordRow). row.cycle == t) mine in
      ap (λ (offers : List Offer). length (filter own offers)) (filter-map now offer_of within)
      ∙ ap length (filter-map own offer_of (filter (λ (row : WordRow). row.cycle == t) within))
      ∙ ap (λ (rows : List WordRow). length (map offer_of rows))
      (rows-now (λ (row : WordRow). row.channel) (λ (row : WordRow). row.cycle) inputs.cycles t early
      channel inputs.words)
      ∙ length-map kept offer_of
      ∙ sym (length-map kept (λ (row : WordRow). row.cycle))
      ∙ sym (ap length (filter-map (λ (cycle : ℕ). cycle == t) (λ (row : WordRow). row.cycle) mine))

-- What the last of some rows says, from what was said before them.
abbrev pub last_pull : ℕ → List PullRow → ℕ
last_pull pull rows = fold (λ before row. row.pull) pull rows

last-pull : (before : Option ℕ) (rows : List PullRow)
    → unwrap_or (last_or before (map (λ row. row.pull) rows)) usual_pull
    ≡ last_pull (unwrap_or before usual_pull) rows
last-pull before [] = refl
last-pull before (row ∷ rows) = last-pull (Some row.pull) rows

-- What the rows of a channel before a cycle say.
abbrev pub pull_before : Inputs → Channel → ℕ → ℕ
pull_before inputs channel t =
    last_pull usual_pull (filter (λ row. nat_lt row.cycle t) (pulls_on inputs.pulls channel))

up-to : (a t : ℕ) → nat_lt a (t + 1) ≡ nat_le a t
up-to a t = elim (cases_lt t a) [
  | inl late ↦ le-ltb a (t + 1) (omega (arith, late)) ∙ sym (lt-leb a t late)
  | inr soon ↦ lt-ltb a (t + 1) (omega (arith, soon)) ∙ sym (le-leb a t soon)
]

-- Those up to it say what the receiver takes in it.
pub pull-by : (inputs : Inputs) (channel : Channel) (t : ℕ)
    → pull_before inputs channel (t + 1) ≡ pull_at inputs.pulls channel t
pull-by inputs channel t =
    ap (last_pull usual_pull) (filter_agree (λ (row : PullRow). nat_lt row.cycle (t + 1))
    (λ (row : PullRow). nat_le row.cycle t) (λ row. up-to row.cycle t) (pulls_on inputs.pulls channel))
    ∙ sym (last-pull None
    (filter (λ (row : PullRow). nat_le row.cycle t) (pulls_on inputs.pulls channel)))

module _ (inputs : Inputs) (t : ℕ) (early : t < inputs.cycles) (channel : Channel)
    (order : IsNonDecreasingBy (λ row. row.cycle) inputs.pulls) where
  -- The takes of a cycle go on from there.
  pub pull-now : fold (λ before take. take.pull) (pull_before inputs channel t)
      (filter (λ take. take.number == channel_number channel) (takes_in (stimuli_of inputs) t))
      ≡ pull_before inputs channel (t + 1)
  pull-now =
      let within = filter (λ (row : PullRow). nat_lt row.cycle inputs.cycles) inputs.pulls in
      let own = λ (take : Take). take.number == channel_number channel in
      let now = λ (take : Take). take.cycle == t in
      let mine = pulls_on inputs.pulls channel in
      let before = filter (λ (row : PullRow). nat_lt row.cycle t) mine in
      let kept = filter (λ (row : PullRow). row.cycle == t) mine in
      let says = λ (pull : ℕ) (take : Take). take.pull in
      let takes : filter own (takes_in (stimuli_of inputs) t) ≡ map take_of kept =
      ap (filter own) (filter-map now take_of within)
      ∙ filter-map own take_of (filter (λ (row : PullRow). row.cycle == t) within)
      ∙ ap (map take_of) (rows-now (λ (row : PullRow). row.channel) (λ (row : PullRow). row.cycle)
      inputs.cycles t early channel inputs.pulls) in
      let rises = rise-filter (λ (row : PullRow). row.cycle)
      (λ (row : PullRow). is_channel channel row.channel) inputs.pulls order in
      ap (λ (some : List Take). fold says (pull_before inputs channel t) some) takes
      ∙ fold-map says take_of (pull_before inputs channel t) kept
      ∙ sym (fold-append (λ (pull : ℕ) (row : PullRow). row.pull) usual_pull before kept)
      ∙ ap (last_pull usual_pull) (sym (below-next (λ (row : PullRow). row.cycle) t mine rises))

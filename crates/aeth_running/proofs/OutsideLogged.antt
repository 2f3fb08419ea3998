-- The words of a channel that are logged as outside of all its sessions.
use Rattle.std.proofs.Common.{◌≡◌, ◌≤◌, ◌<◌, ◌∙◌, ℕ, zero, suc, ◌+◌, ◌*◌, ◌&&◌, Bool, List, [], ◌∷◌}
use Rattle.std.proofs.Common.{filter, fold, length, not, refl, sym, ap, inl, inr, arith, nat_lt}
use Rattle.std.proofs.Common.{slice_index, slice_set, le-ltb, length-set}
use Rattle.std.proofs.lemmas.Bool.{cases_Bool}
use Rattle.std.proofs.lemmas.List.{get_or-replicate, length-replicate, Sums.length-filter}
use Rattle.std.specs.List.{list_any}
use Rattle.aeth_base.specs.declared.ids.Channel.{Channel}
use Rattle.aeth_trace.specs.{Channels.channel_number, Words.words_on}
use Rattle.aeth_trace.specs.{declared.words.WordRow.WordRow}
use Rattle.aeth_report.specs.{Flows.flows_on, RunLog.is_accepted, RunLog.outside_of}
use Rattle.aeth_accepted.specs.Inputs.{Inputs, run_of}
use Rattle.aeth_running.specs.Network.{first_network, offers_in, outside_with, played, untils_in}
use Rattle.aeth_running.specs.Routing.{Routing}
use Rattle.aeth_running.proofs.Outside.{counted-outside, lost-next, lost_in}
use Rattle.aeth_running.proofs.Played.{outside-first, outside-next}
use Rattle.aeth_stimuli.specs.Stimuli.{Offer, stimuli_of}

-- Counting words leaves as many counts.
pub length-all_outside : (t : ℕ) (untils : List ℕ) (offers : List Offer) (outside : List ℕ)
    → length (fold (outside_with t untils) outside offers) ≡ length outside
length-all_outside t untils [] outside = refl
length-all_outside t untils (offer ∷ offers) outside =
    let own = offer.number in
    let more = slice_index outside own + 1 in
    elim (cases_Bool (nat_lt t (slice_index untils own))) [
      | inl is ↦ rw is (length-all_outside t untils offers outside)
      | inr isnt ↦ rw isnt (length-all_outside t untils offers (slice_set outside own more)
          ∙ length-set outside own more)
    ]

-- No word is offered before the first cycle.
none-early : (takes : WordRow → Bool) (rows : List WordRow)
    → length (filter (λ (row : WordRow). nat_lt row.cycle 0 && not (takes row)) rows) ≡ 0
none-early takes [] = refl
none-early takes (row ∷ rows) = rw (le-ltb row.cycle 0 (omega arith)) (none-early takes rows)

module _ (inputs : Inputs) (routing : Routing) (channel : Channel)
    (within : channel_number channel < 2 * length inputs.app.connections) where
  abbrev untils_at : ℕ → List ℕ
  untils_at t = untils_in (stimuli_of inputs) t (played t (first_network inputs routing)).untils

  abbrev outside_at : ℕ → List ℕ
  outside_at t = (played t (first_network inputs routing)).outside

  -- Whether a session of the channel accepts a word.
  abbrev takes : WordRow → Bool
  takes row = list_any (is_accepted row) (flows_on (run_of inputs) channel)

  length-at : (t : ℕ) → length (outside_at t) ≡ 2 * length inputs.app.connections
  length-at zero = ap length (outside-first inputs routing)
      ∙ length-replicate (2 * length inputs.app.connections) 0
  length-at (suc t) =
      let next : suc t ≡ t + 1 = omega arith in
      ap (λ n. length (outside_at n)) next
      ∙ ap length (outside-next inputs routing t)
      ∙ length-all_outside t (untils_at t) (offers_in (stimuli_of inputs) t) (outside_at t)
      ∙ length-at t

  module _ (accepted_until : (t : ℕ) → t < inputs.cycles → (row : WordRow) → row.cycle ≡ t
      → list_any (is_accepted row) (flows_on (run_of inputs) channel)
      ≡ nat_lt t (slice_index (untils_in (stimuli_of inputs) t (played t (first_network inputs routing)).untils)
      (channel_number channel))) where
    -- Behind t cycles those are counted that were offered by then and taken by none.
    outside-are : (t : ℕ) → t ≤ inputs.cycles
        → slice_index (outside_at t) (channel_number channel)
        ≡ length (filter (λ (row : WordRow). nat_lt row.cycle t && not (takes row))
        (words_on inputs.words channel))
    outside-are zero early =
        let number = channel_number channel in
        ap (λ (list : List ℕ). slice_index list number) (outside-first inputs routing)
        ∙ get_or-replicate (2 * length inputs.app.connections) number 0 0 within
        ∙ sym (none-early takes (words_on inputs.words channel))
    outside-are (suc t) early =
        let number = channel_number channel in
        let next : suc t ≡ t + 1 = omega arith in
        let count = length-at t in
        let until = slice_index (untils_at t) number in
        let before = outside-are t (omega arith) in
        let here = counted-outside t number (untils_at t) (offers_in (stimuli_of inputs) t)
        (outside_at t) (omega arith) in
        let all = lost-next t inputs.cycles until (omega arith) channel takes
        (accepted_until t (omega arith)) inputs.words in
        ap (λ n. slice_index (outside_at n) number) next
        ∙ ap (λ (list : List ℕ). slice_index list number) (outside-next inputs routing t)
        ∙ here
        ∙ ap (λ n. n + lost_in t inputs.cycles until (omega arith) channel takes
        (accepted_until t (omega arith)) inputs.words) before
        ∙ all
        ∙ ap (λ n. length (filter (λ (row : WordRow). nat_lt row.cycle n && not (takes row))
        (words_on inputs.words channel))) (sym next)

    -- So it is at the end of the run.
    pub outside-is : slice_index (played inputs.cycles (first_network inputs routing)).outside
        (channel_number channel)
        ≡ outside_of inputs.cycles (flows_on (run_of inputs) channel) (words_on inputs.words channel)
    outside-is =
        outside-are inputs.cycles (omega arith)
        ∙ length-filter (λ (row : WordRow). nat_lt row.cycle inputs.cycles && not (takes row))
        (words_on inputs.words channel)

-- Each try of an allocation has the grants before the turns of the tries before it.
use Rattle.std.proofs.Common.{◌≡◌, ◌∙◌, ◌≤◌, ◌+◌, ◌++◌, ℕ, zero, suc, List, [], ◌∷◌, Option, None}
use Rattle.std.proofs.Common.{Some, length, refl, sym, ap, subst, arith, get_or, take, All}
use Rattle.std.proofs.Common.{AllPairs, option_and_then, option_map, option_to_list, slice_get}
use Rattle.std.proofs.Common.{append-nil, length-append}
use Rattle.std.proofs.lemmas.List.{take-append-le, Elements.All-push, Elements.filter_map-append}
use Rattle.std.proofs.lemmas.List.{Quantifiers.all_pairs_push}
use Rattle.std.proofs.lemmas.Option.{none-some, same_Some}
use Rattle.std.specs.List.{filter_map, range_with_len}
use Rattle.aeth_base.proofs.Ranges.{range_with_len-more}
use Rattle.aeth_base.specs.declared.ids.Side.{Side, TheVariants.Back, TheVariants.Fwd}
use Rattle.aeth_base.specs.declared.ids.Unit.{Unit as GroupUnit}
use Rattle.aeth_app.specs.{declared.connection.Connection.Connection, App.AppData}
use Rattle.aeth_chip.specs.Chip.{ChipData}
use Rattle.aeth_group.specs.{Members.GroupsData, Members.units_of, declared.grant.Grant.Grant}
use Rattle.aeth_paths.specs.{Trials.TrialData, declared.request.Found.Found}
use Rattle.aeth_alloc.specs.Allocation.{after_turns}
use Rattle.aeth_alloc.specs.Channels.{Design, Reserved, first_for, grant_of, tried, tried_by}
use Rattle.aeth_alloc.specs.Channels.{with_found}
use Rattle.aeth_alloc.specs.Trials.{GoesOn, earlier_count, own_count, refusal_in, trial_after}
use Rattle.aeth_alloc.specs.Trials.{trial_for, trial_in, trial_of, reserved_for, trials_of}
use Rattle.aeth_alloc.specs.Turns.{State, after_turn}
use Rattle.aeth_alloc.specs.declared.outcome.Refused.{Refused}
use Rattle.aeth_alloc.proofs.KeptTryLemmas.{Grow, grow-turn, one-kept}
use Rattle.aeth_alloc.proofs.TurnLemmas.{after_turns-next}

-- ---- one try

-- A try has some grants, and behind them those of its own unit.
pub record IsOwn (grants : List Grant) (trial : TrialData) : Type 0 where
  pub own : List Grant
  pub all : trial.grants ≡ grants ++ own
  pub count : length own ≡ own_count trial.ask.side

-- A channel's try puts one grant behind the others.
abbrev pub OneMore : List Grant → List Grant → Type 0
OneMore old new = (grant : Grant) × (new ≡ old ++ grant ∷ [])

module _ (design : Design) (before new : Reserved) (unit : GroupUnit) (side : Side) where
  more-found : (connection : Connection) (found : Option Found)
      → option_map (with_found before connection unit side) found ≡ Some new
      → OneMore before.book.grants new.book.grants
  more-found connection None granted = absurd (none-some new granted)
  more-found connection (Some found) granted =
      subst (λ (r : Reserved). OneMore before.book.grants r.book.grants) (same_Some _ _ granted)
      (grant_of unit side found, refl)

  more-by : (connection : Option Connection) → tried_by design before unit side connection ≡ Some new
      → OneMore before.book.grants new.book.grants
  more-by None granted = absurd (none-some new granted)
  more-by (Some connection) granted =
      more-found connection (first_for design before connection unit side) granted

  more-tried : tried design before unit side ≡ Some new → OneMore before.book.grants new.book.grants
  unfolding tried
  more-tried granted = more-by (slice_get design.app.connections unit.conn.0) granted

module _ (design : Design) (before : Reserved) (trial : TrialData) where
  own-back : (unit : GroupUnit) (turn : ℕ) (connection : Connection) (reserved : Option Reserved)
      → tried design before unit Fwd ≡ reserved
      → option_map (trial_for design (record { unit = unit; side = Back; turn = turn }) connection)
      reserved ≡ Some trial
      → IsOwn before.book.grants trial
  own-back unit turn connection None at is = absurd (none-some trial is)
  own-back unit turn connection (Some reserved) at is =
      let (grant, more) = more-tried design before reserved unit Fwd at in
      subst (IsOwn before.book.grants) (same_Some _ _ is) (record {
        own = grant ∷ [];
        all = more;
        count = refl;
      })

  own-for : (unit : GroupUnit) (side : Side) (turn : ℕ) (connection : Connection)
      → option_map (trial_for design (record { unit = unit; side = side; turn = turn }) connection)
      (reserved_for design before unit side) ≡ Some trial
      → IsOwn before.book.grants trial
  own-for unit Fwd turn connection is =
      subst (IsOwn before.book.grants) (same_Some _ _ is) (record {
        own = [];
        all = sym (append-nil before.book.grants);
        count = refl;
      })
  own-for unit Back turn connection is =
      own-back unit turn connection (tried design before unit Fwd) refl is

  own-by : (refused : Refused) (connection : Option Connection)
      → option_and_then (λ connection. option_map (trial_for design refused connection)
      (reserved_for design before refused.unit refused.side)) connection ≡ Some trial
      → IsOwn before.book.grants trial
  own-by refused None is = absurd (none-some trial is)
  own-by refused (Some connection) is = own-for refused.unit refused.side refused.turn connection is

  own-of : (refused : Option Refused) → option_and_then (trial_of design before) refused ≡ Some trial
      → IsOwn before.book.grants trial
  own-of None is = absurd (none-some trial is)
  own-of (Some refused) is = own-by refused (slice_get design.app.connections refused.unit.conn.0) is

-- The grants of a trial are those of the state before its turn, and behind them those of its own unit.
own-in : (design : Design) (turn : ℕ) (state : State) (trial : TrialData)
    → trial_in design turn state ≡ Some trial → IsOwn state.reserved.book.grants trial
own-in design turn state trial is =
    own-of design state.reserved trial (refusal_in design turn state) is

-- So many were made before.
own-earlier : (grants : List Grant) (trial : TrialData) → IsOwn grants trial
    → earlier_count trial ≡ length grants
own-earlier grants trial is =
    let sum = length-append grants is.own in
    let size = ap length is.all in
    omega (arith, sum, size, is.count)

-- ---- all tries

-- The grants before a trial's turn stand first among some.
pub record IsFirst (grants : List Grant) (trial : TrialData) : Type 0 where
  pub within : earlier_count trial ≤ length grants
  pub same : take (earlier_count trial) grants ≡ take (earlier_count trial) trial.grants

-- They do among those of the state before the turn.
first-own : (grants : List Grant) (trial : TrialData) → IsOwn grants trial → IsFirst grants trial
first-own grants trial is =
    let count = own-earlier grants trial is in
    let within : earlier_count trial ≤ length grants = omega (arith, count) in
    record {
      within = within;
      same = sym (ap (take (earlier_count trial)) is.all
          ∙ take-append-le (earlier_count trial) grants is.own within);
    }

-- They still do among more.
first-more : (old new : List Grant) (trial : TrialData) → Grow old new → IsFirst old trial
    → IsFirst new trial
first-more old new trial (more, grown) is =
    let sum = length-append old more in
    let size = ap length grown in
    record {
      within = omega (arith, is.within, sum, size);
      same = ap (take (earlier_count trial)) grown
          ∙ take-append-le (earlier_count trial) old more is.within ∙ is.same;
    }

-- A trial of a later turn has them first.
first-goes-on : (grants : List Grant) (a b : TrialData) → IsFirst grants a → IsOwn grants b → GoesOn a b
first-goes-on grants a b first own =
    let count = own-earlier grants b own in
    record {
      more = omega (arith, count, first.within);
      same = ap (take (earlier_count a)) own.all
          ∙ take-append-le (earlier_count a) grants own.own first.within ∙ first.same;
    }

-- What holds of the trials so far.
pub record AreSoFar (grants : List Grant) (trials : List TrialData) : Type 0 where
  pub go_on : AllPairs GoesOn trials
  pub first : All (IsFirst grants) trials

so-far-next : (old new : List Grant) (trials : List TrialData) (trial : Option TrialData)
    → Grow old new → ((one : TrialData) → trial ≡ Some one → IsOwn old one) → AreSoFar old trials
    → AreSoFar new (trials ++ option_to_list trial)
so-far-next old new trials None grow own so_far =
    subst (AreSoFar new) (sym (append-nil trials)) (record {
      go_on = so_far.go_on;
      first = λ k d low. first-more old new (get_or trials k d) grow (so_far.first k d low);
    })
so-far-next old new trials (Some trial) grow own so_far =
    let its : IsOwn old trial = own trial refl in
    record {
      go_on = all_pairs_push GoesOn trials trial so_far.go_on (λ k d low.
          first-goes-on old (get_or trials k d) trial (so_far.first k d low) its);
      first = All-push (IsFirst new) trials trial
          (λ k d low. first-more old new (get_or trials k d) grow (so_far.first k d low))
          (first-more old new trial grow (first-own old trial its));
    }

module _ (design : Design) (groups : GroupsData) where
  abbrev pub grants_after : ℕ → List Grant
  grants_after n = (after_turns design groups n).reserved.book.grants

  abbrev pub trials_after : ℕ → List TrialData
  trials_after n = filter_map (trial_after design groups) (range_with_len 0 n)

  next-trials : (n : ℕ)
      → trials_after (n + 1) ≡ trials_after n ++ option_to_list (trial_after design groups n)
  next-trials n =
      let next : n + 1 ≡ suc n = omega arith in
      let h = trial_after design groups in
      ap trials_after next ∙ ap (filter_map h) (range_with_len-more 0 n n (omega arith))
      ∙ filter_map-append h (range_with_len 0 n) (n ∷ [])
      ∙ ap (λ ts. trials_after n ++ ts) (one-kept h n)

  so-far : (n : ℕ) → AreSoFar (grants_after n) (trials_after n)
  so-far zero = record {
    go_on = λ i j d less low. absurd (omega (arith, less, low));
    first = λ k d low. absurd (omega (arith, low));
  }
  so-far (suc n) =
      let next : n + 1 ≡ suc n = omega arith in
      let state = after_turns design groups n in
      subst (λ m. AreSoFar (grants_after m) (trials_after m)) next
      (subst (AreSoFar (grants_after (n + 1))) (sym (next-trials n))
      (subst (λ (s : State). AreSoFar s.reserved.book.grants
      (trials_after n ++ option_to_list (trial_after design groups n)))
      (sym (after_turns-next design groups n))
      (so-far-next state.reserved.book.grants
      (after_turn design (n + 1) state).reserved.book.grants (trials_after n)
      (trial_after design groups n) (grow-turn design (n + 1) state)
      (own-in design (n + 1) state) (so-far n))))

-- Of two tries of an allocation the later one has the grants before the turn of the other.
pub trials-go-on : (chip : ChipData) (app : AppData) (groups : GroupsData) (prices : List ℕ)
    → AllPairs GoesOn (trials_of chip app groups prices)
unfolding trials_of
trials-go-on chip app groups prices =
    (so-far (record { chip = chip; app = app; prices = prices }) groups (length (units_of groups))).go_on

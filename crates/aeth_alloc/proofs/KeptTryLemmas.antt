-- Grants grow from turn to turn, so that a try that is kept stays the same trial over those of later
-- turns.
use Rattle.std.proofs.Common.{◌≡◌, ◌∙◌, ◌≤◌, ◌+◌, ◌++◌, ℕ, suc, List, [], ◌∷◌, Option, None, Some}
use Rattle.std.proofs.Common.{length, map, refl, sym, ap, subst, arith, IfSome, option_map}
use Rattle.std.proofs.Common.{option_to_list, slice_get, append-nil, append_assoc, length-append}
use Rattle.std.proofs.lemmas.{List.map-append, List.take-append-le, List.Elements.All-append}
use Rattle.std.proofs.lemmas.{List.Elements.filter_map-append, Option.none-some, Option.same_Some}
use Rattle.std.specs.List.{cons_option, filter_map, range_with_len}
use Rattle.aeth_base.proofs.Ranges.{range_with_len-more}
use Rattle.aeth_base.specs.declared.ids.Side.{Side, TheVariants.Back, TheVariants.Fwd}
use Rattle.aeth_base.specs.declared.ids.Unit.{Unit as GroupUnit}
use Rattle.aeth_app.specs.declared.connection.Connection.{Connection}
use Rattle.aeth_group.specs.{Members.GroupsData, Members.units_of, declared.grant.Grant.Grant}
use Rattle.aeth_order.specs.Units.{next_unit}
use Rattle.aeth_paths.specs.{Trials.TrialData, declared.request.Found.Found}
use Rattle.aeth_alloc.specs.Channels.{Design, Reserved, first_for, grant_of, tried, tried_by}
use Rattle.aeth_alloc.specs.Channels.{with_found}
use Rattle.aeth_alloc.specs.Trials.{trial_after, trials_of}
use Rattle.aeth_alloc.specs.Tries.{AreWithin, TryData, trial_over}
use Rattle.aeth_alloc.specs.Turns.{State, after_back, after_fwd, after_turn, after_turn_of}
use Rattle.aeth_alloc.specs.Turns.{unit_tried}

-- ---- grants grow

-- Grants stand behind others.
abbrev pub Grow : List Grant → List Grant → Type 0
Grow old new = (more : List Grant) × (new ≡ old ++ more)

grow-none : (grants : List Grant) → Grow grants grants
grow-none grants = ([], sym (append-nil grants))

grow-on : (old mid new : List Grant) → Grow old mid → Grow mid new → Grow old new
grow-on old mid new (first, one) (second, two) = (
  first ++ second,
  two ∙ ap (λ gs. gs ++ second) one ∙ append_assoc old first second,
)

module _ (design : Design) (before : Reserved) (unit : GroupUnit) (side : Side) (new : Reserved) where
  grow-found : (connection : Connection) (found : Option Found)
      → option_map (with_found before connection unit side) found ≡ Some new
      → Grow before.book.grants new.book.grants
  grow-found connection None granted = absurd (none-some new granted)
  grow-found connection (Some found) granted =
      subst (λ (r : Reserved). Grow before.book.grants r.book.grants) (same_Some _ _ granted)
      (grant_of unit side found ∷ [], refl)

  grow-by : (connection : Option Connection) → tried_by design before unit side connection ≡ Some new
      → Grow before.book.grants new.book.grants
  grow-by None granted = absurd (none-some new granted)
  grow-by (Some connection) granted =
      grow-found connection (first_for design before connection unit side) granted

  -- In a channel's try.
  grow-tried : tried design before unit side ≡ Some new → Grow before.book.grants new.book.grants
  unfolding tried
  grow-tried granted = grow-by (slice_get design.app.connections unit.conn.0) granted

module _ (design : Design) (before : Reserved) (unit : GroupUnit) where
  grow-back : (one : Reserved) (back : Option Reserved) → tried design one unit Back ≡ back
      → Grow before.book.grants one.book.grants
      → Grow before.book.grants (after_back before back).reserved.book.grants
  grow-back one None at first = grow-none before.book.grants
  grow-back one (Some both) at first =
      grow-on before.book.grants one.book.grants both.book.grants first
      (grow-tried design one unit Back both at)

  grow-fwd : (fwd : Option Reserved) → tried design before unit Fwd ≡ fwd
      → Grow before.book.grants (after_fwd design before unit fwd).reserved.book.grants
  grow-fwd None at = grow-none before.book.grants
  grow-fwd (Some one) at =
      grow-back one (tried design one unit Back) refl (grow-tried design before unit Fwd one at)

  -- By a unit.
  grow-unit : Grow before.book.grants (unit_tried design before unit).reserved.book.grants
  grow-unit = grow-fwd (tried design before unit Fwd) refl

grow-next : (design : Design) (turn : ℕ) (state : State) (unit : Option GroupUnit)
    → Grow state.reserved.book.grants (after_turn_of design turn state unit).reserved.book.grants
grow-next design turn state None = grow-none state.reserved.book.grants
grow-next design turn state (Some unit) = grow-unit design state.reserved unit

-- In a turn.
pub grow-turn : (design : Design) (turn : ℕ) (state : State)
    → Grow state.reserved.book.grants (after_turn design turn state).reserved.book.grants
unfolding after_turn
grow-turn design turn state =
    grow-next design turn state (next_unit state.units state.reserved.seats.places)

-- ---- tries that are kept

-- A try is the same trial over more grants.
trial-more : (grants more : List Grant) (one : TryData) → one.before ≤ length grants
    → trial_over (grants ++ more) one ≡ trial_over grants one
trial-more grants more one within =
    ap (λ gs. record {
      ask = one.ask;
      turn = one.turn;
      grants = gs ++ option_to_list one.fwd;
      from = one.from;
      to = one.to;
      crowded = one.crowded;
    }) (take-append-le one.before grants more within)

trials-more : (grants more : List Grant) (tries : List TryData) → AreWithin (length grants) tries
    → map (trial_over (grants ++ more)) tries ≡ map (trial_over grants) tries
trials-more grants more [] within = refl
trials-more grants more (one ∷ tries) within =
    ap (λ t. t ∷ map (trial_over (grants ++ more)) tries)
    (trial-more grants more one (within 0 one (omega arith)))
    ∙ ap (λ ts. trial_over grants one ∷ ts)
    (trials-more grants more tries (λ i d low. within (suc i) d (omega (arith, low))))

-- All are, once there are more grants.
pub tries-kept : (old new : List Grant) (tries : List TryData) → Grow old new
    → AreWithin (length old) tries → map (trial_over new) tries ≡ map (trial_over old) tries
tries-kept old new tries (more, grown) within =
    ap (λ gs. map (trial_over gs) tries) grown ∙ trials-more old more tries within

-- They are within more grants.
within-more : (old new : List Grant) (tries : List TryData) → Grow old new
    → AreWithin (length old) tries → AreWithin (length new) tries
within-more old new tries (more, grown) within i d low =
    let its = within i d low in
    let sum = length-append old more in
    let size = ap length grown in
    omega (arith, its, sum, size)

map-noted : (grants : List Grant) (noted : Option TryData)
    → map (trial_over grants) (option_to_list noted)
    ≡ option_to_list (option_map (trial_over grants) noted)
map-noted grants None = refl
map-noted grants (Some one) = refl

-- What one value comes to.
pub one-kept : {X Y : Type 0} (h : X → Option Y) (x : X) → filter_map h (x ∷ []) ≡ option_to_list (h x)
one-kept {Y = Y} h x =
    let go : (y : Option Y) → cons_option y [] ≡ option_to_list y =
    elim [ None ↦ refl | (Some y) ↦ refl ]
    in go (h x)

-- One turn more.
pub tries-next : (h : ℕ → Option TrialData) (turns : ℕ) (old new : List Grant)
    (tries : List TryData) (noted : Option TryData)
    → map (trial_over old) tries ≡ filter_map h (range_with_len 0 turns) → Grow old new
    → AreWithin (length old) tries → option_map (trial_over new) noted ≡ h turns
    → map (trial_over new) (tries ++ option_to_list noted)
    ≡ filter_map h (range_with_len 0 (turns + 1))
tries-next h turns old new tries noted before grow within now =
    let next : turns + 1 ≡ suc turns = omega arith in
    map-append (trial_over new) tries (option_to_list noted)
    ∙ ap (λ ts. ts ++ map (trial_over new) (option_to_list noted))
    (tries-kept old new tries grow within ∙ before)
    ∙ ap (λ ts. filter_map h (range_with_len 0 turns) ++ ts)
    (map-noted new noted ∙ ap option_to_list now ∙ sym (one-kept h turns))
    ∙ sym (ap (λ n. filter_map h (range_with_len 0 n)) next
    ∙ ap (filter_map h) (range_with_len-more 0 turns turns (omega arith))
    ∙ filter_map-append h (range_with_len 0 turns) (turns ∷ []))

pub within-next : (old new : List Grant) (tries : List TryData) (noted : Option TryData)
    → Grow old new → AreWithin (length old) tries
    → IfSome noted (λ (one : TryData). one.before ≤ length new)
    → AreWithin (length new) (tries ++ option_to_list noted)
within-next old new tries None grow within its =
    subst (AreWithin (length new)) (sym (append-nil tries)) (within-more old new tries grow within)
within-next old new tries (Some one) grow within its =
    All-append (λ (t : TryData). t.before ≤ length new) tries (one ∷ []) (within-more old new tries grow within) (λ i d low.
    let first : i ≡ 0 = omega (arith, low) in
    rw first its)

-- After the last turn these are all trials.
pub all-trials : (design : Design) (groups : GroupsData) (turns : ℕ)
    → turns ≡ length (units_of groups)
    → filter_map (trial_after design groups) (range_with_len 0 turns)
    ≡ trials_of design.chip design.app groups design.prices
unfolding trials_of
all-trials design groups turns last =
    ap (λ n. filter_map (trial_after design groups) (range_with_len 0 n)) last

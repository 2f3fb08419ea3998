-- What the wires of the routed sessions carry is what the links of the run do.
use Rattle.std.proofs.Common.{◌≡◌, ◌⊎◌, ◌<◌, ◌+◌, ◌∙◌, ℕ, suc, false, List, [], ◌∷◌, ◌++◌, Option}
use Rattle.std.proofs.Common.{Some, None, get_or, length, map, slice_get, refl, sym, ap, inl, inr}
use Rattle.std.proofs.Common.{arith, max, option_map, unwrap_or}
use Rattle.std.proofs.lemmas.{Bool.cases_lt, List.Concat.flat_map-cons, List.Folds.flat_map-map}
use Rattle.std.proofs.lemmas.{List.FromFn.get_or-map-range_with_len}
use Rattle.std.proofs.lemmas.{List.FromFn.length-map-range_with_len, List.map-append}
use Rattle.std.proofs.lemmas.{Option.slice_get-get_or, Option.slice_get_past}
use Rattle.std.specs.List.{flat_map, range_with_len}
use Rattle.aeth_base.specs.{Limits.max_path_delay, declared.ids.LinkId.LinkId}
use Rattle.aeth_base.proofs.Lists.{same_list}
use Rattle.aeth_chip.specs.{Chip.IsChip, Paths.delay_of, Wires.wire_at}
use Rattle.aeth_chip.proofs.OffsetLemmas.{delay_of-range}
use Rattle.aeth_report.specs.{Carries.carries as carries_in, Carries.flits_on, Carries.injects}
use Rattle.aeth_report.specs.{Design.grant_at, Flows.Flow, Flows.Run, Flows.flow_of}
use Rattle.aeth_report.specs.{Sessions.Switch, Sessions.close_by, Sessions.go_of, Sound.IsSound}
use Rattle.aeth_report.specs.{declared.session.Close.Close, SessionList.ChannelSession}
use Rattle.aeth_report.specs.{SessionList.session_list, SessionList.flow_by, SessionList.no_session}
use Rattle.aeth_report.proofs.{Places.flat_map-none, GrantLemmas.grant_at-is}
use Rattle.aeth_invariant.specs.Carries.{carries}
use Rattle.aeth_routed_sessions.specs.RoutedSessions.{routed_sessions_over, flow_in}
use Rattle.aeth_routed_sessions.proofs.ApartWires.{past}
use Rattle.aeth_routed_sessions.proofs.CarriedFlits.{all_on_wire, idle, none-early, none-idle}
use Rattle.aeth_routed_sessions.proofs.CarriedFlits.{none-idle_on, same_flits}

-- ---- lists

-- The items of a list by their numbers.
items-numbered : {X : Type 0} (xs : List X) (d : X)
    → map (λ c. get_or xs c d) (range_with_len 0 (length xs)) ≡ xs
items-numbered {X} xs d =
    let f : ℕ → X = λ c. get_or xs c d in
    let all = map f (range_with_len 0 (length xs)) in
    let count = length-map-range_with_len f 0 (length xs) in
    same_list all xs (λ i. elim (cases_lt i (length xs)) [
      | inl less ↦ slice_get-get_or all i d (omega (arith, less, count))
          ∙ ap (λ (x : X). Some x)
          (get_or-map-range_with_len f 0 (length xs) i i d less (omega arith))
          ∙ sym (slice_get-get_or xs i d less)
      | inr past ↦ slice_get_past all i (omega (arith, past, count))
          ∙ sym (slice_get_past xs i past)
    ])

module _ {X A : Type 0} where
  -- What is the same for each item is so for all.
  pub flat_map-same : (f g : X → List A) (xs : List X)
      → ((i : ℕ) (x : X) → slice_get xs i ≡ Some x → f x ≡ g x) → flat_map f xs ≡ flat_map g xs
  flat_map-same f g [] same = refl
  flat_map-same f g (x ∷ xs) same =
      flat_map-cons f x xs
      ∙ (λ q. same 0 x refl q ++ flat_map-same f g xs (λ i y at. same (suc i) y at) q)
      ∙ sym (flat_map-cons g x xs)

-- What is made of all that items give is made of what each gives.
pub map-flat_map : {X A B : Type 0} (h : A → B) (f : X → List A) (xs : List X)
    → map h (flat_map f xs) ≡ flat_map (λ x. map h (f x)) xs
map-flat_map h f [] = refl
map-flat_map {X} {A} {B} h f (x ∷ xs) =
    ap (map h) (flat_map-cons f x xs)
    ∙ map-append h (f x) (flat_map f xs)
    ∙ ap (λ (ys : List B). map h (f x) ++ ys) (map-flat_map h f xs)
    ∙ sym (flat_map-cons (λ y. map h (f y)) x xs)

module _ (run : Run) where
  -- ---- what closing with the run changes

  abbrev closed_with : ChannelSession → Close → Flow
  closed_with p close = flow_of run p.channel (record {
    go = go_of run.spans p.stay.opening;
    group = record { 0 = p.stay.group };
    close = Some close;
  })

  -- How a stay closes in the run.
  abbrev end_of_run : Close
  end_of_run =
      record { until = run.cycles; stop = run.cycles; fin = run.cycles + max_path_delay }

  -- Nothing, or the flow injects nothing either way.
  Alike : Flow → Flow → Type 0
  Alike flow other = (flow ≡ other)
      ⊎ (((u : ℕ) → injects flow u ≡ false) × ((u : ℕ) → injects other u ≡ false))

  alike_by : (p : ChannelSession) (o : Option Switch)
      → Alike (closed_with p (unwrap_or (option_map (close_by run.spans) o) (past run p)))
      (closed_with p (unwrap_or (option_map (close_by run.spans) o) end_of_run))
  unfolding Alike
  alike_by p (Some switch) = inl refl
  alike_by p None =
      let go = go_of run.spans p.stay.opening in
      elim (cases_lt run.cycles go) [
        | inl late ↦
            let most : max run.cycles go ≡ go = omega (arith, late) in
            inr (
              idle (closed_with p (past run p)) (omega (arith, most)),
              idle (closed_with p end_of_run) (omega (arith, late)),
            )
        | inr early ↦
            let most : max run.cycles go ≡ run.cycles = omega (arith, early) in
            inl (λ q. closed_with p (record {
              until = run.cycles;
              stop = most q;
              fin = most q + max_path_delay;
            }))
      ]

  alike : (p : ChannelSession) → Alike (flow_in run p) (flow_by run p)
  alike p = alike_by p p.stay.closing

  -- ---- the flits of all

  module _ (is_chip : IsChip run.design.chip) (sound : IsSound run) (l : LinkId) (k : ℕ)
      (short : k < delay_of run.design.chip.links l) where
    -- A path has the link once.
    once : (p : ChannelSession) (i j : ℕ) → slice_get (flow_in run p).path i ≡ Some l
        → slice_get (flow_in run p).path j ≡ Some l → i ≡ j
    once p i j one two =
        let grant = grant_at run.design p.channel p.stay.group in
        let is = grant_at-is run.design p.channel p.stay.group i l one in
        sound.granted.once grant i j l is.has one two

    same_by : (p : ChannelSession) (t : ℕ) → Alike (flow_in run p) (flow_by run p)
        → all_on_wire run.design.chip.links (flow_in run p)
        (wire_at run.design.chip.links l.0 k) (t + k)
        ≡ flits_on run.design.chip.links l.0 t (flow_by run p)
    unfolding Alike
    same_by p t (inl same) =
        same_flits run.design.chip.links (flow_in run p) l k short (once p) t
        ∙ ap (flits_on run.design.chip.links l.0 t) same
    same_by p t (inr never) =
        none-idle run.design.chip.links (flow_in run p) never.0
        (wire_at run.design.chip.links l.0 k) (t + k)
        ∙ sym (none-idle_on run.design.chip.links (flow_by run p) never.1 l.0 t)

    -- By the sessions in place of their numbers.
    listed : (wire t : ℕ) → carries (routed_sessions_over run) wire t
        ≡ flat_map
        (λ (p : ChannelSession). all_on_wire run.design.chip.links (flow_in run p) wire t)
        (session_list run)
    listed wire t =
        let all = session_list run in
        let on = λ (p : ChannelSession). all_on_wire run.design.chip.links (flow_in run p) wire t in
        let numbers = range_with_len 0 (length all) in
        sym (flat_map-map on (λ (c : ℕ). get_or all c no_session) numbers)
        ∙ ap (flat_map on) (items-numbered all no_session)

    pub carried_behind : (t : ℕ)
        → carries (routed_sessions_over run) (wire_at run.design.chip.links l.0 k) (t + k)
        ≡ carries_in run l.0 t
    carried_behind t =
        let wire = wire_at run.design.chip.links l.0 k in
        listed wire (t + k)
        ∙ flat_map-same
        (λ (p : ChannelSession). all_on_wire run.design.chip.links (flow_in run p) wire (t + k))
        (λ (p : ChannelSession). flits_on run.design.chip.links l.0 t (flow_by run p))
        (session_list run)
        (λ i p at. same_by p t (alike p))
        ∙ sym (flat_map-map (flits_on run.design.chip.links l.0 t) (flow_by run)
        (session_list run))

    pub carried_early : (t : ℕ) → t < k
        → carries (routed_sessions_over run) (wire_at run.design.chip.links l.0 k) t ≡ []
    carried_early t early =
        let wire = wire_at run.design.chip.links l.0 k in
        listed wire t
        ∙ flat_map-none
        (λ (p : ChannelSession). all_on_wire run.design.chip.links (flow_in run p) wire t)
        (session_list run)
        (λ i p at. none-early run.design.chip.links (flow_in run p) l k short t early)

  -- So it is on the first wire of each link.
  pub carried_first : IsChip run.design.chip → IsSound run → (l t : ℕ)
      → l < length run.design.chip.links
      → carries (routed_sessions_over run) l t ≡ carries_in run l t
  carried_first is_chip sound l t known =
      let link : LinkId = record { 0 = l } in
      let delay = (delay_of-range run.design.chip link is_chip known).0 in
      let same : t + 0 ≡ t = omega arith in
      ap (carries (routed_sessions_over run) l) (sym same)
      ∙ carried_behind is_chip sound link 0 (omega (arith, delay)) t

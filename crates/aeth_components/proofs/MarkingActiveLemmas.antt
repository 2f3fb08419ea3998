-- Laws of marks by which channels that wait are marked active.
use Rattle.std.proofs.Common.{ℕ, ◌≡◌, ◌≢◌, ◌≤◌, ◌<◌, ◌+◌, ◌∙◌, ◌||◌, refl, sym, ap, subst, arith}
use Rattle.std.proofs.Common.{inl, inr, Bool, true, false, List, [], ◌∷◌, length, get_or, take}
use Rattle.std.proofs.Common.{Some, slice_get, set, ◌==◌, ◌⊎◌, ne_eqb, length-set}
use Rattle.std.proofs.lemmas.{Bool.cases_Bool, Bool.cases_eq, Bool.cases_lt, List.take_more}
use Rattle.std.proofs.lemmas.{List.Elements.All-set, List.Folds.list_any-append, Option.same_Some}
use Rattle.std.specs.List.{All, list_any}
use Rattle.aeth_base.proofs.Lists.{slice_get-slice_set_other, slice_get-slice_set_same}
use Rattle.aeth_base.specs.Marks.{bit_of, room_of}
use Rattle.aeth_components.specs.declared.channel_state.ChannelEnd.{ChannelEnd}
use Rattle.aeth_components.specs.declared.channel_state.ChannelState.{ChannelState}
use Rattle.aeth_components.specs.declared.enqueuing.Enqueuing.{Enqueuing}
use Rattle.aeth_components.specs.Homes.{home_at, home_count}
use Rattle.aeth_components.specs.ChannelStates.{is_open}
use Rattle.aeth_components.specs.Enqueuing.{HasWaitingPlaces, MarksIdle, MarksActive}

-- From a first place on, up to another, who waited is marked. All else is as it was.
pub record AreMarkedActive (first to : ℕ) (old new : Enqueuing) : Type 0 where
  pub room : room_of new.marks ≡ room_of old.marks
  pub size : room_of new.waiting ≡ room_of old.waiting
  pub numbers : new.numbers ≡ old.numbers
  pub marked : (number : ℕ) → bit_of new.marks number ≡ 0 → bit_of old.marks number ≡ 0
  pub at : (place number : ℕ) → first ≤ place → place < to → bit_of old.waiting place ≡ 1
      → slice_get old.numbers.items place ≡ Some number → bit_of new.marks number ≡ 1
  pub away : (place : ℕ) → (place < first) ⊎ (to ≤ place)
      → bit_of new.waiting place ≡ bit_of old.waiting place

-- Nobody waits at the first places.
pub AreMarkedActive-first : (first to : ℕ) (old : Enqueuing)
    → ((place : ℕ) → first ≤ place → place < to → bit_of old.waiting place ≡ 0)
    → AreMarkedActive first to old old
AreMarkedActive-first first to old none = record {
  room = refl;
  size = refl;
  numbers = refl;
  marked = λ number unmarked. unmarked;
  at = λ place number from below waits at.
      absurd (let no = none place from below in omega (arith, no, waits));
  away = λ place out. refl;
}

-- One more is marked active, and at the places up to the next nobody waits.
pub AreMarkedActive-more : (first place next : ℕ) (old now new : Enqueuing) (number : ℕ)
    → AreMarkedActive first place old now → first ≤ place → place < next
    → slice_get now.numbers.items place ≡ Some number
    → room_of new.marks ≡ room_of now.marks → room_of new.waiting ≡ room_of now.waiting
    → new.numbers ≡ now.numbers
    → bit_of new.marks number ≡ 1
    → ((other : ℕ) → other ≢ number → bit_of new.marks other ≡ bit_of now.marks other)
    → ((other : ℕ) → other ≢ place → bit_of new.waiting other ≡ bit_of now.waiting other)
    → ((other : ℕ) → place + 1 ≤ other → other < next → bit_of new.waiting other ≡ 0)
    → AreMarkedActive first next old new
AreMarkedActive-more first place next old now new number marked_active from before at room size same
    here away
    apart none =
    let still : (other : ℕ) → bit_of now.marks other ≡ 1 → bit_of new.marks other ≡ 1 =
    λ other is. elim (cases_eq other number) [
      | inl own ↦ ap (bit_of new.marks) own ∙ here
      | inr otherwise ↦ away other otherwise ∙ is
    ] in
    record {
      room = room ∙ marked_active.room;
      size = size ∙ marked_active.size;
      numbers = same ∙ marked_active.numbers;
      marked = λ other unmarked. elim (cases_eq other number) [
        | inl own ↦
            absurd (let no = sym (ap (bit_of new.marks) own) ∙ unmarked in omega (arith, no, here))
        | inr otherwise ↦ marked_active.marked other (sym (away other otherwise) ∙ unmarked)
      ];
      at = λ other who since below waits there. elim (cases_eq other place) [
        | inl own ↦
            let is : number ≡ who =
            same_Some number who
            (sym at ∙ ap (λ numbers. slice_get numbers.items place) marked_active.numbers
            ∙ ap (slice_get old.numbers.items) (sym own) ∙ there) in
            ap (bit_of new.marks) (sym is) ∙ here
        | inr otherwise ↦ elim (cases_lt other place) [
          | inl early ↦ still who (marked_active.at other who since early waits there)
          | inr late ↦
              absurd (let no = none other (omega (arith, late, otherwise)) below in
              let kept = apart other otherwise
              ∙ marked_active.away other (inr (omega (arith, late))) in
              omega (arith, no, kept, waits))
        ]
      ];
      away = λ other out.
          apart other (λ own. elim out [
            | inl low ↦ absurd (omega (arith, low, own, from))
            | inr high ↦ absurd (omega (arith, high, own, before))
          ])
          ∙ marked_active.away other
          (elim out [ inl low ↦ inl low | inr high ↦ inr (omega (arith, high, before)) ]);
    }

-- Once all places of an interface are passed, nobody waits there any more.
pub MarksActive-all : (interface first to : ℕ) (old new : Enqueuing)
    → ((end : ChannelEnd) → end.ni.0 ≡ interface
    → (first ≤ home_at end.ni.0 end.queue) × (home_at end.ni.0 end.queue < to))
    → HasWaitingPlaces old → AreMarkedActive first to old new
    → MarksActive (λ other. other ≡ interface) old new
MarksActive-all interface first to old new there places marked_active = record {
  room = marked_active.room;
  places = record {
    waiting = (let room = places.waiting in let size =
        marked_active.size in omega (arith, room, size));
    size = ap (λ numbers. length numbers.items) marked_active.numbers ∙ places.size;
    within = subst (λ n. All (λ number. number < n) new.numbers.items) (sym marked_active.room)
        (subst (λ numbers. All (λ number. number < room_of old.marks) numbers.items)
        (sym marked_active.numbers) places.within);
  };
  marked = marked_active.marked;
  kept = λ number end unmarked waits.
      let place = home_at end.ni.0 end.queue in
      let out : (place < first) ⊎ (to ≤ place) = elim (cases_lt place first) [
        | inl low ↦ inl low
        | inr since ↦ elim (cases_lt place to) [
          | inl below ↦
              absurd (let no =
              marked_active.at place number (omega (arith, since)) below waits.marked waits.at
              in
              omega (arith, no, unmarked))
          | inr high ↦ inr (omega (arith, high))
        ]
      ] in
      record {
        marked = marked_active.away place out ∙ waits.marked;
        at = ap (λ numbers. slice_get numbers.items place) marked_active.numbers ∙ waits.at;
      };
  others = λ number end unmarked waits is.
      let among = there end is in
      let no = marked_active.at (home_at end.ni.0 end.queue) number among.0 among.1 waits.marked
      waits.at in
      absurd (omega (arith, no, unmarked));
}

-- Nobody is marked active yet.
pub MarksActive-none : (Is : ℕ → Type 0) (old : Enqueuing) → HasWaitingPlaces old
    → ((n : ℕ) → Is n → ⊥)
    → MarksActive Is old old
MarksActive-none Is old places none = record {
  room = refl;
  places = places;
  marked = λ number unmarked. unmarked;
  kept = λ number end unmarked waits. waits;
  others = λ number end unmarked waits is. none end.ni.0 is;
}

-- One interface more.
pub MarksActive-more : (Is Was : ℕ → Type 0) (interface : ℕ) (old now new : Enqueuing)
    → MarksActive Was old now
    → MarksActive (λ other. other ≡ interface) now new
    → ((n : ℕ) → Is n → (Was n) ⊎ (n ≡ interface)) → MarksActive Is old new
MarksActive-more Is Was interface old now new before step cases = record {
  room = step.room ∙ before.room;
  places = step.places;
  marked = λ number unmarked. before.marked number (step.marked number unmarked);
  kept = λ number end unmarked waits.
      step.kept number end unmarked (before.kept number end (step.marked number unmarked) waits);
  others = λ number end unmarked waits is. elim (cases end.ni.0 is) [
    | inl was ↦ before.others number end (step.marked number unmarked) waits was
    | inr same ↦
        step.others number end unmarked (before.kept number end (step.marked number unmarked) waits)
        same
  ];
}

-- The same interfaces, otherwise said.
pub MarksActive-same : (Is Was : ℕ → Type 0) (old new : Enqueuing) → ((n : ℕ) → Is n → Was n)
    → MarksActive Was old new → MarksActive Is old new
MarksActive-same Is Was old new also marks_active = record {
  room = marks_active.room;
  places = marks_active.places;
  marked = marks_active.marked;
  kept = marks_active.kept;
  others = λ number end unmarked waits is.
      marks_active.others number end unmarked waits (also end.ni.0 is);
}

-- Who is among one more of some is among those before, or is that one.
pub among-more : {X : Type 0} (f : X → ℕ) (xs : List X) (i : ℕ) (d : X) (n : ℕ) → i < length xs
    → list_any (λ x. f x == n) (take (i + 1) xs) ≡ true
    → (list_any (λ x. f x == n) (take i xs) ≡ true) ⊎ (n ≡ f (get_or xs i d))
among-more {X} f xs i d n within is =
    let test : X → Bool = λ x. f x == n in
    let last = get_or xs i d in
    let whole : (list_any test (take i xs) || (test last || false)) ≡ true =
    sym (ap (list_any test) (take_more xs i d within) ∙ list_any-append test (take i xs) (last ∷ []))
    ∙ is in
    elim (cases_Bool (list_any test (take i xs))) [
      | inl before ↦ inl before
      | inr none ↦ elim (cases_eq (f last) n) [
        | inl same ↦ inr (sym same)
        | inr apart ↦
            absurd (cc (sym (ap (λ b. b || (test last || false)) none
            ∙ ap (λ b. false || (b || false)) (ne_eqb (f last) n apart)) ∙ whole))
      ]
    ]

-- A channel that is unmarked where it waits, at a place where nobody did, or it did itself.
pub MarksIdle-waits : (cycle number place : ℕ) (channel_state : ChannelState) (old new : Enqueuing)
    → HasWaitingPlaces old
    → place ≡ home_at channel_state.sender.ni.0 channel_state.sender.queue → place < home_count
    → is_open channel_state cycle ≡ true → number < room_of old.marks
    → room_of new.marks ≡ room_of old.marks → room_of new.waiting ≡ room_of old.waiting
    → ((other : ℕ) → other ≢ number → bit_of new.marks other ≡ bit_of old.marks other)
    → bit_of new.waiting place ≡ 1
    → ((other : ℕ) → other ≢ place → bit_of new.waiting other ≡ bit_of old.waiting other)
    → new.numbers.items ≡ set old.numbers.items place number
    → (bit_of old.waiting place ≡ 0) ⊎ (slice_get old.numbers.items place ≡ Some number)
    → MarksIdle cycle channel_state number old new
MarksIdle-waits cycle number place channel_state old new places home below opened few room size away
    here apart
    written free =
    let there : slice_get new.numbers.items place ≡ Some number =
    ap (λ (list : List ℕ). slice_get list place) written
    ∙ slice_get-slice_set_same old.numbers.items place number
    (let count = places.size in omega (arith, below, count)) in
    record {
      room = room;
      places = record {
        waiting = (let before = places.waiting in omega (arith, before, size));
        size = ap length written ∙ length-set old.numbers.items place number ∙ places.size;
        within = subst (λ n. All (λ number. number < n) new.numbers.items) (sym room)
            (subst (λ (list : List ℕ). All (λ number. number < room_of old.marks) list) (sym written)
            (All-set (λ number. number < room_of old.marks) old.numbers.items place number few
            places.within));
      };
      own = λ unmarked. inr (
        opened,
        record {
          marked = ap (bit_of new.waiting) (sym home) ∙ here;
          at = ap (slice_get new.numbers.items) (sym home) ∙ there;
        },
      );
      away = away;
      kept = λ other end waits.
          let at = home_at end.ni.0 end.queue in
          elim (cases_eq at place) [
            | inl same ↦
                let who : other ≡ number = elim free [
                  | inl none ↦
                      absurd (let is = sym (ap (bit_of old.waiting) same) ∙ waits.marked in
                      omega (arith, is, none))
                  | inr found ↦
                      same_Some other number
                      (sym waits.at ∙ ap (slice_get old.numbers.items) same ∙ found)
                ] in
                record {
                  marked = ap (bit_of new.waiting) same ∙ here;
                  at = ap (slice_get new.numbers.items) same ∙ there ∙ ap (λ n. Some n) (sym who);
                }
            | inr otherwise ↦ record {
              marked = apart at otherwise ∙ waits.marked;
              at = ap (λ (list : List ℕ). slice_get list at) written
                  ∙ slice_get-slice_set_other old.numbers.items place at number otherwise ∙ waits.at;
            }
          ];
    }

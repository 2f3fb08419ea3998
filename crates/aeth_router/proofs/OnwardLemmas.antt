-- Laws of what comes to wires within a cycle: of what has come to each, of what each carries, of who
-- sent it, and of the notes that are kept of it.
use Rattle.std.proofs.Common.{◌≡◌, ◌≢◌, ◌<◌, ◌≤◌, ◌∙◌, ℕ, zero, suc, refl, sym, ap, inl, inr, arith}
use Rattle.std.proofs.Common.{Option, Some, None, is_some, List, length, length-set, map, replicate}
use Rattle.std.proofs.Common.{unwrap_or, get_or-set_other, get_or-set_same}
use Rattle.std.proofs.lemmas.Bool.{cases_eq, cases_lt}
use Rattle.std.proofs.lemmas.List.{get_or-map, get_or-replicate, get_or_default, get_or_past}
use Rattle.std.proofs.lemmas.List.{length-map, length-replicate, same_lists}
use Rattle.std.proofs.lemmas.List.FromFn.{get_or-map-range_with_len, length-map-range_with_len}
use Rattle.std.proofs.lemmas.Option.{unwrap_or-slice_get}
use Rattle.std.specs.List.{slice_index_or, slice_set}
use Rattle.aeth_base.proofs.Lists.{slice_get-slice_set_other, slice_get-slice_set_same}
use Rattle.aeth_base.specs.Marks.{bit_of}
use Rattle.aeth_clocked.specs.{Wires.flit_on, declared.flit.Flit.Flit}
use Rattle.aeth_clocked.proofs.ClearLemmas.{flit_on-replicate}
use Rattle.aeth_router.specs.Onward.{Arrival, CameFrom, Nothing, One, Several, arrival_at}
use Rattle.aeth_router.specs.Onward.{arrival_of, arrivals_of, arrived, carried}

-- Senders that send nothing change nothing.
pub CameFrom-skip : (sent : ℕ → Option Flit) (from to : ℕ) (arrival : Arrival)
    → CameFrom sent from arrival → from ≤ to
    → ((sender : ℕ) → from ≤ sender → sender < to → sent sender ≡ None) → CameFrom sent to arrival
CameFrom-skip sent from to Nothing came later none =
    λ sender below. elim (cases_lt sender from) [
      | inl early ↦ came sender early
      | inr late ↦ none sender late below
    ]
CameFrom-skip sent from to (One flit) came later none =
    let below = came.1 in (
      came.0,
      omega (arith, below),
      came.2,
      λ other within apart. elim (cases_lt other from) [
        | inl early ↦ came.3 other early apart
        | inr late ↦ none other late within
      ],
    )
CameFrom-skip sent from to Several came later none =
    let below = came.2 in
    let within = came.3 in
    (came.0, came.1, omega (arith, below), omega (arith, within), came.4, came.5, came.6)

-- One sender more, which sends this flit or none.
came-next : (sent : ℕ → Option Flit) (to : ℕ) (flit : Option Flit) (arrival : Arrival)
    → sent to ≡ flit → CameFrom sent to arrival → CameFrom sent (suc to) (arrived flit arrival)
came-next sent to None arrival is came =
    CameFrom-skip sent to (suc to) arrival came (omega arith)
    (λ sender late below. let same : sender ≡ to = omega arith in ap sent same ∙ is)
came-next sent to (Some flit) Nothing is came =
    (to, omega arith, is, λ other below apart. came other (omega arith))
came-next sent to (Some flit) (One first) is came =
    let below = came.1 in (
      came.0,
      to,
      omega (arith, below),
      omega arith,
      (λ same. omega (arith, below, same)),
      ap is_some came.2,
      ap is_some is,
    )
came-next sent to (Some flit) Several is came =
    let below = came.2 in
    let within = came.3 in
    (came.0, came.1, omega (arith, below), omega (arith, within), came.4, came.5, came.6)

-- What one sender more sends comes too.
pub CameFrom-next : (sent : ℕ → Option Flit) (to : ℕ) (arrival : Arrival)
    → CameFrom sent to arrival → CameFrom sent (suc to) (arrived (sent to) arrival)
CameFrom-next sent to arrival came = came-next sent to (sent to) arrival refl came

-- Where nothing has come to any wire, nothing has come to one.
pub arrival_at-none : (count wire : ℕ) → arrival_at (replicate count Nothing) wire ≡ Nothing
arrival_at-none count wire = elim (cases_lt wire count) [
  | inl within ↦ get_or-replicate count wire Nothing Nothing within
  | inr past ↦
      let size = length-replicate {A = Arrival} count Nothing in
      get_or_past (replicate count Nothing) wire Nothing (omega arith)
]

-- A wire carries what has come to it.
pub flit_on-carried : (arrivals : List Arrival) (wire : ℕ) → wire < length arrivals
    → flit_on (map carried arrivals) wire ≡ carried (arrival_at arrivals wire)
flit_on-carried arrivals wire within =
    unwrap_or-slice_get (map carried arrivals) wire None
    ∙ get_or-map carried arrivals wire Nothing None within

-- Something has come to each wire, or nothing.
pub length-arrivals_of : (first : List (Option Flit)) (marks : List ℕ)
    → length (arrivals_of first marks) ≡ length first
length-arrivals_of first marks =
    length-map-range_with_len (λ wire. arrival_of (flit_on first wire) (bit_of marks wire)) 0
    (length first)

-- What has come to one, by what is noted of it.
pub arrival_at-arrivals_of : (first : List (Option Flit)) (marks : List ℕ) (wire : ℕ)
    → wire < length first
    → arrival_at (arrivals_of first marks) wire
    ≡ arrival_of (flit_on first wire) (bit_of marks wire)
arrival_at-arrivals_of first marks wire within =
    get_or-map-range_with_len (λ wire. arrival_of (flit_on first wire) (bit_of marks wire)) 0
    (length first) wire wire Nothing within (omega arith)

-- A wire to which something may come is one of those that are noted.
pub within-first : (first : List (Option Flit)) (marks : List ℕ) (arrivals : List Arrival) (wire : ℕ)
    → arrivals_of first marks ≡ arrivals → wire < length arrivals → wire < length first
within-first first marks arrivals wire same within =
    let size = length-arrivals_of first marks in
    let all = ap (λ (arrivals : List Arrival). length arrivals) same in
    omega arith

-- Lists of one length with the same at each place are equal.
same_at : {X : Type 0} (default : X) (some other : List X) → length some ≡ length other
    → ((place : ℕ) → place < length some
    → slice_index_or some place default ≡ slice_index_or other place default)
    → some ≡ other
same_at default some other size same =
    same_lists some other size
    (λ place any within.
    get_or_default some place any default within ∙ same place within
    ∙ get_or_default other place default any (omega arith))

-- Where no wire has a flit, nothing has come.
pub arrivals_of-none : (count : ℕ) (marks : List ℕ)
    → arrivals_of (replicate count None) marks ≡ replicate count Nothing
arrivals_of-none count marks =
    let first = replicate {A = Option Flit} count None in
    let size = length-replicate {A = Option Flit} count None in
    let wires = length-arrivals_of first marks in
    same_at Nothing (arrivals_of first marks) (replicate count Nothing)
    (wires ∙ size ∙ sym (length-replicate count Nothing))
    (λ wire within.
    arrival_at-arrivals_of first marks wire (omega arith)
    ∙ ap (λ (flit : Option Flit). arrival_of flit (bit_of marks wire)) (flit_on-replicate count wire)
    ∙ sym (arrival_at-none count wire))

-- What has come to one wire changes.
arrivals_of-set : (old new : List (Option Flit)) (before after : List ℕ) (wire : ℕ) (arrival : Arrival)
    → wire < length old → length new ≡ length old
    → arrival_of (flit_on new wire) (bit_of after wire) ≡ arrival
    → ((other : ℕ) → other ≢ wire → arrival_of (flit_on new other) (bit_of after other)
    ≡ arrival_of (flit_on old other) (bit_of before other))
    → arrivals_of new after ≡ slice_set (arrivals_of old before) wire arrival
arrivals_of-set old new before after wire arrival within size here away =
    let was = arrivals_of old before in
    let wires = length-arrivals_of old before in
    let now = length-arrivals_of new after in
    let set = length-set was wire arrival in
    same_at Nothing (arrivals_of new after) (slice_set was wire arrival) (omega arith)
    (λ other below.
    arrival_at-arrivals_of new after other (omega arith)
    ∙ elim (cases_eq other wire) [
      | inl same ↦
          rw same (here ∙ sym (get_or-set_same was wire arrival Nothing (omega arith)))
      | inr apart ↦
          away other apart ∙ sym (arrival_at-arrivals_of old before other (omega arith))
          ∙ sym (get_or-set_other was wire other arrival Nothing apart)
    ])

-- What is put on a wire is there.
pub flit_on-put : (wires : List (Option Flit)) (wire : ℕ) (flit : Option Flit) → wire < length wires
    → flit_on (slice_set wires wire flit) wire ≡ flit
flit_on-put wires wire flit within =
    ap (λ (found : Option (Option Flit)). unwrap_or found None)
    (slice_get-slice_set_same wires wire flit within)

-- Other wires keep what they have.
pub flit_on-apart : (wires : List (Option Flit)) (wire other : ℕ) (flit : Option Flit) → other ≢ wire
    → flit_on (slice_set wires wire flit) other ≡ flit_on wires other
flit_on-apart wires wire other flit apart =
    ap (λ (found : Option (Option Flit)). unwrap_or found None)
    (slice_get-slice_set_other wires wire other flit apart)

-- A first flit comes to a wire.
pub arrivals_of-put : (first : List (Option Flit)) (marks : List ℕ) (wire : ℕ) (flit : Flit)
    → wire < length first → flit_on first wire ≡ None → bit_of marks wire ≡ 0
    → arrivals_of (slice_set first wire (Some flit)) marks
    ≡ slice_set (arrivals_of first marks) wire
    (arrived (Some flit) (arrival_at (arrivals_of first marks) wire))
arrivals_of-put first marks wire flit within empty alone =
    let new = slice_set first wire (Some flit) in
    arrivals_of-set first new marks marks wire
    (arrived (Some flit) (arrival_at (arrivals_of first marks) wire)) within
    (length-set first wire (Some flit))
    (rw (
      flit_on-put first wire (Some flit) within,
      alone,
      arrival_at-arrivals_of first marks wire within,
      empty,
    ) refl)
    (λ other apart.
    ap (λ (flit : Option Flit). arrival_of flit (bit_of marks other))
    (flit_on-apart first wire other (Some flit) apart))

-- Where a flit has come already, another makes several.
several-more : (flit : Flit) (first : Option Flit) (bit : ℕ) → first ≢ None
    → arrival_of first 1 ≡ arrived (Some flit) (arrival_of first bit)
several-more flit None bit some = absurd (some refl)
several-more flit (Some first) zero some = refl
several-more flit (Some first) (suc bit) some = refl

-- A further flit comes to a wire.
pub arrivals_of-mark : (first : List (Option Flit)) (old new : List ℕ) (wire : ℕ) (flit : Flit)
    → wire < length first → flit_on first wire ≢ None → bit_of new wire ≡ 1
    → ((other : ℕ) → other ≢ wire → bit_of new other ≡ bit_of old other)
    → arrivals_of first new
    ≡ slice_set (arrivals_of first old) wire
    (arrived (Some flit) (arrival_at (arrivals_of first old) wire))
arrivals_of-mark first old new wire flit within some here away =
    arrivals_of-set first first old new wire
    (arrived (Some flit) (arrival_at (arrivals_of first old) wire)) within refl
    (rw (here, arrival_at-arrivals_of first old wire within)
    (several-more flit (flit_on first wire) (bit_of old wire) some))
    (λ other apart. ap (arrival_of (flit_on first other)) (away other apart))

-- Wires with just what each wire carries are those that carry what has come.
pub carried-arrivals_of : (first wires : List (Option Flit)) (marks : List ℕ)
    → length wires ≡ length first
    → ((wire : ℕ) → wire < length first
    → flit_on wires wire ≡ carried (arrival_of (flit_on first wire) (bit_of marks wire)))
    → wires ≡ map carried (arrivals_of first marks)
carried-arrivals_of first wires marks size same =
    let arrivals = arrivals_of first marks in
    let count = length-arrivals_of first marks in
    let images = length-map arrivals carried in
    same_at None wires (map carried arrivals) (omega arith)
    (λ wire within.
    sym (unwrap_or-slice_get wires wire None) ∙ same wire (omega arith)
    ∙ ap carried (sym (arrival_at-arrivals_of first marks wire (omega arith)))
    ∙ sym (get_or-map carried arrivals wire Nothing None (omega arith)))

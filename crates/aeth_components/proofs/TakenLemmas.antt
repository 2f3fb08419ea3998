-- Laws of the wires up to one, and of the next one that has a flit.
use Rattle.std.proofs.Common.{ℕ, zero, suc, ◌≡◌, ◌≢◌, ◌+◌, ◌≤◌, ◌<◌, refl, sym, ap, ◌∙◌, arith, inl}
use Rattle.std.proofs.Common.{inr, List, [], ◌∷◌, get_or, length, set, take, Option, Some, None}
use Rattle.std.proofs.Common.{is_some, take_all}
use Rattle.std.proofs.lemmas.{Bool.cases_lt, List.set_past}
use Rattle.aeth_base.proofs.Lists.{count_by-yes}
use Rattle.aeth_clocked.proofs.UsedLemmas.{NextUsed, flit-within, used-end}
use Rattle.aeth_clocked.specs.{Wires.flit_on, Wires.used_from, declared.flit.Flit.Flit}
use Rattle.aeth_components.specs.{Counting.flits_counted, FlitsOnWires.flits_on}
use Rattle.aeth_components.proofs.CountingLemmas.{flits_counted-found, flits_counted-until}
use Rattle.aeth_components.proofs.CountingLemmas.{flits_counted-whole, length-flits_counted}
use Rattle.aeth_components.proofs.WiringLemmas.{none-unless}
use Rattle.aeth_components.proofs.FlitLemmas.{flits_on-more}
use Rattle.aeth_ni.specs.Queue.{capped}

-- The first wires have the flits that they have, and no further wire has any.
pub flit_on-first : (wires : List (Option Flit)) (to wire : ℕ) → wire < to
    → flit_on (take to wires) wire ≡ flit_on wires wire
flit_on-first wires zero wire below = absurd (omega (arith, below))
flit_on-first [] (suc to) wire below = refl
flit_on-first (first ∷ wires) (suc to) zero below = refl
flit_on-first (first ∷ wires) (suc to) (suc wire) below =
    flit_on-first wires to wire (omega (arith, below))

pub flit_on-past : (wires : List (Option Flit)) (to wire : ℕ) → to ≤ wire
    → flit_on (take to wires) wire ≡ None
flit_on-past wires zero wire over = refl
flit_on-past [] (suc to) wire over = refl
flit_on-past (first ∷ wires) (suc to) zero over = absurd (omega (arith, over))
flit_on-past (first ∷ wires) (suc to) (suc wire) over =
    flit_on-past wires to wire (omega (arith, over))

-- Where no wire with a flit is left, the first ones have all.
pub flit_on-all : (wires : List (Option Flit)) (from : ℕ) → used_from wires from ≡ [] → (wire : ℕ)
    → flit_on (take from wires) wire ≡ flit_on wires wire
flit_on-all wires from none wire = elim (cases_lt wire from) [
  | inl below ↦ flit_on-first wires from wire below
  | inr over ↦
      let empty = none-unless (flit_on wires wire) (λ some.
      let last = used-end wires from none wire over (flit-within wires wire some) in
      cc (sym (ap is_some last) ∙ some)) in
      flit_on-past wires from wire over ∙ sym empty
]

-- One wire more has a flit.
pub record OneMore (old new : List (Option Flit)) (wire : ℕ) (flit : Flit) : Type 0 where
  pub before : flit_on old wire ≡ None
  pub here : flit_on new wire ≡ Some flit
  pub others : (other : ℕ) → other ≢ wire → flit_on new other ≡ flit_on old other

-- The next one.
pub OneMore-next : {wires : List (Option Flit)} {from wire : ℕ} {rest : List ℕ} {flit : Flit}
    → NextUsed wires from wire rest → flit_on wires wire ≡ Some flit
    → OneMore (take from wires) (take (wire + 1) wires) wire flit
OneMore-next {wires} {from} {wire} next is =
    let after = next.after in
    record {
      before = flit_on-past wires from wire after;
      here = flit_on-first wires (wire + 1) wire (omega arith) ∙ is;
      others = λ other apart. elim (cases_lt other from) [
        | inl early ↦
            flit_on-first wires (wire + 1) other (omega (arith, early, after))
            ∙ sym (flit_on-first wires from other early)
        | inr over ↦ elim (cases_lt other wire) [
          | inl less ↦
              flit_on-first wires (wire + 1) other (omega (arith, less))
              ∙ next.empty other over less ∙ sym (flit_on-past wires from other over)
          | inr past ↦
              flit_on-past wires (wire + 1) other (omega (arith, past, apart))
              ∙ sym (flit_on-past wires from other over)
        ]
      ];
    }

-- Empty wires have no flit more.
flits_on-until : (wires : List (Option Flit)) (from to : ℕ) → from ≤ to
    → ((wire : ℕ) → from ≤ wire → wire < to → flit_on wires wire ≡ None)
    → flits_on (take to wires) ≡ flits_on (take from wires)
flits_on-until wires zero zero within empty = refl
flits_on-until wires (suc from) zero within empty = absurd (omega (arith, within))
flits_on-until [] zero (suc to) within empty = refl
flits_on-until [] (suc from) (suc to) within empty = refl
flits_on-until (None ∷ wires) zero (suc to) within empty =
    flits_on-until wires zero to (omega arith)
    (λ wire over less. empty (suc wire) (omega arith) (omega (arith, less)))
flits_on-until (Some flit ∷ wires) zero (suc to) within empty =
    absurd (cc (empty zero (omega arith) (omega arith)))
flits_on-until (None ∷ wires) (suc from) (suc to) within empty =
    flits_on-until wires from to (omega (arith, within))
    (λ wire over less. empty (suc wire) (omega (arith, over)) (omega (arith, less)))
flits_on-until (Some flit ∷ wires) (suc from) (suc to) within empty =
    let rest = flits_on-until wires from to (omega (arith, within))
    (λ wire over less. empty (suc wire) (omega (arith, over)) (omega (arith, less))) in
    let more : flits_on (take (suc to) (Some flit ∷ wires)) ≡ suc (flits_on (take to wires)) =
    count_by-yes is_some (Some flit) (take to wires) refl in
    let fewer : flits_on (take (suc from) (Some flit ∷ wires))
    ≡ suc (flits_on (take from wires)) =
    count_by-yes is_some (Some flit) (take from wires) refl in
    omega (arith, rest, more, fewer)

-- The next wire with a flit is one more.
pub flits_on-next : {wires : List (Option Flit)} {from wire : ℕ} {rest : List ℕ}
    → NextUsed wires from wire rest
    → flits_on (take (wire + 1) wires) ≡ flits_on (take from wires) + 1
flits_on-next {wires} {from} {wire} next =
    flits_on-more wires wire next.some
    ∙ ap (λ n. n + 1) (flits_on-until wires from wire next.after next.empty)

-- Behind the last there are no more.
pub flits_on-all : (wires : List (Option Flit)) (from : ℕ) → from ≤ length wires
    → used_from wires from ≡ [] → flits_on (take from wires) ≡ flits_on wires
flits_on-all wires from within none =
    sym (flits_on-until wires from (length wires) within
    (λ wire over less. used-end wires from none wire over less))
    ∙ ap flits_on (take_all (length wires) wires (omega arith))

-- There are no more than wires.
pub flits_on-few : (wires : List (Option Flit)) (to : ℕ) → flits_on (take to wires) ≤ to
flits_on-few wires zero = omega arith
flits_on-few [] (suc to) = omega arith
flits_on-few (None ∷ wires) (suc to) =
    let rest = flits_on-few wires to in omega (arith, rest)
flits_on-few (Some flit ∷ wires) (suc to) =
    let rest = flits_on-few wires to in
    let more : flits_on (take (suc to) (Some flit ∷ wires)) ≡ suc (flits_on (take to wires)) =
    count_by-yes is_some (Some flit) (take to wires) refl in
    omega (arith, rest, more)

-- The next wire with a flit is counted, where it is a link's first.
pub flits_counted-next : {wires : List (Option Flit)} (counts : List ℕ) {now new : List ℕ}
    {from wire : ℕ} {rest : List ℕ} → NextUsed wires from wire rest → now ≡ flits_counted (take from wires) counts
    → new ≡ set now wire (capped (get_or now wire 0 + 1))
    → new ≡ flits_counted (take (wire + 1) wires) counts
flits_counted-next {wires} counts {now} {new} {from} {wire} next so_far is =
    let below = next.below in
    let size = ap length so_far ∙ length-flits_counted (take from wires) counts in
    let upto = flits_counted-until wires counts now from wire next.after (omega (arith, below))
    next.empty so_far in
    is ∙ elim (cases_lt wire (length counts)) [
      | inl link ↦
          flits_counted-found wires counts now wire 0 (capped (get_or now wire 0 + 1)) below link
          next.some upto refl
      | inr past ↦
          set_past now wire (capped (get_or now wire 0 + 1)) (omega (arith, size, past)) ∙ upto
          ∙ flits_counted-whole wires counts wire past
          ∙ sym (flits_counted-whole wires counts (wire + 1) (omega (arith, past)))
    ]

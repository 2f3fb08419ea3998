-- First cycles of what is known, from part to part.
use Rattle.std.proofs.Common.{◌≡◌, ◌≤◌, ◌<◌, ◌⊎◌, ◌∙◌, ℕ, List, Some, ap, arith, get_or, inl, inr}
use Rattle.std.proofs.Common.{slice_get, subst, sym}
use Rattle.std.proofs.lemmas.{Bool.cases_lt, Option.get_or_from_slice_get}
use Rattle.aeth_components.specs.First.{IsFirst}
use Rattle.aeth_network.specs.Next.{IsFirstKnown}

-- The first cycle of something is known of what holds with it.
pub known-of : {P Holds : ℕ → Type 0} {from to cycle : ℕ} → ((t : ℕ) → P t → Holds t)
    → IsFirst P from to cycle → IsFirstKnown P Holds from to cycle
known-of {cycle = cycle} gives first = record {
  least = first.least;
  most = first.most;
  before = first.before;
  holds = λ early. gives cycle (first.holds early);
}

-- And known of all that holds it is the first.
pub first-of : {Holds : ℕ → Type 0} {from to cycle : ℕ} → IsFirstKnown Holds Holds from to cycle
    → IsFirst Holds from to cycle
first-of known = record {
  least = known.least;
  most = known.most;
  before = known.before;
  holds = known.holds;
}

-- Where no known thing holds it is the limit.
pub known-none : {Known Holds : ℕ → Type 0} {from to : ℕ} → from ≤ to
    → ((t : ℕ) → from ≤ t → t < to → Known t → ⊥) → IsFirstKnown Known Holds from to to
known-none le none = record {
  least = le;
  most = omega arith;
  before = none;
  holds = λ early. absurd (omega arith);
}

-- It is that of fewer known things too.
pub known-fewer : {Known Fewer Holds : ℕ → Type 0} {from to cycle : ℕ}
    → ((t : ℕ) → from ≤ t → t < cycle → Fewer t → Known t)
    → IsFirstKnown Known Holds from to cycle → IsFirstKnown Fewer Holds from to cycle
known-fewer fewer known = record {
  least = known.least;
  most = known.most;
  before = λ t since less has. known.before t since less (fewer t since less has);
  holds = known.holds;
}

-- The first of two known things, of which the second is looked for below the first.
pub known-both : {One Other Both Holds : ℕ → Type 0} {from to middle cycle : ℕ}
    → ((t : ℕ) → Both t → One t ⊎ Other t) → IsFirstKnown One Holds from to middle
    → IsFirstKnown Other Holds from middle cycle → IsFirstKnown Both Holds from to cycle
known-both {Holds = Holds} {middle = middle} {cycle = cycle} either one other =
    let most = one.most in
    let within = other.most in
    record {
      least = other.least;
      most = omega arith;
      before = λ t since less has. elim (either t has) [
        | inl first ↦ one.before t since (omega arith) first
        | inr second ↦ other.before t since less second
      ];
      holds = λ early. elim (cases_lt cycle middle) [
        | inl sooner ↦ other.holds sooner
        | inr same ↦
            let is : middle ≡ cycle = omega arith in
            subst Holds is (one.holds (omega arith))
      ];
    }

-- One of the first so many items has something in a cycle.
pub record HasSeen {X : Type 0} (Has : ℕ → X → ℕ → Type 0) (xs : List X) (seen t : ℕ) : Type 0
  where
    pub number : ℕ
    pub item : X
    pub less : number < seen
    pub at : slice_get xs number ≡ Some item
    pub has : Has number item t

-- One more item is looked at, where those between it and the next have nothing.
pub known-more : {X : Type 0} {Has : ℕ → X → ℕ → Type 0} {xs : List X} {Own Holds : ℕ → Type 0}
    {from to seen middle cycle : ℕ} (next : ℕ) (d : X)
    → ((number t : ℕ) (x : X) → seen < number → number < next → slice_get xs number ≡ Some x
    → Has number x t → ⊥)
    → ((t : ℕ) → Has seen (get_or xs seen d) t → Own t)
    → IsFirstKnown (HasSeen Has xs seen) Holds from to middle
    → IsFirstKnown Own Holds from middle cycle
    → IsFirstKnown (HasSeen Has xs next) Holds from to cycle
known-more {X} {Has} {xs} {seen = seen} next d idle own = known-both (λ t has.
    elim (cases_lt has.number seen) [
      | inl earlier ↦ inl (record {
        number = has.number;
        item = has.item;
        less = earlier;
        at = has.at;
        has = has.has;
      })
      | inr late ↦ elim (cases_lt seen has.number) [
        | inl behind ↦ absurd (idle has.number t has.item behind has.less has.at has.has)
        | inr last ↦
            let is : has.number ≡ seen = omega arith in
            let there = get_or_from_slice_get xs seen has.item d (ap (slice_get xs) (sym is) ∙ has.at) in
            inr (own t (subst (λ (x : X). Has seen x t) (sym there)
            (subst (λ n. Has n has.item t) is has.has)))
      ]
    ])

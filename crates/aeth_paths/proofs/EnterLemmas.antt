-- The last link of a path, and paths that are dead by it alone.
use Rattle.std.proofs.Common.{◌≡◌, ◌∙◌, ◌↔◌, ◌+◌, ◌-◌, ◌%◌, ◌<◌, ◌≤◌, ◌++◌, ℕ, Bool, true, false}
use Rattle.std.proofs.Common.{IsTrue, not, List, [], ◌∷◌, Contains, length, take, get_or, Some}
use Rattle.std.proofs.Common.{slice_get, refl, sym, ap, subst, inl, inr, arith, take_all}
use Rattle.std.proofs.Math.Nat.{mod-eq_of_lt, mod-lt}
use Rattle.std.proofs.lemmas.Bool.{and_from, and_parts, both_ways, false_from_ne_true}
use Rattle.std.proofs.lemmas.List.{take_more, Elements.Contains-get_or}
use Rattle.std.proofs.lemmas.Option.{slice_get-get_or}
use Rattle.aeth_base.specs.declared.ids.{LinkId.LinkId, NiId.NiId, Unit.Unit as GroupUnit}
use Rattle.aeth_base.proofs.{Members.Contains-cases, Members.Contains-nil, Members.Contains-some}
use Rattle.aeth_base.proofs.{Members.Contains-slice_get, TestLemmas.true_from_IsTrue}
use Rattle.aeth_chip.specs.declared.node.{Link.Link, Node.TheVariants.Ni}
use Rattle.aeth_chip.specs.Chip.{ChipData, IsChip, IsNode}
use Rattle.aeth_chip.specs.Nodes.{ends_at, receives_on}
use Rattle.aeth_chip.specs.Paths.{BeginsAt, IsPath, path_delay, to_of}
use Rattle.aeth_chip.proofs.JoinedLaws.{joined-each}
use Rattle.aeth_chip.proofs.NodeLemmas.{numbers_from-at, same_node-refl}
use Rattle.aeth_slots.specs.{Choice.IsSuitable, SlotSet.Slots, SlotSet.gap_of}
use Rattle.aeth_slots.proofs.{ChoiceLemmas.is_suitable-true, TestLemmas.Contains-where}
use Rattle.aeth_server.proofs.SingleWord.{HasSlot, has-slot}
use Rattle.aeth_book.specs.Book.{BookData, IsBook}
use Rattle.aeth_book.specs.Free.{free_starts, is_open, is_taken}
use Rattle.aeth_book.proofs.FreeLemmas.{is_clear, is_open-push}
use Rattle.aeth_paths.specs.declared.request.Request.{Request}
use Rattle.aeth_paths.specs.Candidates.{gap_on, is_live}
use Rattle.aeth_paths.proofs.EndLemmas.{path-all, path-delay-some, path-last, path-some}
use Rattle.aeth_paths.proofs.LiveLemmas.{free_starts-set, sized}
use Rattle.aeth_paths.proofs.NearLemmas.{gap-near, moved-comes}

-- The last link of a path, behind the others.
record HasLast (links : List Link) (b : NiId) (path : List LinkId) : Type 0 where
  before : List LinkId
  last : LinkId
  link : Link
  whole : path ≡ before ++ last ∷ []
  is : slice_get links last.0 ≡ Some link
  ends : link.to ≡ Ni b

has-last : (links : List Link) (a b : NiId) (path : List LinkId) → IsPath links a b path
    → HasLast links b path
has-last links a b path is =
    let some = path-some links a b path is in
    let i : ℕ = length path - 1 in
    let low : i < length path = omega (arith, some) in
    let none : LinkId = record { 0 = 0 } in
    let last : LinkId = get_or path i none in
    let (from, goes) = joined-each (BeginsAt links) (to_of links) (Ni a) path is.joins.joined last
    (Contains-get_or path i none low) in
    let all : take (i + 1) path ≡ path = take_all (i + 1) path (omega (arith, some)) in
    record {
      before = take i path;
      last = last;
      link = goes.link;
      whole = sym all ∙ take_more path i none low;
      is = goes.is;
      ends = goes.ends ∙ path-last links a b path last is (slice_get-get_or path i none low);
    }

-- A path ends at an interface of the chip.
pub to-inside : (chip : ChipData) (a b : NiId) (path : List LinkId) → IsChip chip
    → IsPath chip.links a b path → b.0 < length chip.nis
to-inside chip a b path is is_path =
    let end = has-last chip.links a b path is_path in
    subst (IsNode chip.routers chip.nis) end.ends (is.links end.last.0 end.link end.is).to

-- The last link is the one on which the interface receives.
last-enters : (links : List Link) (b : NiId) (path : List LinkId) (enters : LinkId)
    → receives_on (Ni b) links ≡ enters.0 ∷ [] → (end : HasLast links b path) → end.last ≡ enters
last-enters links b path enters only end =
    let same : 0 + end.last.0 ≡ end.last.0 = omega arith in
    let at = numbers_from-at (ends_at (Ni b)) 0 links end.last.0 end.link end.is
    (rw end.ends (same_node-refl (Ni b))) in
    let has = Contains-slice_get (receives_on (Ni b) links) _ end.last.0 (at ∙ ap Some same) in
    let one : end.last.0 ≡ enters.0 =
    elim (Contains-cases enters.0 [] end.last.0
    (subst (λ (ls : List ℕ). Contains ls end.last.0) only has)) [
      | inl here ↦ sym here
      | inr none ↦ Contains-nil none
    ] in
    ap (λ n. record { 0 = n }) one

-- A free start of a path is, so many cycles later, one of its last link alone.
enters-free : (book : BookData) (unit : GroupUnit) (path : List LinkId) (last : LinkId) (x : ℕ)
    → 1 ≤ book.size → Contains (free_starts book unit (path ++ last ∷ [])).slots x
    → Contains (free_starts book unit (last ∷ [])).slots
    ((x + path_delay book.links path) % book.size)
enters-free book unit path last x some has =
    let (below, opens) = (Contains-where book.size (is_open book unit 0 (path ++ last ∷ [])) x).0
    has in
    let now : 0 + path_delay book.links path ≡ path_delay book.links path = omega arith in
    let at : ℕ = (x + path_delay book.links path) % book.size in
    let parts = and_parts (is_open book unit 0 path x)
    (is_clear book unit last (0 + path_delay book.links path) x)
    (sym (is_open-push book unit 0 path last x) ∙ opens) in
    let clear : not (is_taken book unit last.0 at) ≡ true = rw now at parts.1 in
    let within : at < book.size =
    mod-lt (x + path_delay book.links path) {m = book.size} (omega (arith, some)) in
    let none : at + 0 ≡ at = omega arith in
    let same : (at + 0) % book.size ≡ at = ap (λ n. n % book.size) none ∙ mod-eq_of_lt within in
    (Contains-where book.size (is_open book unit 0 (last ∷ [])) at).1
    (within, and_from _ _ (rw same clear) refl)

-- Where a path is live, its last link alone leaves starts that are near enough.
enters-suitable : (book : BookData) (ask : Request) (path : List LinkId) (last : LinkId)
    → IsBook book → 1 ≤ path_delay book.links (path ++ last ∷ [])
    → is_live book ask (path ++ last ∷ []) ≡ true
    → IsSuitable 1 ask.latency (free_starts book ask.unit (last ∷ []))
enters-suitable book ask path last is some live =
    let free : Slots = free_starts book ask.unit (path ++ last ∷ []) in
    let its : Slots = free_starts book ask.unit (last ∷ []) in
    let set = free_starts-set book ask (path ++ last ∷ []) (sized book is) in
    let suitable = is_suitable-true ask.need (gap_on book ask (path ++ last ∷ [])) free live in
    let near : gap_of free ≤ ask.latency = omega (arith, suitable.near, some) in
    let has : (from : ℕ) → HasSlot book.size free.slots from ask.latency =
    λ from. has-slot book.size free.slots from ask.latency set.ascends suitable.some near in
    let comes = moved-comes book.size (path_delay book.links path) ask.latency free.slots its.slots
    is.some_size (λ x. enters-free book ask.unit path last x is.some_size) has in
    let some' = Contains-some its.slots _ (comes 0).member in
    record {
      some = omega (arith, some');
      enough = omega (arith, some');
      near = gap-near its ask.latency (free_starts-set book ask (last ∷ []) (sized book is)) comes;
    }

-- Where it doesn't, each path that ends with it is dead.
pub enters-dead : (chip : ChipData) (book : BookData) (ask : Request) (b : NiId) (enters : LinkId)
    (its : List LinkId) (told : Bool) → IsChip chip → IsBook book → book.links ≡ chip.links
    → receives_on (Ni b) chip.links ≡ enters.0 ∷ [] → its ≡ enters ∷ []
    → (IsTrue told ↔ IsSuitable 1 ask.latency (free_starts book ask.unit its)) → told ≡ false
    → (a : NiId) (path : List LinkId) → IsPath book.links a b path → is_live book ask path ≡ false
enters-dead chip book ask b enters its told is is_book same only alone tells untold a path is_path =
    let on = subst (λ (ls : List Link). IsPath ls a b path) same is_path in
    let end = has-last chip.links a b path on in
    let whole : path ≡ end.before ++ enters ∷ [] =
    end.whole
    ∙ ap (λ l. end.before ++ l ∷ []) (last-enters chip.links b path enters only end) in
    let some = path-delay-some chip path is (path-some chip.links a b path on)
    (path-all chip.links a b path on) in
    let some' : 1 ≤ path_delay book.links path =
    subst (λ (ls : List Link). 1 ≤ path_delay ls path) (sym same) some in
    false_from_ne_true (is_live book ask path) (λ live.
    let suitable = enters-suitable book ask end.before enters is_book
    (subst (λ (p : List LinkId). 1 ≤ path_delay book.links p) whole some')
    (subst (λ (p : List LinkId). is_live book ask p ≡ true) whole live) in
    both_ways told untold (true_from_IsTrue told (tells.1 (rw alone suitable))))

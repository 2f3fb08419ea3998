-- What is asked of a chain, over its legs.
use Rattle.std.proofs.Common.{ℕ, ◌+◌, ◌≤◌, ◌≡◌, List, [], ◌∷◌, Some, length, slice_get, refl, sym}
use Rattle.std.proofs.Common.{◌-◌, ◌∙◌, ap, drop, take, subst, suc, get_or, arith, All, length-drop}
use Rattle.std.proofs.Common.{take_all}
use Rattle.std.proofs.lemmas.List.Elements.{All-cons, All-head, All-nil, All-tail}
use Rattle.aeth_server.specs.{ChannelShape.shape_of, Shape.IsGranted, Shape.channel_latency}
use Rattle.aeth_server.specs.{declared.shape.ChannelShape.ChannelShape}
use Rattle.aeth_chain.{specs.Chain.IsChain, specs.Chain.latency_along, specs.Chain.leg_of}
use Rattle.aeth_chain.{specs.Chain.legs_of, specs.Chain.passing_latency, specs.Chain.size_of}
use Rattle.aeth_chain.{specs.declared.item.ChainItem.ChainItem, proofs.ChainLemmas.IsLegOf}

-- Shapes of one size that are granted make legs of that size.
legs-are : (size : ℕ) (items : List ChainItem) (shapes : List ChannelShape)
    → All (λ (shape : ChannelShape). IsGranted (shape_of shape)) shapes
    → ((k : ℕ) (shape : ChannelShape) → slice_get shapes k ≡ Some shape
    → shape.slots.size ≡ size) → All (IsLegOf size) (legs_of items shapes)
legs-are size [] shapes granted same = All-nil (IsLegOf size)
legs-are size (item ∷ items) [] granted same = All-nil (IsLegOf size)
legs-are size (item ∷ items) (shape ∷ shapes) granted same =
    let P : ChannelShape → Type 0 = λ shape. IsGranted (shape_of shape) in
    All-cons (IsLegOf size) (leg_of item shape) (legs_of items shapes)
    (record {
      granted = All-head (λ (shape : ChannelShape). IsGranted (shape_of shape)) shape shapes
          granted;
      size_is = same 0 shape refl;
    })
    (legs-are size items shapes
    (All-tail (λ (shape : ChannelShape). IsGranted (shape_of shape)) shape shapes granted)
    (λ k one at. same (suc k) one at))

-- The legs of a chain have the size of the first.
pub chain-legs : (items : List ChainItem) (shapes : List ChannelShape) → IsChain items shapes
    → All (λ (shape : ChannelShape). IsGranted (shape_of shape)) shapes
    → All (IsLegOf (size_of (legs_of items shapes))) (legs_of items shapes)
chain-legs [] shapes is granted = absurd (let some = is.some in omega arith)
chain-legs (item ∷ items) [] is granted = absurd (let beside = is.beside in omega arith)
chain-legs (item ∷ items) (shape ∷ shapes) is granted =
    legs-are shape.slots.size (item ∷ items) (shape ∷ shapes) granted
    (λ k one at. is.one_size k 0 one shape at refl)

-- ---- one leg before others
-- what stands behind the first of a list, as code that takes it apart has it
abbrev pub behind : {X : Type 0} → List X → List X
behind xs = take (length xs - 1) (drop 1 xs)

pub behind-is : {X : Type 0} (xs : List X) → behind xs ≡ drop 1 xs
behind-is xs = let size = length-drop 1 xs in take_all (length xs - 1) (drop 1 xs) (omega (arith, size))

pub behind-count : {X : Type 0} (xs : List X) → length (behind xs) ≡ length xs - 1
behind-count xs = ap length (behind-is xs) ∙ length-drop 1 xs

pub behind-All : {X : Type 0} (P : X → Type 0) (xs : List X) → All P xs → All P (behind xs)
behind-All P [] all = all
behind-All P (x ∷ xs) all = subst (All P) (sym (behind-is (x ∷ xs))) (All-tail P x xs all)

-- with others behind it the latency is that of all
pub latency-next : (rate : ℕ) (items : List ChainItem) (shapes : List ChannelShape)
    (none : ChainItem) (shape : ChannelShape) → shape ≡ get_or shapes 0 shape
    → 2 ≤ length items → length shapes ≡ length items
    → channel_latency (shape_of shape) + passing_latency rate (leg_of (get_or items 0 none) shape)
    + latency_along rate (legs_of (behind items) (behind shapes))
    ≡ latency_along rate (legs_of items shapes)
latency-next rate [] shapes none shape same some beside = absurd (omega arith)
latency-next rate (item ∷ []) shapes none shape same some beside = absurd (omega arith)
latency-next rate (item ∷ next ∷ items) [] none shape same some beside = absurd (omega arith)
latency-next rate (item ∷ next ∷ items) (first ∷ []) none shape same some beside =
    absurd (omega arith)
latency-next rate (item ∷ next ∷ items) (first ∷ second ∷ shapes) none shape same some beside =
    ap (λ xs. channel_latency (shape_of shape) + passing_latency rate (leg_of item shape)
    + latency_along rate (legs_of xs (behind (first ∷ second ∷ shapes))))
    (behind-is (item ∷ next ∷ items))
    ∙ ap (λ ys. channel_latency (shape_of shape) + passing_latency rate (leg_of item shape)
    + latency_along rate (legs_of (next ∷ items) ys)) (behind-is (first ∷ second ∷ shapes))
    ∙ ap (λ one. channel_latency (shape_of one) + passing_latency rate (leg_of item one)
    + latency_along rate (legs_of (next ∷ items) (second ∷ shapes))) same

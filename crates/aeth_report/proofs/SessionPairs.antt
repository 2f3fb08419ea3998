-- Sessions stand in pairs: a stay is two sessions, side by side.
use Rattle.std.proofs.Common.{◌≡◌, ◌∙◌, ◌+◌, ◌*◌, ℕ, zero, suc, All, List, [], ◌∷◌, ap, arith, refl}
use Rattle.std.proofs.Common.{slice_get, flat_map, option_map}
use Rattle.std.proofs.lemmas.List.Elements.{All-cons, All-head, All-nil, All-tail}
use Rattle.aeth_base.specs.Sides.{other_side}
use Rattle.aeth_base.specs.declared.ids.Side.{Side, TheVariants.Back, TheVariants.Fwd}
use Rattle.aeth_trace.specs.Channels.{side_number}
use Rattle.aeth_report.specs.SessionList.{ChannelSession, ConnectionStay, both_of, pair_of}
use Rattle.aeth_report.specs.SessionList.{partner_of, session_on, side_of}

-- The session of a number is its stay's, on its side.
pub pair-at : (list : List ConnectionStay) (c : ℕ) → slice_get (flat_map both_of list) c
    ≡ option_map (λ (one : ConnectionStay). session_on one (side_of c)) (slice_get list (pair_of c))
pair-at [] c = refl
pair-at (one ∷ list) zero = refl
pair-at (one ∷ list) (suc zero) = refl
pair-at (one ∷ list) (suc (suc c)) = pair-at list c

-- A number is twice that of its stay, and that of its side.
pub number-is : (c : ℕ) → 2 * pair_of c + side_number (side_of c) ≡ c
number-is zero = refl
number-is (suc zero) = refl
number-is (suc (suc c)) = let rest = number-is c in omega (arith, rest)

-- And each stay and side has a number.
pub numbered-pair : (k : ℕ) (side : Side) → (pair_of (2 * k + side_number side) ≡ k)
    × (side_of (2 * k + side_number side) ≡ side)
numbered-pair zero Fwd = (refl, refl)
numbered-pair zero Back = (refl, refl)
numbered-pair (suc k) side =
    let next : 2 * suc k + side_number side ≡ suc (suc (2 * k + side_number side)) = omega arith in
    let rest = numbered-pair k side in
    (ap pair_of next ∙ ap (λ (n : ℕ). suc n) rest.0, ap side_of next ∙ rest.1)

-- Beside a number is that of the other side of its stay, and beside that the number itself.
pub partner-pair : (c : ℕ) → pair_of (partner_of c) ≡ pair_of c
partner-pair zero = refl
partner-pair (suc zero) = refl
partner-pair (suc (suc c)) = ap (λ (n : ℕ). suc n) (partner-pair c)

pub partner-side : (c : ℕ) → side_of (partner_of c) ≡ other_side (side_of c)
partner-side zero = refl
partner-side (suc zero) = refl
partner-side (suc (suc c)) = partner-side c

pub partner-back : (c : ℕ) → partner_of (partner_of c) ≡ c
partner-back zero = refl
partner-back (suc zero) = refl
partner-back (suc (suc c)) = ap (λ (n : ℕ). suc (suc n)) (partner-back c)

-- What holds of the sessions of each stay holds of all.
pub both-all : (Q : ConnectionStay → Type 0) (P : ChannelSession → Type 0)
    → ((one : ConnectionStay) (side : Side) → Q one → P (session_on one side))
    → (list : List ConnectionStay) → All Q list → All P (flat_map both_of list)
both-all Q P gives [] all = All-nil P
both-all Q P gives (one ∷ list) all =
    let here = All-head Q one list all in
    let rest = both-all Q P gives list (All-tail Q one list all) in
    All-cons P (session_on one Fwd) (session_on one Back ∷ flat_map both_of list)
    (gives one Fwd here)
    (All-cons P (session_on one Back) (flat_map both_of list) (gives one Back here) rest)

-- What is best after some paths were tried, and that the search tries all of a pair.
use Rattle.std.proofs.Common.{◌≡◌, ◌∙◌, ◌⊎◌, ◌+◌, ◌<◌, ◌++◌, ℕ, true, false, List, [], ◌∷◌, length}
use Rattle.std.proofs.Common.{min, take, get_or, Contains, Option, None, Some, sym, refl, ap, cond}
use Rattle.std.proofs.Common.{subst, inl, inr, arith, le-leb, leb-true}
use Rattle.std.proofs.lemmas.Bool.{and_from, and_parts}
use Rattle.std.proofs.lemmas.List.{take_more, Elements.Contains-append_cases}
use Rattle.std.proofs.lemmas.List.{Elements.Contains-append_left, Elements.Contains-append_right}
use Rattle.aeth_base.specs.Limits.{max_path_links}
use Rattle.aeth_base.specs.declared.ids.{LinkId.LinkId, NiId.NiId}
use Rattle.aeth_base.proofs.Members.{Contains-cases, Contains-here, Contains-nil}
use Rattle.aeth_chip.specs.{declared.node.Node.TheVariants.Ni, Paths.IsDistance, Paths.IsLinkFrom}
use Rattle.aeth_chip.specs.{Paths.IsPath, Chip.ChipData, Chip.IsChip, LeastDistance.least_distance}
use Rattle.aeth_chip.specs.{LeastOnward.least_from}
use Rattle.aeth_chip.proofs.LeastDistanceLemmas.{IsLeast-unique, distance_is_least_distance}
use Rattle.aeth_book.specs.Book.{BookData}
use Rattle.aeth_paths.specs.{declared.request.Request.Request, Candidates.is_live}
use Rattle.aeth_paths.specs.{Candidates.link_cost, Open.allowed_steps, Open.is_crowded}
use Rattle.aeth_paths.specs.{Open.open_steps, Open.pair_steps, Pairs.IsOffered, Pairs.Tries}
use Rattle.aeth_paths.specs.{Search.Field, Search.completions, Search.first_from}
use Rattle.aeth_paths.specs.{Search.is_candidate, Task.field}
use Rattle.aeth_paths.proofs.FirstLemmas.{first_from-is, first_from-kept, first_from-least}
use Rattle.aeth_paths.proofs.FirstLemmas.{not_beaten-itself, not_beaten-past}
use Rattle.aeth_paths.proofs.JoinLemmas.{route-from-walk, walk-from-route}
use Rattle.aeth_paths.proofs.WalkLemmas.{completion-walks, walk-completes}

-- Where no path is offered, the best stays.
pub tries-none : (cost : LinkId → ℕ) (best : Option (List LinkId)) (Offered : List LinkId → Type 0)
    → ((path : List LinkId) → Offered path → ⊥) → Tries cost best best Offered
tries-none cost best Offered never = record {
  among = λ path is. inl is;
  kept = not_beaten-itself cost best;
  least = λ path offered. absurd (never path offered);
}

-- Some paths and then others were tried.
pub tries-then : (cost : LinkId → ℕ) (old mid new : Option (List LinkId))
    (First Second Both : List LinkId → Type 0) → Tries cost old mid First
    → Tries cost mid new Second → ((path : List LinkId) → First path → Both path)
    → ((path : List LinkId) → Second path → Both path)
    → ((path : List LinkId) → Both path → First path ⊎ Second path) → Tries cost old new Both
tries-then cost old mid new First Second Both first second there here back = record {
  among = λ path is. elim (second.among path is) [
    | inl was ↦ elim (first.among path was) [
      | inl before ↦ inl before
      | inr one ↦ inr (there path one)
    ]
    | inr one ↦ inr (here path one)
  ];
  kept = not_beaten-past cost old mid new first.kept second.kept;
  least = λ path both. elim (back path both) [
    | inl one ↦ not_beaten-past cost (Some path) mid new (first.least path one) second.kept
    | inr one ↦ second.least path one
  ];
}

-- What one more element of a list offers.
module _ {X : Type 0} (Of : X → List LinkId → Type 0) where
  abbrev pub OfSome : List X → List LinkId → Type 0
  OfSome xs path = (x : X) × Contains xs x × Of x path

  -- No element offers nothing.
  pub tries-no : (cost : LinkId → ℕ) (best : Option (List LinkId))
      → Tries cost best best (OfSome [])
  tries-no cost best = tries-none cost best (OfSome []) (λ path offered. Contains-nil offered.1)

  -- One more element of a list was tried.
  pub tries-more : (cost : LinkId → ℕ) (old mid new : Option (List LinkId)) (xs : List X) (i : ℕ)
      (d : X) → i < length xs → Tries cost old mid (OfSome (take i xs))
      → Tries cost mid new (Of (get_or xs i d)) → Tries cost old new (OfSome (take (i + 1) xs))
  tries-more cost old mid new xs i d within first second =
      let x : X = get_or xs i d in
      let more : take (i + 1) xs ≡ take i xs ++ x ∷ [] = take_more xs i d within in
      subst (λ (ys : List X). Tries cost old new (OfSome ys)) (sym more)
      (tries-then cost old mid new (OfSome (take i xs)) (Of x) (OfSome (take i xs ++ x ∷ [])) first
      second
      (λ path offered. (
        offered.0,
        Contains-append_left (take i xs) (x ∷ []) offered.0 offered.1,
        offered.2,
      ))
      (λ path offered. (
        x,
        Contains-append_right (take i xs) (x ∷ []) x (Contains-here x []),
        offered,
      ))
      (λ path offered. elim (Contains-append_cases (take i xs) (x ∷ []) offered.0 offered.1) [
        | inl before ↦ inl (offered.0, before, offered.2)
        | inr last ↦ elim (Contains-cases x [] offered.0 last) [
          | inl same ↦ inr (subst (λ (y : X). Of y path) (sym same) offered.2)
          | inr none ↦ Contains-nil none
        ]
      ]))

  -- One that was tried before offers nothing more.
  pub tries-again : (cost : LinkId → ℕ) (old mid : Option (List LinkId)) (xs : List X) (i : ℕ)
      (d : X) → i < length xs → Contains (take i xs) (get_or xs i d)
      → Tries cost old mid (OfSome (take i xs)) → Tries cost old mid (OfSome (take (i + 1) xs))
  tries-again cost old mid xs i d within before first =
      let x : X = get_or xs i d in
      let more : take (i + 1) xs ≡ take i xs ++ x ∷ [] = take_more xs i d within in
      subst (λ (ys : List X). Tries cost old mid (OfSome ys)) (sym more) (record {
        among = λ path is. elim (first.among path is) [
          | inl was ↦ inl was
          | inr one ↦ inr (
            one.0,
            Contains-append_left (take i xs) (x ∷ []) one.0 one.1,
            one.2,
          )
        ];
        kept = first.kept;
        least = λ path offered. first.least path (
          offered.0,
          elim (Contains-append_cases (take i xs) (x ∷ []) offered.0 offered.1) [
            | inl has ↦ has
            | inr last ↦ elim (Contains-cases x [] offered.0 last) [
              | inl same ↦ subst (Contains (take i xs)) same before
              | inr none ↦ Contains-nil none
            ]
          ],
          offered.2,
        );
      })

-- All paths of a pair were tried.
module _ (book : BookData) (prices : List ℕ) (ask : Request) (crowded : List NiId) (a b : NiId)
    (distance most : ℕ) (far : IsDistance book.links a b (Some distance))
    (limit : most ≡ min (distance + ask.detour) max_path_links)
    (apart : (link : LinkId) → IsLinkFrom book.links link (Ni a) (Ni b) → ⊥)
    (room : is_crowded crowded a b ≡ false) where
  abbrev pub over : Field
  over = field book prices ask b most

  -- What the search lists is offered.
  listed-offered : (path : List LinkId)
      → Contains (completions over max_path_links (Ni a) []) path
      → is_candidate over path ≡ true → IsOffered book ask crowded a b path
  listed-offered path listed fits =
      let on = completion-walks over max_path_links (Ni a) [] path listed in
      let (near, live) = and_parts _ (is_live book ask path) fits in
      let short = leb-true (length path) most near in
      record {
        room = room;
        admissible = record {
          is_path = subst (IsPath book.links a b) (sym on.whole)
              (route-from-walk book prices ask b most a on.rest apart on.walks);
          fits = omega (arith, short, limit);
          least = distance;
          distance = far;
          near = omega (arith, short, limit);
        };
        live = live;
      }

  -- What is offered the search lists.
  offered-listed : (path : List LinkId) → IsOffered book ask crowded a b path
      → Contains (completions over max_path_links (Ni a) []) path
      × (is_candidate over path ≡ true)
  offered-listed path offered =
      let admissible = offered.admissible in
      let same : Some admissible.least ≡ Some distance =
      IsLeast-unique (IsPath book.links a b) (Some admissible.least) (Some distance)
      admissible.distance far in
      let number : Option ℕ → ℕ = elim [ None ↦ 0 | Some n ↦ n ] in
      let least = ap number same in (
        walk-completes over max_path_links (Ni a) [] path refl
            (walk-from-route book prices ask b most a path admissible.is_path) admissible.fits,
        and_from _ _
            (le-leb (length path) most
            (omega (arith, admissible.near, admissible.fits, least, limit))) offered.live,
      )

  pub tries-pair : (best : Option (List LinkId))
      → Tries (link_cost book prices ask.unit) best
      (first_from over best (completions over max_path_links (Ni a) []))
      (IsOffered book ask crowded a b)
  tries-pair best =
      let paths : List (List LinkId) = completions over max_path_links (Ni a) [] in
      record {
        among = λ path is. elim (first_from-is over best paths path is).was_or_is [
          | inl was ↦ inl was
          | inr one ↦ inr (listed-offered path one.0 one.1)
        ];
        kept = first_from-kept over best paths;
        least = λ path offered. let listed = offered-listed path offered in
            first_from-least over best paths path listed.0 listed.1;
      }

-- The steps of a pair that isn't one crowded interface, and that paths join, are those of its
-- lists.
pub steps-allowed : (chip : ChipData) → IsChip chip → (book : BookData) (prices : List ℕ)
    (ask : Request) (crowded : List NiId) (a b : NiId) (distance most : ℕ)
    → IsDistance chip.links a b (Some distance) → most ≡ min (distance + ask.detour) max_path_links
    → is_crowded crowded a b ≡ false → allowed_steps chip book prices ask crowded a b
    ≡ open_steps (field book prices ask b most) (least_from chip b) max_path_links (Ni a) []
steps-allowed chip is_chip book prices ask crowded a b distance most far limit room =
    ap (λ c. cond c 0
    (pair_steps book prices ask (least_from chip b) a b (least_distance chip a b)))
    room
    ∙ ap (pair_steps book prices ask (least_from chip b) a b)
    (sym (distance_is_least_distance chip is_chip a b (Some distance) far))
    ∙ ap (λ m. open_steps (field book prices ask b m) (least_from chip b) max_path_links (Ni a) [])
    (sym limit)

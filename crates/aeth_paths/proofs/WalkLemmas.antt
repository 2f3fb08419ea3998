-- The paths that go on from a list are those lists of links that walk on to the goal.
use Rattle.std.proofs.Common.{◌≡◌, ◌∙◌, ◌≤◌, ◌++◌, ℕ, zero, suc, Bool, true, false, cond, List, []}
use Rattle.std.proofs.Common.{◌∷◌, length, Contains, sym, refl, ap, subst, inl, inr, arith}
use Rattle.std.proofs.Common.{append_assoc}
use Rattle.std.proofs.lemmas.Bool.{and_parts, cond-true, cond-false, false≢true}
use Rattle.aeth_base.specs.declared.ids.LinkId.{LinkId}
use Rattle.aeth_base.proofs.Members.{Contains-cases, Contains-flat_map, Contains-here, Contains-nil}
use Rattle.aeth_base.proofs.Members.{flat_map-Contains}
use Rattle.aeth_chip.specs.declared.node.Node.{Node, TheVariants.Ni, TheVariants.Router}
use Rattle.aeth_chip.specs.Nodes.{is_router, same_node}
use Rattle.aeth_chip.proofs.NodeLemmas.{same_node-refl}
use Rattle.aeth_paths.specs.declared.search.Turn.{Turn}
use Rattle.aeth_paths.specs.declared.search.Turn.TheVariants.{Away, Ends, Goes}
use Rattle.aeth_paths.specs.Search.{Field, Walks, along, by_turn, completions, is_new, turn_of}
use Rattle.aeth_paths.proofs.JoinLemmas.{walks-first, walks-more, walks-none, walks-one}

-- ---- what a link is

pub turn-ends : (f : Field) (path : List LinkId) (link : LinkId) → turn_of f path link ≡ Ends
    → same_node (f.to link) f.goal ≡ true
turn-ends f path link =
    let go : (a b : Bool) → same_node (f.to link) f.goal ≡ a
    → cond a Ends (cond b Goes Away) ≡ Ends → same_node (f.to link) f.goal ≡ true =
    elim [
      | true ↦ λ b is turn. is
      | false ↦ elim [ true ↦ λ is turn. (cc) | false ↦ λ is turn. (cc) ]
    ]
    in go _ (is_new f path (f.to link)) refl

pub turn-goes : (f : Field) (path : List LinkId) (link : LinkId) → turn_of f path link ≡ Goes
    → is_new f path (f.to link) ≡ true
turn-goes f path link =
    let go : (a b : Bool) → is_new f path (f.to link) ≡ b
    → cond a Ends (cond b Goes Away) ≡ Goes → is_new f path (f.to link) ≡ true =
    elim [
      | true ↦ λ b is turn. (cc)
      | false ↦ elim [ true ↦ λ is turn. is | false ↦ λ is turn. (cc) ]
    ]
    in go (same_node (f.to link) f.goal) _ refl

-- ---- each completion walks on

-- A list that begins with a list and walks on.
pub record WalksOn (f : Field) (left : ℕ) (node : Node) (path found : List LinkId)
    : Type 0 where
  pub rest : List LinkId
  pub whole : found ≡ path ++ rest
  pub few : length rest ≤ left
  pub walks : Walks f node path rest

pub completion-walks : (f : Field) (left : ℕ) (node : Node) (path found : List LinkId)
    → Contains (completions f left node path) found → WalksOn f left node path found
unfolding completions
completion-walks f zero node path found has = Contains-nil has
completion-walks f (suc left) node path found has =
    let over = flat_map-Contains (along f path (completions f left)) (f.leaving node) found has in
    let link : LinkId = over.0 in
    let go : (t : Turn) → turn_of f path link ≡ t → Contains (by_turn t ((path ++ link ∷ []) ∷ [])
    (completions f left (f.to link) (path ++ link ∷ []))) found
    → WalksOn f (suc left) node path found =
    elim [
      | Away ↦ λ is in_it. Contains-nil in_it
      | Ends ↦ λ is in_it. elim (Contains-cases (path ++ link ∷ []) [] found in_it) [
        | inl whole ↦ record {
          rest = link ∷ [];
          whole = sym whole;
          few = omega arith;
          walks = walks-one f node path link over.1 (turn-ends f path link is);
        }
        | inr none ↦ Contains-nil none
      ]
      | Goes ↦ λ is in_it.
          let on = completion-walks f left (f.to link) (path ++ link ∷ []) found in_it in
          record {
            rest = link ∷ on.rest;
            whole = on.whole ∙ append_assoc path (link ∷ []) on.rest;
            few = omega (arith, on.few);
            walks = walks-more f node path link on.rest over.1 (turn-goes f path link is)
                on.walks;
          }
    ]
    in go (turn_of f path link) refl over.2

-- ---- and each list that walks on is a completion

-- A new router is no interface.
new-is-away : (f : Field) (path : List LinkId) (node : Node) → is_router f.goal ≡ false
    → is_new f path node ≡ true → same_node node f.goal ≡ false
new-is-away f path node outside new =
    let go : (n g : Node) → is_router g ≡ false → is_router n ≡ true → same_node n g ≡ false =
    elim [
      | Router r ↦ elim [
        | Router q ↦ λ out router. absurd (false≢true (sym out))
        | Ni m ↦ λ out router. refl
      ]
      | Ni n ↦ λ g out router. absurd (false≢true router)
    ]
    in go node f.goal outside (and_parts (is_router node) _ new).0

pub walk-completes : (f : Field) (left : ℕ) (node : Node) (path rest : List LinkId)
    → is_router f.goal ≡ false → Walks f node path rest → length rest ≤ left
    → Contains (completions f left node path) (path ++ rest)
unfolding completions
walk-completes f left node path [] outside walks few = walks-none f node path walks
walk-completes f zero node path (link ∷ rest) outside walks few = absurd (omega (arith, few))
walk-completes f (suc left) node path (link ∷ rest) outside walks few =
    let longer : List LinkId = path ++ link ∷ [] in
    let more : List (List LinkId) = completions f left (f.to link) longer in
    Contains-flat_map (along f path (completions f left)) (f.leaving node) link
    (path ++ link ∷ rest) walks.joined.0
    (elim (walks-first f node path link rest walks) [
      | inl (none, ends) ↦
          let goal : same_node (f.to link) f.goal ≡ true =
          ap (λ n. same_node n f.goal) ends ∙ same_node-refl f.goal in
          rw (
            none,
            cond-true (same_node (f.to link) f.goal) Ends
                (cond (is_new f path (f.to link)) Goes Away) goal,
          )
          (Contains-here longer [])
      | inr on ↦
          let goes : turn_of f path link ≡ Goes =
          cond-false (same_node (f.to link) f.goal) Ends _
          (new-is-away f path (f.to link) outside on.new)
          ∙ cond-true (is_new f path (f.to link)) Goes Away on.new in
          subst (λ (t : Turn). Contains (by_turn t (longer ∷ []) more) (path ++ link ∷ rest))
          (sym goes)
          (subst (Contains more) (append_assoc path (link ∷ []) rest)
          (walk-completes f left (f.to link) longer rest outside on.walks (omega (arith, few))))
    ])

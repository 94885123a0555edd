-- How every exposed node is planted, one after the other.
use Rattle.alt_forest.proofs.Common.{◌≡◌, ◌≢◌, ◌∙◌, ℕ, ◌+◌, ◌<◌, ◌≤◌, Bool, true, false, MatchBool, refl, ap, sym, subst, arith, ⊎_elim}
use Rattle.alt_forest.proofs.Common.{Label, Outer, outer_not_out, put, put_here, put_other}
use Rattle.alt_forest.proofs.Common.{cases_eq, Out, IsExposed, IsSound, label_at, state_of, IsPlanted, exposed_count, tree_count, looks_left, node_limit, no_roots, HasTreeNodes}
use Rattle.alt_forest.proofs.Common.{outer_range}
use Rattle.alt_forest.specs.declared.search.Search.{Search}
use Rattle.search_start.specs.Ready.{IsReady}

-- a search whose trees, and what is kept of their events, alone are others
abbrev pub IsPlantedFrom : Search → Search → Type 0
IsPlantedFrom s t = t ≡ record s { arena = record s.arena { motions = t.arena.motions }; labels = t.labels; queue = t.queue; tree_nodes = t.tree_nodes; scanned = t.scanned }

-- where the queue is the same too
pub planted_from : (s t : Search) → t ≡ record s { arena = record s.arena { motions = t.arena.motions }; labels = t.labels; tree_nodes = t.tree_nodes; scanned = t.scanned }
    → IsPlantedFrom s t
planted_from s t rest = rw rest refl

-- what planting has left of a search so far: each exposed node up to this number is planted, and no node above it is in a tree
pub record IsPlanting (s u : Search) (k : ℕ) (some : Bool) (old new : ℕ) : Type 0 where
  pub sound : IsSound u
  pub listed : HasTreeNodes u
  pub frame : IsPlantedFrom s u
  pub all_rooted : (a : ℕ) → a ≤ k → IsExposed (state_of u) a → label_at u.labels.items a ≢ Out
  pub out : (a : ℕ) → k < a → label_at u.labels.items a ≡ Out
  pub trees : MatchBool some (tree_count (state_of u) ≢ 0) (tree_count (state_of u) ≡ 0)
  pub exposed : exposed_count (state_of u) ≡ exposed_count (state_of s)
  pub inspections : new + looks_left (state_of u) ≤ old + looks_left (state_of s)

pub planting_none : (s : Search) (steps : ℕ) → IsReady s → IsPlanting s s 0 false steps steps
planting_none s steps r =
    let none : (a : ℕ) → a ≤ 0 → IsExposed (state_of s) a → label_at s.labels.items a ≢ Out = λ a low x. absurd (omega (arith, low, (outer_range s a r.sound.shape x.0).0)) in
    let trees = no_roots (state_of s) r.labels in
    record { sound = r.sound; listed = r.listed; frame = refl; all_rooted = none; out = λ a low. r.labels a; trees = trees; exposed = refl; inspections = omega arith }

-- the next number, where it is an exposed node, which is planted
pub planting_put : (s u t : Search) (k node : ℕ) (some : Bool) (old mid new : ℕ) → node ≡ k + 1 → IsPlanting s u k some old mid → IsSound t → HasTreeNodes t → IsPlantedFrom u t
    → label_at t.labels.items ≡ put (label_at u.labels.items) node Outer → tree_count (state_of t) ≡ tree_count (state_of u) + 1
    → exposed_count (state_of t) ≡ exposed_count (state_of u) → new + looks_left (state_of t) ≤ mid + looks_left (state_of u) → IsPlanting s t (k + 1) true old new
planting_put s u t k node some old mid new is i sound tree_nodes rest labels trees exposed looks =
    let before : (a : ℕ) → IsExposed (state_of t) a → IsExposed (state_of u) a = λ a x. subst (λ (y : Search). IsExposed (state_of y) a) rest x in
    let here : label_at t.labels.items node ≡ Outer = ap (λ (f : ℕ → Label). f node) labels ∙ put_here (label_at u.labels.items) node Outer in
    let others : (a : ℕ) → a ≢ node → label_at t.labels.items a ≡ label_at u.labels.items a = λ a q. ap (λ (f : ℕ → Label). f a) labels
    ∙ put_other (label_at u.labels.items) node Outer a q in
    let from : IsPlantedFrom s t = rw (rest, i.frame) refl in
    let planted : (a : ℕ) → a ≤ k + 1 → IsExposed (state_of t) a → label_at t.labels.items a ≢ Out = λ a low x. ⊎_elim
    (λ q. λ out. outer_not_out (sym here ∙ ap (label_at t.labels.items) (sym q) ∙ out))
    (λ q. λ out. i.all_rooted a (omega (arith, low, is, q)) (before a x) (sym (others a q) ∙ out)) (cases_eq a node) in
    let out : (a : ℕ) → k + 1 < a → label_at t.labels.items a ≡ Out = λ a low. others a (omega (arith, low, is)) ∙ i.out a (omega (arith, low)) in
    let all = exposed ∙ i.exposed in
    let paid : new + looks_left (state_of t) ≤ old + looks_left (state_of s) = omega (arith, looks, i.inspections) in
    record { sound = sound; listed = tree_nodes; frame = from; all_rooted = planted; out = out; trees = λ none. omega (arith, trees, none); exposed = all; inspections = paid }

-- where it is none, nothing changes
pub planting_past : (s u : Search) (k node : ℕ) (some : Bool) (old new : ℕ) → node ≡ k + 1 → IsPlanting s u k some old new → (IsExposed (state_of u) node → ⊥)
    → IsPlanting s u (k + 1) some old new
planting_past s u k node some old new is i free =
    let planted : (a : ℕ) → a ≤ k + 1 → IsExposed (state_of u) a → label_at u.labels.items a ≢ Out = λ a low x. ⊎_elim
    (λ q. absurd (free (subst (IsExposed (state_of u)) q x))) (λ q. i.all_rooted a (omega (arith, low, is, q)) x) (cases_eq a node) in
    let out : (a : ℕ) → k + 1 < a → label_at u.labels.items a ≡ Out = λ a low. i.out a (omega (arith, low)) in
    record { sound = i.sound; listed = i.listed; frame = i.frame; all_rooted = planted; out = out; trees = i.trees; exposed = i.exposed; inspections = i.inspections }

-- once all numbers are gone through
pub planting_done : (s u : Search) (k end : ℕ) (some : Bool) (old new : ℕ) → IsPlanting s u k some old new → end ≡ node_limit s.arena.vertex_count → end ≤ k
    → IsPlanted (state_of u)
planting_done s u k end some old new i limit last a x =
    let range = outer_range u a i.sound.shape x.0 in
    let same : node_limit u.graph.vertices ≡ node_limit s.arena.vertex_count = ap node_limit (sym i.sound.shape.arena ∙ ap (λ (y : Search). y.arena.vertex_count) i.frame) in
    i.all_rooted a (omega (arith, range.1, same, limit, last)) x

-- The slack of an edge by the family's duals is the slack that certificates know.
use Rattle.graph_theory.proofs.Common.{◌≡◌, ℕ, zero, suc, ◌+◌, ◌-◌, ◌≤◌, ℤ, pos, ◌+ℤ◌, ◌-ℤ◌, ◌*ℤ◌, ⊎_elim, Bool, cond, List, [], ◌∷◌}
use Rattle.graph_theory.proofs.Common.{length, sym, ap, ap₂, ◌∙◌, arith, get_or, drop, ints, get_or-take, get_or-drop, int_sum_to, IsEdgeWithin, crosses, DualSet, set_at, dual_of}
use Rattle.graph_theory.proofs.Common.{crossed_by, slack, crosses-same}
use Rattle.graph_theory.specs.declared.edge.Edge.{Edge}
use Rattle.blossom_arena.specs.Family.{Blossom, dual_at}
use Rattle.blossom_arena.specs.Slack.{duals_across, vertex_duals, sets_of, AreListed}

-- the first term of a sum apart
sum_first : (f : ℕ → ℤ) (n : ℕ) → int_sum_to f (suc n) ≡ f 0 +ℤ int_sum_to (λ k. f (suc k)) n
sum_first f zero = omega (arith, ints)
sum_first f (suc n) = omega (arith, ints, sum_first f n)

crossed_cons : (s : DualSet) (sets : List DualSet) (e : Edge) → crossed_by (s ∷ sets) (length (s ∷ sets)) e
    ≡ cond (crosses s.members e) s.dual (pos 0) +ℤ crossed_by sets (length sets) e
crossed_cons s sets e = sum_first (λ j. cond (crosses (set_at (s ∷ sets) j).members e) (set_at (s ∷ sets) j).dual (pos 0)) (length sets)

across_sets : (ys : List ℤ) (bs : List Blossom) (e : Edge) → duals_across (dual_at ys) bs e
    ≡ (dual_at ys e.u +ℤ dual_at ys e.v) +ℤ crossed_by (sets_of ys bs) (length (sets_of ys bs)) e
across_sets ys [] e = omega (arith, ints)
across_sets ys (b ∷ older) e =
    let first : DualSet = record { dual = dual_at ys b.node; members = b.members } in
    omega (arith, ints, across_sets ys older e, crossed_cons first (sets_of ys older) e)

pub vertex_dual : (n : ℕ) (ys : List ℤ) (v : ℕ) → 1 ≤ v → v ≤ n → dual_of (vertex_duals n ys) v ≡ dual_at ys v
vertex_dual n ys v low high =
    let one : 1 + (v - 1) ≡ v = omega arith in
    get_or-take n (drop 1 ys) (v - 1) (pos 0) (omega arith) ∙ get_or-drop 1 ys (v - 1) (pos 0) ∙ ap (λ i. get_or ys i (pos 0)) one

-- twice the weight, without the duals that the edge feels
pub slack_across : (n : ℕ) (ys : List ℤ) (bs : List Blossom) (e : Edge) → IsEdgeWithin n e
    → slack (vertex_duals n ys) (sets_of ys bs) e ≡ (pos 2 *ℤ e.w) -ℤ duals_across (dual_at ys) bs e
slack_across n ys bs e within =
    omega (arith, ints, vertex_dual n ys e.u within.u_low within.u_high, vertex_dual n ys e.v within.v_low within.v_high, across_sets ys bs e)

-- a certificate may leave out the sets of dual 0, and list the vertices of the others in any order
crossed_listed : (ys : List ℤ) (bs : List Blossom) (sets : List DualSet) (e : Edge) → AreListed ys bs sets
    → crossed_by sets (length sets) e ≡ crossed_by (sets_of ys bs) (length (sets_of ys bs)) e
crossed_listed ys [] sets e listed = ap (λ ss. crossed_by ss (length ss) e) listed
crossed_listed ys (b ∷ older) sets e listed =
    let first : DualSet = record { dual = dual_at ys b.node; members = b.members } in
    ⊎_elim
    (λ out.
    let none : cond (crosses b.members e) (dual_at ys b.node) (pos 0) ≡ pos 0 = grind (arith, out.0) in
    omega (arith, ints, crossed_listed ys older sets e out.1, crossed_cons first (sets_of ys older) e, none))
    (λ kept. ap (λ ss. crossed_by ss (length ss) e) kept.2
    ∙ crossed_cons kept.0 kept.1 e
    ∙ ap₂ (λ (z w : ℤ). z +ℤ w) (ap₂ (λ (q : Bool) (y : ℤ). cond q y (pos 0)) (crosses-same kept.0.members b.members e kept.3.members) kept.3.dual)
    (crossed_listed ys older kept.1 e kept.4)
    ∙ sym (crossed_cons first (sets_of ys older) e))
    listed

pub slack_listed : (n : ℕ) (ys : List ℤ) (bs : List Blossom) (sets : List DualSet) (e : Edge) → IsEdgeWithin n e → AreListed ys bs sets
    → slack (vertex_duals n ys) sets e ≡ (pos 2 *ℤ e.w) -ℤ duals_across (dual_at ys) bs e
slack_listed n ys bs sets e within listed =
    omega (arith, ints, crossed_listed ys bs sets e listed, slack_across n ys bs e within)

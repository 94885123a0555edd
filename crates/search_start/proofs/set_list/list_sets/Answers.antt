use Rattle.alt_forest.proofs.Common.{◌≡◌, ◌∙◌, ℕ, List, [], ◌∷◌, ◌++◌, ℤ, pos, ◌≤ℤ◌, Bool, true, false, cond, length, get_or, sym, ap, ap₂, subst, arith}
use Rattle.alt_forest.proofs.Common.{append_assoc, int_lt, filter, AllByRecursion, ints, append-nil, length-map, recursion_from_All, holds, Blossom, names_of, dual_at, is_node, later_in}
use Rattle.alt_forest.proofs.Common.{blossoms_most, name_is_node}
use Rattle.search_start.specs.Proving.{is_proving, proving}
use Rattle.search_start.proofs.ProvingSets.{each_proving}
use Rattle.search_start.proofs.set_list.list_sets.Goals as goal

pub loop-b-init : goal.loop-b-init
loop-b-init c =
    let ys = c.args.arena.now.duals in
    let all : c.into_iter-b-iterator.result ≡ names_of c.args.arena.now.blossoms = c.into_iter-b-iterator.ensures.into_iter_gives ∙ c.blossoms-b-items.ensures.blossoms in
    let few = blossoms_most c.args.arena.now.vertex_count c.args.arena.now.blossoms c.blossoms-b-items.ensures.is_family.nested in
    record {
      lists = ap₂ (λ (xs left : List ℕ). xs ++ filter (is_proving ys) left) c.clear.ensures.items all;
      left = λ x there. ap (λ xs. holds xs x) (sym all) ∙ there;
      size_limit = omega (arith, few, c.clear.ensures.len, ap length all, length-map c.args.arena.now.blossoms (λ (b : Blossom). b.node));
      capacity = c.clear.ensures.capacity;
    }

-- one node more has been gone through
gone : (ys : List ℤ) (listed left rest all : List ℕ) (a : ℕ) (t : Bool) → left ≡ a ∷ rest → is_proving ys a ≡ t → listed ++ filter (is_proving ys) left ≡ all
    → listed ++ cond t (a ∷ filter (is_proving ys) rest) (filter (is_proving ys) rest) ≡ all
gone ys listed left rest all a t steps test lists =
    sym (ap (λ q. listed ++ cond q (a ∷ filter (is_proving ys) rest) (filter (is_proving ys) rest)) test) ∙ sym (ap (λ xs. listed ++ filter (is_proving ys) xs) steps) ∙ lists

positive_yes : (y : ℤ) → pos 1 ≤ℤ y → int_lt (pos 0) y ≡ true
positive_yes y h = grind (arith, ints)

positive_no : (y : ℤ) → y ≤ℤ pos 0 → int_lt (pos 0) y ≡ false
positive_no y h = grind (arith, ints)

pub loop-b-preserved-then-counts : goal.loop-b-preserved-then-counts
loop-b-preserved-then-counts c =
    let ys = c.args.arena.now.duals in
    let i = c.loop-b.invariant in
    let steps = c.in-Some.ensures.steps in
    let high : pos 1 ≤ℤ dual_at ys c.in-Some.b = omega (arith, ints, c.if-counts.true, c.dual-counts.ensures.dual) in
    record {
      lists = ap (λ xs. xs ++ filter (is_proving ys) c.next.new.self) c.push_reserved.ensures.items
          ∙ append_assoc c.loop-b.sets.items (c.in-Some.b ∷ []) (filter (is_proving ys) c.next.new.self)
          ∙ gone ys c.loop-b.sets.items _ c.next.new.self _ c.in-Some.b true steps (positive_yes (dual_at ys c.in-Some.b) high) i.lists;
      left = λ x there. i.left x (ap (λ xs. holds xs x) steps ∙ later_in c.in-Some.b c.next.new.self x there);
      size_limit = omega (arith, i.size_limit, c.push_reserved.ensures.len, ap length steps);
      capacity = c.push_reserved.ensures.capacity ∙ i.capacity;
    }

pub loop-b-preserved : goal.loop-b-preserved
loop-b-preserved c =
    let ys = c.args.arena.now.duals in
    let i = c.loop-b.invariant in
    let steps = c.in-Some.ensures.steps in
    let none : dual_at ys c.in-Some.b ≤ℤ pos 0 = omega (arith, ints, c.if-counts.false, c.dual-counts.ensures.dual) in
    record {
      lists = gone ys c.loop-b.sets.items _ c.next.new.self _ c.in-Some.b false steps (positive_no (dual_at ys c.in-Some.b) none) i.lists;
      left = λ x there. i.left x (ap (λ xs. holds xs x) steps ∙ later_in c.in-Some.b c.next.new.self x there);
      size_limit = omega (arith, i.size_limit, ap length steps);
      capacity = i.capacity;
    }

pub returns-clause-proving : goal.returns-clause-proving
returns-clause-proving c = sym (append-nil c.loop-b.sets.items)
    ∙ ap (λ xs. c.loop-b.sets.items ++ filter (is_proving c.args.arena.now.duals) xs) (sym c.in-None.ensures.steps.0) ∙ c.loop-b.invariant.lists

pub returns-clause-nodes : goal.returns-clause-nodes
returns-clause-nodes c =
    let ys = c.args.arena.now.duals in
    let bs = c.args.arena.now.blossoms in
    let is : ℕ → Type 0 = λ a. is_node c.args.arena.now.vertex_count bs a ≡ true in
    subst (AllByRecursion is) (sym (returns-clause-proving c))
    (recursion_from_All is (proving ys bs) (λ k d low. name_is_node c.args.arena.now.vertex_count bs (get_or (proving ys bs) k d) (each_proving ys bs k d low).named))

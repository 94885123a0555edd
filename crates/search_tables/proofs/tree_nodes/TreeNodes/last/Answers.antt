use Rattle.graph_theory.proofs.Common.{◌≡◌, ◌∙◌, ℕ, ◌-◌, ◌<◌, true, Option, Some, None, is_some, refl, sym, ap, arith, rules, vec_len, get_or}
use Rattle.graph_theory.proofs.Common.{length, eqb-false, get_or_read}
use Rattle.search_tables.specs.Listing.{Listing, tree_id_at}
use Rattle.search_tables.proofs.Kept.{some_same, some_not_none}
use Rattle.search_tables.proofs.tree_nodes.TreeNodes.last.Goals as goal

none_of : (o : Option ℕ) → (is_some o ≡ true → ⊥) → o ≡ None
none_of None never = refl
none_of (Some x) never = absurd (never refl)

pub returns-then-is_empty-clause-tree_ids : goal.returns-then-is_empty-clause-tree_ids
returns-then-is_empty-clause-tree_ids c = λ e a.
    let zero : vec_len c.self.inside.nodes ≡ 0 = search rules in
    let none = none_of (tree_id_at c.self.inside.tree_ids.items a) (λ some. absurd (omega (arith, c.self.invariant.placed.within a some, zero))) in
    sym (ap (λ (l : Listing). tree_id_at l.tree_ids a) c.self.view_is) ∙ none

pub index-requires : goal.index-requires
index-requires c = let some = eqb-false (vec_len c.self.inside.nodes) 0 (sym c.is_empty.ensures ∙ c.if-is_empty.false) in omega (arith, some, c.len.ensures)

pub returns : goal.returns
returns c =
    let s = c.self.inside in
    let some = eqb-false (vec_len s.nodes) 0 (sym c.is_empty.ensures ∙ c.if-is_empty.false) in
    let low : c.len.result - 1 < length s.nodes.items = omega (arith, some, c.len.ensures) in
    let is : c.index.result.now ≡ get_or s.nodes.items (c.len.result - 1) 0 = get_or_read s.nodes.items (c.len.result - 1) c.index.result.now low c.index.ensures 0 in
    record {
      in_tree = λ a e. ap (λ (l : Listing). is_some (tree_id_at l.tree_ids a)) (sym c.self.view_is)
          ∙ ap (λ (k : ℕ). is_some (tree_id_at s.tree_ids.items k)) (sym (some_same c.index.result.now a e) ∙ is) ∙ c.self.invariant.placed.seeded (c.len.result - 1) low;
      none = λ e. some_not_none c.index.result.now e;
      tree_ids = λ e. some_not_none c.index.result.now e;
    }

-- The list of nodes that changes of duals run over, with one node more and with none.
use Rattle.graph_theory.proofs.Common.{leb, ◌&&◌, ◌≡◌, ℕ, ◌<◌, ◌≤◌, Bool, true, false, ◌||◌, eqb, List, [], ◌∷◌, ◌++◌, length, Option, Some, None, refl}
use Rattle.graph_theory.proofs.Common.{sym, ap, ◌∙◌, arith, slice_set, is_some, nat_eq, IsPermutation, nat_tests, list_any-IsPermutation, IsDistinct-IsPermutation, holds, holds-push}
use Rattle.graph_theory.proofs.Common.{holds_all, all_holds, eqb-turned}
use Rattle.blossom_arena.proofs.Lists.{AllNew, new_from_distinct, distinct_from_new, new-append, length-within, vertices, holds-vertices, length-vertices, later_in, distinct_none}
use Rattle.search_tables.proofs.Updates.{put_entry}
use Rattle.alt_forest.specs.TreeNodes.{AreListed, tree_id_at}
use Rattle.alt_forest.specs.Trees.{node_limit}

-- a node that isn't listed finds room: all nodes that are listed and this one are different numbers up to the limit
pub room_left : (n : ℕ) (nodes : List ℕ) (tree_ids : List (Option ℕ)) (a : ℕ) → AreListed n nodes tree_ids → 1 ≤ a → a ≤ node_limit n → is_some (tree_id_at tree_ids a) ≡ false
    → length nodes < node_limit n
room_left n nodes tree_ids a h low high free =
    let fresh : holds nodes a ≡ false = sym (h.seeded a) ∙ free in
    let all : AllNew (a ∷ nodes) = (fresh, new_from_distinct nodes h.different) in
    let within = length-within (a ∷ nodes) (vertices (node_limit n)) all inside in
    omega (arith, within, length-vertices (node_limit n))
  where
    inside : (v : ℕ) → holds (a ∷ nodes) v ≡ true → holds (vertices (node_limit n)) v ≡ true
    inside v e =
        let ranged = holds_all (λ c. (1 ≤ c) × (c ≤ node_limit n)) nodes v h.in_range in
        holds-vertices (node_limit n) v ∙ in_range v (node_limit n) (holds nodes v) high ranged e
      where
        in_range : (v m : ℕ) (old : Bool) → a ≤ m → (old ≡ true → (1 ≤ v) × (v ≤ m)) → (eqb a v || old) ≡ true → (leb 1 v && leb v m) ≡ true
        in_range v m old high ranged e = grind (arith, nat_tests)

-- one node more, with its tree id
pub listed_more : (n : ℕ) (nodes : List ℕ) (tree_ids : List (Option ℕ)) (a w : ℕ) → AreListed n nodes tree_ids → 1 ≤ a → a ≤ node_limit n → a < length tree_ids
    → is_some (tree_id_at tree_ids a) ≡ false
    → AreListed n (nodes ++ a ∷ []) (slice_set tree_ids a (Some w))
listed_more n nodes tree_ids a w h low high place free = record {
  different = distinct_from_new (nodes ++ a ∷ []) (new-append nodes (a ∷ []) (new_from_distinct nodes h.different) (refl, tt) (λ v e. grind (arith, nat_tests, fresh)));
  in_range = all_holds (λ c. (1 ≤ c) × (c ≤ node_limit n)) (nodes ++ a ∷ [])
      (λ v e. let was = holds_all (λ c. (1 ≤ c) × (c ≤ node_limit n)) nodes v h.in_range in grind (arith, nat_tests, holds-push nodes a v));
  seeded = λ c. ap (λ (f : ℕ → Option ℕ). is_some (f c)) (put_entry tree_ids a (Some w) None place) ∙ grind (arith, nat_tests, holds-push nodes a c, h.seeded c);
}
  where
    fresh : holds nodes a ≡ false
    fresh = sym (h.seeded a) ∙ free

-- a node less, whose tree id goes
pub listed_less : (n : ℕ) (nodes rest : List ℕ) (tree_ids : List (Option ℕ)) (a : ℕ) → AreListed n nodes tree_ids → IsPermutation nodes (a ∷ rest) → a < length tree_ids
    → AreListed n rest (slice_set tree_ids a None)
listed_less n nodes rest tree_ids a h same place = record {
  different = distinct_from_new rest all.1;
  in_range = all_holds (λ c. (1 ≤ c) × (c ≤ node_limit n)) rest (λ v e. holds_all (λ c. (1 ≤ c) × (c ≤ node_limit n)) nodes v h.in_range
      (list_any-IsPermutation (λ m. eqb m v) nodes (a ∷ rest) same ∙ later_in a rest v e));
  seeded = λ c.
      let all_have : holds nodes c ≡ (eqb a c || holds rest c) = list_any-IsPermutation (λ m. eqb m c) nodes (a ∷ rest) same in
      let fresh : holds rest a ≡ false = all.0 in
      ap (λ (f : ℕ → Option ℕ). is_some (f c)) (put_entry tree_ids a None None place) ∙ grind (arith, nat_tests, h.seeded c);
}
  where
    all : AllNew (a ∷ rest)
    all = new_from_distinct (a ∷ rest) (IsDistinct-IsPermutation nat_eq eqb-turned nodes (a ∷ rest) same h.different)

-- no node is listed where none has a tree id
pub none_listed : (n : ℕ) (tree_ids : List (Option ℕ)) → ((c : ℕ) → tree_id_at tree_ids c ≡ None) → AreListed n [] tree_ids
none_listed n tree_ids none = record {
  different = distinct_none;
  in_range = all_holds (λ c. (1 ≤ c) × (c ≤ node_limit n)) [] (λ v e. let no : false ≡ true = e in absurd (cc));
  seeded = λ c. ap (λ (o : Option ℕ). is_some o) (none c);
}

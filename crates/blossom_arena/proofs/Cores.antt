-- The vertices that name the sets of outermost nodes.
use Rattle.graph_theory.proofs.Common.{◌≡◌, ℕ, true, List, sym, ap, ◌∙◌, ℤ, ◌+ℤ◌, int_wrap, int_wrap-add_left, holds}
use Rattle.std.specs.Int.{w64}
use Rattle.blossom_arena.specs.Family.{Blossom, is_node, is_outermost, is_vertex, members_of, outermost, IsNested}
use Rattle.blossom_arena.specs.Fields.{IsPlacement, inner_of}
use Rattle.blossom_arena.specs.Placement.{Placement}
use Rattle.blossom_arena.proofs.Nested.{outermost_parts}
use Rattle.blossom_arena.proofs.Sets.{member_vertex, outermost_by_member, outermost_has}

-- a core of each node among its vertices
abbrev pub HasCores : ℕ → List Blossom → (ℕ → ℕ) → Type 0
HasCores n bs core_of = (x : ℕ) → is_node n bs x ≡ true → holds (members_of bs x) (core_of x) ≡ true

module _ (n : ℕ) (bs : List Blossom) (core_of : ℕ → ℕ) (nested : IsNested n bs) (cores : HasCores n bs core_of) where
  pub core_outer : (x : ℕ) → is_outermost n bs x ≡ true → outermost bs (core_of x) ≡ x
  core_outer x o = outermost_by_member n bs x (core_of x) nested o (cores x (outermost_parts n bs x o).0)

  module _ (y : ℕ → ℤ) (p : Placement) (h : IsPlacement n core_of bs y p) where
    -- the vertices of a set have one outermost node
    pub set_of : (x v : ℕ) → is_outermost n bs x ≡ true → is_vertex n v ≡ true → p.set v ≡ core_of x → outermost bs v ≡ x
    set_of x v o iv e =
        sym (core_outer (outermost bs v) (outermost_has n bs v nested iv).0) ∙ ap (outermost bs) (sym (h.sets v iv) ∙ e) ∙ core_outer x o

    pub set_core : (x : ℕ) → is_outermost n bs x ≡ true → p.top (p.set (core_of x)) ≡ x
    set_core x o =
        let is = (outermost_parts n bs x o).0 in
        h.tops (core_of x) (member_vertex n bs x (core_of x) nested is (cores x is)) ∙ core_outer x o

-- what a vertex has: its outermost node, its set and its sum
pub record HasPlace (p : Placement) (v o s : ℕ) (x : ℤ) : Type 0 where
  pub top : p.top (p.set v) ≡ o
  pub set : p.set v ≡ s
  pub inner : p.inner v ≡ x

pub each_placed : (n : ℕ) (core_of : ℕ → ℕ) (bs : List Blossom) (y : ℕ → ℤ) (p : Placement)
    → ((v : ℕ) → is_vertex n v ≡ true → HasPlace p v (outermost bs v) (core_of (outermost bs v)) (int_wrap w64 (inner_of y bs v))) → IsPlacement n core_of bs y p
each_placed n core_of bs y p at = record { tops = λ v iv. (at v iv).top; inner = λ v iv. (at v iv).inner; sets = λ v iv. (at v iv).set }

-- what is added to a part that has wrapped around is added to the part
pub wrapped : (x part z sum : ℤ) → x ≡ int_wrap w64 part → part +ℤ z ≡ sum → int_wrap w64 (x +ℤ z) ≡ int_wrap w64 sum
wrapped x part z sum is e = ap (λ t. int_wrap w64 (t +ℤ z)) is ∙ int_wrap-add_left w64 part z ∙ ap (int_wrap w64) e

-- What the writes of an expand leave: a way along the circuit, the nodes that are mates two by two, and all others.
use Rattle.alt_forest.proofs.Common.{◌≡◌, ◌≢◌, ℕ, ◌%◌, true, false, eqb, List, [], ◌∷◌, ◌++◌, length, Option, Some, refl, sym, ap, ◌∙◌, arith, ⊎_elim}
use Rattle.alt_forest.proofs.Common.{or_parts, or_cases, both_ways, eqb-true, eqb-false, Link, in_ring, nodes_of, AllNew, by_test, Label, Outer, Inner, Out, next_node, ArePaired, put}
use Rattle.alt_forest.proofs.Common.{put_here, put_other}
use Rattle.tree_steps.specs.Circuits.{mirror}
use Rattle.tree_steps.specs.Expanded.{mated, labelled_out, labels_up, parents_up}
use Rattle.tree_steps.proofs.Mirror.{mirror_length, mirror_behind}

-- an even number of links
abbrev pub ArePairs : List Link → Type 0
ArePairs [] = Unit {0}
ArePairs (a ∷ []) = ⊥
ArePairs (a ∷ (b ∷ rest)) = ArePairs rest

pub even_pairs : (ls : List Link) → length ls % 2 ≡ 0 → ArePairs ls
even_pairs [] e = tt
even_pairs (a ∷ []) e = absurd (omega (arith, e))
even_pairs (a ∷ (b ∷ ls)) e = even_pairs ls (omega (arith, e))

-- two writes elsewhere
put_both : {A : Type 0} (f : ℕ → A) (a b : ℕ) (x y : A) (c : ℕ) → c ≢ a → c ≢ b → put (put f a x) b y c ≡ f c
put_both f a b x y c na nb = put_other (put f a x) b y c nb ∙ put_other f a x c na

apart_first : (a : Link) (ls : List Link) (c : ℕ) → in_ring (a ∷ ls) c ≡ false → (c ≢ a.node) × (in_ring ls c ≡ false)
apart_first a ls c out = let p = or_parts (eqb a.node c) (in_ring ls c) out in (λ q. eqb-false a.node c p.0 (sym q), p.1)

apart_two : (a b : Link) (ls : List Link) (c : ℕ) → in_ring (a ∷ (b ∷ ls)) c ≡ false → (c ≢ a.node) × (c ≢ b.node) × (in_ring ls c ≡ false)
apart_two a b ls c out = let p = apart_first a (b ∷ ls) c out in let q = apart_first b ls c p.1 in (p.0, q.0, q.1)

pub mated_other : (m : ℕ → Option ℕ) (ls : List Link) (c : ℕ) → in_ring ls c ≡ false → mated m ls c ≡ m c
mated_other m [] c out = refl
mated_other m (a ∷ []) c out = refl
mated_other m (a ∷ (b ∷ rest)) c out =
    let p = apart_two a b rest c out in
    mated_other (put (put m a.node (Some a.edge)) b.node (Some a.edge)) rest c p.2 ∙ put_both m a.node b.node (Some a.edge) (Some a.edge) c p.0 p.1

pub mated_paired : (m : ℕ → Option ℕ) (ls : List Link) → ArePairs ls → AllNew (nodes_of ls) → ArePaired (mated m ls) ls
mated_paired m [] even new = tt
mated_paired m (a ∷ []) even new = absurd even
mated_paired m (a ∷ (b ∷ rest)) even new =
    let now : ℕ → Option ℕ = put (put m a.node (Some a.edge)) b.node (Some a.edge) in
    let p = apart_first b rest a.node new.0 in (
      mated_other now rest a.node p.1 ∙ put_other (put m a.node (Some a.edge)) b.node (Some a.edge) a.node p.0 ∙ put_here m a.node (Some a.edge),
      mated_other now rest b.node new.1.0 ∙ put_here (put m a.node (Some a.edge)) b.node (Some a.edge),
      mated_paired now rest even new.1.1,
    )

-- a write elsewhere
pub paired_else : (m : ℕ → Option ℕ) (x : ℕ) (e : Option ℕ) (ls : List Link) → in_ring ls x ≡ false → ArePaired m ls → ArePaired (put m x e) ls
paired_else m x e [] out h = tt
paired_else m x e (a ∷ []) out h = absurd h
paired_else m x e (a ∷ (b ∷ rest)) out h =
    let p = apart_two a b rest x out in
    (put_other m x e a.node (λ s. p.0 (sym s)) ∙ h.0, put_other m x e b.node (λ s. p.1 (sym s)) ∙ h.1, paired_else m x e rest p.2 h.2)

pub out_other : (l : ℕ → Label) (ls : List Link) (c : ℕ) → in_ring ls c ≡ false → labelled_out l ls c ≡ l c
out_other l [] c out = refl
out_other l (a ∷ rest) c out = let p = apart_first a rest c out in out_other (put l a.node Out) rest c p.1 ∙ put_other l a.node Out c p.0

pub out_there : (l : ℕ → Label) (ls : List Link) (c : ℕ) → in_ring ls c ≡ true → labelled_out l ls c ≡ Out
out_there l [] c r = absurd (both_ways false refl r)
out_there l (a ∷ rest) c r =
    by_test (in_ring rest c)
    (λ later. out_there (put l a.node Out) rest c later)
    (λ none. ⊎_elim (λ here. out_other (put l a.node Out) rest c none ∙ ap (put l a.node Out) (sym (eqb-true a.node c here)) ∙ put_here l a.node Out)
    (λ later. absurd (both_ways (in_ring rest c) none later)) (or_cases (eqb a.node c) (in_ring rest c) r))

-- the way up leaves the labels and parents of other nodes
pub labels_up_other : (l : ℕ → Label) (ls : List Link) (c : ℕ) → in_ring ls c ≡ false → labels_up l ls c ≡ l c
labels_up_other l [] c out = refl
labels_up_other l (a ∷ []) c out = refl
labels_up_other l (a ∷ (b ∷ ls)) c out =
    let p = apart_two a b ls c out in labels_up_other (put (put l a.node Outer) b.node Inner) ls c p.2 ∙ put_both l a.node b.node Outer Inner c p.0 p.1

pub parents_up_other : (p : ℕ → Option ℕ) (x edge parent : ℕ) (ls : List Link) (c : ℕ) → c ≢ x → in_ring ls c ≡ false → parents_up p x edge parent ls c ≡ p c
parents_up_other p x edge parent [] c ne out = put_other p x (Some parent) c ne
parents_up_other p x edge parent (a ∷ []) c ne out = refl
parents_up_other p x edge parent (a ∷ (b ∷ ls)) c ne out =
    let s = apart_two a b ls c out in parents_up_other (put p x (Some edge)) b.node b.edge parent ls c s.1 s.2 ∙ put_other p x (Some edge) c ne

-- each inner node on the way up has its parent
abbrev pub HangAlong : (ℕ → Option ℕ) → ℕ → ℕ → ℕ → List Link → Type 0
HangAlong p x edge parent [] = p x ≡ Some parent
HangAlong p x edge parent (a ∷ []) = Unit {0}
HangAlong p x edge parent (a ∷ (b ∷ rest)) = (p x ≡ Some edge) × HangAlong p b.node b.edge parent rest

pub hang_along : (p : ℕ → Option ℕ) (x edge parent : ℕ) (ls : List Link) → in_ring ls x ≡ false → AllNew (nodes_of ls) → HangAlong
    (parents_up p x edge parent ls) x edge parent ls
hang_along p x edge parent [] out new = put_here p x (Some parent)
hang_along p x edge parent (a ∷ []) out new = tt
hang_along p x edge parent (a ∷ (b ∷ rest)) out new =
    let s = apart_two a b rest x out in
    (parents_up_other (put p x (Some edge)) b.node b.edge parent rest x s.1 s.2 ∙ put_here p x (Some edge), hang_along (put p x (Some edge)) b.node b.edge parent rest new.1.0 new.1.1)

-- where the way up ends
abbrev pub end_of : ℕ → List Link → ℕ
end_of x [] = x
end_of x (a ∷ []) = x
end_of x (a ∷ (b ∷ rest)) = end_of b.node rest

-- an odd number of links and one more lead up to that one
pub end_of_last : (x : ℕ) (ls : List Link) (l : Link) → length ls % 2 ≡ 1 → end_of x (ls ++ l ∷ []) ≡ l.node
end_of_last x [] l odd = absurd (omega (arith, odd))
end_of_last x (a ∷ []) l odd = refl
end_of_last x (a ∷ (b ∷ ls)) l odd = end_of_last b.node ls l (omega (arith, odd))

-- links the other way round lead up to the first one
pub end_mirrored : (x edge : ℕ) (ls : List Link) → length ls % 2 ≡ 0 → end_of x (mirror edge ls []) ≡ next_node ls x
end_mirrored x edge [] even = refl
end_mirrored x edge (l ∷ ls) even = ap (end_of x) (mirror_behind l.edge ls (record { node = l.node; edge = edge } ∷ []))
    ∙ end_of_last x (mirror l.edge ls []) (record { node = l.node; edge = edge }) (omega (arith, mirror_length l.edge ls [], even))

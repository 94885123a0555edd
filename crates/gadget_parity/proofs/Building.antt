-- The graph of two copies while it is built, from the numbers of the vertices in each.
use Rattle.mb_problem.proofs.Common.{◌≡◌, ℕ, ◌+◌, ◌-◌, ◌<◌, ◌≤◌, ℤ, pos, Bool, true, false, not, cond, eqb, ◌&&◌, refl, ap, ap₂, sym, ◌∙◌, subst}
use Rattle.mb_problem.proofs.Common.{arith, List, [], ◌∷◌, ◌++◌, length, All, slice_index, slice_index_or, ne_eqb, get_or_default, Edge, Multigraph, IsEdgeWithin, sum_to-same}
use Rattle.mb_problem.proofs.Common.{Network, IsNetwork, vertices, plain, instance_edge_at, standing, is_loop_at, edge-ends}
use Rattle.mb_problem.specs.declared.instance.InstanceEdge.{InstanceEdge}
use Rattle.gadget_base.proofs.Common.{blocks, place_in, side_edge, between_sides, sides_graph, blocks-same, grown-twice, grown-block}
use Rattle.gadget_parity.specs.Numbers.{is_marked, AreNumbers, copy_by, between_by}
use Rattle.gadget_parity.proofs.Standing.{place-within}

-- both copies of one edge more

abbrev pub copies_by : List ℕ → List ℕ → Network → ℕ → List Edge
copies_by first second i k = copy_by first (instance_edge_at i k) ++ copy_by second (instance_edge_at i k)

pub copies-step : (i : Network) (first second : List ℕ) (old mid one two : Multigraph) (k : ℕ) (e : InstanceEdge) → e ≡ instance_edge_at i k
    → mid ≡ record old { edges = old.edges ++ blocks (copies_by first second i) k } → one ≡ record mid { edges = mid.edges ++ copy_by first e }
    → two ≡ record one { edges = one.edges ++ copy_by second e } → two ≡ record old { edges = old.edges ++ blocks (copies_by first second i) (k + 1) }
copies-step i first second old mid one two k e is before first_added second_added =
    grown-block old mid two (copies_by first second i) k before
    (grown-twice mid one two (copy_by first e) (copy_by second e) first_added second_added
    ∙ ap (λ (x : InstanceEdge). record mid { edges = mid.edges ++ (copy_by first x ++ copy_by second x) }) is)

-- numbers for marks that are the same

standing-same : (there other : ℕ → Bool) (n : ℕ) → ((k : ℕ) → k < n → there (k + 1) ≡ other (k + 1)) → standing there n ≡ standing other n
standing-same there other n same = sum_to-same _ _ n (λ k b. ap (λ (t : Bool). cond {A = ℕ} t 1 0) (same k b))

-- marks that were read are those of the vertices that stand there
pub record AreRead (there : ℕ → Bool) (n : ℕ) (marks : List Bool) : Type 0 where
  pub size : length marks ≡ n
  pub each : (k : ℕ) → k < n → slice_index_or marks k false ≡ there (k + 1)

pub read-marks : (there : ℕ → Bool) (n : ℕ) (marks read : List Bool) → read ≡ marks → length marks ≡ n
    → ((k : ℕ) → k < n → slice_index_or marks k false ≡ there (k + 1))
    → AreRead there n read
read-marks there n marks read same size each = subst (AreRead there n) (sym same) (record { size = size; each = each })

standing-below : (there : ℕ → Bool) (n m : ℕ) (marks : List Bool) → AreRead there n marks → m ≤ n → standing (is_marked marks) m ≡ standing there m
standing-below there n m marks are below =
    standing-same (is_marked marks) there m (λ k b. ap (λ (j : ℕ). slice_index_or marks j false) (omega arith) ∙ are.each k (omega arith))

pub standing-read : (there : ℕ → Bool) (n : ℕ) (marks : List Bool) → AreRead there n marks → standing (is_marked marks) (length marks) ≡ standing there n
standing-read there n marks are = ap (standing (is_marked marks)) are.size ∙ standing-below there n n marks are (omega arith)

pub numbers-read : (there : ℕ → Bool) (from before n : ℕ) (marks : List Bool) (numbers : List ℕ) → AreRead there n marks → from ≡ before
    → AreNumbers (is_marked marks) from (length marks) numbers → AreNumbers there before n numbers
numbers-read there from before n marks numbers read same are =
    let at : AreNumbers (is_marked marks) before n numbers =
    subst (λ (b : ℕ). AreNumbers (is_marked marks) b n numbers) same (subst (λ (m : ℕ). AreNumbers (is_marked marks) from m numbers) read.size are) in
    record {
      one_each = at.one_each;
      each = λ v low high.
          at.each v low high
          ∙ ap₂ (λ (t : Bool) (x : ℕ). cond t (before + x + 1) 0) (read.each (v - 1) (omega arith) ∙ ap there (omega arith))
          (standing-below there n (v - 1) marks read (omega arith));
    }

-- all numbers are those of vertices

number_small : (t : Bool) (p x total : ℕ) → x ≡ cond t p 0 → (t ≡ true → p ≤ total) → x ≤ total
number_small true p x total is h = let small = h refl in omega (arith, is, small)
number_small false p x total is h = omega (arith, is)

numbers_inside : (there : ℕ → Bool) (before n total : ℕ) (numbers : List ℕ) → AreNumbers there before n numbers → before + standing there n ≤ total
    → All (λ x. x ≤ total) numbers
numbers_inside there before n total numbers are inside = λ k d b.
    let size = are.one_each in
    let back : k + 1 - 1 ≡ k = omega arith in
    let small = number_small (there (k + 1)) (place_in there before (k + 1)) (slice_index numbers (k + 1 - 1)) total (are.each (k + 1) (omega arith) (omega (arith, size, b)))
    (λ on. let within = (place-within there before n (k + 1) (omega arith) (omega (arith, size, b)) on).1 in omega (arith, within, inside)) in
    subst (λ (x : ℕ). x ≤ total) (ap (slice_index numbers) back ∙ get_or_default numbers k 0 d b) small

pub numbers-inside : (there : ℕ → Bool) (before n total : ℕ) (numbers read : List ℕ) → AreNumbers there before n numbers → before + standing there n ≤ total
    → read ≡ numbers
    → All (λ x. x ≤ total) read
numbers-inside there before n total numbers read are inside same = subst (λ (xs : List ℕ). All (λ x. x ≤ total) xs) (sym same) (numbers_inside there before n total numbers are inside)

-- the edges by the numbers are those of the graph

some_number : (p : ℕ) → eqb (p + 1) 0 ≡ false
some_number p = ne_eqb (p + 1) 0 (λ e. omega (arith, e))

link_cases : (a b : Bool) (p q x y : ℕ) (w : ℤ) → x ≡ cond a (p + 1) 0 → y ≡ cond b (q + 1) 0
    → cond {A = List Edge} (eqb x 0) [] (cond (eqb y 0) [] (record { u = x; v = y; w = w } ∷ [])) ≡ cond (a && b) (record { u = p + 1; v = q + 1; w = w } ∷ []) []
link_cases false b p q x y w is is' = rw is refl
link_cases true false p q x y w is is' = rw (is, is', some_number p) refl
link_cases true true p q x y w is is' = rw (is, is', some_number p, some_number q) refl

copy_cases : (loop a b : Bool) (p q x y : ℕ) (w : ℤ) → x ≡ cond a (p + 1) 0 → y ≡ cond b (q + 1) 0
    → cond {A = List Edge} loop [] (cond (eqb x 0) [] (cond (eqb y 0) [] (record { u = x; v = y; w = w } ∷ [])))
    ≡ cond (not loop && (a && b)) (record { u = p + 1; v = q + 1; w = w } ∷ []) []
copy_cases true a b p q x y w is is' = refl
copy_cases false a b p q x y w is is' = link_cases a b p q x y w is is'

copy-is : (there : ℕ → Bool) (before : ℕ) (i : Network) (numbers : List ℕ) (k : ℕ) → IsNetwork i → AreNumbers there before (vertices i) numbers → k < length i.edges
    → copy_by numbers (instance_edge_at i k) ≡ side_edge there before i k
copy-is there before i numbers k network are b =
    let e = instance_edge_at i k in
    let ends : IsEdgeWithin (vertices i) (plain e) = edge-ends i k network b in
    copy_cases (is_loop_at i k) (there e.u) (there e.v) _ _ _ _ e.w (are.each e.u ends.u_low ends.u_high) (are.each e.v ends.v_low ends.v_high)

between-is : (one two : ℕ → Bool) (n before : ℕ) (first second : List ℕ) (k : ℕ) → AreNumbers one 0 n first → AreNumbers two before n second → k < n
    → between_by (slice_index first k) (slice_index second k) ≡ between_sides one two before k
between-is one two n before first second k are are' b =
    let back : k ≡ k + 1 - 1 = omega arith in
    link_cases (one (k + 1)) (two (k + 1)) _ _ _ _ (pos 0) (ap (slice_index first) back ∙ are.each (k + 1) (omega arith) (omega arith))
    (ap (slice_index second) back ∙ are'.each (k + 1) (omega arith) (omega arith))

-- a list of numbers as it was read
pub numbers-same_list : (there : ℕ → Bool) (before n : ℕ) (numbers read : List ℕ) → AreNumbers there before n numbers → read ≡ numbers → AreNumbers there before n read
numbers-same_list there before n numbers read are same = subst (AreNumbers there before n) (sym same) are

pub built : (one two : ℕ → Bool) (i : Network) (first second first' second' : List ℕ) (old mid new : Multigraph) → IsNetwork i → AreNumbers one 0 (vertices i) first
    → AreNumbers two (standing one (vertices i)) (vertices i) second → AreNumbers one 0 (vertices i) first' → AreNumbers two (standing one (vertices i)) (vertices i) second'
    → old ≡ record { vertices = standing one (vertices i) + standing two (vertices i); edges = [] }
    → mid ≡ record old { edges = old.edges ++ blocks (copies_by first second i) (length i.edges) }
    → new ≡ record mid { edges = mid.edges ++ blocks (λ k. between_by (slice_index first' k) (slice_index second' k)) (length first') } → new ≡ sides_graph one two i
built one two i first second first' second' old mid new network are are2 are3 are4 start copies all =
    let n = vertices i in
    let before = standing one n in
    let between : ℕ → List Edge = λ k. between_by (slice_index first' k) (slice_index second' k) in
    let edges = blocks-same (copies_by first second i) (λ k. side_edge one 0 i k ++ side_edge two before i k) (length i.edges)
    (λ k b. ap₂ (λ (xs ys : List Edge). xs ++ ys) (copy-is one 0 i first k network are b) (copy-is two before i second k network are2 b)) in
    let links = ap (blocks between) are3.one_each ∙ blocks-same between (between_sides one two before) n (λ k b. between-is one two n before first' second' k are3 are4 b) in
    grown-twice old mid new (blocks (copies_by first second i) (length i.edges)) (blocks between (length first')) copies all
    ∙ ap (λ (g : Multigraph). record g { edges = g.edges ++ (blocks (copies_by first second i) (length i.edges) ++ blocks between (length first')) }) start
    ∙ ap₂ (λ (xs ys : List Edge). record { vertices = before + standing two n; edges = xs ++ ys }) edges links

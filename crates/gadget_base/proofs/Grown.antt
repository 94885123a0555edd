-- Lemmas on graphs whose list of edges grows by a row, a rectangle or a clique.
use Rattle.mb_problem.proofs.Common.{◌≡◌, ℕ, zero, suc, ◌+◌, ◌-◌, ◌*◌, ◌/◌, ◌≤◌, ◌<◌, ℤ, refl, ap, sym, ◌∙◌, arith, List, ◌++◌, length}
use Rattle.mb_problem.proofs.Common.{length-append, take, Result, Ok, Err, OnErr, Edge, sum_to, Multigraph, sum_to-same, sum_to-grows}
use Rattle.std.proofs.lemmas.List.{append_assoc}
use Rattle.gadget_base.specs.Blocks.{blocks, tabled, row, clique}
use Rattle.gadget_base.specs.Added.{AddsFirst}
use Rattle.gadget_base.proofs.Blocks.{blocks-length, tabled-length, blocks-more, row-length, take-tabled, take-blocks}

-- first one list and then another
pub grown-twice : (old mid new : Multigraph) (es fs : List Edge) → mid ≡ record old { edges = old.edges ++ es } → new ≡ record mid { edges = mid.edges ++ fs } → new
    ≡ record old { edges = old.edges ++ (es ++ fs) }
grown-twice old mid new es fs one two =
    two ∙ ap (λ (g : Multigraph). record g { edges = g.edges ++ fs }) one ∙ ap (λ (xs : List Edge). record old { edges = xs }) (append_assoc old.edges es fs)

-- one block more
pub grown-block : (old mid new : Multigraph) (f : ℕ → List Edge) (k : ℕ) → mid ≡ record old { edges = old.edges ++ blocks f k } → new ≡ record mid { edges = mid.edges ++ f k } → new
    ≡ record old { edges = old.edges ++ blocks f (k + 1) }
grown-block old mid new f k one two = grown-twice old mid new (blocks f k) (f k) one two ∙ ap (λ (xs : List Edge). record old { edges = old.edges ++ xs }) (sym (blocks-more f k))

-- what holds in any case
pub on_err : {T E : Type 0} {P : Type 0} (r : Result T E) → P → OnErr r P
on_err (Ok x) p = tt
on_err (Err x) p = p

-- want of memory after the first k edges of n
pub cut-row : (old new : Multigraph) (f : ℕ → Edge) (k n : ℕ) → k < n → new ≡ record old { edges = old.edges ++ tabled f k } → AddsFirst old new (tabled f n)
cut-row old new f k n b now = record {
  count = k;
  fewer = omega (arith, tabled-length f n, b);
  added = now ∙ ap (λ (xs : List Edge). record old { edges = old.edges ++ xs }) (sym (take-tabled f k n b));
}

-- want of memory within block number k + 1 of n
pub cut-block : (old mid new : Multigraph) (f : ℕ → List Edge) (k n : ℕ) → k < n → mid ≡ record old { edges = old.edges ++ blocks f k } → AddsFirst mid new (f k)
    → AddsFirst old new (blocks f n)
cut-block old mid new f k n b whole part =
    let fewer = part.fewer in
    record {
      count = length (blocks f k) + part.count;
      fewer = omega (arith, fewer, blocks-length f k, blocks-length f n, sum_to-grows (λ j. length (f j)) k n b);
      added = grown-twice old mid new (blocks f k) (take part.count (f k)) whole part.added ∙ ap (λ (xs : List Edge). record old { edges = old.edges ++ xs })
          (sym (take-blocks f k n part.count b (omega arith)));
    }

-- how many edges there are
pub grown-length : (old new : Multigraph) (es : List Edge) → new ≡ record old { edges = old.edges ++ es } → length new.edges ≡ length old.edges + length es
grown-length old new es now = ap (λ (g : Multigraph). length g.edges) now ∙ length-append old.edges es

pub grown-vertices : (old new : Multigraph) (es : List Edge) → new ≡ record old { edges = old.edges ++ es } → new.vertices ≡ old.vertices
grown-vertices old new es now = ap (λ (g : Multigraph). g.vertices) now

-- the edges of a clique of which n - 1 - a leave the a-th vertex
pub clique-sum : (n a : ℕ) → a ≤ n → 2 * sum_to (λ j. n - 1 - j) a + a * a + a ≡ 2 * n * a
clique-sum n zero h = omega arith
clique-sum n (suc a) h =
    let e1 : suc a * suc a ≡ a * a + 2 * a + 1 = grind arith in
    let e2 : 2 * n * suc a ≡ 2 * n * a + 2 * n = grind arith in
    omega (arith, clique-sum n a (omega arith), e1, e2)

pub square-less : (n : ℕ) → n * (n - 1) + n ≡ n * n
square-less zero = refl
square-less (suc n) = let e : suc n - 1 ≡ n = omega arith in rw e (grind arith)

pub clique-rows : (before n : ℕ) (w : ℤ) (a : ℕ) → length (blocks (λ a. row (before + a + 1) (before + a + 1) (n - 1 - a) w) a) ≡ sum_to (λ j. n - 1 - j) a
clique-rows before n w a = blocks-length _ a ∙ sum_to-same _ _ a (λ a _. row-length (before + a + 1) (before + a + 1) (n - 1 - a) w)

pub clique-places : (n : ℕ) → sum_to (λ j. n - 1 - j) n ≡ n * (n - 1) / 2
clique-places n =
    let double : 2 * n * n ≡ n * n + n * n = grind arith in
    omega (arith, clique-sum n n (omega arith), square-less n, double)

pub clique-length : (before n : ℕ) (w : ℤ) → length (clique before n w) ≡ n * (n - 1) / 2
clique-length before n w = clique-rows before n w n ∙ clique-places n

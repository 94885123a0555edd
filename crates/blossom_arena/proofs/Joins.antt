-- Runs that are joined to one.
use Rattle.graph_theory.proofs.Common.{◌≡◌, ℕ, suc, ◌+◌, ◌≤◌, ◌<◌, ◌≢◌, true, false, eqb, List, [], ◌∷◌, ◌++◌, length, map, refl, sym, ap, ◌∙◌}
use Rattle.graph_theory.proofs.Common.{subst, arith, get_or, set, append_assoc, length-append, AllByRecursion, eqb-false, or_parts, or_left, both_ways, get_or-set_other, get_or-set_same}
use Rattle.graph_theory.proofs.Common.{length-set, append-nil, flat_map-cons, holds, holds-append}
use Rattle.blossom_arena.proofs.Sets.{in_union}
use Rattle.blossom_arena.proofs.LinkLists.{new_parts}
use Rattle.blossom_arena.specs.declared.links.Link.{Link}
use Rattle.blossom_arena.specs.declared.runs.Run.{Run}
use Rattle.blossom_arena.specs.Tables.{walk, last_of}
use Rattle.blossom_arena.specs.Family.{Blossom, nodes_of, in_ring, members_of, union_of}
use Rattle.blossom_arena.specs.Fields.{IsRun, joined, joined_tail, joined_size}
use Rattle.blossom_arena.proofs.Lists.{tails, AllNew, first_in, later_in}
use Rattle.blossom_arena.proofs.Tails.{front, front_sub, last_in, last_append, last_not_front}
use Rattle.blossom_arena.proofs.Writes.{length-walk, walk_front}

pub length-joined : (f : List ℕ) (t : ℕ) (rs : List Run) → length (joined f t rs) ≡ length f
length-joined f t [] = refl
length-joined f t (r ∷ rs) = length-joined (set f t r.head) r.tail rs ∙ length-set f t r.head

-- a join writes at the tails alone
pub joined_out : (f : List ℕ) (t : ℕ) (rs : List Run) (y : ℕ) → y ≢ t → AllByRecursion (λ (r : Run). y ≢ r.tail) rs → get_or (joined f t rs) y 0 ≡ get_or f y 0
joined_out f t [] y ne each = refl
joined_out f t (r ∷ rs) y ne each = joined_out (set f t r.head) r.tail rs y each.0 each.1 ∙ get_or-set_other f t y r.head 0 ne

pub run_size : (f : List ℕ) (r : Run) (xs : List ℕ) → IsRun f r xs → r.size ≡ length xs
run_size f r xs h = sym (length-walk r.size f r.head) ∙ ap length h.vertices

-- a run stays where no number but its last is written at
pub run_keeps : (f f' : List ℕ) (r : Run) (xs : List ℕ) → IsRun f r xs → ((y : ℕ) → holds (front xs) y ≡ true → get_or f' y 0 ≡ get_or f y 0) → IsRun f' r xs
run_keeps f f' r xs h same = record {
  vertices = walk_front r.size f f' r.head (λ y e. same y (ap (λ zs. holds (front zs) y) (sym h.vertices) ∙ e)) ∙ h.vertices;
  tail = h.tail;
  core = h.core;
}

-- a walk that goes on at its end along another
walk_join : (f : List ℕ) (t h s : ℕ) (p : ℕ) (ps ms : List ℕ) → walk (length (p ∷ ps)) f p ≡ p ∷ ps → last_of p ps ≡ t → holds (front (p ∷ ps)) t ≡ false
    → t < length f → walk s f h ≡ ms → holds ms t ≡ false
    → walk (length (p ∷ ps) + s) (set f t h) p ≡ (p ∷ ps) ++ ms
walk_join f t h s p [] ms w last out low run apart =
    let here : get_or (set f t h) p 0 ≡ h = ap (λ i. get_or (set f t h) i 0) last ∙ get_or-set_same f t h 0 low in
    let rest : walk s (set f t h) h ≡ ms = walk_front s f (set f t h) h
    (λ y e. get_or-set_other f t y h 0
    (λ same. both_ways (holds ms t) apart (subst (λ z. holds ms z ≡ true) same (ap (λ zs. holds zs y) (sym run) ∙ front_sub (walk s f h) y e)))) ∙ run in
    let one_more : 1 + s ≡ suc s = omega arith in
    ap (λ k. walk k (set f t h) p) one_more ∙ ap (λ x. p ∷ x) (ap (walk s (set f t h)) here ∙ rest)
walk_join f t h s p (q ∷ ps) ms w last out low run apart =
    let parts = or_parts (eqb p t) (holds (front (q ∷ ps)) t) out in
    let rest = tails p p (walk (length (q ∷ ps)) f (get_or f p 0)) (q ∷ ps) w in
    let next : get_or f p 0 ≡ q = cc in
    let here : get_or (set f t h) p 0 ≡ q = get_or-set_other f t p h 0 (eqb-false p t parts.0) ∙ next in
    let one_more : length (p ∷ q ∷ ps) + s ≡ suc (length (q ∷ ps) + s) = omega arith in
    ap (λ k. walk k (set f t h) p) one_more
    ∙ ap (λ x. p ∷ x) (ap (walk (length (q ∷ ps) + s) (set f t h)) here ∙ walk_join f t h s q ps ms (ap (walk (length (q ∷ ps)) f) (sym next) ∙ rest) last parts.1 low run apart)

abbrev runs : (ℕ → Run) → List Link → List Run
runs run ring = map (λ (l : Link). run l.node) ring

-- what a join has come to: it walks the first numbers, and none of those and of the rest comes twice
pub record IsJoined (f : List ℕ) (t : ℕ) (p : ℕ) (ps rest : List ℕ) : Type 0 where
  pub walked : walk (length (p ∷ ps)) f p ≡ p ∷ ps
  pub last : last_of p ps ≡ t
  pub new : AllNew ((p ∷ ps) ++ rest)
  pub within : (v : ℕ) → holds ((p ∷ ps) ++ rest) v ≡ true → v < length f

pub join_is : (f : List ℕ) (t p : ℕ) (ps : List ℕ) (bs : List Blossom) (run : ℕ → Run) (ring : List Link)
    → IsJoined f t p ps (union_of bs ring)
    → ((a : ℕ) → in_ring ring a ≡ true → IsRun f (run a) (members_of bs a) × (1 ≤ length (members_of bs a)))
    → (walk (length ((p ∷ ps) ++ union_of bs ring)) (joined f t (runs run ring)) p ≡ (p ∷ ps) ++ union_of bs ring)
    × (joined_tail t (runs run ring) ≡ last_of p (ps ++ union_of bs ring)) × (joined_size (runs run ring) ≡ length (union_of bs ring))
join_is f t p ps bs run [] j each = (
  ap (λ xs. walk (length xs) f p) (append-nil (p ∷ ps)) ∙ j.walked ∙ sym (append-nil (p ∷ ps)),
  sym j.last ∙ sym (ap (last_of p) (append-nil ps)),
  refl,
)
join_is f t p ps bs run (l ∷ ring) j each =
    let ms : List ℕ = members_of bs l.node in
    let r : Run = run l.node in
    let here = each l.node (first_in l.node (nodes_of ring)) in
    let union : union_of bs (l ∷ ring) ≡ ms ++ union_of bs ring = flat_map-cons (λ (l : Link). members_of bs l.node) l ring in
    let new : AllNew ((p ∷ ps) ++ (ms ++ union_of bs ring)) = subst (λ u. AllNew ((p ∷ ps) ++ u)) union j.new in
    let t_in : holds (p ∷ ps) t ≡ true = subst (λ z. holds (p ∷ ps) z ≡ true) j.last (last_in p (p ∷ ps) (omega arith)) in
    let t_out : holds (ms ++ union_of bs ring) t ≡ false = grind (arith, (new_parts (p ∷ ps) (ms ++ union_of bs ring) new).apart t, t_in) in
    let t_front : holds (front (p ∷ ps)) t ≡ false =
    subst (λ z. holds (front (p ∷ ps)) z ≡ false) j.last (last_not_front 0 (p ∷ ps) (new_parts (p ∷ ps) (ms ++ union_of bs ring) new).left) in
    let t_parts = or_parts (holds ms t) (holds (union_of bs ring) t) (sym (holds-append ms (union_of bs ring) t) ∙ t_out) in
    let t_low : t < length f = j.within t (holds-append (p ∷ ps) (union_of bs (l ∷ ring)) t ∙ or_left (holds (p ∷ ps) t) (holds (union_of bs (l ∷ ring)) t) t_in) in
    let assoc : ((p ∷ ps) ++ ms) ++ union_of bs ring ≡ (p ∷ ps) ++ union_of bs (l ∷ ring) = append_assoc (p ∷ ps) ms (union_of bs ring)
    ∙ ap (λ u. (p ∷ ps) ++ u) (sym union) in
    let size : r.size ≡ length ms = run_size f r ms here.0 in
    let f' : List ℕ = set f t r.head in
    let more : length (p ∷ (ps ++ ms)) ≡ length (p ∷ ps) + r.size = omega (arith, length-append ps ms, size) in
    let walked : walk (length (p ∷ (ps ++ ms))) f' p ≡ p ∷ (ps ++ ms) =
    ap (λ k. walk k f' p) more
    ∙ walk_join f t r.head r.size p ps ms j.walked j.last t_front t_low here.0.vertices t_parts.0 in
    let joined_more : IsJoined f' r.tail p (ps ++ ms) (union_of bs ring) = record {
      walked = walked;
      last = last_append p 0 ps ms here.1 ∙ here.0.tail;
      new = subst AllNew (sym assoc) j.new;
      within = λ v e. omega (arith, length-set f t r.head, j.within v (ap (λ xs. holds xs v) (sym assoc) ∙ e));
    } in
    let rest = join_is f' r.tail p (ps ++ ms) bs run ring joined_more
    (λ a in_it. let old = each a (later_in l.node (nodes_of ring) a in_it) in (
      run_keeps f f' (run a) (members_of bs a) old.0
          (λ y e. get_or-set_other f t y r.head 0
          (λ s. both_ways (holds (union_of bs ring) t) t_parts.1 (in_union bs ring a t in_it (subst (λ z. holds (members_of bs a) z ≡ true) s (front_sub (members_of bs a) y e))))),
      old.1,
    )) in (
      ap (λ xs. walk (length xs) (joined f' r.tail (runs run ring)) p) (sym assoc) ∙ rest.0 ∙ assoc,
      rest.1 ∙ ap (last_of p) (append_assoc ps ms (union_of bs ring) ∙ ap (λ u. ps ++ u) (sym union)),
      omega (arith, rest.2, size, ap length union, length-append ms (union_of bs ring)),
    )

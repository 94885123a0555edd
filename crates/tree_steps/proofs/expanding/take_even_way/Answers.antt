use Rattle.alt_forest.proofs.Common.{◌≡◌, ◌<◌, ◌+◌, ◌-◌, ◌%◌, ◌≤◌, ◌∙◌, ℕ, List, [], length, take, drop, refl, sym, ap, ap₂, subst, arith}
use Rattle.alt_forest.proofs.Common.{length-drop, length-take-le, take_rest, AllByRecursion, Link, nodes_of, node_limit, state_of}
use Rattle.alt_forest.specs.declared.search.Search.{Search}
use Rattle.tree_steps.specs.Circuits.{before, mirror, last_edge}
use Rattle.tree_steps.specs.Expanded.{hung_up}
use Rattle.tree_steps.proofs.Carried.{rehung}
use Rattle.tree_steps.proofs.Neighbours.{placed}
use Rattle.tree_steps.proofs.Pushed.{shape_hung}
use Rattle.tree_steps.proofs.expanding.take_even_way.Goals as goal

-- the place that is found is that of the entry
found : (ks ls : List Link) (a r : ℕ) → r ≡ length (before (nodes_of ls) a) → ls ≡ ks → (place : ℕ) → place ≡ length (before (nodes_of ks) a) → r ≡ place
found ks ls a r at same place is = at ∙ ap (λ (xs : List Link). length (before (nodes_of xs) a)) same ∙ sym is

pub climb_down-requires : goal.climb_down-requires
climb_down-requires c =
    let s = c.args.search.now in let h = c.requires.shape in let ls = s.circuit.items in
    let p = c.place_of-place in let v = c.deref-then-place-eq0 in
    let rest : take (length v.result.now - p.result) (drop p.result v.result.now) ≡ drop p.result ls = take_rest v.result.now p.result ∙ ap (drop p.result) v.ensures.value in
    let fits = λ (n : ℕ) (is : n ≡ node_limit s.graph.vertices + 1). subst (AllByRecursion (λ (l : Link). l.node < n)) (sym rest) (placed _ n p.result ls is c.requires.nodes).1 in
    let even : length (drop p.result ls) % 2 ≡ 0 = omega (arith, length-drop p.result ls, p.ensures.within, ap length c.deref.ensures.value, c.if-place-eq0.true, c.requires.even) in
    record { even = ap (λ (xs : List Link). length xs % 2) rest ∙ even; labels = fits _ h.labels; parents = fits _ h.parents; base = omega (arith, h.parents, c.requires.base) }

pub climb_up-requires : goal.climb_up-requires
climb_up-requires c =
    let s = c.args.search.now in let h = c.requires.shape in let ls = s.circuit.items in
    let n : ℕ = c.place_of-place.result + 1 in
    let front : take n c.deref-2.result.now ≡ take n ls = ap (take n) c.deref-2.ensures.value in
    let fits = λ (k : ℕ) (is : k ≡ node_limit s.graph.vertices + 1). subst (AllByRecursion (λ (l : Link). l.node < k)) (sym front) (placed _ k n ls is c.requires.nodes).0 in
    let low : n ≤ length ls = omega (arith, c.place_of-place.ensures.within, ap length c.deref.ensures.value, c.if-place-eq0.false, c.requires.even) in
    let even : length (take n ls) % 2 ≡ 0 = omega (arith, length-take-le n ls low, c.if-place-eq0.false) in
    record { even = ap (λ (xs : List Link). length xs % 2) front ∙ even; labels = fits _ h.labels; parents = fits _ h.parents; base = omega (arith, h.parents, c.requires.base) }

pub returns-then-place-eq0 : goal.returns-then-place-eq0
returns-then-place-eq0 c =
    let s : Search = c.args.search.now in let e = c.climb_down.ensures in
    let hung = λ (ls : List Link). hung_up (state_of s) c.args.base (last_edge c.args.parent ls) c.args.parent (mirror c.args.parent ls []) in
    let left = take_rest c.deref-then-place-eq0.result.now c.place_of-place.result in
    let at = found s.circuit.items _ c.args.entry _ c.place_of-place.ensures.place c.deref.ensures.value in
    record {
      down = λ place is even. ap₂ (rehung (state_of s)) e.labels e.parents ∙ ap hung (left ∙ ap₂ drop (at place is) c.deref-then-place-eq0.ensures.value);
      up = λ place is odd. absurd (omega (arith, odd, c.if-place-eq0.true, at place is));
      frame = refl;
      shape = shape_hung s (record s { labels = c.climb_down.new.labels; parents = c.climb_down.new.parents }) c.requires.shape e.labels_len e.parents_len;
    }

pub returns : goal.returns
returns c =
    let s : Search = c.args.search.now in let e = c.climb_up.ensures in
    let hung = λ (n : ℕ) (ls : List Link). hung_up (state_of s) c.args.base c.args.first c.args.parent (take (n + 1) ls) in
    let at = found s.circuit.items _ c.args.entry _ c.place_of-place.ensures.place c.deref.ensures.value in
    record {
      down = λ place is even. absurd (c.if-place-eq0.false (omega (arith, even, at place is)));
      up = λ place is odd. ap₂ (rehung (state_of s)) e.labels e.parents ∙ ap₂ hung (at place is) c.deref-2.ensures.value;
      frame = refl;
      shape = shape_hung s (record s { labels = c.climb_up.new.labels; parents = c.climb_up.new.parents }) c.requires.shape e.labels_len e.parents_len;
    }

-- The circuit of a blossom from behind one of its nodes, the base, round to it.
use Rattle.alt_forest.proofs.Common.{◌≡◌, ℕ, suc, ◌+◌, ◌≤◌, true, false, ◌||◌, eqb, cond, List, [], ◌∷◌, ◌++◌, length, get_or, take, drop, refl, sym, ap}
use Rattle.alt_forest.proofs.Common.{◌∙◌, subst, arith, append_assoc, length-append, AllByRecursion, take_at, drop_at, get_or_push, eqb-true, or_parts, both_ways, Multigraph, Link}
use Rattle.alt_forest.proofs.Common.{Blossom, nodes_of, in_ring, AllNew, by_test, IsRing, GoesRound, LeadsRound, goes_round as ring_goes, leads_round as ring_leads, each_round as ring_each}
use Rattle.tree_steps.specs.Circuits.{before}
use Rattle.tree_steps.specs.Expanded.{IsRound}

-- the link of a node parts the links, at the place that is the number of those before it
pub record ArePartedAt (ls : List Link) (a k : ℕ) : Type 0 where
  pub front : List Link
  pub link : Link
  pub behind : List Link
  pub node : link.node ≡ a
  pub split : ls ≡ front ++ (link ∷ behind)
  pub place : length front ≡ k

pub parted_at : (ls : List Link) (a k : ℕ) → in_ring ls a ≡ true → k ≡ length (before (nodes_of ls) a) → ArePartedAt ls a k
parted_at [] a k r e = absurd (both_ways false refl r)
parted_at (l ∷ ls) a k r e =
    by_test (eqb l.node a)
    (λ t. record { front = []; link = l; behind = ls; node = eqb-true l.node a t; split = refl; place = sym (e ∙ ap (λ q. length (cond q [] (l.node ∷ before (nodes_of ls) a))) t) })
    (λ t.
    let p = parted_at ls a (length (before (nodes_of ls) a)) (sym (ap (λ q. q || in_ring ls a) t) ∙ r) refl in
    let later : k ≡ length (l.node ∷ before (nodes_of ls) a) = e ∙ ap (λ q. length (cond q [] (l.node ∷ before (nodes_of ls) a))) t in
    record { front = l ∷ p.front; link = p.link; behind = p.behind; node = p.node; split = ap (λ (ks : List Link). l ∷ ks) p.split; place = omega (arith, later, p.place) })

pub place_within : (ls : List Link) (a k : ℕ) → in_ring ls a ≡ true → k ≡ length (before (nodes_of ls) a) → k + 1 ≤ length ls
place_within ls a k r e =
    let p = parted_at ls a k r e in
    let parts : length ls ≡ length p.front + length (p.link ∷ p.behind) = ap length p.split ∙ length-append p.front (p.link ∷ p.behind) in
    omega (arith, parts, p.place)

-- the place of a node that has no link is behind them all
pub place_none : (ls : List Link) (a : ℕ) → in_ring ls a ≡ false → length (before (nodes_of ls) a) ≡ length ls
place_none [] a r = refl
place_none (l ∷ ls) a r =
    let p = or_parts (eqb l.node a) (in_ring ls a) r in
    ap (λ q. length (cond q [] (l.node ∷ before (nodes_of ls) a))) p.0 ∙ ap suc (place_none ls a p.1)

-- the links are turned, and the last one is taken away
pub turned_round : (ring was turned final : List Link) (base k : ℕ) (link : Link) → in_ring ring base ≡ true → was ≡ ring → k ≡ length (before (nodes_of was) base)
    → turned ≡ drop (k + 1) was ++ take (k + 1) was → turned ≡ final ++ link ∷ [] → IsRound ring base link.edge final
turned_round ring was turned final base k link r same place turn ends =
    let p = parted_at ring base k r (place ∙ ap (λ (ls : List Link). length (before (nodes_of ls) base)) same) in
    let one : List Link = p.link ∷ [] in
    let split : was ≡ (p.front ++ one) ++ p.behind = same ∙ p.split ∙ sym (append_assoc p.front one p.behind) in
    let at : length (p.front ++ one) ≡ k + 1 = length-append p.front one ∙ ap (λ m. m + 1) p.place in
    let is : turned ≡ (p.behind ++ p.front) ++ one = turn ∙ ap (λ (ls : List Link). drop (k + 1) ls ++ take (k + 1) ls) split
    ∙ ap (λ (ls : List Link). ls ++ take (k + 1) ((p.front ++ one) ++ p.behind)) (drop_at (p.front ++ one) p.behind (k + 1) at)
    ∙ ap (λ (ls : List Link). p.behind ++ ls) (take_at (p.front ++ one) p.behind (k + 1) at) ∙ sym (append_assoc p.behind p.front one) in
    let n : ℕ = length (p.behind ++ p.front) in
    let whole : length turned ≡ n + 1 = ap length is ∙ length-append (p.behind ++ p.front) one in
    let ended : length turned ≡ length final + 1 = ap length ends ∙ length-append final (link ∷ []) in
    let size : length final ≡ n = omega (arith, whole, ended) in
    let found : link ≡ p.link = sym (get_or_push final link p.link n size) ∙ ap (λ (ls : List Link). get_or ls n p.link) (sym ends ∙ is)
    ∙ get_or_push (p.behind ++ p.front) p.link p.link n refl in
    record {
      front = p.front;
      behind = p.behind;
      split = p.split ∙ ap (λ (l : Link). p.front ++ (l ∷ p.behind)) (λ i. record { node = p.node i; edge = (sym found i).edge });
      is = sym (take_at final (link ∷ []) n size) ∙ ap (take n) (sym ends ∙ is) ∙ take_at (p.behind ++ p.front) one n refl;
    }

-- the circuit round from the base
module _ (ring : List Link) (base edge : ℕ) (round : List Link) (h : IsRound ring base edge round) where
  abbrev link : Link
  link = record { node = base; edge = edge }

  pub goes_round : AllNew (nodes_of ring) → GoesRound ring base round
  goes_round new = subst (GoesRound ring base) (sym h.is) (ring_goes ring h.front link h.behind h.split new)

  pub leads_round : (g : Multigraph) (bs : List Blossom) → IsRing g bs ring → LeadsRound g bs link round
  leads_round g bs is = subst (LeadsRound g bs link) (sym h.is) (ring_leads ring h.front link h.behind h.split g bs is)

  -- what holds of each link of the circuit
  pub each_round : (P : Link → Type 0) → AllByRecursion P ring → P link × AllByRecursion P round
  each_round P each = let r = ring_each ring h.front link h.behind h.split P each in (r.0, subst (AllByRecursion P) (sym h.is) r.1)

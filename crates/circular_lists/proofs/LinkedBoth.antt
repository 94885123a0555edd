-- Circular lists linked both ways: a place taken off, and a place put behind another one.
use Rattle.graph_theory.proofs.Common.{◌≡◌, ◌≢◌, ℕ, ◌+◌, ◌-◌, ◌<◌, ◌≤◌, true, cond, nat_lt, List, length, Option, Some, None, is_some, ap}
use Rattle.graph_theory.proofs.Common.{sym, ◌∙◌, arith, ⊎_elim, cases_lt, cases_eq, get_or_past, nat_tests}
use Rattle.circular_lists.specs.Linked.{AreLinked, AreOwned, link_at, links_without, owner}
use Rattle.circular_lists.specs.Updates.{put}
use Rattle.circular_lists.proofs.Updates.{put_here, put_other, put_both}

-- a table with two entries changed, at other places
elsewhere : {A : Type 0} (f : ℕ → A) (a b : ℕ) (x y : A) (c : ℕ) → c ≢ a → c ≢ b → put (put f b y) a x c ≡ f c
elsewhere f a b x y c off away = put_other (put f b y) a x c off ∙ put_other f b y c away

-- what goes back from the next places of two is one place only if they are one
one_next : (next previous : ℕ → ℕ) (x y : ℕ) → ((z : ℕ) → previous (next z) ≡ z) → next x ≡ next y → x ≡ y
one_next next previous x y back e = sym (back x) ∙ ap previous e ∙ back y

-- one half of what stays linked; the other half is the same one turned round
without_back : (next previous : ℕ → ℕ) (a : ℕ) → AreLinked next previous → (x : ℕ) → links_without previous next a (links_without next previous a x) ≡ x
without_back next previous a h x =
    let Ends : ℕ → Type 0 = λ y. links_without previous next a y ≡ x in
    let others : ℕ → ℕ = put previous (next a) (previous a) in
    put_both Ends (put next (previous a) (next a)) a a x (λ e. put_here others a a ∙ sym e)
    (λ ne. put_both Ends next (previous a) (next a) x
    (λ e. put_other others a a (next a) (λ q. ne (e ∙ ap previous (sym q) ∙ h.back a)) ∙ put_here previous (next a) (previous a) ∙ sym e)
    (λ other. elsewhere previous a (next a) a (previous a) (next x) (λ q. other (sym (h.back x) ∙ ap previous q)) (λ q. ne (one_next next previous x a h.back q)) ∙ h.back x))

pub linked_without : (next previous : ℕ → ℕ) (a : ℕ) → AreLinked next previous → AreLinked (links_without next previous a) (links_without previous next a)
linked_without next previous a h = record { back = without_back next previous a h; forth = without_back previous next a (record { back = h.forth; forth = h.back }) }

-- the links where place a, which was alone, is put behind h
abbrev pub next_with : (ℕ → ℕ) → ℕ → ℕ → ℕ → ℕ
next_with next h a = put (put next h a) a (next h)

abbrev pub previous_with : (ℕ → ℕ) → (ℕ → ℕ) → ℕ → ℕ → ℕ → ℕ
previous_with next previous h a = put (put previous (next h) a) a h

pub linked_with : (next previous : ℕ → ℕ) (h a : ℕ) → AreLinked next previous → a ≢ h → next a ≡ a → AreLinked (next_with next h a) (previous_with next previous h a)
linked_with next previous h a linked differ alone =
    let before : ℕ → ℕ = put previous (next h) a in let after : ℕ → ℕ = put next h a in
    let only : (x : ℕ) → next x ≡ a → x ≡ a = λ x q. one_next next previous x a linked.back (q ∙ sym alone) in
    record {
      back = λ x.
          let Ends : ℕ → Type 0 = λ y. previous_with next previous h a y ≡ x in
          put_both Ends after a (next h) x (λ e. put_other before a h (next h) (λ q. differ (sym (only h q))) ∙ put_here previous (next h) a ∙ sym e)
          (λ ne. put_both Ends next h a x (λ e. put_here before a h ∙ sym e)
          (λ other. elsewhere previous a (next h) h a (next x) (λ q. ne (only x q)) (λ q. other (one_next next previous x h linked.back q)) ∙ linked.back x));
      forth = λ x.
          let Ends : ℕ → Type 0 = λ y. next_with next h a y ≡ x in
          put_both Ends before a h x (λ e. put_other after a (next h) h (λ q. differ (sym q)) ∙ put_here next h a ∙ sym e)
          (λ ne. put_both Ends previous (next h) a x (λ e. put_here after a (next h) ∙ sym e)
          (λ other. let forth = sym (linked.forth x) in
          elsewhere next a h (next h) a (previous x) (λ q. ne (forth ∙ ap next q ∙ alone)) (λ q. other (forth ∙ ap next q)) ∙ linked.forth x));
    }

-- who owns another place than one whose tree id is changed
owner_kept : (count : ℕ) (tree_id : ℕ → Option ℕ) (a : ℕ) (o : Option ℕ) (y : ℕ) → y ≢ a → owner count (put tree_id a o) y ≡ owner count tree_id y
owner_kept count tree_id a o y ne = ap (λ (q : Option ℕ). cond (nat_lt y count) q (Some (y - count))) (put_other tree_id a o y ne)

-- the beginning of the list of v
owner_start : (count : ℕ) (tree_id : ℕ → Option ℕ) (v : ℕ) → owner count tree_id (count + v) ≡ Some v
owner_start count tree_id v = grind (arith, nat_tests)

-- whose list a place is on, below the count and past it
module _ (count : ℕ) (tree_id : ℕ → Option ℕ) (next previous : ℕ → ℕ) (linked : AreLinked next previous) (h : AreOwned count tree_id next previous) where
  -- the node before has the same owner
  same_off : (a : ℕ) (x : ℕ) → owner count (put tree_id a None) (links_without next previous a x) ≡ owner count (put tree_id a None) x
  same_off a x =
      let Same : ℕ → Type 0 = λ y. owner count (put tree_id a None) y ≡ owner count (put tree_id a None) x in
      put_both Same (put next (previous a) (next a)) a a x (λ e. ap (owner count (put tree_id a None)) (sym e))
      (λ ne. put_both Same next (previous a) (next a) x
      (λ e. owner_kept count tree_id a None (next a) (λ q. ne (e ∙ ap previous (sym q) ∙ linked.back a)) ∙ h.same a
      ∙ ap (owner count tree_id) (sym (linked.forth a)) ∙ h.same (previous a) ∙ ap (owner count tree_id) (sym e) ∙ sym (owner_kept count tree_id a None x ne))
      (λ other. owner_kept count tree_id a None (next x) (λ q. other (sym (linked.back x) ∙ ap previous q)) ∙ h.same x ∙ sym (owner_kept count tree_id a None x ne)))

  pub owned_without : (a : ℕ) → a < count → is_some (tree_id a) ≡ true → AreOwned count (put tree_id a None) (links_without next previous a) (links_without previous next a)
  owned_without a low there = record {
    same = same_off a;
    rank = h.rank;
    bound = h.bound;
    low = h.low;
    rises = λ x some down.
        let was : (x ≢ a) × (is_some (tree_id x) ≡ true) = grind (arith, nat_tests) in
        ⊎_elim
        (λ (after : x ≡ next a).
        let from : previous x ≡ a = ap previous after ∙ linked.back a in
        let is : links_without previous next a x ≡ previous a = put_other (put previous (next a) (previous a)) a a x was.0
        ∙ (ap (put previous (next a) (previous a)) after ∙ put_here previous (next a) (previous a)) in
        omega (arith, h.rises x was.1 (omega (arith, from, low)), h.rises a there (omega (arith, is, down)), ap h.rank from, ap h.rank is))
        (λ (other : x ≢ next a).
        let is : links_without previous next a x ≡ previous x = elsewhere previous a (next a) a (previous a) x was.0 other in
        omega (arith, h.rises x was.1 (omega (arith, is, down)), ap h.rank is))
        (cases_eq x (next a));
    alone = λ x below none. grind (arith, nat_tests, h.alone x, linked.forth a);
  }

  -- put behind the beginning of the list of v
  pub owned_with : (a : ℕ) → a < count → (v : ℕ) → next a ≡ a
      → AreOwned count (put tree_id a (Some v)) (next_with next (count + v) a) (previous_with next previous (count + v) a)
  owned_with a low v alone =
      let start : ℕ = count + v in
      let kept : (y : ℕ) → y ≢ a → owner count (put tree_id a (Some v)) y ≡ owner count tree_id y = owner_kept count tree_id a (Some v) in
      let new : owner count (put tree_id a (Some v)) a ≡ Some v = grind (arith, nat_tests) in
      let only : (x : ℕ) → next x ≡ a → x ≡ a = λ x q. one_next next previous x a linked.back (q ∙ sym alone) in
      let high : ℕ = h.bound + 1 in
      record {
        same = λ x.
            let Same : ℕ → Type 0 = λ y. owner count (put tree_id a (Some v)) y ≡ owner count (put tree_id a (Some v)) x in
            put_both Same (put next start a) a (next start) x
            (λ e. kept (next start) (λ q. absurd (omega (arith, low, only start q))) ∙ h.same start ∙ owner_start count tree_id v
            ∙ sym (ap (owner count (put tree_id a (Some v))) e ∙ new))
            (λ ne. put_both Same next start a x (λ e. new ∙ sym (kept x ne ∙ ap (owner count tree_id) e ∙ owner_start count tree_id v))
            (λ _. kept (next x) (λ q. ne (only x q)) ∙ h.same x ∙ sym (kept x ne)));
        rank = put h.rank a high;
        bound = high;
        low = λ x. put_both (λ k. k ≤ high) h.rank a high x (λ _. omega arith) (λ _. omega (arith, h.low x));
        rises = λ x some.
            let Rises : ℕ → Type 0 = λ y. y < count → put h.rank a high x < put h.rank a high y in
            put_both Rises (put previous (next start) a) a start x (λ _ down. absurd (omega (arith, down)))
            (λ ne.
            let own = put_other h.rank a high x ne in
            put_both Rises previous (next start) a x (λ _ down. omega (arith, own, put_here h.rank a high, h.low x))
            (λ _ down. omega (
              arith,
              own,
              put_other h.rank a high (previous x) (λ q. ne (sym (linked.forth x) ∙ ap next q ∙ alone)),
              h.rises x (ap (λ (o : Option ℕ). is_some o) (sym (put_other tree_id a (Some v) x ne)) ∙ some) down,
            )));
        alone = λ x below none.
            let Stays : ℕ → Type 0 = λ y. y ≡ x in
            put_both Stays (put next start a) a (next start) x
            (λ e. let no : Some v ≡ None = sym (put_here tree_id a (Some v)) ∙ ap (put tree_id a (Some v)) (sym e) ∙ none in absurd (cc))
            (λ ne. put_both Stays next start a x (λ e. absurd (omega (arith, e, below))) (λ _. h.alone x below (sym (put_other tree_id a (Some v) x ne) ∙ none)));
      }

-- links lead to places within, since a place past them leads to itself
pub link_within : (next previous : List ℕ) (a : ℕ) → ((x : ℕ) → link_at previous (link_at next x) ≡ x) → length previous ≡ length next → a < length next
    → link_at next a < length next
link_within next previous a back len low = ⊎_elim
    (λ (within : link_at next a < length next). within)
    (λ (past : length next ≤ link_at next a).
    let same : link_at previous (link_at next a) ≡ link_at next a = get_or_past previous (link_at next a) (link_at next a) (omega (arith, len, past)) in
    absurd (omega (arith, low, past, same, back a)))
    (cases_lt (link_at next a) (length next))

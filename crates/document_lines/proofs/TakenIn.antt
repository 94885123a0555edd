-- Gathering, from the first member to the last one.
use Rattle.graph_theory.proofs.Common.{◌≡◌, ◌⊎◌, ℕ, ◌<◌, ◌≤◌, true, false, Bool, cond, not, ◌&&◌, ◌||◌, eqb, List, [], ◌∷◌, ◌++◌, length, map, set}
use Rattle.graph_theory.proofs.Common.{refl, ap, sym, ◌∙◌, subst, inl, inr, arith, nat_eq, IsDistinct, cases_Bool, cases_eq, cond-true, cond-false, or_cases, or_left, or_right}
use Rattle.graph_theory.proofs.Common.{or_from, or_parts, and_parts, and_from, and_right, eq-eqb, ne_eqb, eqb-true, not_from_false, false≢true, false_from_ne_true, or-false, holds}
use Rattle.graph_theory.proofs.Common.{holds-push, same_tests, member-mapped as named-by}
use Rattle.document_lines.specs.LastLines.{entry, is_last_of}
use Rattle.document_lines.specs.Gathering.{AreBelow, IsGathered}
use Rattle.document_lines.proofs.GatherSteps.{AreGathered, is_other, other-parts, entry-here, entry-other, below-next, distinct-none, distinct-push, vertices-new, vertices-same}
use Rattle.document_lines.proofs.GatherSteps.{references-next}

last-next : (L N rest : List ℕ) (x number v : ℕ) → x < length L → N ≡ set L x number → cond (holds rest v) number (entry N v) ≡ cond (holds (x ∷ rest) v) number (entry L v)
last-next L N rest x number v b is =
    elim (cases_eq x v) [
      | inl same ↦
          let now : entry N v ≡ number = entry-here L N x v number b is same in
          let new : cond (holds rest v) number (entry N v) ≡ number = either (holds rest v) number (entry N v) now in
          new ∙ sym (cond-true (holds (x ∷ rest) v) number (entry L v) (or_left (eqb x v) (holds rest v) (eq-eqb x v same)))
      | inr differ ↦
          ap (λ (e : ℕ). cond (holds rest v) number e) (entry-other L N x v number is differ) ∙ ap (λ (t : Bool). cond (t || holds rest v) number (entry L v)) (sym (ne_eqb x v differ))
    ]
  where
    either : (t : Bool) (a b : ℕ) → b ≡ a → cond t a b ≡ a
    either true a b e = refl
    either false a b e = e

taken-next : (L N V : List ℕ) (x number v : ℕ) → x < length L → N ≡ set L x number → (holds V v ≡ true → entry L v ≡ number) → (holds V v ≡ true) ⊎ (x ≡ v)
    → entry N v ≡ number
taken-next L N V x number v b is taken here =
    elim (cases_eq x v) [
      | inl same ↦ entry-here L N x v number b is same
      | inr differ ↦
          elim here [
            | inl there ↦ entry-other L N x v number is differ ∙ taken there
            | inr same ↦ absurd (differ same)
          ]
    ]

-- a member that no line holds
pub next-vertex : (number x : ℕ) (O ms rest L N S V W R : List ℕ) → 1 ≤ number → x < length L → AreGathered number O ms (x ∷ rest) L S V R →
    entry L x ≡ 0 → N ≡ set L x number → W ≡ V ++ x ∷ [] → AreGathered number O ms rest N S W R
next-vertex number x O ms rest L N S V W R low b g none is pushed =
    let new : (w : ℕ) → holds W w ≡ (holds V w || eqb x w) = λ w. ap (λ (xs : List ℕ). holds xs w) pushed ∙ holds-push V x w in
    record {
      low = below-next L N x number b is g.low;
      seen_low = g.seen_low;
      last = λ v. last-next L N rest x number v b is ∙ g.last v;
      vertices = λ v. vertices-new L N V W rest x number v none pushed (entry-other L N x v number is) ∙ g.vertices v;
      references = λ r. references-next L N R R rest x number r b is (λ q h. h) (λ q h. inl h)
          (λ h. absurd ((other-parts number (entry L) (x ∷ rest) (entry L x) h).0 none))
          ∙ g.references r;
      seen = g.seen;
      taken = λ v h. taken-next L N V x number v b is (g.taken v) (elim (or_cases (holds V v) (eqb x v) (sym (new v) ∙ h)) [
        | inl there ↦ inl there
        | inr e ↦ inr (eqb-true x v e)
      ]);
      vertices_differ = subst (λ (xs : List ℕ). IsDistinct nat_eq xs) (sym pushed)
          (distinct-push V x g.vertices_differ (false_from_ne_true (holds V x) (λ h. omega (arith, g.taken x h, none, low))));
      references_differ = g.references_differ;
    }

seen-next : (S T R Q : List ℕ) (l number r : ℕ) → l < length S → T ≡ set S l number → eqb (entry S r) number ≡ (holds R r || eqb r number)
    → holds Q l ≡ true ⊎ (l ≡ number) →
    ((l ≡ r → ⊥) → holds Q r ≡ holds R r) → eqb (entry T r) number ≡ (holds Q r || eqb r number)
seen-next S T R Q l number r b is seen own kept =
    elim (cases_eq l r) [
      | inl same ↦
          let on : eqb (entry T r) number ≡ true = eq-eqb (entry T r) number (entry-here S T l r number b is same) in
          elim own [
            | inl there ↦ on ∙ sym (or_left (holds Q r) (eqb r number) (ap (holds Q) (sym same) ∙ there))
            | inr here ↦ on ∙ sym (or_right (holds Q r) (eqb r number) (eq-eqb r number (sym same ∙ here)))
          ]
      | inr differ ↦
          ap (λ (e : ℕ). eqb e number) (entry-other S T l r number is differ) ∙ (seen ∙ ap (λ (t : Bool). t || eqb r number) (sym (kept differ)))
    ]

-- a member of a line that this one has seen
pub next-seen : (number x : ℕ) (O ms rest L N S T V R : List ℕ) → 1 ≤ number → x < length L → entry L x < length S → AreGathered number O ms (x ∷ rest) L S V R →
    (entry L x ≡ 0 → ⊥) → eqb (entry S (entry L x)) number ≡ true → N ≡ set L x number → T ≡ set S (entry L x) number → AreGathered number O ms rest N T V R
next-seen number x O ms rest L N S T V R low b c g some known is sees =
    let l = entry L x in
    let own : (holds R l ≡ true) ⊎ (l ≡ number) = elim (or_cases (holds R l) (eqb l number) (sym (g.seen l) ∙ known)) [
      | inl there ↦ inl there
      | inr e ↦ inr (eqb-true l number e)
    ] in
    record {
      low = below-next L N x number b is g.low;
      seen_low = below-next S T l number c sees g.seen_low;
      last = λ v. last-next L N rest x number v b is ∙ g.last v;
      vertices = λ v. vertices-same L N V rest x number v some low (entry-here L N x v number b is) (entry-other L N x v number is) ∙ g.vertices v;
      references = λ r. references-next L N R R rest x number r b is (λ q h. h) (λ q h. inl h)
          (λ h. elim own [
            | inl there ↦ there
            | inr e ↦ absurd ((other-parts number (entry L) (x ∷ rest) l h).1 e)
          ])
          ∙ g.references r;
      seen = λ r. seen-next S T R R l number r c sees (g.seen r) own (λ _. refl);
      taken = λ v h. taken-next L N V x number v b is (g.taken v) (inl h);
      vertices_differ = g.vertices_differ;
      references_differ = g.references_differ;
    }

-- a member of a line that this one sees first
pub next-line : (number x : ℕ) (O ms rest L N S T V R Q : List ℕ) → 1 ≤ number → x < length L → entry L x < length S → AreGathered number O ms (x ∷ rest) L S V R →
    (entry L x ≡ 0 → ⊥) → eqb (entry S (entry L x)) number ≡ false → N ≡ set L x number → T ≡ set S (entry L x) number → Q ≡ R ++ entry L x ∷ []
    → AreGathered number O ms rest N T V Q
next-line number x O ms rest L N S T V R Q low b c g some fresh is sees pushed =
    let l = entry L x in
    let new : (q : ℕ) → holds Q q ≡ (holds R q || eqb l q) = λ q. ap (λ (xs : List ℕ). holds xs q) pushed ∙ holds-push R l q in
    let none = or_parts (holds R l) (eqb l number) (sym (g.seen l) ∙ fresh) in
    let own : holds Q l ≡ true = new l ∙ or_right (holds R l) (eqb l l) (eq-eqb l l refl) in
    let other : is_other number (entry L) (x ∷ rest) l ≡ true =
    and_from (not (eqb l 0) && not (eqb l number)) (holds (map (entry L) (x ∷ rest)) l)
    (and_from (not (eqb l 0)) (not (eqb l number)) (not_from_false (eqb l 0) (ne_eqb l 0 some)) (not_from_false (eqb l number) none.1))
    (or_left (eqb l l) (holds (map (entry L) rest) l) (eq-eqb l l refl)) in
    record {
      low = below-next L N x number b is g.low;
      seen_low = below-next S T l number c sees g.seen_low;
      last = λ v. last-next L N rest x number v b is ∙ g.last v;
      vertices = λ v. vertices-same L N V rest x number v some low (entry-here L N x v number b is) (entry-other L N x v number is) ∙ g.vertices v;
      references = λ r. references-next L N R Q rest x number r b is
          (λ q h. new q ∙ or_left (holds R q) (eqb l q) h)
          (λ q h. elim (or_cases (holds R q) (eqb l q) (sym (new q) ∙ h)) [
            | inl there ↦ inl there
            | inr e ↦ let same = eqb-true l q e in inr (same, subst (λ (p : ℕ). is_other number (entry L) (x ∷ rest) p ≡ true) same other)
          ])
          (λ h. own)
          ∙ g.references r;
      seen = λ r. seen-next S T R Q l number r c sees (g.seen r) (inl own) (λ differ. new r ∙ (ap (λ (t : Bool). holds R r || t) (ne_eqb l r differ) ∙ or-false (holds R r)));
      taken = λ v h. taken-next L N V x number v b is (g.taken v) (inl h);
      vertices_differ = g.vertices_differ;
      references_differ = subst (λ (xs : List ℕ). IsDistinct nat_eq xs) (sym pushed) (distinct-push R l g.references_differ none.0);
    }

-- one member more
pub gathers-next : (number x : ℕ) (O ms rest L N S T V W R Q : List ℕ) → 1 ≤ number → x < length L → entry L x < length S → AreGathered number O ms (x ∷ rest) L S V R →
    N ≡ set L x number → W ≡ cond (eqb (entry L x) 0) (V ++ x ∷ []) V → T ≡ cond (eqb (entry L x) 0) S (set S (entry L x) number) →
    Q ≡ cond (eqb (entry L x) 0 || eqb (entry S (entry L x)) number) R (R ++ entry L x ∷ []) → AreGathered number O ms rest N T W Q
gathers-next number x O ms rest L N S T V W R Q low b c g is vertices sees lines =
    let l = entry L x in
    elim (cases_Bool (eqb l 0)) [
      | inl zero ↦
          let T_is : T ≡ S = sees ∙ cond-true (eqb l 0) S (set S l number) zero in
          let Q_is : Q ≡ R = lines ∙ cond-true (eqb l 0 || eqb (entry S l) number) R (R ++ l ∷ []) (or_left (eqb l 0) (eqb (entry S l) number) zero) in
          let W_is : W ≡ V ++ x ∷ [] = vertices ∙ cond-true (eqb l 0) (V ++ x ∷ []) V zero in
          subst (λ (t : List ℕ). AreGathered number O ms rest N t W Q) (sym T_is) (subst (λ (q : List ℕ). AreGathered number O ms rest N S W q) (sym Q_is)
          (next-vertex number x O ms rest L N S V W R low b g (eqb-true l 0 zero) is W_is))
      | inr more ↦
          let T_is : T ≡ set S l number = sees ∙ cond-false (eqb l 0) S (set S l number) more in
          let W_is : W ≡ V = vertices ∙ cond-false (eqb l 0) (V ++ x ∷ []) V more in
          subst (λ (w : List ℕ). AreGathered number O ms rest N T w Q) (sym W_is) (elim (cases_Bool (eqb (entry S l) number)) [
            | inl known ↦
                let Q_is : Q ≡ R = lines ∙ cond-true (eqb l 0 || eqb (entry S l) number) R (R ++ l ∷ []) (or_right (eqb l 0) (eqb (entry S l) number) known) in
                subst (λ (q : List ℕ). AreGathered number O ms rest N T V q) (sym Q_is)
                (next-seen number x O ms rest L N S T V R low b c g (λ e. false≢true (sym more ∙ eq-eqb l 0 e)) known is T_is)
            | inr fresh ↦
                let Q_is : Q ≡ R ++ l ∷ [] = lines ∙ cond-false (eqb l 0 || eqb (entry S l) number) R (R ++ l ∷ []) (or_from (eqb l 0) (eqb (entry S l) number) more fresh) in
                next-line number x O ms rest L N S T V R Q low b c g (λ e. false≢true (sym more ∙ eq-eqb l 0 e)) fresh is T_is Q_is
          ])
    ]

-- nothing is gathered yet
pub gathers-first : (number : ℕ) (O ms S T V R : List ℕ) → number < length S → AreBelow number O → AreBelow number S → T ≡ set S number number → V ≡ [] → R ≡ [] →
    AreGathered number O ms ms O T V R
gathers-first number O ms S T V R b low seen is no_vertices no_references =
    let start : AreGathered number O ms ms O T [] [] = record {
      low = λ v. (let less = low v in omega (arith, less));
      seen_low = below-next S T number number b is (λ r. (let less = seen r in omega (arith, less)));
      last = λ v. refl;
      vertices = λ v. refl;
      references = λ r. refl;
      seen = λ r. elim (cases_eq number r) [
        | inl same ↦ eq-eqb (entry T r) number (entry-here S T number r number b is same) ∙ sym (eq-eqb r number (sym same))
        | inr differ ↦
            ne_eqb (entry T r) number (λ e. (let less = seen r in omega (arith, less, e, entry-other S T number r number is differ)))
            ∙ sym (ne_eqb r number (λ e. differ (sym e)))
      ];
      taken = λ v h. absurd (false≢true h);
      vertices_differ = distinct-none;
      references_differ = distinct-none;
    } in
    subst (λ (vs : List ℕ). AreGathered number O ms ms O T vs R) (sym no_vertices) (subst (λ (rs : List ℕ). AreGathered number O ms ms O T [] rs) (sym no_references) start)

-- all is gathered
pub gathers-all : (number : ℕ) (O ms rest L S V R : List ℕ) → AreBelow number O → rest ≡ [] → AreGathered number O ms rest L S V R → IsGathered number ms O L V R
gathers-all number O ms rest L S V R low done g =
    let h : AreGathered number O ms [] L S V R = subst (λ (xs : List ℕ). AreGathered number O ms xs L S V R) done g in
    record {
      last = h.last;
      vertices = λ v. sym (or-false (holds V v)) ∙ h.vertices v;
      references = λ r.
          sym (or-false (holds R r)) ∙ (ap (λ (t : Bool). holds R r || t) (sym (and_right (not (eqb r 0) && not (eqb r number)) false refl)) ∙ (h.references r
          ∙ same_tests (is_other number (entry O) ms r) (is_last_of (entry O) ms r)
          (λ t. (let both = and_parts (not (eqb r 0) && not (eqb r number)) (holds (map (entry O) ms) r) t in
          and_from (not (eqb r 0)) (holds (map (entry O) ms) r) (and_parts (not (eqb r 0)) (not (eqb r number)) both.0).0 both.1))
          (λ t. (let both = and_parts (not (eqb r 0)) (holds (map (entry O) ms) r) t in
          let w = named-by (entry O) ms r both.1 in
          and_from (not (eqb r 0) && not (eqb r number)) (holds (map (entry O) ms) r)
          (and_from (not (eqb r 0)) (not (eqb r number)) both.0 (not_from_false (eqb r number) (ne_eqb r number (λ e. (let less = low w.0 in omega (arith, less, w.2, e))))))
          both.1))));
      vertices_differ = h.vertices_differ;
      references_differ = h.references_differ;
    }

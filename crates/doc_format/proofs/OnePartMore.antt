-- A document with a part more keeps its form.
use Rattle.graph_theory.proofs.Common.{◌≡◌, ◌++◌, ◌∷◌, [], List, true, refl, sym, ap, subst, ◌∙◌, Result, Ok, Err, OnOk, OnErr, list_all, and_parts, and_from}
use Rattle.doc_format.specs.declared.part.Part.{Part}
use Rattle.doc_format.specs.declared.head.Head.{Head}
use Rattle.doc_format.specs.declared.document.Document.{Document}
use Rattle.doc_format.specs.Form.{admits, may_follow, in_order, is_formed, Body, with_part, parts_of, IsDocument}
use Rattle.doc_format.specs.Reading.{body_of, head_of, may_stand}
use Rattle.doc_format.proofs.PartLaws.{MayCome, added}
use Rattle.doc_format.proofs.Tests.{list_all-push}

order-push : (parts : List Part) (part : Part) → in_order parts ≡ true → list_all (λ earlier. may_follow earlier part) parts ≡ true → in_order (parts ++ part ∷ []) ≡ true
order-push [] part h k = refl
order-push (p ∷ ps) part h k =
    let order = and_parts (list_all (may_follow p) ps) (in_order ps) h in
    let may = and_parts (may_follow p part) (list_all (λ earlier. may_follow earlier part) ps) k in
    and_from (list_all (may_follow p) (ps ++ part ∷ [])) (in_order (ps ++ part ∷ [])) (list_all-push (may_follow p) ps part order.0 may.0) (order-push ps part order.1 may.1)

module _ (head : Head) (b : Body) (part : Part) (may : may_stand head (parts_of b) part ≡ true) where
  letter_and_order : (admits head.status head.kind part ≡ true) × MayCome b part
  letter_and_order = and_parts (admits head.status head.kind part) (list_all (λ earlier. may_follow earlier part) (parts_of b)) may

  pub parts_more : parts_of (with_part b part) ≡ parts_of b ++ part ∷ []
  parts_more = added b part letter_and_order.1

  pub form_kept : is_formed part ≡ true → IsDocument head.status head.kind head.weight b → IsDocument head.status head.kind head.weight (with_part b part)
  form_kept formed form =
      record {
        headed = form.headed;
        no_weight = form.no_weight;
        letters = ap (list_all (admits head.status head.kind)) parts_more ∙ list_all-push (admits head.status head.kind) (parts_of b) part form.letters letter_and_order.0;
        ordered = ap in_order parts_more ∙ order-push (parts_of b) part form.ordered letter_and_order.1;
        formed = ap (list_all is_formed) parts_more ∙ list_all-push is_formed (parts_of b) part form.formed formed;
      }

-- the part by its letter
module _ (d : Document) (part given : Part) (is : given ≡ part) (may : may_stand (head_of d) (parts_of (body_of d)) given ≡ true) where
  pub given_more : parts_of (with_part (body_of d) part) ≡ parts_of (body_of d) ++ given ∷ []
  given_more = subst (λ (p : Part). parts_of (with_part (body_of d) p) ≡ parts_of (body_of d) ++ given ∷ []) is (parts_more (head_of d) (body_of d) given may)

  pub given_kept : is_formed given ≡ true → IsDocument d.status d.kind d.weight (with_part (body_of d) part)
  given_kept formed = subst (λ (p : Part). IsDocument d.status d.kind d.weight (with_part (body_of d) p)) is (form_kept (head_of d) (body_of d) given may formed d.form)

-- the form before a push and that of the longer list give the form after it, whether it went well or not
pub pushed_kept : {A V E : Type 0} (d : Document) (put : List A → Body) (r : Result V E) (old : List A) (x : A) (new : List A) → OnOk r (new ≡ old ++ x ∷ []) →
    OnErr r (new ≡ old) → IsDocument d.status d.kind d.weight (put old) → IsDocument d.status d.kind d.weight (put (old ++ x ∷ [])) → IsDocument d.status d.kind d.weight (put new)
pushed_kept d put (Ok v) old x new ok err before more = rw ok more
pushed_kept d put (Err e) old x new ok err before more = rw err before

-- the form of a document made from another by a change of its parts
pub formed-as : (d : Document) (h : Head) (b : Body) (change : Body → Body) → head_of d ≡ h → body_of d ≡ b → IsDocument h.status h.kind h.weight (change b) →
    IsDocument d.status d.kind d.weight (change (body_of d))
formed-as d h b change head body form =
    subst (λ (g : Head). IsDocument g.status g.kind g.weight (change (body_of d))) (sym head) (subst (λ (c : Body). IsDocument h.status h.kind h.weight (change c)) (sym body) form)

-- An edge line as tools write it: what its bytes say of the line, and of the row of its fields.
use Rattle.mb_problem.proofs.Common.{◌≡◌, ℕ, ◌+◌, ◌-◌, ◌*◌, ◌^◌, ◌<◌, ◌≤◌, suc, Bool, true, false, cond, eqb, Some, None, Ok, List, [], ◌∷◌, ◌++◌}
use Rattle.mb_problem.proofs.Common.{length, take, drop, get_or, map, ℤ, pos, refl, sym, ap, subst, ◌∙◌, arith, length-append, append_assoc, ◌&&◌, ◌||◌, ◌==◌, neg_ℤ}
use Rattle.mb_problem.proofs.Common.{option_map, list_all, slice_split, position_or_len, strip_carriage_return, le-leb, nat_tests, pow-add, take_more, take_all, drop_at, list_all-append}
use Rattle.mb_problem.proofs.Common.{list_all_more, slice_split_at, slice_split_none, AllPass-from_list_all, is_digit, is_blank, is_line_feed, is_nonempty, value_from, natural, numeral}
use Rattle.mb_problem.proofs.Common.{raw_lines, closed, lines, fields, Row, closed-split, IsWeight, WEIGHT_LIMIT, value_from-push, int_le-yes}
use Rattle.std.proofs.Common.{filter}
use Rattle.std.specs.List.{All}
use Rattle.mb_problem.specs.declared.instance.InstanceEdge.{InstanceEdge}
use Rattle.dimacs_read.specs.declared.line.Header.{Header}
use Rattle.dimacs_read.specs.Reading.{GivesLine}
use Rattle.dimacs_read.specs.Rows.{is_solution}
use Rattle.dimacs_read.specs.Format.{Sizes, edge_at, fault_of}
use Rattle.dimacs_read.specs.Line.{sizes_of_header, FitsHeader}
use Rattle.dimacs_read.specs.Plain.{LeadsWith, LeadsWithWeight, BeginsWith, IsPlainEdge, is_numeric}
use Rattle.dimacs_read.specs.declared.keep.Line.TheVariants as line

-- ---- digits

pub value_more : (ds : List ℕ) (i : ℕ) → i < length ds → value_from 0 (take (i + 1) ds) ≡ 10 * value_from 0 (take i ds) + (get_or ds i 0 - 48)
value_more ds i lt = ap (value_from 0) (take_more ds i 0 lt) ∙ value_from-push 0 (take i ds) (get_or ds i 0)

pub digits_more : (ds : List ℕ) (i : ℕ) → i < length ds → is_digit (get_or ds i 0) ≡ true → list_all is_digit (take i ds) ≡ true →
    list_all is_digit (take (i + 1) ds) ≡ true
digits_more ds i lt here before = list_all_more is_digit ds i 0 lt ∙ rw (before, here) refl

pub small_more : (n value digit : ℕ) → value < 10 ^ n → digit ≤ 9 → 10 * value + digit < 10 ^ (n + 1)
small_more n value digit small low = let e : 10 ^ (n + 1) ≡ 10 ^ n * 10 = pow-add 10 n 1 in omega (arith, e)

-- ---- bytes of a number

both : (a b : Bool) → (a && b) ≡ true → (a ≡ true) × (b ≡ true)
both true b h = (refl, h)
both false b h = absurd cc

yes : (b : Bool) (x n : ℕ) → cond b (Some x) None ≡ Some n → b ≡ true
yes true x n e = refl
yes false x n e = absurd cc

all_digits : (ds : List ℕ) (n : ℕ) → natural ds ≡ Some n → list_all is_digit ds ≡ true
all_digits [] n e = refl
all_digits (d ∷ ds) n e = yes (list_all is_digit (d ∷ ds)) (value_from 0 (d ∷ ds)) n e

no_minus : (d : ℕ) → is_digit d ≡ true → eqb d 45 ≡ false
no_minus d h = grind (arith, nat_tests)

pub numeral_is : (ds : List ℕ) (n : ℕ) → natural ds ≡ Some n → numeral ds ≡ Some (pos n)
numeral_is [] n e = absurd cc
numeral_is (d ∷ ds) n e = rw (no_minus d (both (is_digit d) (list_all is_digit ds) (all_digits (d ∷ ds) n e)).0) (ap (option_map (λ k. pos k)) e)

all_weaker : (p q : ℕ → Bool) → ((b : ℕ) → p b ≡ true → q b ≡ true) → (xs : List ℕ) → list_all p xs ≡ true → list_all q xs ≡ true
all_weaker p q f [] h = refl
all_weaker p q f (x ∷ xs) h = let b = both (p x) (list_all p xs) h in rw (f x b.0, all_weaker p q f xs b.1) refl

digit_numeric : (b : ℕ) → is_digit b ≡ true → is_numeric b ≡ true
digit_numeric b h = rw h refl

pub numeric_is : (ds : List ℕ) (n : ℕ) → natural ds ≡ Some n → list_all is_numeric ds ≡ true
numeric_is ds n e = all_weaker is_digit is_numeric digit_numeric ds (all_digits ds n e)

all_fail : (p q : ℕ → Bool) → ((b : ℕ) → q b ≡ true → p b ≡ false) → (xs : List ℕ) → list_all q xs ≡ true → All (λ x. p x ≡ false) xs
all_fail p q f xs h = λ k d lt. f (get_or xs k d) (AllPass-from_list_all q xs h k d lt)

pub first_is : (bytes : List ℕ) (b : ℕ) → 1 ≤ length bytes → get_or bytes 0 0 ≡ b → bytes ≡ b ∷ take (length bytes - 1) (drop 1 bytes)
first_is [] b some e = absurd (omega arith)
first_is (x ∷ xs) b some e = ap (λ (y : ℕ). y ∷ xs) e ∙ ap (λ (l : List ℕ). b ∷ l) (sym (take_all (length (x ∷ xs) - 1) xs (omega arith)))

pub two_are : (bytes : List ℕ) (b d : ℕ) → 2 ≤ length bytes → get_or bytes 0 0 ≡ b → get_or bytes 1 0 ≡ d → bytes ≡ b ∷ d ∷ take (length bytes - 2) (drop 2 bytes)
two_are [] b d some e f = absurd (omega arith)
two_are (x ∷ []) b d some e f = absurd (omega arith)
two_are (x ∷ y ∷ xs) b d some e f =
    ap (λ (z : ℕ). z ∷ y ∷ xs) e ∙ ap (λ (z : ℕ). b ∷ z ∷ xs) f ∙ ap (λ (l : List ℕ). b ∷ d ∷ l) (sym (take_all (length (x ∷ y ∷ xs) - 2) xs (omega arith)))

pub plus_weight : (bytes : List ℕ) (n : ℕ) (rest : List ℕ) → LeadsWith bytes 10 n rest → LeadsWithWeight bytes (pos n) rest
plus_weight bytes n rest l = record { field = l.digits; whole = l.whole; numeric = numeric_is l.digits n l.spelled; spelled = numeral_is l.digits n l.spelled }

pub minus_weight : (bytes others : List ℕ) (n : ℕ) (rest : List ℕ) → bytes ≡ 45 ∷ others → LeadsWith others 10 n rest → LeadsWithWeight bytes (neg_ℤ (pos n)) rest
minus_weight bytes others n rest e l = record {
  field = 45 ∷ l.digits;
  whole = e ∙ ap (λ (r : List ℕ). 45 ∷ r) l.whole;
  numeric = numeric_is l.digits n l.spelled;
  spelled = ap (option_map (λ k. neg_ℤ (pos k))) l.spelled;
}

-- ---- the fields

no_blank : (b : ℕ) → is_numeric b ≡ true → is_blank b ≡ false
no_blank b h = grind (arith, nat_tests)

kept : (f : List ℕ) (fs : List (List ℕ)) (z : ℤ) → numeral f ≡ Some z → filter is_nonempty (f ∷ fs) ≡ f ∷ filter is_nonempty fs
kept [] fs z e = absurd cc
kept (b ∷ bs) fs z e = refl

fields_before : (f more : List ℕ) (z : ℤ) → list_all is_numeric f ≡ true → numeral f ≡ Some z → fields (f ++ 32 ∷ more) ≡ f ∷ fields more
fields_before f more z n e = ap (filter is_nonempty) (slice_split_at is_blank f 32 more (all_fail is_blank is_numeric no_blank f n) refl) ∙ kept f (slice_split is_blank more) z e

fields_end : (f : List ℕ) (z : ℤ) → list_all is_numeric f ≡ true → numeral f ≡ Some z → fields f ≡ f ∷ []
fields_end f z n e = ap (filter is_nonempty) (slice_split_none is_blank f (all_fail is_blank is_numeric no_blank f n)) ∙ kept f [] z e

abbrev text_of : List ℕ → List ℕ → List ℕ → List ℕ
text_of f g h = 101 ∷ 32 ∷ (f ++ 32 ∷ (g ++ 32 ∷ h))

row_is : (f g h : List ℕ) (x y z : ℤ) → list_all is_numeric f ≡ true → list_all is_numeric g ≡ true → list_all is_numeric h ≡ true →
    numeral f ≡ Some x → numeral g ≡ Some y → numeral h ≡ Some z → fields (text_of f g h) ≡ (101 ∷ []) ∷ f ∷ g ∷ h ∷ []
row_is f g h x y z nf ng nh ef eg eh =
    let e1 : fields (text_of f g h) ≡ (101 ∷ []) ∷ fields (f ++ 32 ∷ (g ++ 32 ∷ h)) = refl in
    let e2 : fields (g ++ 32 ∷ h) ≡ g ∷ h ∷ [] = fields_before g h y ng eg ∙ ap (λ (r : Row). g ∷ r) (fields_end h z nh eh) in
    e1 ∙ ap (λ (r : Row). (101 ∷ []) ∷ r) (fields_before f (g ++ 32 ∷ h) x nf ef ∙ ap (λ (r : Row). f ∷ r) e2)

-- ---- the line

abbrev is_inner : ℕ → Bool
is_inner b = is_numeric b || (b == 32) || (b == 101)

numeric_inner : (b : ℕ) → is_numeric b ≡ true → is_inner b ≡ true
numeric_inner b h = rw h refl

no_line_feed : (b : ℕ) → is_inner b ≡ true → is_line_feed b ≡ false
no_line_feed b h = grind (arith, nat_tests)

no_return : (b : ℕ) → is_inner b ≡ true → eqb b 13 ≡ false
no_return b h = grind (arith, nat_tests)

inner_before : (f more : List ℕ) → list_all is_numeric f ≡ true → list_all is_inner more ≡ true → list_all is_inner (f ++ 32 ∷ more) ≡ true
inner_before f more n h = list_all-append is_inner f (32 ∷ more) ∙ rw (all_weaker is_numeric is_inner numeric_inner f n) h

inner_text : (f g h : List ℕ) → list_all is_numeric f ≡ true → list_all is_numeric g ≡ true → list_all is_numeric h ≡ true → list_all is_inner (text_of f g h) ≡ true
inner_text f g h nf ng nh = inner_before f (g ++ 32 ∷ h) nf (inner_before g h ng (all_weaker is_numeric is_inner numeric_inner h nh))

one_more : (n : ℕ) → 1 + n ≡ suc n
one_more n = omega arith

place_of_end : (text after : List ℕ) → list_all is_inner text ≡ true → position_or_len is_line_feed (text ++ 10 ∷ after) ≡ length text
place_of_end [] after h = refl
place_of_end (b ∷ text) after h =
    let t = both (is_inner b) (list_all is_inner text) h in
    rw (no_line_feed b t.0) (ap (λ (n : ℕ). 1 + n) (place_of_end text after t.1) ∙ one_more (length text))

dropped : (text after : List ℕ) → drop (length text + 1) (text ++ 10 ∷ after) ≡ after
dropped text after = ap (drop (length text + 1)) (sym (append_assoc text (10 ∷ []) after)) ∙ drop_at (text ++ 10 ∷ []) after (length text + 1) (length-append text (10 ∷ []))

whole_line : (text : List ℕ) → 0 < length text → list_all is_inner text ≡ true → strip_carriage_return text ≡ text
whole_line text some h =
    let last : eqb (get_or text (length text - 1) 0) 13 ≡ false = no_return (get_or text (length text - 1) 0) (AllPass-from_list_all is_inner text h (length text - 1) 0 (omega arith)) in
    rw last refl

begins_at : (text after : List ℕ) → 0 < length text → list_all is_inner text ≡ true → is_solution (fields text) ≡ false → BeginsWith (text ++ 10 ∷ after) text after
begins_at text after some h none =
    let raw : raw_lines (text ++ 10 ∷ after) ≡ text ∷ raw_lines after = ap closed (slice_split_at is_line_feed text 10 after (all_fail is_line_feed is_inner no_line_feed text h) refl)
    ∙ closed-split text after in
    record {
      line = ap (map strip_carriage_return) raw ∙ ap (λ (l : List ℕ). l ∷ lines after) (whole_line text some h);
      after_is = sym (ap (λ (i : ℕ). drop (i + 1) (text ++ 10 ∷ after)) (place_of_end text after h) ∙ dropped text after);
      shorter = omega (arith, length-append text (10 ∷ after));
      no_solution = none;
    }

-- ---- the edge

edge_row : (s : Sizes) (f g h : List ℕ) (u v : ℕ) (w : ℤ) → numeral f ≡ Some (pos u) → numeral g ≡ Some (pos v) → numeral h ≡ Some w → 1 ≤ u → u ≤ s.vertices →
    1 ≤ v → v ≤ s.vertices → IsWeight w → edge_at (Some s) ((101 ∷ []) ∷ f ∷ g ∷ h ∷ []) ≡ Ok (record { u = u; v = v; w = w; capacity = None })
unfolding edge_at
edge_row s f g h u v w ef eg eh u_low u_high v_low v_high range =
    let a = le-leb 1 u u_low in
    let b = le-leb u s.vertices u_high in
    let c = le-leb 1 v v_low in
    let d = le-leb v s.vertices v_high in
    let i = int_le-yes (neg_ℤ WEIGHT_LIMIT) w range.0 in
    let j = int_le-yes w WEIGHT_LIMIT range.1 in
    rw (ef, eg, eh, a, b, c, d, i, j) refl

made_fits : (header : Header) (u v : ℕ) (w : ℤ) → 1 ≤ u → u ≤ header.vertices → 1 ≤ v → v ≤ header.vertices → IsWeight w →
    FitsHeader (Some header) (record { u = u; v = v; w = w; capacity = None })
made_fits header u v w u_low u_high v_low v_high range = record { ends = record { u_low = u_low; u_high = u_high; v_low = v_low; v_high = v_high }; weight = range; capacity = tt }

given_row : (header : Header) (f g h : List ℕ) (edge : InstanceEdge) → edge_at (Some (sizes_of_header header)) ((101 ∷ []) ∷ f ∷ g ∷ h ∷ []) ≡ Ok edge →
    FitsHeader (Some header) edge → (bounds : Bool) (named : ℕ → Bool) (count : ℕ)
    → GivesLine bounds (Some header) named count ((101 ∷ []) ∷ f ∷ g ∷ h ∷ []) (Ok (line.Edge edge))
given_row header f g h edge e fits bounds named count = (ap fault_of e, (refl, refl, refl, e, fits))

pub edge_line : (header : Header) (bytes r1 r2 r3 after : List ℕ) (u v : ℕ) (w : ℤ) → bytes ≡ 101 ∷ 32 ∷ r1 → LeadsWith r1 32 u r2 → LeadsWith r2 32 v r3 →
    LeadsWithWeight r3 w after → 1 ≤ u → u ≤ header.vertices → 1 ≤ v → v ≤ header.vertices → IsWeight w →
    IsPlainEdge (Some header) bytes (record { u = u; v = v; w = w; capacity = None }) after
edge_line header bytes r1 r2 r3 after u v w e first second third u_low u_high v_low v_high range =
    let f = first.digits in
    let g = second.digits in
    let h = third.field in
    let text = text_of f g h in
    let ef = numeral_is f u first.spelled in
    let eg = numeral_is g v second.spelled in
    let nf = numeric_is f u first.spelled in
    let ng = numeric_is g v second.spelled in
    let row : fields text ≡ (101 ∷ []) ∷ f ∷ g ∷ h ∷ [] = row_is f g h (pos u) (pos v) w nf ng third.numeric ef eg third.spelled in
    let made : InstanceEdge = record { u = u; v = v; w = w; capacity = None } in
    let edge : edge_at (Some (sizes_of_header header)) ((101 ∷ []) ∷ f ∷ g ∷ h ∷ []) ≡ Ok made =
    edge_row (sizes_of_header header) f g h u v w ef eg third.spelled u_low u_high v_low v_high range in
    let joined : f ++ 32 ∷ (g ++ 32 ∷ (h ++ 10 ∷ after)) ≡ (f ++ 32 ∷ (g ++ 32 ∷ h)) ++ 10 ∷ after =
    sym (append_assoc f (32 ∷ (g ++ 32 ∷ h)) (10 ∷ after) ∙ ap (λ (l : List ℕ). f ++ 32 ∷ l) (append_assoc g (32 ∷ h) (10 ∷ after))) in
    let whole : bytes ≡ text ++ 10 ∷ after =
    e ∙ ap (λ (l : List ℕ). 101 ∷ 32 ∷ l) (first.whole ∙ ap (λ (l : List ℕ). f ++ 32 ∷ l) (second.whole ∙ ap (λ (l : List ℕ). g ++ 32 ∷ l) third.whole) ∙ joined) in
    record {
      text = text;
      begins = subst (λ (l : List ℕ). BeginsWith l text after) (sym whole) (begins_at text after (omega arith) (inner_text f g h nf ng third.numeric) (ap is_solution row));
      given = λ bounds named count. subst (λ (r : Row). GivesLine bounds (Some header) named count (take 6 r) (Ok (line.Edge made))) (sym row)
          (given_row header f g h made edge (made_fits header u v w u_low u_high v_low v_high range) bounds named count);
    }

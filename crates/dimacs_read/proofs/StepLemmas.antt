-- One line more.
use Rattle.mb_problem.proofs.Common.{◌-◌, zero, suc, eqb, replicate, ◌≡◌, ℕ, ◌+◌, ◌≤◌, Bool, true, false, List, [], ◌∷◌, ◌++◌, length, take, drop, get_or}
use Rattle.mb_problem.proofs.Common.{map, Option, Some, None, refl, sym, ap, subst, ◌∙◌, arith, inl, inr, cond, find, and_right, cases_eq, eqb-true, eq-eqb, ne_eqb, take_more}
use Rattle.mb_problem.proofs.Common.{map_push, bytes_eq-Decides, codes, below_more, option_map, Row, rows, is_skipped, next_row, Result, Ok, Err, length-drop, length-replicate, length-set}
use Rattle.mb_problem.proofs.Common.{nil_from_length, get_or-set_same, get_or-set_other, lines, fields, after_first, is_line_feed, pos, add-one, int_lt, slice_set, IfSome, length-take}
use Rattle.mb_problem.proofs.Common.{All-push, All-replicate, All-set}
use Rattle.std.proofs.Common.{filter}
use Rattle.std.specs.Option.{is_some}
use Rattle.mb_problem.specs.declared.instance.InstanceEdge.{InstanceEdge}
use Rattle.dimacs_read.specs.declared.rule.Rule.{Rule}
use Rattle.dimacs_read.specs.declared.rule.Rule.TheVariants.{UnknownLine}
use Rattle.dimacs_read.specs.declared.line.Given.{Given}
use Rattle.dimacs_read.specs.declared.line.Node.{Node}
use Rattle.dimacs_read.specs.Rows.{is_header, is_edge, is_node, is_solution, instance_rows}
use Rattle.dimacs_read.specs.Format.{given_in, row_given, names, natural_at, fault_of, header_at, edge_at, node_at, Sizes, header_of, sizes_in, edges_of, row_edge, fault_at, line_fault}
use Rattle.dimacs_read.specs.Format.{NoFaultBelow, IsFirstFaulty, first_place, is_negative}
use Rattle.dimacs_read.specs.declared.line.Header.{Header}
use Rattle.dimacs_read.specs.declared.keep.Line.{Line}
use Rattle.dimacs_read.specs.Line.{sizes, sizes_of_header, HasValues, is_valued, FitsHeader, IsGiven}
use Rattle.dimacs_read.specs.Reading.{GivesLine, values_after, header_after, edges_after, negative_after, IsRead}
use Rattle.dimacs_read.specs.Rest.{after_lines}
use Rattle.dimacs_read.proofs.FieldsLemmas.{is_skipped-six, is_header-six, is_edge-six, is_solution-six, is_node-six, node_at-six, header_at-six, edge_at-six}
use Rattle.dimacs_read.proofs.ValueLemmas.{header_is, edge_is, node_is, node_at-same}
use Rattle.dimacs_read.specs.declared.keep.Line.TheVariants as line

find_push-no : (p : Row → Bool) (xs : List Row) (x : Row) → p x ≡ false → find p (xs ++ x ∷ []) ≡ find p xs
find_push-no p [] x h = rw h refl
find_push-no p (y ∷ ys) x h = ap (cond (p y) (Some y)) (find_push-no p ys x h)

no_value : (bounds : Bool) (o : Option Row) → option_map (row_given bounds) o ≡ None → o ≡ None
no_value bounds None e = refl
no_value bounds (Some row) e = absurd cc

found_push : (b : Bool) (y x : Row) (before after : Option Row) → (before ≡ None → after ≡ Some x) → cond b (Some y) before ≡ None → cond b (Some y) after ≡ Some x
found_push true y x before after f e = absurd cc
found_push false y x before after f e = f e

find_push-yes : (p : Row → Bool) (xs : List Row) (x : Row) → p x ≡ true → find p xs ≡ None → find p (xs ++ x ∷ []) ≡ Some x
find_push-yes p [] x h e = rw h refl
find_push-yes p (y ∷ ys) x h e = found_push (p y) y x (find p ys) (find p (ys ++ x ∷ [])) (find_push-yes p ys x h) e

filter_push-no : (p : Row → Bool) (xs : List Row) (x : Row) → p x ≡ false → filter p (xs ++ x ∷ []) ≡ filter p xs
filter_push-no p [] x h = rw h refl
filter_push-no p (y ∷ ys) x h = ap (λ (l : List Row). cond (p y) (y ∷ l) l) (filter_push-no p ys x h)

filter_joined : (b : Bool) (y x : Row) (ys : List Row) → cond b (y ∷ (ys ++ x ∷ [])) (ys ++ x ∷ []) ≡ cond b (y ∷ ys) ys ++ x ∷ []
filter_joined true y x ys = refl
filter_joined false y x ys = refl

filter_push-yes : (p : Row → Bool) (xs : List Row) (x : Row) → p x ≡ true → filter p (xs ++ x ∷ []) ≡ filter p xs ++ x ∷ []
filter_push-yes p [] x h = rw h refl
filter_push-yes p (y ∷ ys) x h = ap (λ (l : List Row). cond (p y) (y ∷ l) l) (filter_push-yes p ys x h) ∙ filter_joined (p y) y x (filter p ys)

-- ---- kinds of lines exclude each other

skipped_kind : (row : Row) → is_skipped row ≡ true → (is_header row ≡ false) × (is_edge row ≡ false) × (is_node row ≡ false)
skipped_kind [] h = (refl, refl, refl)
skipped_kind ([] ∷ fs) h = absurd cc
skipped_kind ((b ∷ bs) ∷ fs) h =
    let e : b ≡ 99 = eqb-true b 99 h in
    (rw e refl, rw e refl, rw e refl)

header_kind : (row : Row) → is_header row ≡ true → (is_edge row ≡ false) × (is_node row ≡ false)
header_kind [] h = absurd cc
header_kind (f ∷ fs) h = let e = (bytes_eq-Decides f (codes "p")).0 h in (rw e refl, rw e refl)

edge_kind : (row : Row) → is_edge row ≡ true → is_node row ≡ false
edge_kind [] h = absurd cc
edge_kind (f ∷ fs) h = rw ((bytes_eq-Decides f (codes "e")).0 h) refl

no_sizes : (o : Option Row) → sizes_in o ≡ None → o ≡ None
no_sizes None e = refl
no_sizes (Some row) e = absurd cc

no_header : (h : Option Header) → sizes h ≡ None → h ≡ None
no_header None e = refl
no_header (Some g) e = absurd cc

no_values : (h : Option Header) (count : ℕ) → h ≡ None → HasValues h count → count ≡ 0
no_values None count e room = room
no_values (Some g) count e room = absurd cc

-- what earlier lines have named
abbrev named_in : Bool → List Row → ℕ → Bool
named_in bounds earlier v = is_some (given_in bounds earlier v)

marked_nodes : (bounds : Bool) (h : Option Header) (values : List (Option Given)) (earlier : List Row) (row : Row) →
    ((v : ℕ) → 1 ≤ v → get_or values (v - 1) None ≡ given_in bounds earlier v)
    → node_at bounds (sizes h) (is_valued values) row ≡ node_at bounds (sizes h) (named_in bounds earlier) row
unfolding node_at
marked_nodes bounds None values earlier row are = refl
marked_nodes bounds (Some g) values earlier row are = node_at-same bounds (sizes_of_header g) (is_valued values) (named_in bounds earlier) row (λ v low high. ap is_some (are v low))

-- a vertex that the code has marked is one that an earlier line names
same_marks : (bounds : Bool) (h : Option Header) (values : List (Option Given)) (earlier : List Row) (row : Row) →
    ((v : ℕ) → 1 ≤ v → get_or values (v - 1) None ≡ given_in bounds earlier v) →
    line_fault bounds (sizes h) (is_valued values) row ≡ line_fault bounds (sizes h) (named_in bounds earlier) row
same_marks bounds h values earlier row are =
    ap (λ (r : Result Node Rule). cond (is_skipped row) None (cond (is_header row) (fault_of (header_at (sizes h) row)) (cond (is_edge row) (fault_of (edge_at (sizes h) row))
    (cond (is_node row) (fault_of r) (Some UnknownLine))))) (marked_nodes bounds h values earlier row are)

abbrev nothing : Option Given
nothing = None

get_or-nones : (n i : ℕ) → get_or (replicate n nothing) i nothing ≡ nothing
get_or-nones zero i = refl
get_or-nones (suc n) zero = refl
get_or-nones (suc n) (suc i) = get_or-nones n i

-- ---- one line more

module _ (rs : List Row) (k : ℕ) (row : Row) (more : List Row) (at : drop k rs ≡ row ∷ more) where
  took : take (k + 1) rs ≡ take k rs ++ row ∷ []
  took = let n = next_row rs k row more at in take_more rs k [] n.0 ∙ ap (λ (r : Row). take k rs ++ r ∷ []) n.1

  no_fault_more : (bounds : Bool) (h : Option Sizes) → h ≡ header_of (take k rs) → line_fault bounds h (named_in bounds (take k rs)) row ≡ None → NoFaultBelow bounds rs k →
      NoFaultBelow bounds rs (k + 1)
  no_fault_more bounds h e none below =
      let n = next_row rs k row more at in
      let here : fault_at bounds rs k ≡ None = subst (λ (r : Row). line_fault bounds (header_of (take k rs)) (named_in bounds (take k rs)) r ≡ None) (sym n.1) (subst
      (λ (s : Option Sizes). line_fault bounds s (named_in bounds (take k rs)) row ≡ None) e none) in
      below_more (λ j. fault_at bounds rs j ≡ None) k below here

  faulty_here : (bounds : Bool) (h : Option Sizes) (rule : Rule) → h ≡ header_of (take k rs) → line_fault bounds h (named_in bounds (take k rs)) row ≡ Some rule
      → NoFaultBelow bounds rs k →
      IsFirstFaulty bounds rs rule k
  faulty_here bounds h rule e some below =
      let n = next_row rs k row more at in
      record {
        there = n.0;
        fault = subst (λ (r : Row). line_fault bounds (header_of (take k rs)) (named_in bounds (take k rs)) r ≡ Some rule) (sym n.1)
            (subst (λ (s : Option Sizes). line_fault bounds s (named_in bounds (take k rs)) row ≡ Some rule) e some);
        least = below;
      }

  values_stay : (bounds : Bool) → is_node row ≡ false → (v : ℕ) → given_in bounds (take (k + 1) rs) v ≡ given_in bounds (take k rs) v
  values_stay bounds h v = ap (λ (r : List Row). given_in bounds r v) took ∙ ap (option_map (row_given bounds)) (find_push-no (names v) (take k rs) row (rw h refl))

  values_other : (bounds : Bool) (v : ℕ) → (natural_at row 1 ≡ v → ⊥) → given_in bounds (take (k + 1) rs) v ≡ given_in bounds (take k rs) v
  values_other bounds v ne =
      ap (λ (r : List Row). given_in bounds r v) took
      ∙ ap (option_map (row_given bounds)) (find_push-no (names v) (take k rs) row (and_right (is_node row) (eqb (natural_at row 1) v) (ne_eqb (natural_at row 1) v ne)))

  values_here : (bounds : Bool) → is_node row ≡ true → given_in bounds (take k rs) (natural_at row 1) ≡ None →
      given_in bounds (take (k + 1) rs) (natural_at row 1) ≡ Some (row_given bounds row)
  values_here bounds h none =
      let v = natural_at row 1 in
      let there : names v row ≡ true = rw h (eq-eqb v v refl) in
      ap (λ (r : List Row). given_in bounds r v) took
      ∙ ap (option_map (row_given bounds)) (find_push-yes (names v) (take k rs) row there (no_value bounds (find (names v) (take k rs)) none))

  header_stays : is_header row ≡ false → header_of (take (k + 1) rs) ≡ header_of (take k rs)
  header_stays h = ap header_of took ∙ ap sizes_in (find_push-no is_header (take k rs) row h)

  edges_stay : is_edge row ≡ false → edges_of (take (k + 1) rs) ≡ edges_of (take k rs)
  edges_stay h = ap edges_of took ∙ ap (map row_edge) (filter_push-no is_edge (take k rs) row h)

  edges_grow : is_edge row ≡ true → edges_of (take (k + 1) rs) ≡ edges_of (take k rs) ++ row_edge row ∷ []
  edges_grow h = ap edges_of took ∙ ap (map row_edge) (filter_push-yes is_edge (take k rs) row h) ∙ map_push row_edge (filter is_edge (take k rs)) row

six_fault : (bounds : Bool) (h : Option Sizes) (named : ℕ → Bool) (row : Row) → line_fault bounds h named (take 6 row) ≡ line_fault bounds h named row
six_fault bounds h named row =
    let a = is_skipped-six row in
    let b = is_header-six row in
    let d = header_at-six h row in
    let e = is_edge-six row in
    let f = edge_at-six h row in
    let i = is_node-six row in
    let j = node_at-six bounds h named row in
    rw (a, b, d, e, f, i, j) refl

not_some : (o : Option Given) → is_some o ≡ false → o ≡ None
not_some None e = refl
not_some (Some x) e = absurd cc

room_set : (h : Option Header) (count other : ℕ) → HasValues h count → other ≡ count → HasValues h other
room_set h count other room e = subst (HasValues h) (sym e) room

-- ---- the first edge of a weight below 0

abbrev or_here : Option ℕ → Bool → ℕ → Option ℕ
or_here (Some j) b n = Some j
or_here None b n = cond b (Some n) None

shifted : (o : Option ℕ) (b : Bool) (n : ℕ) → option_map (λ k. suc k) (or_here o b n) ≡ or_here (option_map (λ k. suc k) o) b (suc n)
shifted (Some j) b n = refl
shifted None true n = refl
shifted None false n = refl

place_cond : (b c : Bool) (o : Option ℕ) (n : ℕ) → cond b (Some 0) (option_map (λ k. suc k) (or_here o c n)) ≡ or_here (cond b (Some 0) (option_map (λ k. suc k) o)) c (suc n)
place_cond true c o n = refl
place_cond false c o n = shifted o c n

first_place-push : (p : Row → Bool) (xs : List Row) (x : Row) → first_place p (xs ++ x ∷ []) ≡ or_here (first_place p xs) (p x) (length xs)
first_place-push p [] x = refl
first_place-push p (y ∷ ys) x = ap (λ (o : Option ℕ). cond (p y) (Some 0) (option_map (λ k. suc k) o)) (first_place-push p ys x) ∙ place_cond (p y) (p x) (first_place p ys) (length ys)

negative_no : (neg : Option ℕ) (k : ℕ) → or_here neg false k ≡ neg
negative_no (Some j) k = refl
negative_no None k = refl

no_edge_negative : (row : Row) → is_edge row ≡ false → is_negative row ≡ false
no_edge_negative row h = rw h refl

after_skipped : (neg : Option ℕ) (k : ℕ) → negative_after neg line.Skipped k ≡ neg
after_skipped (Some j) k = refl
after_skipped None k = refl

after_header : (neg : Option ℕ) (h : Header) (k : ℕ) → negative_after neg (line.Header h) k ≡ neg
after_header (Some j) h k = refl
after_header None h k = refl

after_node : (neg : Option ℕ) (node : Node) (k : ℕ) → negative_after neg (line.Node node) k ≡ neg
after_node (Some j) node k = refl
after_node None node k = refl

after_edge : (neg : Option ℕ) (e : InstanceEdge) (k : ℕ) → negative_after neg (line.Edge e) k ≡ or_here neg (int_lt e.w (pos 0)) k
after_edge (Some j) e k = refl
after_edge None e k = refl

edge_negative : (row : Row) (e : InstanceEdge) → is_edge row ≡ true → row_edge row ≡ e → is_negative row ≡ int_lt e.w (pos 0)
edge_negative row e h is = rw h (ap (λ (x : InstanceEdge). int_lt x.w (pos 0)) is)

module _ (bounds : Bool) (rs : List Row) (k : ℕ) (row : Row) (more : List Row) (at : drop k rs ≡ row ∷ more) where
  faultless_more : (h : Option Header) (vs : List (Option Given)) (es : List InstanceEdge) (neg : Option ℕ) → IsRead bounds rs k h vs es neg →
      line_fault bounds (sizes h) (is_valued vs) (take 6 row) ≡ None → NoFaultBelow bounds rs (k + 1)
  faultless_more h vs es neg so_far none = no_fault_more rs k row more at bounds (sizes h) so_far.header_is (sym (same_marks bounds h vs (take k rs) row so_far.values_are)
      ∙ sym (six_fault bounds (sizes h) (is_valued vs) row) ∙ none) so_far.faultless

  negative_more : (neg : Option ℕ) → neg ≡ first_place is_negative (take k rs) → first_place is_negative (take (k + 1) rs) ≡ or_here neg (is_negative row) k
  negative_more neg e =
      let n = next_row rs k row more at in
      let len : length (take k rs) ≡ k = length-take k rs ∙ omega (arith, n.0) in
      ap (first_place is_negative) (took rs k row more at) ∙ first_place-push is_negative (take k rs) row ∙ ap (λ (o : Option ℕ). or_here o (is_negative row) (length (take k rs))) (sym e)
      ∙ ap (or_here neg (is_negative row)) len

  negative_stays : (neg : Option ℕ) → neg ≡ first_place is_negative (take k rs) → is_edge row ≡ false → neg ≡ first_place is_negative (take (k + 1) rs)
  negative_stays neg e h = sym (negative_more neg e ∙ ap (λ (b : Bool). or_here neg b k) (no_edge_negative row h) ∙ negative_no neg k)

  pub goes_on : (h : Option Header) (vs : List (Option Given)) (es : List InstanceEdge) (neg : Option ℕ) (l : Line) → IsRead bounds rs k h vs es neg →
      GivesLine bounds h (is_valued vs) (length vs) (take 6 row) (Ok l) → IsRead bounds rs (k + 1) (header_after h l) (values_after vs l) (edges_after es l) (negative_after neg l k)
  goes_on h vs es neg line.Skipped so_far given =
      let kind = skipped_kind row (sym (is_skipped-six row) ∙ given.1) in
      record {
        faultless = faultless_more h vs es neg so_far given.0;
        header_is = so_far.header_is ∙ sym (header_stays rs k row more at kind.0);
        values_are = λ v low. so_far.values_are v low ∙ sym (values_stay rs k row more at bounds kind.2 v);
        edges_are = so_far.edges_are ∙ sym (edges_stay rs k row more at kind.1);
        negative_is = after_skipped neg k ∙ negative_stays neg so_far.negative_is kind.1;
        room = so_far.room;
        size_limit = so_far.size_limit;
        fit = so_far.fit;
        value_limit = so_far.value_limit;
      }
  goes_on h vs es neg (line.Header found) so_far given =
      let yes_header : is_header row ≡ true = sym (is_header-six row) ∙ given.1.1 in
      let kind = header_kind row yes_header in
      let value = header_is (sizes h) row (sizes_of_header found) (sym (header_at-six (sizes h) row) ∙ given.1.2) in
      let no_one = no_header h value.0 in
      let none : find is_header (take k rs) ≡ None = no_sizes (find is_header (take k rs)) (sym so_far.header_is ∙ value.0) in
      let empty : vs ≡ [] = nil_from_length vs (no_values h (length vs) no_one so_far.room) in
      record {
        faultless = faultless_more h vs es neg so_far given.0;
        header_is = sym (ap header_of (took rs k row more at) ∙ ap sizes_in (find_push-yes is_header (take k rs) row yes_header none) ∙ ap (λ (s : Sizes). Some s) value.1);
        values_are = λ v low. get_or-nones found.vertices (v - 1) ∙ sym (ap (λ (l : List (Option Given)). get_or l (v - 1) None) empty) ∙ so_far.values_are v low
            ∙ sym (values_stay rs k row more at bounds kind.1 v);
        edges_are = so_far.edges_are ∙ sym (edges_stay rs k row more at kind.0);
        negative_is = after_header neg found k ∙ negative_stays neg so_far.negative_is kind.0;
        room = length-replicate found.vertices None;
        size_limit = given.1.3;
        fit = λ j d lt. absurd (subst (λ (x : Option Header). FitsHeader x (get_or es j d)) no_one (so_far.fit j d lt));
        value_limit = All-replicate (λ (o : Option Given). IfSome o IsGiven) found.vertices None tt;
      }
  goes_on h vs es neg (line.Edge e) so_far given =
      let is_one : is_edge row ≡ true = sym (is_edge-six row) ∙ given.1.2 in
      let value = edge_is (sizes h) row e (sym (edge_at-six (sizes h) row) ∙ given.1.3) in
      record {
        faultless = faultless_more h vs es neg so_far given.0;
        header_is = so_far.header_is ∙ sym (header_stays rs k row more at (sym (is_header-six row) ∙ given.1.1));
        values_are = λ v low. so_far.values_are v low ∙ sym (values_stay rs k row more at bounds (edge_kind row is_one) v);
        edges_are = ap (λ (l : List InstanceEdge). l ++ e ∷ []) so_far.edges_are ∙ ap (λ (x : InstanceEdge). edges_of (take k rs) ++ x ∷ []) (sym value)
            ∙ sym (edges_grow rs k row more at is_one);
        negative_is = after_edge neg e k ∙ ap (λ (b : Bool). or_here neg b k) (sym (edge_negative row e is_one value)) ∙ sym (negative_more neg so_far.negative_is);
        room = so_far.room;
        size_limit = so_far.size_limit;
        fit = All-push (FitsHeader h) es e so_far.fit given.1.4;
        value_limit = so_far.value_limit;
      }
  goes_on h vs es neg (line.Node node) so_far given =
      let is_one : is_node row ≡ true = sym (is_node-six row) ∙ given.1.2 in
      let no_edge : is_edge row ≡ false = sym (is_edge-six row) ∙ given.1.1 in
      let at_row : node_at bounds (sizes h) (is_valued vs) row ≡ Ok node = sym (node_at-six bounds (sizes h) (is_valued vs) row) ∙ given.1.3 in
      let taken = node_is bounds (sizes h) (is_valued vs) row node at_row in
      let unmarked : get_or vs (node.vertex - 1) None ≡ None = not_some _ taken.unnamed in
      let before : given_in bounds (take k rs) (natural_at row 1) ≡ None = ap (given_in bounds (take k rs)) taken.vertex ∙ sym (so_far.values_are node.vertex given.1.4) ∙ unmarked in
      let after : given_in bounds (take (k + 1) rs) node.vertex ≡ Some node.given = ap (given_in bounds (take (k + 1) rs)) (sym taken.vertex)
      ∙ values_here rs k row more at bounds is_one before ∙ ap (λ (g : Given). Some g) taken.given in
      record {
        faultless = faultless_more h vs es neg so_far given.0;
        header_is = so_far.header_is ∙ sym (header_stays rs k row more at (sym (is_header-six row) ∙ given.1.0));
        values_are = λ v low. elim (cases_eq v node.vertex) [
          | inl same ↦ rw same (get_or-set_same vs (node.vertex - 1) (Some node.given) None (omega (arith, given.1.4, given.1.5)) ∙ sym after)
          | inr other ↦ get_or-set_other vs (node.vertex - 1) (v - 1) (Some node.given) None (λ e. other (omega (arith, given.1.4))) ∙ so_far.values_are v low
              ∙ sym (values_other rs k row more at bounds v (λ e. other (sym e ∙ taken.vertex)))
        ];
        edges_are = so_far.edges_are ∙ sym (edges_stay rs k row more at no_edge);
        negative_is = after_node neg node k ∙ negative_stays neg so_far.negative_is no_edge;
        room = room_set h (length vs) (length (slice_set vs (node.vertex - 1) (Some node.given))) so_far.room (length-set vs (node.vertex - 1) (Some node.given));
        size_limit = so_far.size_limit;
        fit = so_far.fit;
        value_limit = All-set (λ (o : Option Given). IfSome o IsGiven) vs (node.vertex - 1) (Some node.given) given.1.6 so_far.value_limit;
      }

  pub stops : (h : Option Header) (vs : List (Option Given)) (es : List InstanceEdge) (neg : Option ℕ) (rule : Rule) → IsRead bounds rs k h vs es neg →
      GivesLine bounds h (is_valued vs) (length vs) (take 6 row) (Err rule) → IsFirstFaulty bounds rs rule k
  stops h vs es neg rule so_far given = faulty_here rs k row more at bounds (sizes h) rule so_far.header_is (sym (same_marks bounds h vs (take k rs) row so_far.values_are)
      ∙ sym (six_fault bounds (sizes h) (is_valued vs) row) ∙ given) so_far.faultless

  pub within_more : k + 1 ≤ length rs
  within_more = let n = next_row rs k row more at in omega (arith, n.0)

  pub left_more : drop (k + 1) rs ≡ more
  left_more = (next_row rs k row more at).2

instance_turn : (row : Row) (more : List Row) → is_solution row ≡ false → instance_rows (row ∷ more) ≡ row ∷ instance_rows more
instance_turn row more h = rw h refl

pub turn_at : (rs : List Row) (k : ℕ) (rest text after : List ℕ) (six : Row) → drop k rs ≡ instance_rows (rows rest) → lines rest ≡ text ∷ lines after → six ≡ take 6 (fields text) →
    is_solution six ≡ false → drop k rs ≡ fields text ∷ instance_rows (rows after)
turn_at rs k rest text after six left e s h =
    left ∙ ap (λ (ls : List (List ℕ)). instance_rows (map fields ls)) e ∙ instance_turn (fields text) (rows after) (sym (is_solution-six (fields text)) ∙ ap is_solution (sym s) ∙ h)

-- ---- the end of the lines

pub end_count : (rs : List Row) (k : ℕ) → drop k rs ≡ [] → k ≤ length rs → k ≡ length rs
end_count rs k e le = omega (arith, length-drop k rs, ap length e)

-- ---- what follows the lines

pub after_lines-more : (k : ℕ) (bytes : List ℕ) → after_lines (suc k) bytes ≡ after_first is_line_feed (after_lines k bytes)
after_lines-more zero bytes = refl
after_lines-more (suc k) bytes = after_lines-more k (after_first is_line_feed bytes)

pub after_lines-one : (k : ℕ) (bytes : List ℕ) → after_lines (k + 1) bytes ≡ after_first is_line_feed (after_lines k bytes)
after_lines-one k bytes = rw add-one (after_lines-more k bytes)

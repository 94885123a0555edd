-- What the tests at the end answer, and the instance that lines without a fault hold.
use Rattle.mb_problem.proofs.Common.{◌≡◌, ℕ, suc, ◌+◌, ◌-◌, ◌<◌, ◌≤◌, Bool, true, false, cond, eqb, List, [], ◌∷◌, length, take, get_or, map, Option, Some}
use Rattle.mb_problem.proofs.Common.{None, refl, sym, ap, ap₂, subst, ◌∙◌, arith, inl, inr, count_by, slice_index, IfSome, option_map, option_or, eqb-true, cases_lt, take_all}
use Rattle.mb_problem.proofs.Common.{length-map, get_or-map, get_or_past, ext_get_or, All-map, get_or-map-range_with_len, length-map-range_with_len, Row, IsNetwork, IsInstanceEdge}
use Rattle.mb_problem.proofs.Common.{default_value_of, default_by, vertex_value_of, need_of, has_bounds}
use Rattle.mb_problem.specs.declared.instance.InstanceEdge.{InstanceEdge}
use Rattle.mb_problem.specs.declared.kind.Kind.{Kind}
use Rattle.mb_problem.specs.declared.kind.Precondition.{Precondition}
use Rattle.mb_problem.specs.declared.kind.Precondition.TheVariants.{Unrestricted, WeightsFromZero, Ends, EndsAndWeightsFromZero}
use Rattle.mb_problem.specs.declared.kind.VertexValue.{VertexValue}
use Rattle.mb_problem.specs.declared.kind.VertexValue.TheVariants.{Unused, Degree, Parity, End, Bounds}
use Rattle.mb_problem.specs.declared.limits.TheConstants.{VALUE_LIMIT}
use Rattle.dimacs_read.specs.declared.line.Given.{Given}
use Rattle.dimacs_read.specs.declared.line.Header.{Header}
use Rattle.dimacs_read.specs.declared.rule.Rule.TheVariants.{HeaderMissing, EdgeCount, Negative, PathEnds}
use Rattle.dimacs_read.specs.declared.rule.Fault.{Fault}
use Rattle.dimacs_read.specs.Format.{Sizes, header_of, given_in, edges_of, read_off, value_or, low_or, high_or, first_place, is_negative, is_odd, negative_fault, ends_fault, need_fault}
use Rattle.dimacs_read.specs.Format.{kind_fault, end_fault, HoldsInstance}
use Rattle.dimacs_read.specs.Line.{sizes, sizes_of_header, FitsHeader, IsGiven, HasValues, HasFewVertices}
use Rattle.dimacs_read.specs.Reading.{IsRead, kind_fault_from, end_fault_from, network_from}
use Rattle.dimacs_read.specs.declared.line.Given.TheVariants as given

-- ---- the place of the first row that passes is within the rows

abbrev some_fault : Fault → Option Fault
some_fault f = Some f

pub fault_is : (f g : Fault) → some_fault f ≡ some_fault g → f ≡ g
fault_is f g e = cc

abbrev some_place : ℕ → Option ℕ
some_place k = Some k

place_is : (j k : ℕ) → some_place j ≡ some_place k → j ≡ k
place_is j k e = cc

place_step : (b : Bool) (o : Option ℕ) (k n : ℕ) → ((j : ℕ) → o ≡ Some j → j < n) → cond b (Some 0) (option_map (λ k. suc k) o) ≡ Some k → k < suc n
place_step true o k n h e = let z : 0 ≡ k = place_is 0 k e in omega (arith, z)
place_step false None k n h e = absurd cc
place_step false (Some j) k n h e = let z : suc j ≡ k = place_is (suc j) k e in omega (arith, z, h j refl)

pub first_place-within : (p : Row → Bool) (rs : List Row) (k : ℕ) → first_place p rs ≡ Some k → k < length rs
first_place-within p [] k e = absurd cc
first_place-within p (row ∷ rs) k e = place_step (p row) (first_place p rs) k (length rs) (first_place-within p rs) e

-- ---- a fault at the end stands on a line, or on the one after the last

negative_place : (neg : Option ℕ) (lines : ℕ) (f : Fault) → ((k : ℕ) → neg ≡ Some k → k ≤ lines) → option_map (λ k. record { rule = Negative; place = k }) neg ≡ some_fault f →
    f.place ≤ lines
negative_place None lines f h e = absurd cc
negative_place (Some k) lines f h e = let is = fault_is (record { rule = Negative; place = k }) f e in let z : k ≡ f.place = ap (λ (x : Fault). x.place) is in omega (arith, z, h k refl)

ends_place : (b : Bool) (lines : ℕ) (f : Fault) → cond b None (some_fault (record { rule = PathEnds; place = lines })) ≡ some_fault f → f.place ≤ lines
ends_place true lines f e = absurd cc
ends_place false lines f e = let z : lines ≡ f.place = ap (λ (x : Fault). x.place) (fault_is (record { rule = PathEnds; place = lines }) f e) in omega (arith, z)

either_place : (a b : Option Fault) (lines : ℕ) (f : Fault) → (a ≡ some_fault f → f.place ≤ lines) → (b ≡ some_fault f → f.place ≤ lines) → option_or a b ≡ some_fault f → f.place ≤ lines
either_place None b lines f ha hb e = hb e
either_place (Some a) b lines f ha hb e = ha e

need_place : (need : Precondition) (values : List ℕ) (neg : Option ℕ) (lines : ℕ) (f : Fault) → ((k : ℕ) → neg ≡ Some k → k ≤ lines) → need_fault need values neg lines ≡ some_fault f →
    f.place ≤ lines
need_place Unrestricted values neg lines f h e = absurd cc
need_place WeightsFromZero values neg lines f h e = negative_place neg lines f h e
need_place Ends values neg lines f h e = ends_place (eqb (count_by is_odd values) 2) lines f e
need_place EndsAndWeightsFromZero values neg lines f h e =
    either_place (negative_fault neg) (ends_fault values lines) lines f (negative_place neg lines f h) (ends_place (eqb (count_by is_odd values) 2) lines f) e

count_place : (b : Bool) (o : Option Fault) (lines : ℕ) (f : Fault) → (o ≡ some_fault f → f.place ≤ lines) →
    cond b o (some_fault (record { rule = EdgeCount; place = lines })) ≡ some_fault f → f.place ≤ lines
count_place true o lines f h e = h e
count_place false o lines f h e = let z : lines ≡ f.place = ap (λ (x : Fault). x.place) (fault_is (record { rule = EdgeCount; place = lines }) f e) in omega (arith, z)

pub end_place : (kind : Kind) (s : Option Sizes) (vs : List (Option Given)) (count : ℕ) (neg : Option ℕ) (lines : ℕ) (f : Fault) → ((k : ℕ) → neg ≡ Some k → k ≤ lines) →
    end_fault_from kind s vs count neg lines ≡ some_fault f → f.place ≤ lines
end_place kind None vs count neg lines f h e = let z : lines ≡ f.place = ap (λ (x : Fault). x.place) (fault_is (record { rule = HeaderMissing; place = lines }) f e) in omega (arith, z)
end_place kind (Some s) vs count neg lines f h e =
    count_place (eqb count s.edges) (kind_fault_from kind vs neg lines) lines f (need_place (need_of kind) (map (value_or (default_value_of kind)) vs) neg lines f h) e

-- ---- without a fault at the end there is a header, and as many edges as it says

count_whole : (b : Bool) (o : Option Fault) (f : Fault) → cond b o (some_fault f) ≡ None → b ≡ true
count_whole true o f e = refl
count_whole false o f e = absurd cc

pub end_whole : (kind : Kind) (h : Option Header) (vs : List (Option Given)) (count : ℕ) (neg : Option ℕ) (lines : ℕ) → end_fault_from kind (sizes h) vs count neg lines ≡ None →
    (g : Header) × (h ≡ Some g) × (count ≡ g.edges)
end_whole kind None vs count neg lines e = absurd cc
end_whole kind (Some g) vs count neg lines e =
    (g, refl, eqb-true count g.edges (count_whole (eqb count g.edges) (kind_fault_from kind vs neg lines) (record { rule = EdgeCount; place = lines }) e))

-- ---- all lines

default_small : (value : VertexValue) → default_by value ≤ VALUE_LIMIT
default_small Unused = omega arith
default_small Degree = omega arith
default_small Parity = omega arith
default_small End = omega arith
default_small Bounds = omega arith

small_value : (kind : Kind) (o : Option Given) → IfSome o IsGiven → value_or (default_value_of kind) o ≤ VALUE_LIMIT
small_value kind None h = default_small (vertex_value_of kind)
small_value kind (Some (given.Value b)) h = h
small_value kind (Some (given.Bounds low high)) h = default_small (vertex_value_of kind)

small_high : (o : Option Given) → IfSome o IsGiven → high_or o ≤ VALUE_LIMIT
small_high None h = omega arith
small_high (Some (given.Value b)) h = omega arith
small_high (Some (given.Bounds low high)) h = h.1

in_order : (o : Option Given) → IfSome o IsGiven → low_or o ≤ high_or o
in_order None h = omega arith
in_order (Some (given.Value b)) h = omega arith
in_order (Some (given.Bounds low high)) h = h.0

module _ (kind : Kind) (rs : List Row) (h : Option Header) (vs : List (Option Given)) (es : List InstanceEdge) (neg : Option ℕ)
    (so_far : IsRead (has_bounds kind) rs (length rs) h vs es neg) where
  all_rows : take (length rs) rs ≡ rs
  all_rows = take_all (length rs) rs (omega arith)

  pub all_header : sizes h ≡ header_of rs
  all_header = so_far.header_is ∙ ap header_of all_rows

  pub all_edges : es ≡ edges_of rs
  all_edges = so_far.edges_are ∙ ap edges_of all_rows

  all_negative : neg ≡ first_place is_negative rs
  all_negative = so_far.negative_is ∙ ap (first_place is_negative) all_rows

  pub negative_within : (k : ℕ) → neg ≡ Some k → k ≤ length rs
  negative_within k e = let lt = first_place-within is_negative rs k (sym all_negative ∙ e) in omega (arith, lt)

  one_read : (read : Option Given → ℕ) (i : ℕ) → i < length vs → get_or (map read vs) i 0 ≡ read (given_in (has_bounds kind) rs (i + 1))
  one_read read i lt =
      let back : i + 1 - 1 ≡ i = omega arith in
      get_or-map read vs i None 0 lt ∙ ap (λ (j : ℕ). read (get_or vs j None)) (sym back)
      ∙ ap read (so_far.values_are (i + 1) (omega arith) ∙ ap (λ (r : List Row). given_in (has_bounds kind) r (i + 1)) all_rows)

  all_read : (read : Option Given → ℕ) (n : ℕ) → length vs ≡ n → map read vs ≡ read_off (has_bounds kind) read n rs
  all_read read n len =
      ext_get_or 0 (map read vs) (read_off (has_bounds kind) read n rs) (length-map vs read ∙ len ∙ sym (length-map-range_with_len (λ v. read (given_in (has_bounds kind) rs v)) 1 n))
      (λ i lt.
      let short : i < length vs = subst (λ (m : ℕ). i < m) (length-map vs read) lt in
      one_read read i short ∙ sym (get_or-map-range_with_len (λ v. read (given_in (has_bounds kind) rs v)) 1 n i (i + 1) 0 (omega (arith, short, len)) (omega arith)))

  kind_same : (n : ℕ) → length vs ≡ n → kind_fault_from kind vs neg (length rs) ≡ kind_fault kind n rs
  kind_same n len =
      ap₂ (λ (values : List ℕ) (first : Option ℕ). need_fault (need_of kind) values first (length rs)) (all_read (value_or (default_value_of kind)) n len) all_negative

  header_count : (g : Header) → h ≡ Some g → length vs ≡ g.vertices
  header_count g e = subst (λ (x : Option Header). HasValues x (length vs)) e so_far.room

  pub end_same : end_fault_from kind (sizes h) vs (length es) neg (length rs) ≡ end_fault kind (header_of rs) rs
  end_same = by_header h refl ∙ ap (λ (s : Option Sizes). end_fault kind s rs) all_header
    where
      by_header : (x : Option Header) → h ≡ x → end_fault_from kind (sizes h) vs (length es) neg (length rs) ≡ end_fault kind (sizes h) rs
      by_header None e = rw e refl
      by_header (Some g) e =
          rw e (ap₂ (λ (m : ℕ) (o : Option Fault). cond (eqb m g.edges) o (some_fault (record {
            rule = EdgeCount;
            place = length rs;
          }))) (ap length all_edges) (kind_same g.vertices (header_count g e)))

  placed : (k : ℕ) → slice_index (map low_or vs) k ≤ slice_index (map high_or vs) k
  placed k =
      elim (cases_lt k (length vs)) [
        | inl lt ↦
            let low = get_or-map low_or vs k None 0 lt in
            let high = get_or-map high_or vs k None 0 lt in
            rw (low, high) (in_order (get_or vs k None) (so_far.value_limit k None lt))
        | inr le ↦ let out = get_or_past (map low_or vs) k 0 (omega (arith, le, length-map vs low_or)) in omega (arith, out)
      ]

  pub network : (g : Header) → h ≡ Some g → length es ≡ g.edges → IsNetwork (network_from kind vs es)
  network g e count =
      let few = subst HasFewVertices e so_far.size_limit in
      let len : length (map (value_or (default_value_of kind)) vs) ≡ g.vertices = length-map vs (value_or (default_value_of kind)) ∙ header_count g e in
      record {
        few_vertices = omega (arith, few.0, len);
        few_edges = omega (arith, few.1, count);
        edges = λ j d lt. subst (λ (n : ℕ). IsInstanceEdge n (get_or es j d)) (sym len) (subst (λ (x : Option Header). FitsHeader x (get_or es j d)) e (so_far.fit j d lt));
        values = All-map (λ b. b ≤ VALUE_LIMIT) (value_or (default_value_of kind)) vs (λ j d lt. small_value kind (get_or vs j d) (so_far.value_limit j d lt));
        low_each = length-map vs low_or ∙ sym (length-map vs (value_or (default_value_of kind)));
        high_each = length-map vs high_or ∙ sym (length-map vs (value_or (default_value_of kind)));
        ordered = placed;
        highs = All-map (λ b. b ≤ VALUE_LIMIT) high_or vs (λ j d lt. small_high (get_or vs j d) (so_far.value_limit j d lt));
      }

  pub holds : (g : Header) → h ≡ Some g → end_fault_from kind (sizes h) vs (length es) neg (length rs) ≡ None → HoldsInstance kind rs (network_from kind vs es)
  holds g e none =
      let header : header_of rs ≡ Some (sizes_of_header g) = sym all_header ∙ ap sizes e in
      let count = header_count g e in
      record {
        faultless = so_far.faultless;
        header = sizes_of_header g;
        header_is = header;
        whole = ap (λ (s : Option Sizes). end_fault kind s rs) (sym header) ∙ sym end_same ∙ none;
        edges_are = all_edges;
        values_are = all_read (value_or (default_value_of kind)) g.vertices count;
        lows_are = all_read low_or g.vertices count;
        highs_are = all_read high_or g.vertices count;
      }

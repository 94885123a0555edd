-- What a line without a fault holds.
use Rattle.mb_problem.proofs.Common.{sym, ◌≡◌, ℕ, Bool, true, false, cond, length, Option, Some, None, Result, Ok, Err, ℤ, pos, refl, ap, ◌∙◌, eqb, ltb, neg_ℤ, nat_abs}
use Rattle.mb_problem.proofs.Common.{unwrap_or, int_le, ◌&&◌, ◌||◌, not, codes, bytes_eq, numeral, WEIGHT_LIMIT, ◌≤◌, negsuc, leb-true, Row, field_at}
use Rattle.mb_problem.specs.declared.instance.InstanceEdge.{InstanceEdge}
use Rattle.mb_problem.specs.declared.limits.TheConstants.{VERTEX_LIMIT, EDGE_LIMIT, VALUE_LIMIT}
use Rattle.dimacs_read.specs.declared.line.Given.{Given}
use Rattle.dimacs_read.specs.declared.line.Given.TheVariants.{Value, Bounds}
use Rattle.dimacs_read.specs.declared.line.Node.{Node}
use Rattle.dimacs_read.specs.declared.rule.Rule.{Rule}
use Rattle.dimacs_read.specs.declared.rule.Rule.TheVariants.{HeaderForm, FieldCount, NodeTwice, Range}
use Rattle.dimacs_read.specs.Format.{◌>>=◌, Sizes, ranged, number_in, natural_in, number_at, natural_at, sizes_at, header_at, row_weight, row_capacity, edge_at, given_at, node_at}
use Rattle.dimacs_read.specs.Format.{row_edge, row_given, sizes_of}

bind_ok : {A B : Type 0} (r : Result A Rule) (f : A → Result B Rule) (y : B) → (r >>= f) ≡ Ok y → (x : A) × (r ≡ Ok x) × (f x ≡ Ok y)
bind_ok (Ok x) f y e = (x, refl, e)
bind_ok (Err d) f y e = absurd cc

guard_false : {A : Type 0} (b : Bool) (d : Rule) (r : Result A Rule) (y : A) → cond b (Err d) r ≡ Ok y → b ≡ false
guard_false true d r y e = absurd cc
guard_false false d r y e = refl

guard_ok : {A : Type 0} (b : Bool) (d : Rule) (r : Result A Rule) (y : A) → cond b (Err d) r ≡ Ok y → r ≡ Ok y
guard_ok true d r y e = absurd cc
guard_ok false d r y e = e

abbrev done : {A : Type 0} → A → Result A Rule
done x = Ok x

ok_is : {A : Type 0} (x y : A) → done x ≡ done y → x ≡ y
ok_is x y e = cc

within_is : (b : Bool) (z y : ℤ) → cond b (Ok z) (Err Range) ≡ Ok y → z ≡ y
within_is true z y e = ok_is z y e
within_is false z y e = absurd cc

ranged_is : (low high : ℤ) (o : Option ℤ) (y : ℤ) → ranged low high o ≡ Ok y → unwrap_or o (pos 0) ≡ y
ranged_is low high None y e = absurd cc
ranged_is low high (Some z) y e = within_is (int_le low z && int_le z high) z y e

natural_is : (low high : ℕ) (row : Row) (k n : ℕ) → natural_in low high (field_at row k) ≡ Ok n → natural_at row k ≡ n
natural_is low high row k n e =
    let b = bind_ok (number_in (pos low) (pos high) (field_at row k)) (λ z. Ok (nat_abs z)) n e in
    ap nat_abs (ranged_is (pos low) (pos high) (numeral (field_at row k)) b.0 b.1) ∙ ok_is (nat_abs b.0) n b.2

sizes_is : (row : Row) (s : Sizes) → sizes_at row ≡ Ok s → sizes_of row ≡ s
sizes_is row s e =
    let a = bind_ok (natural_in 0 VERTEX_LIMIT (field_at row 2)) (λ n. natural_in 0 EDGE_LIMIT (field_at row 3) >>= λ m. Ok (record { vertices = n; edges = m })) s e in
    let b = bind_ok (natural_in 0 EDGE_LIMIT (field_at row 3)) (λ m. Ok (record { vertices = a.0; edges = m })) s a.2 in
    let made : Sizes = record { vertices = a.0; edges = b.0 } in
    let first = natural_is 0 VERTEX_LIMIT row 2 a.0 a.1 in
    let second = natural_is 0 EDGE_LIMIT row 3 b.0 b.1 in
    let e1 : sizes_of row ≡ made = cc in
    e1 ∙ ok_is made s b.2

-- a header that is taken is the first
pub header_is : (h : Option Sizes) (row : Row) (s : Sizes) → header_at h row ≡ Ok s → (h ≡ None) × (sizes_of row ≡ s)
header_is (Some t) row s e = absurd cc
header_is None row s e =
    let a = guard_ok (not (eqb (length row) 4)) HeaderForm _ s e in
    let b = guard_ok (not (bytes_eq (field_at row 1) (codes "edge") || bytes_eq (field_at row 1) (codes "col"))) HeaderForm (sizes_at row) s a in
    (refl, sizes_is row s b)

weight_is : (b : Bool) (row : Row) (w : ℤ) → cond b (Ok (pos 1)) (number_in (neg_ℤ WEIGHT_LIMIT) WEIGHT_LIMIT (field_at row 3)) ≡ Ok w → cond b (pos 1) (number_at row 3) ≡ w
weight_is true row w e = ok_is (pos 1) w e
weight_is false row w e = ranged_is (neg_ℤ WEIGHT_LIMIT) WEIGHT_LIMIT (numeral (field_at row 3)) w e

capacity_is : (b : Bool) (row : Row) (c : Option ℕ) → cond b (Ok None) (natural_in 0 VALUE_LIMIT (field_at row 4) >>= λ n. Ok (Some n)) ≡ Ok c → cond b None (Some (natural_at row 4)) ≡ c
capacity_is true row c e = ok_is None c e
capacity_is false row c e =
    let b = bind_ok (natural_in 0 VALUE_LIMIT (field_at row 4)) (λ n. Ok (Some n)) c e in
    ap (λ (n : ℕ). Some n) (natural_is 0 VALUE_LIMIT row 4 b.0 b.1) ∙ ok_is (Some b.0) c b.2

pub edge_is : (h : Option Sizes) (row : Row) (e : InstanceEdge) → edge_at h row ≡ Ok e → row_edge row ≡ e
unfolding edge_at
edge_is None row e h = absurd cc
edge_is (Some s) row e h =
    let r0 = guard_ok (ltb (length row) 3 || ltb 5 (length row)) FieldCount _ e h in
    let u = bind_ok (natural_in 1 s.vertices (field_at row 1)) _ e r0 in
    let v = bind_ok (natural_in 1 s.vertices (field_at row 2)) _ e u.2 in
    let w = bind_ok (row_weight row) _ e v.2 in
    let c = bind_ok (row_capacity row) _ e w.2 in
    let made : InstanceEdge = record { u = u.0; v = v.0; w = w.0; capacity = c.0 } in
    let ue = natural_is 1 s.vertices row 1 u.0 u.1 in
    let ve = natural_is 1 s.vertices row 2 v.0 v.1 in
    let we = weight_is (ltb (length row) 4) row w.0 w.1 in
    let ce = capacity_is (ltb (length row) 5) row c.0 c.1 in
    let e1 : row_edge row ≡ made = cc in
    e1 ∙ ok_is made e c.2

-- what is taken from a value line is what the line holds
given_is : (bounds : Bool) (row : Row) (given : Given) → given_at bounds row ≡ Ok given → row_given bounds row ≡ given
given_is true row given h =
    let a = bind_ok (natural_in 0 VALUE_LIMIT (field_at row 2)) _ given h in
    let b = bind_ok (natural_in a.0 VALUE_LIMIT (field_at row 3)) _ given a.2 in
    let low = natural_is 0 VALUE_LIMIT row 2 a.0 a.1 in
    let high = natural_is a.0 VALUE_LIMIT row 3 b.0 b.1 in
    let e : row_given true row ≡ Bounds a.0 b.0 = cc in
    e ∙ ok_is (Bounds a.0 b.0) given b.2
given_is false row given h =
    let a = bind_ok (natural_in 0 VALUE_LIMIT (field_at row 2)) _ given h in
    ap (λ (b : ℕ). Value b) (natural_is 0 VALUE_LIMIT row 2 a.0 a.1) ∙ ok_is (Value a.0) given a.2

-- a value line that is taken: what it holds, and that its vertex was given nothing before
pub record IsTaken (bounds : Bool) (named : ℕ → Bool) (row : Row) (node : Node) : Type 0 where
  pub vertex : natural_at row 1 ≡ node.vertex
  pub given : row_given bounds row ≡ node.given
  pub unnamed : named node.vertex ≡ false

pub node_is : (bounds : Bool) (h : Option Sizes) (named : ℕ → Bool) (row : Row) (node : Node) → node_at bounds h named row ≡ Ok node → IsTaken bounds named row node
unfolding node_at
node_is bounds None named row node h = absurd cc
node_is bounds (Some s) named row node h =
    let r0 = guard_ok (not (eqb (length row) (cond bounds 4 3))) FieldCount _ node h in
    let v = bind_ok (natural_in 1 s.vertices (field_at row 1)) _ node r0 in
    let b = bind_ok (given_at bounds row) _ node v.2 in
    let fresh = guard_false (named v.0) NodeTwice _ node b.2 in
    let last = guard_ok (named v.0) NodeTwice _ node b.2 in
    let e = ok_is (record { vertex = v.0; given = b.0 }) node last in
    let same = ap (λ (n : Node). n.vertex) e in
    record { vertex = natural_is 1 s.vertices row 1 v.0 v.1 ∙ same; given = given_is bounds row b.0 b.1 ∙ ap (λ (n : Node). n.given) e; unnamed = ap named (sym same) ∙ fresh }

-- ---- a test of earlier lines matters at the vertices alone

within_range : (low high : ℕ) (z y : ℤ) (b c : Bool) → int_le (pos low) z ≡ b → int_le z (pos high) ≡ c → cond (b && c) (Ok z) (Err Range) ≡ Ok y → (low ≤ nat_abs y) × (nat_abs y ≤ high)
within_range low high (pos n) y true true p q e = rw (← ok_is (pos n) y e) (leb-true low n p, leb-true n high q)
within_range low high (negsuc n) y true true p q e = absurd cc
within_range low high z y true false p q e = absurd cc
within_range low high z y false c p q e = absurd cc

ranged_range : (low high : ℕ) (o : Option ℤ) (y : ℤ) → ranged (pos low) (pos high) o ≡ Ok y → (low ≤ nat_abs y) × (nat_abs y ≤ high)
ranged_range low high None y e = absurd cc
ranged_range low high (Some z) y e = within_range low high z y (int_le (pos low) z) (int_le z (pos high)) refl refl e

natural_range : (low high : ℕ) (row : Row) (k n : ℕ) → natural_in low high (field_at row k) ≡ Ok n → (low ≤ n) × (n ≤ high)
natural_range low high row k n e =
    let b = bind_ok (number_in (pos low) (pos high) (field_at row k)) (λ z. Ok (nat_abs z)) n e in
    let r = ranged_range low high (numeral (field_at row k)) b.0 b.1 in
    rw (← ok_is (nat_abs b.0) n b.2) r

abbrev node_from : Bool → (ℕ → Bool) → Row → ℕ → Result Node Rule
node_from bounds named row v = given_at bounds row >>= λ given. cond (named v) (Err NodeTwice) (Ok (record { vertex = v; given = given }))

same_from : (bounds : Bool) (f g : ℕ → Bool) (row : Row) (r : Result ℕ Rule) → ((v : ℕ) → r ≡ Ok v → f v ≡ g v)
    → (r >>= node_from bounds f row) ≡ (r >>= node_from bounds g row)
same_from bounds f g row (Ok v) h = let e = h v refl in rw e refl
same_from bounds f g row (Err rule) h = refl

pub node_at-same : (bounds : Bool) (s : Sizes) (f g : ℕ → Bool) (row : Row) → ((v : ℕ) → 1 ≤ v → v ≤ s.vertices → f v ≡ g v)
    → node_at bounds (Some s) f row ≡ node_at bounds (Some s) g row
unfolding node_at
node_at-same bounds s f g row h =
    ap (λ (r : Result Node Rule). cond (not (eqb (length row) (cond bounds 4 3))) (Err FieldCount) r)
    (same_from bounds f g row (natural_in 1 s.vertices (field_at row 1)) (λ v e. let r = natural_range 1 s.vertices row 1 v e in h v r.0 r.1))

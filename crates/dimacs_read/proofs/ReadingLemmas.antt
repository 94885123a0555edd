-- Each text has exactly one reading: one first fault, or one instance.
use Rattle.mb_problem.proofs.Common.{Bool, ◌≡◌, ℕ, zero, suc, ◌+◌, ◌<◌, ◌⊎◌, List, length, Option, Some, None, sym, ap, ap₂, ◌∙◌, arith, inl, inr, refl}
use Rattle.mb_problem.proofs.Common.{cases_lt, cases_eq, same_Some, Row, Network, has_bounds}
use Rattle.mb_problem.specs.declared.instance.InstanceEdge.{InstanceEdge}
use Rattle.mb_problem.specs.declared.kind.Kind.{Kind}
use Rattle.dimacs_read.specs.declared.rule.Rule.{Rule}
use Rattle.dimacs_read.specs.declared.rule.Rule.TheVariants.{HeaderMissing}
use Rattle.dimacs_read.specs.declared.rule.Fault.{Fault}
use Rattle.dimacs_read.specs.Format.{Sizes, fault_at, header_of, edges_of, values_of, read_off, low_or, high_or, end_fault, NoFaultBelow, IsFirstFaulty, FailsAtEnd, IsFirstFault}
use Rattle.dimacs_read.specs.Format.{HoldsInstance}
use Rattle.dimacs_read.specs.declared.rest.Rest.{Rest}
use Rattle.dimacs_read.specs.Law.{EachIsRead, OneFault, OneInstance, NoInstanceAndFault, OneRest}
use Rattle.dimacs_read.proofs.EndLemmas.{fault_is}

not_faultless : {A : Type 0} (o : Option A) (p : A) → o ≡ Some p → o ≡ None → ⊥
not_faultless o p e f = cc

two_lines : (bounds : Bool) (rs : List Row) (p q : Rule) (j k : ℕ) → IsFirstFaulty bounds rs p j → IsFirstFaulty bounds rs q k → (p ≡ q) × (j ≡ k)
two_lines bounds rs p q j k a b =
    elim (cases_eq j k) [
      | inl same ↦ (same_Some p q (sym a.fault ∙ ap (fault_at bounds rs) same ∙ b.fault), same)
      | inr other ↦ elim (cases_lt j k) [
        | inl lt ↦ absurd (not_faultless (fault_at bounds rs j) p a.fault (b.least j lt))
        | inr le ↦ let lt : k < j = omega (arith, other) in absurd (not_faultless (fault_at bounds rs k) q b.fault (a.least k lt))
      ]
    ]

two_ends : (kind : Kind) (rs : List Row) (p q : Rule) (j k : ℕ) → FailsAtEnd kind rs p j → FailsAtEnd kind rs q k → (p ≡ q) × (j ≡ k)
two_ends kind rs p q j k a b =
    let e = fault_is (record { rule = p; place = j }) (record { rule = q; place = k }) (sym a.fault ∙ b.fault) in
    (ap (λ (f : Fault). f.rule) e, ap (λ (f : Fault). f.place) e)

pub one_fault : OneFault
one_fault kind rs p q m n (j, e, inl a) (k, f, inl b) = let t = two_lines (has_bounds kind) rs p q j k a b in (t.0, omega (arith, t.1, e, f))
one_fault kind rs p q m n (j, e, inl a) (k, f, inr b) = absurd (not_faultless (fault_at (has_bounds kind) rs j) p a.fault (b.faultless j a.there))
one_fault kind rs p q m n (j, e, inr a) (k, f, inl b) = absurd (not_faultless (fault_at (has_bounds kind) rs k) q b.fault (a.faultless k b.there))
one_fault kind rs p q m n (j, e, inr a) (k, f, inr b) = let t = two_ends kind rs p q j k a b in (t.0, omega (arith, t.1, e, f))

pub no_instance_and_fault : NoInstanceAndFault
no_instance_and_fault kind rs i rule line h (k, e, inl a) = not_faultless (fault_at (has_bounds kind) rs k) rule a.fault (h.faultless k a.there)
no_instance_and_fault kind rs i rule line h (k, e, inr a) =
    not_faultless (end_fault kind (header_of rs) rs) (record { rule = rule; place = k }) a.fault (ap (λ (s : Option Sizes). end_fault kind s rs) h.header_is ∙ h.whole)

same_network : (i j : Network) → i.edges ≡ j.edges → i.values ≡ j.values → i.lows ≡ j.lows → i.highs ≡ j.highs → i ≡ j
same_network i j e f g h =
    ap₂ (λ (es : List InstanceEdge) (vs : List ℕ). record { edges = es; values = vs; lows = i.lows; highs = i.highs }) e f
    ∙ ap₂ (λ (ls hs : List ℕ). record { edges = j.edges; values = j.values; lows = ls; highs = hs }) g h

pub one_instance : OneInstance
one_instance kind rs i j a b =
    let same : a.header.vertices ≡ b.header.vertices = ap (λ (s : Sizes). s.vertices) (same_Some a.header b.header (sym a.header_is ∙ b.header_is)) in
    same_network i j (a.edges_are ∙ sym b.edges_are) (a.values_are ∙ ap (λ (n : ℕ). values_of kind n rs) same ∙ sym b.values_are)
    (a.lows_are ∙ ap (λ (n : ℕ). read_off (has_bounds kind) low_or n rs) same ∙ sym b.lows_are)
    (a.highs_are ∙ ap (λ (n : ℕ). read_off (has_bounds kind) high_or n rs) same ∙ sym b.highs_are)

-- ---- the first n lines have no fault, or one of them is the first that has

one_more : (bounds : Bool) (rs : List Row) (n : ℕ) (o : Option Rule) → fault_at bounds rs n ≡ o → NoFaultBelow bounds rs n →
    NoFaultBelow bounds rs (suc n) ⊎ ((k : ℕ) × (rule : Rule) × (k < suc n) × (fault_at bounds rs k ≡ Some rule) × NoFaultBelow bounds rs k)
one_more bounds rs n None e below = inl (λ j lt. elim (cases_eq j n) [
  | inl same ↦ ap (fault_at bounds rs) same ∙ e
  | inr other ↦ below j (omega (arith, other, lt))
])
one_more bounds rs n (Some rule) e below = inr (n, rule, omega arith, e, below)

search_first : (bounds : Bool) (rs : List Row) (n : ℕ)
    → NoFaultBelow bounds rs n ⊎ ((k : ℕ) × (rule : Rule) × (k < n) × (fault_at bounds rs k ≡ Some rule) × NoFaultBelow bounds rs k)
search_first bounds rs zero = inl (λ j lt. absurd (omega (arith, lt)))
search_first bounds rs (suc n) =
    elim (search_first bounds rs n) [
      | inl below ↦ one_more bounds rs n (fault_at bounds rs n) refl below
      | inr r ↦ inr (r.0, r.1, omega (arith, r.2), r.3, r.4)
    ]

at_end : (kind : Kind) (rs : List Row) (s : Sizes) (o : Option Fault) → NoFaultBelow (has_bounds kind) rs (length rs) → header_of rs ≡ Some s → end_fault kind (Some s) rs ≡ o →
    ((i : Network) × HoldsInstance kind rs i) ⊎ ((rule : Rule) × (line : ℕ) × IsFirstFault kind rs rule line)
at_end kind rs s None below e end = inl (
  record { edges = edges_of rs; values = values_of kind s.vertices rs; lows = read_off (has_bounds kind) low_or s.vertices rs; highs = read_off (has_bounds kind) high_or s.vertices rs },
  record { faultless = below; header = s; header_is = e; whole = end; edges_are = refl; values_are = refl; lows_are = refl; highs_are = refl },
)
at_end kind rs s (Some f) below e end = inr (f.rule, f.place + 1, (f.place, refl, inr (record { faultless = below; fault = ap (λ (h : Option Sizes). end_fault kind h rs) e ∙ end })))

by_header : (kind : Kind) (rs : List Row) (h : Option Sizes) → NoFaultBelow (has_bounds kind) rs (length rs) → header_of rs ≡ h →
    ((i : Network) × HoldsInstance kind rs i) ⊎ ((rule : Rule) × (line : ℕ) × IsFirstFault kind rs rule line)
by_header kind rs None below e = inr (HeaderMissing, length rs + 1, (length rs, refl, inr (record { faultless = below; fault = ap (λ (h : Option Sizes). end_fault kind h rs) e })))
by_header kind rs (Some s) below e = at_end kind rs s (end_fault kind (Some s) rs) below e refl

pub each_is_read : EachIsRead
each_is_read kind rs =
    elim (search_first (has_bounds kind) rs (length rs)) [
      | inl below ↦ by_header kind rs (header_of rs) below refl
      | inr r ↦ inr (r.1, r.0 + 1, (r.0, refl, inl (record { there = r.2; fault = r.3; least = r.4 })))
    ]

-- ---- what follows the instance

same_rest : (r s : Rest) → r.bytes ≡ s.bytes → r.line ≡ s.line → r ≡ s
same_rest r s e f = ap₂ (λ (bytes : List ℕ) (line : ℕ). record { bytes = bytes; line = line }) e f

pub one_rest : OneRest
one_rest bytes r s a b = same_rest r s (a.bytes_are ∙ sym b.bytes_are) (a.line_is ∙ sym b.line_is)

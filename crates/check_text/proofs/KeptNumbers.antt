-- The numbers of a document that proves its answer, and the counts of its members and items, lie within what a reader keeps.
use Rattle.certificates.proofs.Common.{◌≡◌, ℕ, ◌+◌, ◌<◌, ◌≤◌, ℤ, pos, neg_ℤ, ◌≤ℤ◌, true, false, List, [], ◌∷◌, ◌++◌, length, arith, All}
use Rattle.certificates.proofs.Common.{int_le, signed_decimal, AllByRecursion, and_parts, ints, length-append, length-map, All-from_recursion, IsNumber, Row, Kind, Network, vertices}
use Rattle.certificates.proofs.Common.{gadget_graph, Part, Set, Document, item_text, item_number, numbers_of, fields_of, set_count, parts_of, Role}
use Rattle.certificates.proofs.Common.{edge_number, use_count, vertex_number, node_number, vertex_dual, set_dual, set_number, body_of, after_space, row_text, letter, part_row, head_row}
use Rattle.certificates.proofs.Common.{parts_text, document_text, IsKept, HasKeptNumbers, kept_where, is_up_to, is_dual, is_within, in_range, all_in_range, int_le-true as bound, AreWithin}
use Rattle.std.proofs.Common.{flat_map}

abbrev most : ℕ
most = 1000000000000000000

kept_number : (z : ℤ) → IsNumber z → IsKept z
kept_number z h = let low = h.0 in let high = h.1 in omega (arith, ints)

kept_dual : (z : ℤ) → is_dual z ≡ true → IsKept z
kept_dual z h =
    let both = and_parts (int_le (neg_ℤ (pos most)) z) (int_le z (pos most)) h in
    kept_number z (bound (neg_ℤ (pos most)) z both.0, bound z (pos most) both.1)

kept_up_to : (n : ℕ) (z : ℤ) → n ≤ most → is_up_to n z ≡ true → IsKept z
kept_up_to n z few h =
    let both = and_parts (int_le (pos 1) z) (int_le z (pos n)) h in
    let low : pos 1 ≤ℤ z = bound (pos 1) z both.0 in
    let high : z ≤ℤ pos n = bound z (pos n) both.1 in
    omega (arith, ints)

-- ---- a text has more bytes than fields on a line, and than lines

same_count : (part : Part) → length (fields_of part) ≡ length (numbers_of part)
same_count (Set z) = let texts = length-map z.items item_text in let numbers = length-map z.items item_number in omega arith
same_count other = length-map (numbers_of other) signed_decimal

fields_size : (fields : Row) → length fields ≤ length (flat_map after_space fields)
fields_size [] = omega arith
fields_size (field ∷ others) =
    let more = fields_size others in
    let sum = length-append field (flat_map after_space others) in
    omega arith

row_size : (part : Part) → length (numbers_of part) < length (row_text (part_row part))
row_size part =
    let spaced = flat_map after_space (fields_of part) in
    let same = same_count part in
    let some = fields_size (fields_of part) in
    let inner = length-append spaced (10 ∷ []) in
    let outer = length-append (letter part) (spaced ++ 10 ∷ []) in
    omega arith

abbrev IsShort : ℕ → Part → Type 0
IsShort size part = length (numbers_of part) ≤ size

parts_size : (size : ℕ) (parts : List Part) → length (parts_text parts) ≤ size → AllByRecursion (IsShort size) parts
parts_size size [] h = tt
parts_size size (part ∷ parts) h =
    let sum = length-append (row_text (part_row part)) (parts_text parts) in
    let one = row_size part in
    (omega arith, parts_size size parts (omega arith))

parts_count : (parts : List Part) → length parts ≤ length (parts_text parts)
parts_count [] = omega arith
parts_count (part ∷ parts) =
    let sum = length-append (row_text (part_row part)) (parts_text parts) in
    let one = row_size part in
    let more = parts_count parts in
    omega arith

one_set : (part : Part) → set_count part ≤ 1
one_set (Set z) = omega arith
one_set other = omega arith

-- ---- numbers in range are kept

module _ (n m p : ℕ) (few : n ≤ most) (short : m ≤ most) (certified : p ≤ most) where
  kept_within : (k : ℕ) → k ≤ most → (r : Role) (z : ℤ) → is_within n m p k r z ≡ true → IsKept z
  kept_within k le edge_number z h = kept_up_to m z short h
  kept_within k le use_count z h = kept_up_to 4096 z (omega arith) h
  kept_within k le vertex_number z h = kept_up_to n z few h
  kept_within k le node_number z h = kept_up_to p z certified h
  kept_within k le vertex_dual z h = kept_dual z h
  kept_within k le set_dual z h = kept_up_to most z (omega arith) h
  kept_within k le set_number z h = kept_up_to k z le h

  -- after k z lines, with no more to come than a text has room for
  parts_kept : (k : ℕ) (parts : List Part) → all_in_range n m p k parts ≡ true → k + length parts ≤ most → AllByRecursion (IsShort most) parts →
      AllByRecursion (λ part. All IsKept (numbers_of part)) parts
  parts_kept k [] h room short_lines = tt
  parts_kept k (part ∷ parts) h room short_lines =
      let one = one_set part in
      let both = and_parts (in_range n m p k part) (all_in_range n m p (k + set_count part) parts) h in
      let numbers = kept_where (is_within n m p k) (kept_within k (omega arith)) part both.0 short_lines.0 in
      (All-from_recursion IsKept (numbers_of part) numbers, parts_kept (k + set_count part) parts both.1 (omega arith) short_lines.1)

-- ---- the whole

text_size : (d : Document) → length (parts_text (parts_of (body_of d))) ≤ length (document_text d false)
text_size d = let sum = length-append (row_text (head_row d.status d.kind d.weight)) (parts_text (parts_of (body_of d))) in omega arith

pub kept_numbers : (kind : Kind) (i : Network) (d : Document) → AreWithin kind i d → vertices i ≤ most → length i.edges ≤ most → (gadget_graph kind i).vertices ≤ most →
    length (document_text d false) ≤ most → HasKeptNumbers d
kept_numbers kind i d within few short certified small =
    let parts = parts_of (body_of d) in
    let size = text_size d in
    let sizes = parts_size most parts (omega arith) in
    let count = parts_count parts in
    record {
      weight = kept_number d.weight within.weight;
      parts =
          All-from_recursion (λ part. All IsKept (numbers_of part)) parts
          (parts_kept (vertices i) (length i.edges) (gadget_graph kind i).vertices few short certified 0 parts within.parts (omega arith) sizes);
    }

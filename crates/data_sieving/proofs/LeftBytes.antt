-- The bytes that entries have from a place on.
use Rattle.data_sieving.proofs.Words.{◌≡◌, ℕ, ◌≤◌, inl, refl, List, [], ◌∷◌, arith, nat_le, leb-true, in_filter, filter_in, Owned, in_order, In, ranges, IsAscending, filter_ascends, in_in_order, in_order_in, in_order_ascends, first_least, same_ascending, IsCovered, in_ranges, ranges_in, bytes_from, nat_tests}

pub byte_from : (place : ℕ) (list : List Owned) (x : ℕ) → place ≤ x → IsCovered list x → In (bytes_from place list) x
byte_from place list x h c = grind (arith, nat_tests, in_filter, in_order, in_in_order, in_ranges, bytes_from)

pub from_byte : (place : ℕ) (list : List Owned) (x : ℕ) → In (bytes_from place list) x → (place ≤ x) × IsCovered list x
from_byte place list x h = grind (arith, nat_tests, filter_in, leb-true, ranges_in, in_order_in)

pub bytes_ascend : (place : ℕ) (list : List Owned) → IsAscending (bytes_from place list)
bytes_ascend place list = filter_ascends (λ (y : ℕ). nat_le place y) (in_order (ranges list)) (in_order_ascends (ranges list))

pub same_bytes : (place : ℕ) (a b : List Owned) → ((x : ℕ) → place ≤ x → IsCovered a x → IsCovered b x)
    → ((x : ℕ) → place ≤ x → IsCovered b x → IsCovered a x) → bytes_from place a ≡ bytes_from place b
same_bytes place a b there back =
    same_ascending (bytes_from place a) (bytes_from place b) (bytes_ascend place a) (bytes_ascend place b)
    (λ x h. let r = from_byte place a x h in byte_from place b x r.0 (there x r.0 r.1))
    (λ x h. let r = from_byte place b x h in byte_from place a x r.0 (back x r.0 r.1))

-- numbers in order with a least one begin with it
pub begins : (xs : List ℕ) (a : ℕ) → IsAscending xs → In xs a → ((x : ℕ) → In xs x → a ≤ x) → (ys : List ℕ) × (xs ≡ a ∷ ys)
begins [] a h k l = absurd k
begins (y ∷ ys) a h k l = (ys, grind (arith, nat_tests, first_least (y ∷ ys) a h k, l y (inl refl)))

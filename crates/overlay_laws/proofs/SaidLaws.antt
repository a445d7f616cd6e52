-- Cells written one after another: each byte is what the last cell that has it says, else the old one.
use Rattle.overlay_laws.proofs.Words.{◌≡◌, ℕ, refl, sym, inl, inr, List, [], ◌∷◌, length, Some, ext_get_or, one_hit, cells_said, no_none_some, first_counts, at, written, length-written_inside, same_Some, said_at, Says, IsOneValued, Cell, write_cells, said_by, IsWithin, arith, nat_tests, some_or_none, second_counts, eqb-true, Option, None}

-- ---- cells

pub cells_long : (cells : List Cell) (file : List ℕ) → IsWithin cells (length file) → length (write_cells file cells) ≡ length file
cells_long [] file h = refl
cells_long (c ∷ cells) file h = grind (arith, nat_tests, length-written_inside, cells_long cells (written file c.0 c.1), written)

-- length and bytes are the file
pub same_file : (f g : List ℕ) → length f ≡ length g → ((x : ℕ) → at f x ≡ at g x) → f ≡ g
same_file f g h k = ext_get_or 0 f g h (λ i l. k i)

-- cells that say the same make the same file
pub same_said : (a b : List Cell) (file : List ℕ) → IsWithin a (length file) → IsWithin b (length file)
    → ((x : ℕ) → said_at (said_by a) x ≡ said_at (said_by b) x) → write_cells file a ≡ write_cells file b
same_said a b file ha hb k = grind (arith, nat_tests, same_file, cells_long, cells_said)

-- ---- in any order

pub said_is : {A : Type 0} (ps : List (ℕ × A)) (x : ℕ) (v : A) → said_at ps x ≡ Some v → Says ps x v
said_is [] x v h = no_none_some v h
said_is {A} (p ∷ ps) x v h = grind (arith, nat_tests, said_is ps x v, eqb-true, same_Some, no_none_some)

-- a place of which something is said
pub says_some : {A : Type 0} (ps : List (ℕ × A)) (x : ℕ) (v : A) → Says ps x v → (w : A) × (said_at ps x ≡ Some w)
says_some [] x v h = absurd h
says_some (p ∷ ps) x v h = elim (some_or_none (said_at ps x)) [
  | inl n ↦ (p.1, grind (arith, nat_tests, says_some ps x v, second_counts, one_hit))
  | inr s ↦ (s.0, first_counts (said_at ps x) _ s.0 s.1)
]

-- two of which each tells what the other does
pub same_told : {A : Type 0} (o q : Option A) → ((v : A) → o ≡ Some v → q ≡ Some v) → ((v : A) → q ≡ Some v → o ≡ Some v) → o ≡ q
same_told None None f g = refl
same_told (Some v) q f g = sym (f v refl)
same_told o (Some v) f g = g v refl

pub one_said : {A : Type 0} (ps : List (ℕ × A)) → IsOneValued ps → (x : ℕ) (v : A) → Says ps x v → said_at ps x ≡ Some v
one_said ps once x v h = grind (arith, nat_tests, says_some ps x v h, said_is ps x (says_some ps x v h).0 (says_some ps x v h).1)

-- lists that say the same pairs, in whatever order
pub said_in_any_order : {A : Type 0} (a b : List (ℕ × A)) → IsOneValued a → ((x : ℕ) (v : A) → Says a x v → Says b x v)
    → ((x : ℕ) (v : A) → Says b x v → Says a x v) → (x : ℕ) → said_at a x ≡ said_at b x
said_in_any_order a b once there back x =
    same_told _ _ (λ v e. one_said b (λ y w u h k. once y w u (back y w h) (back y u k)) x v (there x v (said_is a x v e))) (λ v e. one_said a once x v (back x v (said_is b x v e)))

-- What entries say of a byte, as origins.
use Rattle.overlap_report.proofs.Words.{◌≡◌, ℕ, zero, suc, ◌+◌, ◌-◌, ◌<◌, ◌≤◌, List, [], ◌∷◌, map, arith, range_with_len, enumerate_from, Owned, Says, In, Origin, origins_of, origins, IsGreatest, IsResolved, IsOnceEach, says_left, says_right, says_cases, greatest_once, Covers, Winner, nat_tests, common_steps}

abbrev pub origin_at : Owned → ℕ → Origin
origin_at o x = (o.rank, o.slot, o.from + (x - o.extent.at))

abbrev origin : ℕ → ℕ → ℕ → Origin
origin rank slot i = (rank, slot, i)

origin_said : (rank slot p from n x : ℕ) → p ≤ x → x < p + n → Says (enumerate_from p (map (origin rank slot) (range_with_len from n))) x (origin rank slot (from + (x - p)))
origin_said rank slot p from zero x h l = absurd (omega arith)
origin_said rank slot p from (suc n) x h l = grind (arith, nat_tests, origin_said rank slot (p + 1) (from + 1) n x)

said_origin : (rank slot p from n x : ℕ) (a : Origin) → Says (enumerate_from p (map (origin rank slot) (range_with_len from n))) x a
    → (p ≤ x) × (x < p + n) × (a ≡ origin rank slot (from + (x - p)))
said_origin rank slot p from zero x a m = absurd m
said_origin rank slot p from (suc n) x a xs = grind (arith, nat_tests, said_origin rank slot (p + 1) (from + 1) n x a)

pub says_of : (os : List Owned) (o : Owned) (x : ℕ) → In os o → Covers o x → Says (origins os) x (origin_at o x)
says_of [] o x m c = absurd m
says_of (p ∷ os) o x m c =
    grind (arith, nat_tests, says_left (origins_of p) (origins os) x (origin_at o x), origin_said o.rank o.slot o.extent.at o.from o.extent.len x c.0 c.1, says_right (origins_of p) (origins os) x (origin_at o x), says_of os o x)

pub record HasOrigin (os : List Owned) (x : ℕ) (a : Origin) : Type 0 where
  pub holder : Owned
  pub is_one : In os holder
  pub covers : Covers holder x
  pub is : a ≡ origin_at holder x

pub of_says : (os : List Owned) (x : ℕ) (a : Origin) → Says (origins os) x a → HasOrigin os x a
of_says [] x a m = absurd m
of_says (p ∷ os) x a m =
    grind (arith, nat_tests, says_cases (origins_of p) (origins os) x a m, said_origin p.rank p.slot p.extent.at p.from p.extent.len x a, of_says os x a)

winner_greatest : (seen : List Owned) (o : Owned) (x : ℕ) → Winner seen o x → IsGreatest (origins seen) x (origin_at o x)
winner_greatest seen o x w = grind (arith, nat_tests, says_of, of_says, origin_at)

pub resolved_by : (list out : List Owned) → IsOnceEach (origins list) → ((o : Owned) (y : ℕ) → In out o → Covers o y → Winner list o y)
    → ((q : Owned) (y : ℕ) → In list q → Covers q y → (o : Owned) × In out o × Covers o y) → IsResolved list out
resolved_by list out once won served = (
  grind (arith, common_steps, of_says out, winner_greatest list),
  (λ x a m. grind (arith, common_steps, of_says list x a m.0, greatest_once (origins list) once x a (origin_at (served (of_says list x a m.0).holder x (of_says list x a m.0).is_one (of_says list x a m.0).covers).0 x) m, winner_greatest list (served (of_says list x a m.0).holder x (of_says list x a m.0).is_one (of_says list x a m.0).covers).0 x, says_of out (served (of_says list x a m.0).holder x (of_says list x a m.0).is_one (of_says list x a m.0).covers).0 x)),
)

-- entries of which no two are of one post
pub once_by : (list : List Owned) → ((o q : Owned) → In list o → In list q → o.rank ≡ q.rank → o.slot ≡ q.slot → o ≡ q) → IsOnceEach (origins list)
once_by list same x a b m n e f = grind (arith, nat_tests, of_says, origin_at)

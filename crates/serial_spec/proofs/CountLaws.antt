-- Record counts: their limit, what a kind leaves known, and a count that is raised.
use Rattle.serial_spec.proofs.Words.{◌≡◌, ℕ, ◌+◌, ◌<◌, ◌≤◌, List, [], ◌∷◌, ◌++◌, max, cond, arith, nat_tests, nat_lt, OfferKind, needed_now, Counted, Setting, known_by, raised, greatest, record_limit, with_records}

pub some_limit : (version : ℕ) → 0 < record_limit version
some_limit version = grind (arith, nat_tests)

pub known_less : (k : OfferKind) (n : ℕ) → known_by k n ≤ n
known_less k n = grind (arith, nat_tests)

pub no_need : (s : Setting) → needed_now s [] ≡ 0
no_need s = grind (arith, nat_tests)

pub greatest_joined : (xs ys : List ℕ) → greatest (xs ++ ys) ≡ max (greatest xs) (greatest ys)
greatest_joined [] ys = omega arith
greatest_joined (x ∷ xs) ys = let e = greatest_joined xs ys in omega arith

pub raised_records : (s : Setting) (c : Counted) (n : ℕ) → (raised s c n).records ≡ max c.records n
raised_records s c n = grind (arith, nat_tests)

pub raised_file : (s : Setting) (c : Counted) (n : ℕ) → (raised s c n).file ≡ cond (nat_lt c.records n) (with_records s.header.version c.file n) c.file
raised_file s c n = grind (arith, nat_tests)

-- Record counts that a header can have.
use Rattle.turn_run.proofs.Words.{◌≡◌, ℕ, ◌<◌, ◌≤◌, sym, subst, true, max, arith, Header, Post, header_len, is_sound, end_of, record_limit, needed, end_grows, sound_end, canon_len, sound_small, IsPut, counted_sound, put_needed, IsCount, IsRise, some_limit, nat_tests}
use Rattle.list_laws.proofs.Std.{cases_lt}

pub count_small : (header : Header) (len n : ℕ) → IsCount header len n → n < record_limit header.version
count_small header len n h = sound_small (record header { records = n }) h.sound

pub rise_small : (header : Header) (len n : ℕ) → IsRise header len n → n < record_limit header.version
rise_small header len n h = grind (arith, nat_tests, some_limit header.version, count_small header len n, h)

pub count_longer : (header : Header) (len more n : ℕ) → len ≤ more → IsCount header len n → IsCount header more n
count_longer header len more n l h = let long = h.long in record { sound = h.sound; long = omega arith }

-- the same count of a file that is as long, or longer
pub count_still : (header : Header) (len more n m : ℕ) → IsCount header len n → len ≤ more → m ≡ n → IsCount header more m
count_still header len more n m h l e = subst (λ (k : ℕ). IsCount header more k) (sym e) (count_longer header len more n l h)

-- a smaller count
pub count_less : (header : Header) (len n m : ℕ) → is_sound header ≡ true → IsCount header len n → m ≤ n → IsCount header len m
count_less header len n m sound h l =
    grind (arith, nat_tests, canon_len (record header { records = n }), canon_len header, sound_end (record header { records = n }) m h.sound l, count_small header len n h, end_grows header (header_len header) m n l, counted_sound header m sound)

pub rise_longer : (header : Header) (len more n : ℕ) → len ≤ more → IsRise header len n → IsRise header more n
rise_longer header len more n l h = grind (arith, nat_tests, count_longer header len more n l, h)

-- the greater of a count and a count, or 0
pub count_max : (header : Header) (len a n : ℕ) → IsCount header len a → IsRise header len n → IsCount header len (max a n)
count_max header len a n h k = grind (arith, nat_tests, cases_lt a n, h, k)

pub rise_max : (header : Header) (len a n : ℕ) → IsRise header len a → IsRise header len n → IsRise header len (max a n)
rise_max header len a n h k = grind (arith, nat_tests, cases_lt a n, h, k, count_max header len a n)

-- the file of a count has at least the header and the fixed variables
pub count_begins : (header : Header) (len n : ℕ) → IsCount header len n → end_of header (header_len header) 0 ≤ len
count_begins header len n h = let l = h.long in let k = end_grows header (header_len header) 0 n (omega arith) in omega arith

-- ---- what puts need

pub put_count : (header : Header) (len : ℕ) (p : Post) → is_sound header ≡ true → IsPut header p → end_of header (header_len header) (needed header p) ≤ len
    → IsCount header len (needed header p)
put_count header len p h put l = let both = put_needed header p put in record { sound = counted_sound header (needed header p) h both.0 both.1; long = l }

-- The windows of a value's bytes over and over: what is written, and the calls.
use Rattle.fill_records.proofs.Words.{◌≡◌, ℕ, ◌+◌, ◌-◌, ◌*◌, ◌%◌, ◌<◌, ◌≤◌, min, ◌∙◌, ap, List, length, take, drop, Option, arith, IfSome, mod-mod, mod_below, DiskCall, after, with_end, stores, written, repeated, windows_of, count_is, stores_before, nat_tests}
use Rattle.fill_records.proofs.RepeatedLaws.{repeated_long, repeated_more, part_of_copies, same_phase}
use Rattle.fill_records.proofs.WriteLaws.{write_next}

-- ---- what is told

pub told_begin : {A : Type 0} (held : Option A) (f : A → A) → IfSome held (λ x. x ≡ f x) → held ≡ after f held
told_begin held f h = grind (arith, nat_tests)

pub told_more : {A : Type 0} (held mid now : Option A) (f g h : A → A) → IfSome held (λ x. g (f x) ≡ h x) → mid ≡ after f held → now ≡ after g mid → now ≡ after h held
told_more held mid now f g h same e k = grind (arith, nat_tests)

pub told_end : {A : Type 0} (held now : Option A) (f h : A → A) → IfSome held (λ x. f x ≡ h x) → now ≡ after f held → now ≡ after h held
told_end held now f h same e = grind (arith, nat_tests)

pub for_told : {A : Type 0} {P Q : A → Type 0} (held : Option A) → ((x : A) → P x → Q x) → IfSome held P → IfSome held Q
for_told held f h = grind (arith, nat_tests)

pub always_told : {A : Type 0} {P : A → Type 0} (held : Option A) → ((x : A) → P x) → IfSome held P
always_told held f = grind (arith, nat_tests)

-- ---- one window

-- the bytes of a window are some of the copies
pub window_bytes : (value copies bytes : List ℕ) (period place n : ℕ) → period ≡ length value → 1 ≤ period → copies ≡ repeated value 0 (length copies) → n + period ≤ length copies
    → bytes ≡ take n (drop (place % period) copies) → bytes ≡ repeated value place n
window_bytes value copies bytes period place n e some same room b =
    grind (arith, nat_tests, mod_below place period some, part_of_copies value (place % period) n (length copies) (omega arith), mod-mod place (length value), same_phase)

-- all of them
pub stores_all : (z begin len j count : ℕ) (old now : Option (List DiskCall)) → 0 < z → j ≡ count → count ≡ windows_of z len
    → now ≡ with_end old (stores_before z begin len j) → now ≡ with_end old (stores z begin len)
stores_all z begin len j count old now h e k told = told ∙ ap (λ (i : ℕ). with_end old (stores_before z begin len i)) (e ∙ k ∙ count_is z len h)

pub window_written : (value bytes file : List ℕ) (begin len z j n at from : ℕ) → begin + len ≤ length file → j * z < len → n ≡ min z (len - j * z)
    → bytes ≡ repeated value (j * z) n → from ≡ 0 → at ≡ begin + j * z
    → written (written file begin (repeated value 0 (min len (j * z)))) (at - from) bytes ≡ written file begin (repeated value 0 (min len ((j + 1) * z)))
window_written value bytes file begin len z j n at from h l k b f e =
    grind (
      arith,
      nat_tests,
      repeated_long value 0 (j * z),
      repeated_long value (j * z) n,
      written file begin,
      write_next file (repeated value 0 (j * z)) (repeated value (j * z) n) begin (begin + j * z),
      repeated_more value 0 (j * z) n,
    )

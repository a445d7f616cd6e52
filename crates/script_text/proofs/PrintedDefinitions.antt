-- Numbers of hints and lengths that are printed are read again.
use Rattle.script_text.proofs.Words.{◌≡◌, ◌⊎◌, ℕ, ◌%◌, ◌^◌, ◌<◌, List, Bool, true, false, cond, nat_le, ◌==◌, ◌&&◌, ◌||◌, Some, refl, sym, subst, inl, inr, arith, bytes_eq, codes, decimal, and_parts, record_limit, HintForm, Within, Either, number_within, length_of_text, size_read, nat_tests, leb-true, below, nat_lt, common_steps}
use Rattle.script_text.proofs.Lexing.{is_plain}
use Rattle.script_text.proofs.Numerals.{size_again, size_plain}

-- ---- hints

abbrev pub is_value_of : HintForm → ℕ → Bool
is_value_of (Within low high unit) n = nat_le low n && nat_le n high && n % unit == 0
is_value_of (Either zero_word one_word) n = n == 0 || n == 1

pub within_again : (low high unit n : ℕ) → is_value_of (Within low high unit) n ≡ true → high < 2 ^ 63 → number_within low high unit (decimal n) ≡ Some n
within_again low high unit n h top = grind (arith, nat_tests, size_again, nat_le, and_parts, leb-true)

pub within_plain : (low high unit n : ℕ) → is_value_of (Within low high unit) n ≡ true → high < 2 ^ 63 → is_plain (decimal n) ≡ true
within_plain low high unit n h top = grind (arith, nat_tests, size_plain, nat_le, and_parts, leb-true)

-- ---- dimensions

abbrev pub length_word : ℕ → List ℕ
length_word n = cond (n == 0) (codes "unlimited") (decimal n)

-- a length that is read: unlimited, or a number within the limit
pub record LengthAgain (version n : ℕ) : Type 0 where
  pub plain : is_plain (length_word n) ≡ true
  pub again : length_of_text version (length_word n) ≡ Some n

pub length_told : (version n : ℕ) → (n ≡ 0) ⊎ (((n == 0) ≡ false) × (n < record_limit version) × (n < 2 ^ 63)) → LengthAgain version n
length_told version n (inl e) = subst (LengthAgain version) (sym e) (record { plain = refl; again = refl })
length_told version n (inr k) =
    grind (arith, nat_tests, size_again n k.2, size_plain n k.2, k.0, below)

pub length_again : (version : ℕ) (w : List ℕ) (n : ℕ) → length_of_text version w ≡ Some n → LengthAgain version n
length_again version w n h = length_told version n (grind (arith, nat_tests, bytes_eq, codes, size_read, nat_lt, common_steps))

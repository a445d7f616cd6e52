-- The number that digits spell.
use Rattle.std.proofs.Common.{◌≡◌, ℕ, ◌+◌, ◌-◌, ◌*◌, ◌^◌, ◌<◌, Bool, true, false, List, length, fold, Some, None, refl, sym, ap, ◌∙◌, arith, ◌&&◌}
use Rattle.std.specs.Prelude.{nat_lt, nat_le, Result, Ok, Err, OkIff, if◌then◌else◌}
use Rattle.std.specs.List.{list_all}
use Rattle.std.specs.Result.{result_ok}
use Rattle.std.specs.Str.Parse.{ParsesUnsigned}
use Rattle.std.proofs.lemmas.Bool.{le-leb, leb-true, lt-ltb, ltb-true}
use Rattle.std.proofs.lemmas.Str.Parse.{FoldsDigits, IsDigitsTest, IsNumeralModel, numerals_by_fold, parse_digits}
use Rattle.list_laws.proofs.Truth.{and_first, and_second}
use Rattle.script_spec.specs.ScriptWords.{below, digits_value, is_digit, is_digits, natural_of}

abbrev AreDigits : List ℕ → Type 0
AreDigits ds = list_all is_digit ds ≡ true

abbrev value_after : ℕ → List ℕ → ℕ
value_after n ds = fold (λ m d. 10 * m + (d - 48)) n ds

tells_digits : IsDigitsTest AreDigits
tells_digits = record {
  empty = refl;
  parts = λ c cs e. let c_is = and_first (is_digit c) (list_all is_digit cs) e in ((leb-true 48 c (and_first (nat_le 48 c) (nat_le c 57) c_is), leb-true c 57 (and_second (nat_le 48 c) (nat_le c 57) c_is)), and_second (is_digit c) (list_all is_digit cs) e);
  more = λ c cs k e i. (le-leb 48 c k.0 i && le-leb c 57 k.1 i) && e i;
}

folds_digits : FoldsDigits value_after
folds_digits = record {
  empty = λ n. refl;
  more = λ n c cs k. let e : 10 * n + (c - 48) ≡ n * 10 + (c - 48) = omega arith in ap (λ m. value_after m cs) e;
}

numerals : IsNumeralModel AreDigits digits_value
numerals = numerals_by_fold AreDigits tells_digits value_after folds_digits

by_value : {E : Type 0} (r : Result ℕ E) (k n : ℕ) → 0 < k → OkIff r ((0 < k) × (n < 2 ^ 64)) n → result_ok r ≡ below (2 ^ 64) (Some n)
by_value (Ok x) k n some h = ap (λ (m : ℕ). Some m) h.1 ∙ sym (ap (λ (b : Bool). if b then Some n else None) (lt-ltb n (2 ^ 64) h.0.1))
by_value (Err e) k n some h = by_test (nat_lt n (2 ^ 64)) refl
  where
    by_test : (b : Bool) → nat_lt n (2 ^ 64) ≡ b → None ≡ below (2 ^ 64) (Some n)
    by_test true t = absurd (h (some, ltb-true n (2 ^ 64) t))
    by_test false t = sym (ap (λ (b : Bool). if b then Some n else None) t)

-- what a parse gives of 1 to 20 digits
pub natural : {E : Type 0} (ds : List ℕ) (r : Result ℕ E) → is_digits ds ≡ true → ParsesUnsigned 64 10 ds r → result_ok r ≡ below (2 ^ 64) (natural_of ds)
natural ds r e h =
    let digits : AreDigits ds = and_second _ _ e in
    let some : 0 < length ds = ltb-true 0 (length ds) (and_first _ _ (and_first _ _ e)) in
    by_value r (length ds) (digits_value ds) some (parse_digits numerals 64 ds r h digits)
    ∙ ap (λ (b : Bool). below (2 ^ 64) (if b then Some (digits_value ds) else None)) (sym e)

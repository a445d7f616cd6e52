-- A lawful script, test by test.
use Rattle.serial_spec.proofs.Words.{◌≡◌, ◌≤◌, true, ℕ, ◌-◌, nat_le, leb-true, and_first, and_second, Script, are_lawful_hints, is_lawful, is_within, most_calls, most_values, values_in_script, IsLawful, arith, nat_tests}

-- the tests from the last back
pub lawful_parts : (script : Script) → is_lawful script ≡ true → IsLawful script
lawful_parts script h = grind (arith, nat_tests, and_first, and_second, script.calls, script.extra, most_calls, values_in_script, most_values)

pub lawful_whole : (script : Script) → IsLawful script → is_lawful script ≡ true
lawful_whole script l = grind (arith, nat_tests)

-- a lawful script has a rank at least
pub some_rank : (script : Script) → is_lawful script ≡ true → 1 ≤ script.ranks
some_rank script h = (lawful_parts script h).some_rank

pub lawful_hints : (script : Script) → is_lawful script ≡ true → are_lawful_hints script.hints ≡ true
lawful_hints script h = (lawful_parts script h).hints

pub within_is : (low high n : ℕ) → is_within low high n ≡ true → (low ≤ n) × (n ≤ high)
within_is low high n h = (leb-true low n (and_first (nat_le low n) (nat_le n high) h), leb-true n high (and_second (nat_le low n) (nat_le n high) h))

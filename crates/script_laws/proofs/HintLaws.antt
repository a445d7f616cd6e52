-- The hints of a script are within their ranges.
use Rattle.script_laws.proofs.Words.{◌≡◌, ℕ, List, true, Option, Some, min, arith, and_from, is_within, is_alignment, are_lawful_hints, hint_in, hint_or, hints_of, nat_tests, le-leb, eq-eqb}
use Rattle.script_laws.proofs.WordLaws.{InRange}
use Rattle.script_laws.proofs.DefinedLaws.{FitHints}
use Rattle.script_laws.proofs.RunLaws.{or_default}

pub within_range : (low high unit n : ℕ) → InRange low high unit n → is_within low high n ≡ true
within_range low high unit n f = and_from _ _ (le-leb low n f.at_least) (le-leb n high f.at_most)

-- a hint of the script, or its default
hint_within : (h low high unit default : ℕ) (hints : List (Option ℕ)) → ((n : ℕ) → hint_in h hints ≡ Some n → InRange low high unit n) → is_within low high default ≡ true
    → is_within low high (hint_or hints h default) ≡ true
hint_within h low high unit default hints f fits = or_default (hint_in h hints) default (λ n. is_within low high n ≡ true) (λ n e. within_range low high unit n (f n e)) fits

hint_aligned : (h : ℕ) (hints : List (Option ℕ)) → ((n : ℕ) → hint_in h hints ≡ Some n → InRange 4 1048576 4 n) → is_alignment (hint_or hints h 4) ≡ true
hint_aligned h hints f = grind (arith, nat_tests, within_range, eq-eqb, and_from)

pub lawful_hints : (ranks : ℕ) (hints : List (Option ℕ)) → InRange 1 64 1 ranks → FitHints hints → are_lawful_hints (hints_of ranks hints) ≡ true
lawful_hints ranks hints r f =
    let nodes : is_within 1 64 (min ranks 8) ≡ true = and_from _ _ (le-leb 1 (min ranks 8) (omega arith)) (le-leb (min ranks 8) 64 (omega arith)) in
    grind (arith, nat_tests, hint_within 0 1 64 1 (min ranks 8) hints (f 0) nodes, hint_within 1 1 33554432 1 16777216 hints (f 1), hint_within 2 1 33554432 1 4194304 hints (f 2), hint_within 3 1 33554432 1 524288 hints (f 3), hint_within 4 1 64 1 2 hints (f 4), hint_aligned 7 hints (f 7), hint_aligned 8 hints (f 8), hint_within 9 1 33554432 1 1 hints (f 9))

-- What is printed of a made script is read as that script.
use Rattle.script_text.proofs.Words.{◌≡◌, ℕ, ◌+◌, ◌≤◌, ◌<◌, List, [], ◌∷◌, ◌++◌, map, length, true, false, nat_le, refl, length-append, arith, codes, decimal, digits, range_with_len, Call, has_whole_attrs, default_hints, made_header, made_script, Reads, most_bytes, most_lines, shown, shown_definitions, shown_hints, line, is_expressible, printed_lines, calls_of_rank, made_lawful, script_is, rank_long, range_passes, sum_within, nat_tests}
use Rattle.script_text.proofs.Expressed.{expressed_again}
use Rattle.script_text.proofs.MadeLengths.{rank_expressible, ranks_long}
use Rattle.nc_base.specs.declared.script.Script as script_type

abbrev all_calls : ℕ → ℕ → List (List Call)
all_calls seed size = map (λ r. calls_of_rank seed size r) (range_with_len 0 8)

-- the made script, with the calls of its ranks under a name
abbrev named_script : ℕ → ℕ → script_type.Script
named_script seed size = record { fresh = true; header = made_header; ranks = 8; hints = default_hints; filled = false; extra = []; calls = all_calls seed size }

named_is : (seed size : ℕ) → named_script seed size ≡ made_script seed size
named_is seed size = script_is seed size made_header [] (all_calls seed size) refl refl refl

made_expressible : (seed size : ℕ) → size ≤ 64 → is_expressible (made_script seed size) ≡ true
made_expressible seed size s = grind (arith, nat_tests, named_is seed size, range_passes, rank_expressible seed size)

made_lines : (seed size : ℕ) → size ≤ 64 → printed_lines (made_script seed size) ≤ most_lines
made_lines seed size s = grind (arith, nat_tests, named_is seed size, sum_within, rank_long seed size)

-- the text before the calls
abbrev opening : List ℕ
opening = line (codes "create" ∷ decimal 1 ∷ []) ++ line (codes "ranks" ∷ decimal 8 ∷ []) ++ shown_hints default_hints ++ shown_definitions made_header ++ line (codes "data" ∷ [])

parts_long : (a b c d e x f : List ℕ) → length (a ++ b ++ c ++ [] ++ [] ++ d ++ e ++ x ++ f) ≡ length (a ++ b ++ c ++ d ++ e) + length x + length f
parts_long a b c d e x f = grind (arith, length-append)

opening_short : nat_le (length opening + length (line (codes "end" ∷ []))) 1000 ≡ true
unfolding digits
opening_short = refl

pub made_short : (seed size : ℕ) → size ≤ 40 → length (shown (made_script seed size)) ≤ most_bytes
made_short seed size s = grind (arith, nat_tests, ranks_long seed size 0 8, opening_short, named_is seed size, parts_long, named_script, opening, all_calls)

pub made_long : (seed size : ℕ) → 53 ≤ size → size ≤ 64 → most_bytes < length (shown (made_script seed size))
made_long seed size low s = grind (arith, nat_tests, ranks_long seed size 0 8 s, named_is seed size, parts_long, named_script, opening, all_calls)

pub made_again : (seed size : ℕ) → size ≤ 64 → length (shown (made_script seed size)) ≤ most_bytes → Reads (shown (made_script seed size)) (made_script seed size)
made_again seed size s short = expressed_again (made_script seed size) (made_lawful seed size s) (made_expressible seed size s) short (made_lines seed size s)

pub made_read : (seed size : ℕ) → size ≤ 40 → Reads (shown (made_script seed size)) (made_script seed size)
made_read seed size s = made_again seed size (omega arith) (made_short seed size s)

-- its attributes, of which it has none
pub made_whole : (seed size : ℕ) → has_whole_attrs (made_script seed size) ≡ true
made_whole seed size = refl

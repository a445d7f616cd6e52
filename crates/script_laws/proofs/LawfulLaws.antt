-- A script that is read is lawful.
use Rattle.script_laws.proofs.Words.{◌≡◌, ℕ, ◌≤◌, ◌+◌, subst, calls_of, List, true, not, arith, le-leb, lt-ltb, eq-eqb, eqb-true, each_passes, and_from, Call, Script, most_values, is_lawful_header, is_lawful_extra, is_whole_extra, has_whole_attrs, values_in_script, is_lawful, Known, script_of, most_lines, Reads, nat_tests, and_second}
use Rattle.script_laws.proofs.ListLaws.{all_pass}
use Rattle.script_laws.proofs.CalledLaws.{OwnCalls, all_lawful, all_different}
use Rattle.script_laws.proofs.ReadLaws.{FitsParts, read_script}
use Rattle.script_laws.proofs.HintLaws.{within_range, lawful_hints}

-- ---- the header

header_lawful : (most version ranks : ℕ) (known : Known) (calls : List (List Call)) → FitsParts most version ranks known calls → is_lawful_header (script_of version ranks known calls) ≡ true
header_lawful most version ranks known calls parts =
    grind (arith, nat_tests, not, eqb-true version 0, all_pass, lt-ltb, eq-eqb, le-leb, and_from)

-- ---- the rest

few_values : (most version ranks : ℕ) (known : Known) (calls : List (List Call)) → FitsParts most version ranks known calls → values_in_script (script_of version ranks known calls) ≤ most_values
few_values most version ranks known calls parts = grind (arith, nat_tests)

lawful_of : (version ranks : ℕ) (known : Known) (calls : List (List Call)) → FitsParts most_lines version ranks known calls → is_lawful (script_of version ranks known calls) ≡ true
lawful_of version ranks known calls parts =
    let each = parts.calls.each in
    let own : (r k : ℕ) → 0 + r ≡ k → OwnCalls ranks k (calls_of r calls) = λ r k at. let same : r ≡ k = omega arith in subst (λ (i : ℕ). OwnCalls ranks i (calls_of r calls)) same (each r) in
    grind (arith, nat_tests, and_from, within_range 1 64 1 ranks parts.ranks, eq-eqb, lawful_hints ranks known.hints parts.ranks parts.known.hints, header_lawful most_lines version ranks known calls parts, le-leb, each_passes is_lawful_extra known.added.extras parts.known.added.each, all_lawful ranks 0 calls own, all_different calls, few_values most_lines version ranks known calls parts)

pub read_lawful : (text : List ℕ) (s : Script) → Reads text s → is_lawful s ≡ true
read_lawful text s = read_script text s (λ t. is_lawful t ≡ true) lawful_of

-- ---- attributes with the bytes of their counts

pub read_whole : (text : List ℕ) (s : Script) → Reads text s → has_whole_attrs s ≡ true
read_whole text s = grind (arith, nat_tests, read_script text s (λ t. has_whole_attrs t ≡ true), each_passes is_whole_extra, all_pass, and_second)

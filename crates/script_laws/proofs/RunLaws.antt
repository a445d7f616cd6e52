-- The hints and the calls of a script, and the header of one for an existing dataset.
use Rattle.script_laws.proofs.Words.{◌≡◌, ℕ, ◌≤◌, List, length, false, Option, Some, refl, arith, ◌==◌, unwrap_or, not-false, Script, hint_in, hint_or, no_definition, header_of, Reads, eqb-true, nat_tests, common_steps}
use Rattle.script_laws.proofs.WordLaws.{InRange}
use Rattle.script_laws.proofs.ReadLaws.{read_script}

pub read_ranks : (text : List ℕ) (s : Script) → Reads text s → length s.calls ≡ s.ranks
read_ranks text s = read_script text s (λ t. length t.calls ≡ t.ranks) (λ version ranks known calls parts. parts.calls.ranks)

-- a hint, or its default
pub or_default : (o : Option ℕ) (default : ℕ) (P : ℕ → Type 0) → ((n : ℕ) → o ≡ Some n → P n) → P default → P (unwrap_or o default)
or_default o default P f p = grind (arith, nat_tests)

aligned_hint : (h : ℕ) (hints : List (Option ℕ)) → ((n : ℕ) → hint_in h hints ≡ Some n → InRange 4 1048576 4 n) → (4 ≤ hint_or hints h 4) × (hint_or hints h 4 ≤ 1048576)
aligned_hint h hints f = or_default (hint_in h hints) 4 (λ n. (4 ≤ n) × (n ≤ 1048576)) (λ n e. ((f n e).at_least, (f n e).at_most)) (omega arith, omega arith)

pub read_header_align : (text : List ℕ) (s : Script) → Reads text s → (4 ≤ s.hints.header_align) × (s.hints.header_align ≤ 1048576)
read_header_align text s =
    read_script text s (λ t. (4 ≤ t.hints.header_align) × (t.hints.header_align ≤ 1048576)) (λ version ranks known calls parts. aligned_hint 7 known.hints (parts.known.hints 7))

pub read_var_align : (text : List ℕ) (s : Script) → Reads text s → (4 ≤ s.hints.var_align) × (s.hints.var_align ≤ 1048576)
read_var_align text s =
    read_script text s (λ t. (4 ≤ t.hints.var_align) × (t.hints.var_align ≤ 1048576)) (λ version ranks known calls parts. aligned_hint 8 known.hints (parts.known.hints 8))

pub read_records : (text : List ℕ) (s : Script) → Reads text s → s.header.records ≡ 0
read_records text s = read_script text s (λ t. t.header.records ≡ 0) (λ version ranks known calls parts. refl)

pub read_opened : (text : List ℕ) (s : Script) → Reads text s → s.fresh ≡ false → s.header ≡ header_of 0 no_definition
read_opened text s =
    read_script text s (λ t. t.fresh ≡ false → t.header ≡ header_of 0 no_definition) (λ version ranks known calls parts old.
    grind (arith, common_steps, eqb-true version 0 (not-false (version == 0) old)))

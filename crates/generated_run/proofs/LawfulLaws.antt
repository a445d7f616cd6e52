-- The made script is lawful.
use Rattle.generated_run.proofs.Words.{◌≡◌, ℕ, ◌≤◌, List, [], map, true, refl, subst, le-leb, bytes_eq, arith, enumerate_from, list_all, range_with_len, bytes_eq-Decides, Call, agree, are_different, is_lawful, is_lawful_call, posted_ids, has_counts, made_header, made_script, calls_of_rank, nat_tests, common_steps}
use Rattle.nc_base.specs.declared.script.Script as script_type
use Rattle.generated_run.proofs.MadeLaws.{scripted, script_is}
use Rattle.generated_run.proofs.Ranges.{range_passes, sum_within}
use Rattle.generated_run.proofs.RankLaws.{rank_counted, rank_ids, rank_kinds, rank_lawful, rank_long, rank_values}

-- the calls of n ranks
abbrev calls_of : ℕ → ℕ → ℕ → ℕ → List (List Call)
calls_of seed size a n = map (λ r. calls_of_rank seed size r) (range_with_len a n)

agreed : (seed size : ℕ) → agree (calls_of seed size 0 8) ≡ true
agreed seed size = grind (arith, nat_tests, range_passes, bytes_eq, bytes_eq-Decides, rank_kinds)

lawful_calls : (seed size : ℕ) → size ≤ 64 → list_all (λ own. list_all (λ c. is_lawful_call 8 own.0 c) own.1) (enumerate_from 0 (calls_of seed size 0 8)) ≡ true
lawful_calls seed size s = grind (arith, nat_tests, rank_lawful seed size)

pub made_lawful : (seed size : ℕ) → size ≤ 64 → is_lawful (made_script seed size) ≡ true
unfolding scripted
made_lawful seed size s =
    let different = range_passes (λ (own : List Call). are_different (posted_ids own)) (λ r. calls_of_rank seed size r) 0 8 (λ r b. rank_ids seed size r) in
    let lawful : is_lawful (scripted made_header [] (calls_of seed size 0 8)) ≡ true =
    grind (arith, common_steps, lawful_calls seed size s, different, sum_within, rank_long, le-leb, rank_values, agreed) in
    subst (λ (script : script_type.Script). is_lawful script ≡ true) (script_is seed size made_header [] (calls_of seed size 0 8) refl refl refl) lawful

-- its regions give their counts
pub made_counted : (seed size : ℕ) → has_counts (made_script seed size) ≡ true
unfolding scripted
made_counted seed size = grind (arith, nat_tests, script_is seed size made_header [] (calls_of seed size 0 8), range_passes, rank_counted seed size)

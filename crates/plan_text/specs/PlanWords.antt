-- Words that both forms of a plan have. (own)
--     end_place e                    the place behind the last byte of an extent
--     word_in calls k                the word of the k-th call of a rank
--     outcome_in answers k           what the k-th call of a rank is answered: the name of its code, or that puts overlap
use Rattle.std.specs.Prelude.{ℕ, ◌+◌, ◌-◌, ◌^◌, min, List, [], Option, Some, None, slice_get, codes}
use Rattle.nc_base.specs.declared.answer.Answer.{Answer}
use Rattle.nc_base.specs.declared.answer.Code.{Code}
use Rattle.nc_base.specs.declared.answer.Code.TheVariants as code
use Rattle.nc_base.specs.declared.answer.Pair.{Pair}
use Rattle.nc_base.specs.declared.plan.Extent.{Extent}
use Rattle.nc_base.specs.declared.request.Call.{Call}
use Rattle.script_spec.specs.Texts.{call_word, code_word}

-- or the greatest number of 64 bits where it is more
abbrev pub end_place : Extent → ℕ
end_place e = min (e.at + e.len) (2 ^ 64 - 1)

-- ---- a call and its answer; nothing is told of one that is not there

abbrev pub word_of_some : Option Call → List ℕ
word_of_some None = []
word_of_some (Some c) = call_word c

abbrev pub word_in : Option (List Call) → ℕ → List ℕ
word_in None k = []
word_in (Some calls) k = word_of_some (slice_get calls k)

-- two puts that share a byte keep a step from writing: told in place of ok
abbrev pub outcome_word : Code → Option Pair → List ℕ
outcome_word code.Ok (Some p) = codes "overlap"
outcome_word c _ = code_word c

abbrev pub outcome_of_some : Option Answer → List ℕ
outcome_of_some None = []
outcome_of_some (Some a) = outcome_word a.code a.pair

abbrev pub outcome_in : Option (List Answer) → ℕ → List ℕ
outcome_in None k = []
outcome_in (Some answers) k = outcome_of_some (slice_get answers k)

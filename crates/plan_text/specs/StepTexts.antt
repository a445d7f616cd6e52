-- The steps of a plan, as its text tells them. (own)
--     counted noun n                     so many of a thing, as in `1 piece` and `2 pieces`
--     range e                            the bytes of an extent: the first one, and the place behind the last one
--     device_lines blanks calls          calls of the disk
--     caller_line calls answers c        a call that comes to a step: its rank, number and word, and what it is answered
--     asked_line direction a             what a rank asks for
--     window_lines direction w           a window, with how many of its bytes each rank puts or gets, and its calls of the disk
--     domain_lines direction d           the domain of an aggregator, or the range of one rank's data sieving, and its windows
--     file_lines plan                    what a step does to the file
--     step_lines calls answers step      a step: its mark, its calls, and what it does to the file
use Rattle.std.specs.Prelude.{ℕ, ◌==◌, List, [], ◌∷◌, ◌++◌, flat_map, Bool, if◌then◌else◌, Option, Some, None, slice_get, codes, decimal}
use Rattle.nc_base.specs.declared.answer.Answer.{Answer}
use Rattle.nc_base.specs.declared.answer.Pair.{Pair}
use Rattle.nc_base.specs.declared.plan.Extent.{Extent}
use Rattle.nc_base.specs.declared.request.Call.{Call}
use Rattle.nc_base.specs.declared.request.Direction.{Direction}
use Rattle.nc_base.specs.declared.request.Direction.TheVariants.{Put, Get}
use Rattle.nc_base.specs.declared.step.DiskCall.{DiskCall}
use Rattle.nc_base.specs.declared.step.DiskCall.TheVariants.{Grow, Load, Store}
use Rattle.script_spec.specs.Texts.{line, mark_word, pair_words, text_line}
use Rattle.window_plan.specs.Windows.{get_calls, put_calls, shares_in}
use Rattle.window_plan.specs.declared.plan.Share.{Share}
use Rattle.window_plan.specs.declared.plan.WindowPlan.{WindowPlan}
use Rattle.step_plan.specs.Steps.{count_call, grow_call}
use Rattle.step_plan.specs.declared.plan.Asked.{Asked}
use Rattle.step_plan.specs.declared.plan.Caller.{Caller}
use Rattle.step_plan.specs.declared.plan.DomainPlan.{DomainPlan}
use Rattle.step_plan.specs.declared.plan.FilePlan.{FilePlan}
use Rattle.step_plan.specs.declared.plan.StepPlan.{StepPlan}
use Rattle.plan_text.specs.PlanWords.{end_place, outcome_in, word_in}

-- ---- numbers and places

abbrev pub counted : List ℕ → ℕ → List ℕ
counted noun n = decimal n ++ 32 ∷ noun ++ (if n == 1 then [] else codes "s")  -- a space

abbrev pub in_bytes : ℕ → List ℕ
in_bytes n = counted (codes "byte") n

abbrev pub range : Extent → List ℕ
range e = decimal e.at ++ codes " to " ++ decimal (end_place e)

-- ---- calls of the disk

abbrev pub device_words : DiskCall → List ℕ
device_words (Grow size) = codes "grow to " ++ decimal size
device_words (Load at len) = codes "read " ++ in_bytes len ++ codes " at " ++ decimal at
device_words (Store at len) = codes "write " ++ in_bytes len ++ codes " at " ++ decimal at

-- a line for each, behind such blanks
abbrev pub device_lines : List ℕ → List DiskCall → List ℕ
device_lines blanks calls = flat_map (λ call. text_line (blanks ++ device_words call)) calls

-- ---- the calls of a step

abbrev pub caller_line : List (List Call) → List (List Answer) → Caller → List ℕ
caller_line calls answers c =
    text_line (codes "  rank " ++ decimal c.rank ++ codes " call " ++ decimal c.call
    ++ 32 ∷ word_in (slice_get calls c.rank) c.call ++ 32 ∷ outcome_in (slice_get answers c.rank) c.call)  -- spaces

-- ---- puts and gets

abbrev pub verb : Direction → List ℕ
verb Put = codes "put"
verb Get = codes "get"

-- the ranks' side of the bytes
abbrev pub side : Direction → List ℕ
side Put = codes " from rank "
side Get = codes " for rank "

abbrev pub asked_line : Direction → Asked → List ℕ
asked_line direction a =
    text_line (codes "  rank " ++ decimal a.rank ++ 32 ∷ verb direction ++ codes "s "
    ++ in_bytes a.bytes ++ codes " in " ++ counted (codes "piece") a.pieces)

abbrev pub share_words : Direction → Share → List ℕ
share_words direction s = codes ", " ++ decimal s.bytes ++ side direction ++ decimal s.rank

abbrev pub hole_words : Bool → List ℕ
hole_words full = if full then [] else codes " with a hole"

abbrev pub window_calls : Direction → WindowPlan → List DiskCall
window_calls Put w = put_calls w
window_calls Get w = get_calls w

abbrev pub window_line : Direction → WindowPlan → List ℕ
window_line direction w = text_line (codes "    window " ++ range w.hull ++ hole_words w.full ++ flat_map (share_words direction) (shares_in w.owners))

abbrev pub window_lines : Direction → WindowPlan → List ℕ
window_lines direction w = window_line direction w ++ device_lines (codes "      ") (window_calls direction w)

abbrev pub domain_words : Option ℕ → Extent → List ℕ
domain_words (Some aggregator) e = codes " domain " ++ range e ++ codes ", aggregator " ++ decimal aggregator
domain_words None e = 32 ∷ range e ++ codes " by data sieving"  -- a space

abbrev pub domain_line : Direction → DomainPlan → List ℕ
domain_line direction d = text_line (codes "  " ++ verb direction ++ domain_words d.aggregator d.extent)

abbrev pub domain_lines : Direction → DomainPlan → List ℕ
domain_lines direction d = domain_line direction d ++ flat_map (window_lines direction) d.windows

-- ---- the whole of a step

-- the two requests for which the puts are refused, behind two spaces
abbrev pub overlap_line : Option Pair → List ℕ
overlap_line None = []
overlap_line (Some p) = codes "  " ++ line (pair_words p)

abbrev pub file_lines : FilePlan → List ℕ
file_lines plan =
    flat_map (asked_line Put) plan.puts.asked
    ++ flat_map (asked_line Get) plan.gets.asked
    ++ overlap_line plan.overlap
    ++ device_lines (codes "  ") (grow_call plan.grow)
    ++ flat_map (domain_lines Put) plan.puts.domains
    ++ device_lines (codes "  ") (count_call plan.count)
    ++ flat_map (domain_lines Get) plan.gets.domains

abbrev pub step_lines : List (List Call) → List (List Answer) → StepPlan → List ℕ
step_lines calls answers step =
    text_line (codes "step " ++ mark_word step.mark)
    ++ flat_map (caller_line calls answers) step.callers
    ++ file_lines step.file

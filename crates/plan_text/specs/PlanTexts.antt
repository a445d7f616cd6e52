-- The text of a plan. (own)
--     plan_text_of script header length plan sums     the whole text; the header and the length are those of the dataset when the ranks begin
--     head_lines script header length steps           the ranks, the order of the steps, the dataset, its variables and the hints
--     dataset_line header length                      the dataset
--     variable_line header v                          a variable: where it lies, and how many bytes it has, of a record variable in one record
--     hint_line script row                            a hint in force, and its default
--     sum_lines sums                                  the sums of a plan
use Rattle.std.specs.Prelude.{ℕ, List, [], ◌∷◌, ◌++◌, map, flat_map, if◌then◌else◌, codes, decimal}
use Rattle.nc_base.specs.declared.header.Header.{Header}
use Rattle.nc_base.specs.declared.header.Var.{Var}
use Rattle.nc_base.specs.declared.script.Script.{Script}
use Rattle.serial_spec.specs.HeaderBytes.{header_len}
use Rattle.serial_spec.specs.Layout.{is_record, recsize, slab}
use Rattle.script_spec.specs.HintTable.{HintRow, hint_table, shown_value}
use Rattle.script_spec.specs.Texts.{line, mark_word, text_line, type_word}
use Rattle.step_plan.specs.Steps.{count_call}
use Rattle.step_plan.specs.declared.plan.StepPlan.{StepPlan}
use Rattle.run_plan.specs.declared.run.RunPlan.{RunPlan}
use Rattle.plan_sums.specs.declared.cells.Cell.{Cell}
use Rattle.plan_sums.specs.declared.naive.Naive.{Naive}
use Rattle.plan_sums.specs.declared.sums.Sums.{Sums}
use Rattle.plan_sums.specs.declared.tally.Tally.{Tally}
use Rattle.plan_text.specs.StepTexts.{counted, device_lines, in_bytes, step_lines}

-- ---- the dataset and the hints

abbrev pub dataset_line : Header → ℕ → List ℕ
dataset_line header length =
    text_line (codes "dataset CDF-" ++ decimal header.version ++ codes ", header " ++ in_bytes (header_len header)
    ++ codes ", records " ++ decimal header.records ++ codes ", record size " ++ decimal (recsize header) ++ codes ", length " ++ decimal length)

-- how many bytes a variable has, or has in each record
abbrev pub size_words : Header → Var → List ℕ
size_words header v = in_bytes (slab header v) ++ (if is_record header v then codes " a record" else [])

abbrev pub variable_line : Header → Var → List ℕ
variable_line header v =
    text_line (codes "variable " ++ v.name ++ 32 ∷ type_word v.kind ++ codes " at " ++ decimal v.begin ++ codes ", " ++ size_words header v)  -- a space

abbrev pub hint_line : Script → HintRow → List ℕ
hint_line script row =
    line (codes "hint" ∷ row.word ∷ shown_value row.form (row.seen script.hints) ∷ codes "default" ∷ shown_value row.form (row.default script.ranks) ∷ [])

-- ---- the sums

-- the reads or the writes
abbrev pub tally_line : List ℕ → Tally → List ℕ
tally_line words t =
    text_line (words ++ decimal t.calls ++ codes ", " ++ in_bytes t.bytes
    ++ codes ", least " ++ decimal t.least ++ codes ", most " ++ decimal t.most ++ codes ", unaligned " ++ decimal t.unaligned)

-- those of naive I/O
abbrev pub naive_line : List ℕ → Naive → List ℕ
naive_line words n = text_line (words ++ decimal n.calls ++ codes ", " ++ in_bytes n.bytes)

abbrev pub beside_line : List ℕ → ℕ → List ℕ
beside_line words n = text_line (words ++ in_bytes n)

-- what a rank gives an aggregator, and gets from it
abbrev pub cell_line : Cell → List ℕ
cell_line c =
    text_line (codes "  rank " ++ decimal c.rank ++ codes " aggregator " ++ decimal c.aggregator ++ codes " puts " ++ decimal c.put ++ codes " gets " ++ decimal c.got)

-- what is read and written, and what naive I/O would
abbrev pub moved_lines : Sums → List ℕ
moved_lines sums =
    tally_line (codes "  reads ") sums.reads
    ++ tally_line (codes "  writes ") sums.writes
    ++ naive_line (codes "  naive reads ") sums.naive_reads
    ++ naive_line (codes "  naive writes ") sums.naive_writes

abbrev pub sum_lines : Sums → List ℕ
sum_lines sums =
    text_line (codes "sums")
    ++ text_line (codes "  grows " ++ decimal sums.grows)
    ++ moved_lines sums
    ++ beside_line (codes "  read beside what is got ") sums.read_over
    ++ beside_line (codes "  written beside what is put ") sums.written_over
    ++ flat_map cell_line sums.matrix

-- ---- the whole

-- what stands before what is done
abbrev pub head_lines : Script → Header → ℕ → List StepPlan → List ℕ
head_lines script header length steps =
    text_line (codes "plan of " ++ counted (codes "rank") script.ranks)
    ++ line (codes "order" ∷ map (λ step. mark_word step.mark) steps)
    ++ dataset_line header length
    ++ flat_map (variable_line header) header.vars
    ++ flat_map (hint_line script) hint_table

abbrev pub plan_text_of : Script → Header → ℕ → RunPlan → Sums → List ℕ
plan_text_of script header length plan sums =
    head_lines script header length plan.steps
    ++ text_line (codes "opening")
    ++ device_lines (codes "  ") plan.opening
    ++ flat_map (step_lines script.calls plan.answers) plan.steps
    ++ text_line (codes "close")
    ++ device_lines (codes "  ") (count_call plan.close)
    ++ sum_lines sums

-- Worked examples of plans, and their texts. (own)
--     plan_with_hole, text_with_hole     two ranks put with a hole between them; then rank 1 alone gets the first element and the last one
--     file_with_record                   what a step does to the file that puts the fourth record of a dataset without one
--     file_of_overlap                    what a step comes to whose puts share a byte
use Rattle.std.specs.Prelude.{ℕ, List, [], ◌∷◌, ◌++◌, true, false, Some, None, codes}
use Rattle.nc_base.specs.declared.answer.Answer.{Answer}
use Rattle.nc_base.specs.declared.answer.Code.{Code}
use Rattle.nc_base.specs.declared.answer.Code.TheVariants as code
use Rattle.nc_base.specs.declared.answer.Pair.{Pair}
use Rattle.nc_base.specs.declared.plan.Extent.{Extent}
use Rattle.nc_base.specs.declared.request.Call.TheVariants as call
use Rattle.nc_base.specs.declared.request.Form.TheVariants as form
use Rattle.nc_base.specs.declared.script.Script.{Script}
use Rattle.nc_base.specs.declared.step.DiskCall.TheVariants.{Grow, Store}
use Rattle.nc_base.specs.declared.step.Mark.TheVariants.{Meet, Solo}
use Rattle.serial_spec.specs.Examples.{dataset_a, given, hints, put_all, script_on}
use Rattle.script_spec.specs.Texts.{text_line}
use Rattle.window_plan.specs.declared.plan.Owner.{Owner}
use Rattle.window_plan.specs.declared.plan.WindowPlan.{WindowPlan}
use Rattle.step_plan.specs.declared.plan.Asked.{Asked}
use Rattle.step_plan.specs.declared.plan.Caller.{Caller}
use Rattle.step_plan.specs.declared.plan.FilePlan.{FilePlan}
use Rattle.step_plan.specs.declared.plan.Phase.{Phase}
use Rattle.run_plan.specs.declared.run.RunPlan.{RunPlan}
use Rattle.plan_sums.specs.declared.sums.Sums.{Sums}

abbrev pub bytes_at : ℕ → ℕ → Extent
bytes_at at len = record { at = at; len = len }

abbrev pub caller : ℕ → ℕ → Caller
caller rank call = record { rank = rank; call = call }

abbrev pub answered : Code → Answer
answered c = record { code = c; pair = None; number = None; values = None; items = [] }

abbrev pub asked : ℕ → ℕ → ℕ → Asked
asked rank bytes pieces = record { rank = rank; bytes = bytes; pieces = pieces }

abbrev pub piece : ℕ → ℕ → ℕ → Owner
piece rank at len = record { rank = rank; extent = bytes_at at len }

abbrev pub nothing : Phase
nothing = record { asked = []; domains = [] }

abbrev pub no_file : FilePlan
no_file = record { overlap = None; grow = None; puts = nothing; count = None; gets = nothing }

-- ---- dim x 4, var int v [x]: the ranks put the elements 0, and 2 and 3; all begin independent data mode; rank 1 gets the elements 0 and 3

abbrev pub script_with_hole : Script
script_with_hole =
    script_on dataset_a (hints 1 16777216) (
    (put_all 118 (given form.Vara (0 ∷ []) (1 ∷ []) []) (7 ∷ []) ∷ call.BeginIndep ∷ [])
    ∷ (put_all 118 (given form.Vara (2 ∷ []) (2 ∷ []) []) (8 ∷ 9 ∷ []) ∷ call.BeginIndep
    ∷ call.Get false (118 ∷ []) (given form.Vars (0 ∷ []) (2 ∷ []) (3 ∷ [])) ∷ []) ∷ [])

-- the whole variable, of which these pieces are asked for
abbrev pub window_of : List Owner → WindowPlan
window_of pieces = record { hull = bytes_at 80 16; full = false; owners = pieces }

abbrev pub puts_with_hole : Phase
puts_with_hole =
    record {
      asked = asked 0 4 1 ∷ asked 1 8 1 ∷ [];
      domains = record { aggregator = Some 0; extent = bytes_at 80 16; windows = window_of (piece 0 80 4 ∷ piece 1 88 8 ∷ []) ∷ [] } ∷ [];
    }

abbrev pub gets_with_hole : Phase
gets_with_hole =
    record {
      asked = asked 1 8 2 ∷ [];
      domains = record { aggregator = None; extent = bytes_at 80 16; windows = window_of (piece 1 80 4 ∷ piece 1 92 4 ∷ []) ∷ [] } ∷ [];
    }

abbrev pub plan_with_hole : RunPlan
plan_with_hole =
    record {
      opening = Grow 96 ∷ Store 0 80 ∷ [];
      steps =
          record { mark = Meet 0; callers = caller 0 0 ∷ caller 1 0 ∷ []; file = record no_file { puts = puts_with_hole } }
          ∷ record { mark = Meet 1; callers = caller 0 1 ∷ caller 1 1 ∷ []; file = no_file }
          ∷ record { mark = Solo 1 2; callers = caller 1 2 ∷ []; file = record no_file { gets = gets_with_hole } } ∷ [];
      close = None;
      answers = (answered code.Ok ∷ answered code.Ok ∷ []) ∷ (answered code.Ok ∷ answered code.Ok ∷ answered code.Ok ∷ []) ∷ [];
      pending = 0 ∷ 0 ∷ [];
      records = 0;
    }

abbrev pub sums_with_hole : Sums
sums_with_hole =
    record {
      grows = 1;
      reads = record { calls = 2; bytes = 32; least = 16; most = 16; unaligned = 0 };
      writes = record { calls = 2; bytes = 96; least = 16; most = 80; unaligned = 0 };
      naive_reads = record { calls = 2; bytes = 8 };
      naive_writes = record { calls = 2; bytes = 12 };
      read_over = 24;
      written_over = 4;
      matrix = record { rank = 0; aggregator = 0; put = 4; got = 0 } ∷ record { rank = 1; aggregator = 0; put = 8; got = 0 } ∷ [];
    }

abbrev pub text_with_hole : List ℕ
text_with_hole =
    text_line (codes "plan of 2 ranks")
    ++ text_line (codes "order m0 m1 s1.2")
    ++ text_line (codes "dataset CDF-1, header 80 bytes, records 0, record size 0, length 96")
    ++ text_line (codes "variable v int at 80, 16 bytes")
    ++ text_line (codes "hint cb_nodes 1 default 2")
    ++ text_line (codes "hint cb_buffer_size 16777216 default 16777216")
    ++ text_line (codes "hint ind_rd_buffer_size 4194304 default 4194304")
    ++ text_line (codes "hint ind_wr_buffer_size 524288 default 524288")
    ++ text_line (codes "hint line_room 2 default 2")
    ++ text_line (codes "hint threads on default on")
    ++ text_line (codes "hint overlap refuse default refuse")
    ++ text_line (codes "hint nc_header_align_size 4 default 4")
    ++ text_line (codes "hint nc_var_align_size 4 default 4")
    ++ text_line (codes "hint striping_unit 1 default 1")
    ++ text_line (codes "opening")
    ++ text_line (codes "  grow to 96")
    ++ text_line (codes "  write 80 bytes at 0")
    ++ text_line (codes "step m0")
    ++ text_line (codes "  rank 0 call 0 put_vara_all ok")
    ++ text_line (codes "  rank 1 call 0 put_vara_all ok")
    ++ text_line (codes "  rank 0 puts 4 bytes in 1 piece")
    ++ text_line (codes "  rank 1 puts 8 bytes in 1 piece")
    ++ text_line (codes "  put domain 80 to 96, aggregator 0")
    ++ text_line (codes "    window 80 to 96 with a hole, 4 from rank 0, 8 from rank 1")
    ++ text_line (codes "      read 16 bytes at 80")
    ++ text_line (codes "      write 16 bytes at 80")
    ++ text_line (codes "step m1")
    ++ text_line (codes "  rank 0 call 1 begin_indep_data ok")
    ++ text_line (codes "  rank 1 call 1 begin_indep_data ok")
    ++ text_line (codes "step s1.2")
    ++ text_line (codes "  rank 1 call 2 get_vars ok")
    ++ text_line (codes "  rank 1 gets 8 bytes in 2 pieces")
    ++ text_line (codes "  get 80 to 96 by data sieving")
    ++ text_line (codes "    window 80 to 96 with a hole, 8 for rank 1")
    ++ text_line (codes "      read 16 bytes at 80")
    ++ text_line (codes "close")
    ++ text_line (codes "sums")
    ++ text_line (codes "  grows 1")
    ++ text_line (codes "  reads 2, 32 bytes, least 16, most 16, unaligned 0")
    ++ text_line (codes "  writes 2, 96 bytes, least 16, most 80, unaligned 0")
    ++ text_line (codes "  naive reads 2, 8 bytes")
    ++ text_line (codes "  naive writes 2, 12 bytes")
    ++ text_line (codes "  read beside what is got 24 bytes")
    ++ text_line (codes "  written beside what is put 4 bytes")
    ++ text_line (codes "  rank 0 aggregator 0 puts 4 gets 0")
    ++ text_line (codes "  rank 1 aggregator 0 puts 8 gets 0")

-- ---- dim t unlimited, var short s [t]: the put of one record, before which there are three more; the file ends behind it

abbrev pub puts_of_record : Phase
puts_of_record =
    record {
      asked = asked 0 2 1 ∷ [];
      domains =
          record {
            aggregator = Some 0;
            extent = bytes_at 86 2;
            windows = record { hull = bytes_at 86 2; full = true; owners = piece 0 86 2 ∷ [] } ∷ [];
          } ∷ [];
    }

abbrev pub file_with_record : FilePlan
file_with_record = record no_file { grow = Some 88; puts = puts_of_record; count = Some (bytes_at 4 4) }

abbrev pub lines_with_record : List ℕ
lines_with_record =
    text_line (codes "  rank 0 puts 2 bytes in 1 piece")
    ++ text_line (codes "  grow to 88")
    ++ text_line (codes "  put domain 86 to 88, aggregator 0")
    ++ text_line (codes "    window 86 to 88, 2 from rank 0")
    ++ text_line (codes "      write 2 bytes at 86")
    ++ text_line (codes "  write 4 bytes at 4")

-- ---- two requests that share byte 88

abbrev pub shared_pair : Pair
shared_pair = record { rank1 = 0; request1 = 0; rank2 = 1; request2 = 7; at = 88 }

abbrev pub file_of_overlap : FilePlan
file_of_overlap = record no_file { overlap = Some shared_pair; puts = record { asked = asked 0 12 1 ∷ asked 1 1 1 ∷ []; domains = [] } }

abbrev pub lines_of_overlap : List ℕ
lines_of_overlap =
    text_line (codes "  rank 0 puts 12 bytes in 1 piece")
    ++ text_line (codes "  rank 1 puts 1 byte in 1 piece")
    ++ text_line (codes "  overlap 0 0 1 7 88")

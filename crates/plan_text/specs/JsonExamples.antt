-- A worked example: the JSON document of a plan of one step.
--     plan_with_hole, sums_with_hole      the plan of the script `with_hole`, which puts the first and the last element of a variable, and its sums
--     json_with_hole                      its document
use Rattle.std.specs.Prelude.{ℕ, List, [], ◌∷◌, ◌++◌, false, Some, None, codes}
use Rattle.nc_base.specs.declared.answer.Answer.{Answer}
use Rattle.nc_base.specs.declared.answer.Code.TheVariants as code
use Rattle.nc_base.specs.declared.step.DiskCall.TheVariants.{Grow, Store}
use Rattle.nc_base.specs.declared.step.Mark.TheVariants.{Meet}
use Rattle.script_spec.specs.Texts.{text_line}
use Rattle.window_plan.specs.declared.plan.Owner.{Owner}
use Rattle.window_plan.specs.declared.plan.WindowPlan.{WindowPlan}
use Rattle.step_plan.specs.declared.plan.DomainPlan.{DomainPlan}
use Rattle.step_plan.specs.declared.plan.StepPlan.{StepPlan}
use Rattle.run_plan.specs.declared.run.RunPlan.{RunPlan}
use Rattle.plan_sums.specs.declared.sums.Sums.{Sums}

-- bytes of rank 0
abbrev pub own : ℕ → ℕ → Owner
own place length = record { rank = 0; extent = record { at = place; len = length } }

abbrev pub window : WindowPlan
window = record { hull = record { at = 80; len = 16 }; full = false; owners = own 80 4 ∷ own 92 4 ∷ [] }

abbrev pub domain : DomainPlan
domain = record { aggregator = Some 0; extent = record { at = 80; len = 16 }; windows = window ∷ [] }

abbrev pub step : StepPlan
step =
    record {
      mark = Meet 0;
      callers = record { rank = 0; call = 0 } ∷ [];
      file = record {
        overlap = None;
        grow = None;
        puts = record { asked = record { rank = 0; bytes = 8; pieces = 2 } ∷ []; domains = domain ∷ [] };
        count = None;
        gets = record { asked = []; domains = [] };
      };
    }

abbrev pub ok : Answer
ok = record { code = code.Ok; pair = None; number = None; values = None; items = [] }

abbrev pub plan_with_hole : RunPlan
plan_with_hole =
    record {
      opening = Grow 96 ∷ Store 0 80 ∷ [];
      steps = step ∷ [];
      close = None;
      answers = (ok ∷ []) ∷ [];
      pending = 0 ∷ [];
      records = 0;
    }

abbrev pub sums_with_hole : Sums
sums_with_hole =
    record {
      grows = 1;
      reads = record { calls = 1; bytes = 16; least = 16; most = 16; unaligned = 0 };
      writes = record { calls = 2; bytes = 96; least = 16; most = 80; unaligned = 0 };
      naive_reads = record { calls = 0; bytes = 0 };
      naive_writes = record { calls = 2; bytes = 8 };
      read_over = 16;
      written_over = 8;
      matrix = record { rank = 0; aggregator = 0; put = 8; got = 0 } ∷ [];
    }

abbrev pub json_with_hole : List ℕ
json_with_hole =
    text_line (codes "{\"plan\":1,\"ranks\":1,\"order\":[\"m0\"],")
    ++ codes "\"dataset\":{\"version\":1,\"header\":80,\"records\":0,\"record_size\":0,\"length\":96,"
    ++ text_line (codes "\"variables\":[{\"name\":\"v\",\"type\":\"int\",\"begin\":80,\"size\":16,\"record\":false}]},")
    ++ codes "\"hints\":[{\"name\":\"cb_nodes\",\"value\":1,\"default\":1},{\"name\":\"cb_buffer_size\",\"value\":16,\"default\":16777216},"
    ++ codes "{\"name\":\"ind_rd_buffer_size\",\"value\":4194304,\"default\":4194304},{\"name\":\"ind_wr_buffer_size\",\"value\":524288,\"default\":524288},"
    ++ codes "{\"name\":\"line_room\",\"value\":2,\"default\":2},{\"name\":\"threads\",\"value\":\"on\",\"default\":\"on\"},"
    ++ codes "{\"name\":\"overlap\",\"value\":\"refuse\",\"default\":\"refuse\"},{\"name\":\"nc_header_align_size\",\"value\":4,\"default\":4},"
    ++ text_line (codes "{\"name\":\"nc_var_align_size\",\"value\":4,\"default\":4},{\"name\":\"striping_unit\",\"value\":1,\"default\":1}],")
    ++ text_line (codes "\"opening\":[{\"call\":\"grow\",\"length\":96},{\"call\":\"write\",\"place\":0,\"length\":80}],")
    ++ text_line (codes "\"steps\":[")
    ++ codes "{\"mark\":\"m0\",\"collective\":true,\"calls\":[{\"rank\":0,\"call\":0,\"name\":\"put_vars_all\",\"answer\":\"ok\"}],\"overlap\":null,"
    ++ codes "\"put\":{\"asked\":[{\"rank\":0,\"bytes\":8,\"pieces\":2}],\"domains\":[{\"aggregator\":0,\"from\":80,\"to\":96,"
    ++ codes "\"windows\":[{\"from\":80,\"to\":96,\"hole\":true,\"shares\":[{\"rank\":0,\"bytes\":8}],\"pieces\":[[0,80,84],[0,92,96]]}]}]},"
    ++ codes "\"get\":{\"asked\":[],\"domains\":[]},"
    ++ text_line (codes "\"device\":[{\"call\":\"read\",\"place\":80,\"length\":16},{\"call\":\"write\",\"place\":80,\"length\":16}]}],")
    ++ text_line (codes "\"close\":[],")
    ++ codes "\"sums\":{\"grows\":1,\"reads\":{\"calls\":1,\"bytes\":16,\"least\":16,\"most\":16,\"unaligned\":0},"
    ++ codes "\"writes\":{\"calls\":2,\"bytes\":96,\"least\":16,\"most\":80,\"unaligned\":0},"
    ++ codes "\"naive_reads\":{\"calls\":0,\"bytes\":0},\"naive_writes\":{\"calls\":2,\"bytes\":8},\"read_beside\":16,\"written_beside\":8,"
    ++ text_line (codes "\"matrix\":[{\"rank\":0,\"aggregator\":0,\"put\":8,\"got\":0}]}}")

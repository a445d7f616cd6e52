-- Scripts whose ranks make each step together. (own)
--     is_independent call            a put, a get or a wait that is not collective
--     has_independent script         some rank makes such a call
--     has_solo script                some rank has a step of its own
--     all_meetings script            the meetings of the ranks in turn
use Rattle.std.specs.Prelude.{List, map, length, Bool, not, ◌&&◌}
use Rattle.std.specs.List.{list_any, range_with_len}
use Rattle.nc_base.specs.declared.request.Call.{Call}
use Rattle.nc_base.specs.declared.script.Script.{Script}
use Rattle.nc_base.specs.declared.step.Mark.{Mark}
use Rattle.nc_base.specs.declared.step.Mark.TheVariants.{Meet}
use Rattle.serial_spec.specs.History.{is_collective, is_data, marks, is_meeting}
use Rattle.run_laws.specs.Ways.{kinds_of}

abbrev pub is_independent : Call → Bool
is_independent c = is_data c && not (is_collective c)

abbrev pub has_independent : Script → Bool
has_independent script = list_any (λ own. list_any is_independent own) script.calls

abbrev pub has_solo : Script → Bool
has_solo script = list_any (λ r. list_any (λ m. not (is_meeting m)) (marks script.calls r)) (range_with_len 0 script.ranks)

abbrev pub all_meetings : Script → List Mark
all_meetings script = map (λ k. Meet k) (range_with_len 0 (length (kinds_of script)))

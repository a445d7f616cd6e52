-- What a watched run tells of its watchers, by the counts after its steps.
--     count_at opening counts steps     the record count after so many steps
--     readings_of, pairs_of             the numbers of the watchers, and with each the count after so many steps
--     whole_text                        the text of a run, and the lines of its watchers
--     AreCounted                        the counts are those of the calls done one after another
use Rattle.std.specs.Prelude.{ℕ, zero, suc, ◌≡◌, List, [], ◌++◌, map, get_or, Option, Some, None}
use Rattle.nc_base.specs.declared.header.Header.{Header}
use Rattle.nc_base.specs.declared.script.Script.{Script}
use Rattle.script_spec.specs.Texts.{run_text, watch_text}
use Rattle.ncmpi_cli.specs.Headline.{with_counts}
use Rattle.ncmpi_cli.specs.declared.watched_run.RunReadings.{RunReadings}
use Rattle.ncmpi_cli.specs.declared.watched_run.WatchedRun.{WatchedRun}

-- the opening count, or the one after the last of the steps
abbrev pub count_at : ℕ → List ℕ → ℕ → ℕ
count_at opening counts zero = opening
count_at opening counts (suc k) = get_or counts k opening

abbrev pub counted : ℕ → List ℕ → List ℕ → List (ℕ × ℕ)
counted opening counts numbers = map (λ steps. (steps, count_at opening counts steps)) numbers

abbrev pub readings_of : Option RunReadings → List (List ℕ)
readings_of None = []
readings_of (Some seen) = seen.readings

abbrev pub pairs_of : ℕ → Option RunReadings → List (List (ℕ × ℕ))
pairs_of opening None = []
pairs_of opening (Some seen) = map (counted opening seen.counts) seen.readings

-- the header has the final record count
abbrev pub whole_text : Script → Header → ℕ → WatchedRun → List ℕ
whole_text script header opening run =
    run_text script header run.end.order run.end.answers run.end.pending ++ watch_text (pairs_of opening run.seen)

-- from the bytes when the ranks begin
abbrev pub AreCounted : Script → Header → WatchedRun → List ℕ → Type 0
AreCounted script header run file = pairs_of header.records run.seen ≡ map (with_counts script header file run.end.order) (readings_of run.seen)

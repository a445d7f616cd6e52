-- What is made before a run that is watched. (own)
use Rattle.std.specs.Prelude.{◌≡◌, ◌≤◌, ℕ, [], length, vec_capacity}
use Rattle.run_watch.specs.Heard.{opened}
use Rattle.ncmpi_cli.specs.declared.watched_run.Made.{Made}

-- a board that was told nothing, at most eight views of it, and room for what each of them reads
pub record IsMade {R : Type 0} (records : ℕ) (made : Made R) : Type 0 where
  pub board : made.board ≡ opened records
  pub few : length made.views.items ≤ 8
  pub none : made.watched.items ≡ []
  pub room : length made.views.items ≤ vec_capacity made.watched

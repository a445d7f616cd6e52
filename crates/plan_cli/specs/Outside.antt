-- What is seen of the outside at one time.
--     Seen                                       what source, dataset and sink tell, and how often each failed
--     held_of named d                            what the dataset of the name holds, where there is a name and it tells
--     seen_at named s d k                        what a source, the dataset of the name and a sink tell
--     SourceFailed, DatasetFailed, SinkFailed    one of them failed between two times
--     GivesLine                                  the line that was given
use Rattle.std.specs.Prelude.{ℕ, ◌≡◌, ◌⊎◌, List, take, Option, option_and_then}
use Rattle.nc_outside.specs.Cause.{Rose}
use Rattle.nc_outside.specs.Told.{with_end}
use Rattle.nc_outside.specs.declared.stream.Sink.{Ghosts as SinkGhosts}
use Rattle.nc_outside.specs.declared.stream.Source.{Ghosts as SourceGhosts}
use Rattle.plan_cli.specs.declared.dataset.DatasetFront.{Ghosts as DatasetGhosts}

pub record Seen : Type 0 where
  pub left : Option (List ℕ)
  pub source_faults : ℕ
  pub held : Option (List ℕ)
  pub dataset_faults : ℕ
  pub given : Option (List ℕ)
  pub sink_faults : ℕ

abbrev pub held_of : {D : Type 0} → DatasetGhosts D → Option (List ℕ) → D → Option (List ℕ)
held_of dataset named d = option_and_then (dataset.held d) named

abbrev pub seen_at : {S D K : Type 0} → SourceGhosts S → DatasetGhosts D → SinkGhosts K → Option (List ℕ) → S → D → K → Seen
seen_at source dataset sink named s d k = record {
  left = source.left s;
  source_faults = source.faults s;
  held = held_of dataset named d;
  dataset_faults = dataset.faults d;
  given = sink.given k;
  sink_faults = sink.faults k;
}

abbrev pub SourceFailed : Seen → Seen → Type 0
SourceFailed before now = Rose before.source_faults now.source_faults

abbrev pub DatasetFailed : Seen → Seen → Type 0
DatasetFailed before now = Rose before.dataset_faults now.dataset_faults

abbrev pub SinkFailed : Seen → Seen → Type 0
SinkFailed before now = Rose before.sink_faults now.sink_faults

-- a line was given whole, or a front of it where the count of the sink rose
pub record GivesLine (faults_before faults_after : ℕ) (before after : Option (List ℕ)) (line : List ℕ) : Type 0 where
  pub front : (n : ℕ) × (after ≡ with_end before (take n line))
  pub whole : (after ≡ with_end before line) ⊎ Rose faults_before faults_after

-- The line that tells a stop, by that of ncrun.
use Rattle.plan_cli.proofs.Words.{◌≡◌, None, refl, option_map, Stop, fixed_line_of, line_of, renamed}
use Rattle.dataset_start.specs.Stops as ncrun
use Rattle.dataset_start.specs.declared.stop.Stop.TheVariants as stops

pub made_line : (stop : Stop) → fixed_line_of stop ≡ None → line_of stop ≡ option_map renamed (ncrun.line_of stop)
made_line stops.Usage h = absurd cc
made_line stop h = refl

pub not_fixed : (stop : Stop) → fixed_line_of stop ≡ None → ncrun.fixed_line_of stop ≡ None
not_fixed stops.Usage h = absurd cc
not_fixed stops.Disk h = absurd cc
not_fixed stop h = refl

-- The ranks up to the last one of the owners so far.
use Rattle.window_plan.proofs.Words.{◌≡◌, ◌^◌, ◌≤◌, take, ranks_in}
use Rattle.window_plan.proofs.shares.ranks_in.Given as goal

abbrev pub invariant-loop-owner : goal.invariant-loop-owner
invariant-loop-owner l = record {
  count : l.ranks ≡ ranks_in (take l.owner-index l.owners);
  few : l.ranks ≤ 2 ^ 32;
}

use Rattle.script_calls.proofs.Words.{◌≡◌, ◌<◌, ◌^◌, take, map, length, All, kinds}
use Rattle.script_calls.proofs.call_table.RankTable.kinds.Given as goal

abbrev pub invariant-loop-own : goal.invariant-loop-own
invariant-loop-own l = record {
  value : l.table ≡ map (λ own. kinds own) (take l.own-index l.self.calls);
  short : All (λ own. length own < 2 ^ 32) l.table;
}

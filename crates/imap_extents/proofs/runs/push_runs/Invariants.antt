use Rattle.imap_extents.proofs.Cited.{◌≡◌, ◌++◌, ◌-◌, false, not, take, length, flat_map, list_any, ext, fits}
use Rattle.imap_extents.proofs.RunLaws.{told}
use Rattle.imap_extents.proofs.runs.push_runs.Given as goal

abbrev pub invariant-loop-run : goal.invariant-loop-run
invariant-loop-run g l = record {
  form : l.bytes.items ≡ l.initial.bytes.items ++ flat_map (λ v. ext l.kind v) (take l.count (told g.R.Run.told_at g.R.Run.size (take l.run-index l.runs)));
  fit : list_any (λ v. not (fits l.kind v)) (take l.count (told g.R.Run.told_at g.R.Run.size (take l.run-index l.runs))) ≡ false;
  rest : l.left ≡ l.count - length (told g.R.Run.told_at g.R.Run.size (take l.run-index l.runs));
}

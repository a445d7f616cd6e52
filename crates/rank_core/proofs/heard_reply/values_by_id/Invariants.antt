use Rattle.rank_core.proofs.Words.{◌≡◌, ℕ, drop, zip, nat_cmp, get, got_values, values_for}
use Rattle.rank_core.proofs.HeardLaws.{followed, HaveShapes}
use Rattle.rank_core.proofs.heard_reply.values_by_id.Given as goal

abbrev pub invariant-loop-index : goal.invariant-loop-index
invariant-loop-index l = record {
  so_far : (q : ℕ) → values_for (got_values l.header (zip l.gets l.got)) q
      ≡ followed (get nat_cmp l.found q) (values_for (got_values l.header (zip (drop l.index l.gets) (drop l.index l.got))) q);
  shapes : HaveShapes l.header l.gets (get nat_cmp l.found);
}

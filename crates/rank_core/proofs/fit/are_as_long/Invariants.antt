use Rattle.rank_core.proofs.Words.{◌≡◌, map, length, take, wanted}
use Rattle.rank_core.proofs.fit.are_as_long.Given as goal

abbrev pub invariant-loop-index : goal.invariant-loop-index
invariant-loop-index l = map (λ blob. length blob) (take l.index l.blobs) ≡ map (wanted l.header) (take l.index l.gets)

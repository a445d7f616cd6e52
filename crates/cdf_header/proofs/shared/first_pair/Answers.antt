use Rattle.cdf_header.proofs.Words.{arith}
use Rattle.cdf_header.proofs.Apart.{none_behind}
use Rattle.cdf_header.proofs.shared.first_pair.Goals as goal

pub pair_at-found-requires : goal.pair_at-found-requires
pair_at-found-requires c = λ low. rw c.split_at.ensures.back (none_behind c.args.start c.args.size c.args.spans.now c.requires c.loop-k.k _ (omega arith) low)

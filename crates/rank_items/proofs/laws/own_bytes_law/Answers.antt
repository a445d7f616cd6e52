use Rattle.rank_items.proofs.OwnBytes.{own_bytes}
use Rattle.rank_items.proofs.laws.own_bytes_law.Goals as goal

pub returns : goal.returns
returns c = own_bytes

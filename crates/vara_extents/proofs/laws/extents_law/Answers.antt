use Rattle.vara_extents.proofs.Words.{element_extents}
use Rattle.vara_extents.proofs.JoinLaws.{joined_is}
use Rattle.vara_extents.proofs.OnceLaws.{spans_are, spans_once, post_once}
use Rattle.vara_extents.proofs.PlaceLaws.{extents_inside, extents_some}
use Rattle.vara_extents.proofs.laws.extents_law.Goals as goal

pub returns : goal.returns
returns c = record {
  bytes = spans_are;
  some = extents_some;
  joined = λ header v g. joined_is (element_extents header v g);
  once = spans_once;
  post = post_once;
  inside = extents_inside;
}

use Rattle.printed_text.proofs.Cited.{arith, nat_tests}
use Rattle.printed_text.proofs.DigitLaws.{post_put}
use Rattle.printed_text.proofs.digits.put_post.Goals as goal

pub returns-in_ok-insert : goal.returns-in_ok-insert
returns-in_ok-insert c = grind (arith, nat_tests, post_put, c.in-Post.is, c.of_name.ensures, c.as_slice.ensures, c.in_ok-insert.ensures.updates)

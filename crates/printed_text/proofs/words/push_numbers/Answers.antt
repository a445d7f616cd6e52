use Rattle.printed_text.proofs.Cited.{◌≡◌, arith, common_steps, to_z-of_z, signed_decimal}
use mir.Syntax.{w128}
use mir.Val.{to_z, of_z}
use Rattle.printed_text.proofs.WordLaws.{spaced_next}
use Rattle.printed_text.proofs.words.push_numbers.Goals as goal

pub loop-k-preserved : goal.loop-k-preserved
loop-k-preserved c =
    let told : to_z w128 (of_z w128 c.at.result) ≡ c.at.result = grind (arith, to_z-of_z) in
    let more = spaced_next signed_decimal c.args.out.now.items c.args.numbers.now c.loop-k.k c.at.result c.at.ensures in
    grind (arith, common_steps, told, more)

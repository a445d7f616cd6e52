-- The first word is the one whose number was read.
use Rattle.script_words.proofs.Cited.{◌≡◌, sym, arith, common_steps, to_z-of_z}
use mir.Syntax.{w64}
use mir.Val.{to_z, of_z}
use Rattle.script_words.proofs.FrontLaws.{number_first}
use Rattle.script_words.proofs.words.Words.short_number.Goals as goal

pub returns : goal.returns
returns c =
    let told : to_z w64 (of_z w64 c.in_ok-number.number) ≡ c.in_ok-number.number = grind (arith, to_z-of_z) in
    let first = number_first c.self.inside.rest.now c.after_blanks-line.result.now c.in_ok-number.number (sym c.after_blanks-line.ensures) c.in_ok-number.ensures.value in
    grind (arith, common_steps, told, first, c.self.view_is, c.in_ok-number.ensures.rest)

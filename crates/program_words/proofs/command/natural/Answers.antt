use Rattle.std.proofs.Common.{◌∙◌, rules}
use Rattle.program_words.proofs.Digits.{natural}
use Rattle.program_words.proofs.command.natural.Goals as goal

pub returns-then-is_digits : goal.returns-then-is_digits
returns-then-is_digits c = c.ok.ensures.value ∙ natural c.args.word.now c.parse.result (search rules) c.parse.ensures.value.0

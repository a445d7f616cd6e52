use Rattle.program_words.proofs.Commands.{parsed}
use Rattle.program_words.proofs.command.parsed.Goals as goal

pub returns-in-Ok : goal.returns-in-Ok
returns-in-Ok c = parsed _ _ c.in-Ok.matches c.options_in-options.result c.in_ok-command.ensures c.in-Ok.ensures.kinds c.in-Ok.ensures.matches c.options_in-options.ensures

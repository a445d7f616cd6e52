use Rattle.std.proofs.Common.{◌∙◌, ap}
use Rattle.clap.specs.Matches.{found_of}
use Rattle.program_words.specs.Words.{is_set}
use Rattle.program_words.proofs.Commands.{read}
use Rattle.program_words.proofs.command.options_in.Goals as goal

pub returns : goal.returns
returns c = read (found_of c.args.matches.now) _ (c.is_set.ensures ∙ ap is_set c.get_str.ensures) c.get_str-2.ensures c.get_str-3.ensures c.get_str-4.ensures c.get_str-5.ensures

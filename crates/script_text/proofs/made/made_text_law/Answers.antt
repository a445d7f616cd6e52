use Rattle.script_text.proofs.MadeText.{made_again, made_long, made_short}
use Rattle.script_text.proofs.made.made_text_law.Goals as goal

pub returns : goal.returns
returns c = record { read = made_again; short = made_short; long = made_long }

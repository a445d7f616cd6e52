use Rattle.script_text.proofs.Words.{◌∷◌, region_words, spaced, then_append}
use Rattle.script_text.proofs.calls.push_place.Goals as goal

pub returns : goal.returns
returns c =
    then_append c.args.out.now.items _ _ (32 ∷ c.args.var.now) (spaced (region_words c.args.given.now)) c.in_ok-push_word.ensures c.in_ok-push_region.ensures

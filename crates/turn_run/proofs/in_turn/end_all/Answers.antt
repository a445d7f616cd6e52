-- One end more.
use Rattle.turn_run.proofs.Words.{List, ◌++◌, ◌∷◌, [], ◌∙◌, sym, ap, append_assoc, map-append, RankEnd, runner_end}
use Rattle.turn_run.proofs.in_turn.end_all.Goals as goal

pub loop-runner-preserved : goal.loop-runner-preserved
loop-runner-preserved c =
    let k = c.loop-runner.invariant in let why = c.args.why in
    record {
      all = append_assoc c.loop-runner.yielded (c.in-Some.runner ∷ []) _ ∙ ap (λ v. c.loop-runner.yielded ++ v) (sym c.in-Some.ensures.steps.0) ∙ k.all;
      ended = c.push_reserved.ensures.items ∙ ap (λ (end : RankEnd). c.loop-runner.ends.items ++ end ∷ []) c.into_end.ensures
          ∙ ap (λ (ends : List RankEnd). ends ++ runner_end why c.in-Some.runner ∷ []) k.ended ∙ sym (map-append (runner_end why) c.loop-runner.yielded (c.in-Some.runner ∷ []));
      room = c.push_reserved.ensures.capacity ∙ k.room;
    }

use Rattle.script_calls.proofs.Words.{◌≡◌, ◌∙◌, ◌++◌, ◌∷◌, [], length, length-append, sym, ap, arith, posted}
use Rattle.script_calls.proofs.CallLaws.{posted_same}
use Rattle.script_calls.proofs.rank_calls.RankCalls.push_plain.Goals as goal

pub invariant_of-self-2 : goal.invariant_of-self-2
invariant_of-self-2 c =
    let grown : c.push.new.self.items ≡ c.self.inside.list.items ++ c.args.call ∷ [] = c.in_ok-push.ensures.items in (
      c.self.invariant.0 ∙ (sym (posted_same c.self.inside.list.items c.args.call c.requires.id) ∙ ap posted (sym grown)),
      omega (arith, simp length-append at (ap length grown), ap length c.self.view_is, c.requires.room),
    )

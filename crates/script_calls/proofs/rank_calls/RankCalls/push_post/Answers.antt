use Rattle.script_calls.proofs.Words.{◌≡◌, ◌∙◌, List, ℕ, ◌++◌, ◌∷◌, [], length, length-append, sym, ap, arith, Call, posted, is_posted}
use Rattle.script_calls.proofs.CallLaws.{posted_more}
use Rattle.script_calls.proofs.rank_calls.RankCalls.push_post.Goals as goal

pub push_with_id-requires : goal.push_with_id-requires
push_with_id-requires c =
    ap (λ (ids : List ℕ). is_posted c.args.id ids) (c.self.invariant.0 ∙ ap posted c.self.view_is) ∙ c.requires.new

pub invariant_of-self-2 : goal.invariant_of-self-2
invariant_of-self-2 c =
    let own : List Call = c.self.inside.list.items in
    let grown : c.push_with_id.new.list.items ≡ own ++ c.args.call ∷ [] = c.in_ok-push_with_id.ensures.items in
    let same : c.self.inside.ids.keys ≡ posted own = c.self.invariant.0 in (
      c.in_ok-push_with_id.ensures.keys ∙ (ap (λ (ids : List ℕ). ids ++ c.args.id ∷ []) same ∙ (sym (posted_more own c.args.call c.args.id c.requires.id) ∙ ap posted (sym grown))),
      omega (arith, simp length-append at (ap length grown), ap length c.self.view_is, c.requires.room),
    )

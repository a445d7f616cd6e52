use Rattle.printed_text.proofs.Cited.{List, ℕ, ◌++◌, ◌∙◌, ap, codes, decimal}
use Rattle.printed_text.proofs.WordLaws.{pair_spaced, then_three}
use Rattle.printed_text.proofs.runs.push_pair.Goals as goal

pub returns : goal.returns
returns c =
    let o : List ℕ = c.args.out.now.items in
    let p = c.args.pair.now in
    let one = rw (c.from.ensures, c.from-2.ensures) at c.in_ok-push_holder.ensures in
    let two = rw (c.from-3.ensures, c.from-4.ensures) at c.in_ok-push_holder-2.ensures in
    then_three o _ _ _ one two c.in_ok-push_numbered.ensures
    ∙ ap (λ (t : List ℕ). o ++ t) (pair_spaced (codes "overlap") (decimal p.rank1) (decimal p.request1) (decimal p.rank2) (decimal p.request2) (decimal p.at))

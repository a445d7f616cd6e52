use Rattle.plan_text.proofs.Cited.{List, ℕ, ◌++◌, codes, decimal}
use Rattle.plan_text.proofs.LineLaws.{then_end, then_words}
use Rattle.plan_text.proofs.sums.push_cell.Goals as goal

pub returns : goal.returns
returns c =
    let o : List ℕ = c.args.out.now.items in
    let cell = c.args.cell in
    let rank : List ℕ = codes "  rank " ++ decimal cell.rank in
    let aggregator : List ℕ = rank ++ codes " aggregator " ++ decimal cell.aggregator in
    let put : List ℕ = aggregator ++ codes " puts " ++ decimal cell.put in
    let first = rw c.from.ensures at c.in_ok-push_numbered.ensures in
    let second = rw c.from-2.ensures at c.in_ok-push_numbered-2.ensures in
    let served = then_words o _ _ rank (codes " aggregator ") (decimal cell.aggregator) first second in
    let given = then_words o _ _ aggregator (codes " puts ") (decimal cell.put) served c.in_ok-push_numbered-3.ensures in
    then_end o _ _ put (codes " gets ") (decimal cell.got) given c.in_ok-push_number_line.ensures

use Rattle.plan_text.proofs.Cited.{List, ℕ, ◌++◌, codes, decimal, in_bytes}
use Rattle.plan_text.proofs.LineLaws.{then_end, then_words}
use Rattle.plan_text.proofs.sums.push_tally.Goals as goal

pub returns : goal.returns
returns c =
    let o : List ℕ = c.args.out.now.items in
    let tally = c.args.tally in
    let calls : List ℕ = c.args.words.now ++ decimal tally.calls in
    let bytes : List ℕ = calls ++ codes ", " ++ in_bytes tally.bytes in
    let least : List ℕ = bytes ++ codes ", least " ++ decimal tally.least in
    let most : List ℕ = least ++ codes ", most " ++ decimal tally.most in
    let counted = then_words o _ _ calls (codes ", ") (in_bytes tally.bytes) c.in_ok-push_numbered.ensures c.in_ok-push_bytes_of.ensures in
    let shortest = then_words o _ _ bytes (codes ", least ") (decimal tally.least) counted c.in_ok-push_numbered-2.ensures in
    let longest = then_words o _ _ least (codes ", most ") (decimal tally.most) shortest c.in_ok-push_numbered-3.ensures in
    then_end o _ _ most (codes ", unaligned ") (decimal tally.unaligned) longest c.in_ok-push_number_line.ensures

-- Each pair goes before those that are written.
use Rattle.printed_text.proofs.Cited.{◌≡◌, ℕ, ◌+◌, ◌*◌, ◌++◌, ◌∙◌, List, arith, ap, sym, take, drop, append-nil, take-append-drop, hex, nat_tests}
use Rattle.printed_text.proofs.HexLaws.{pair_next}
use Rattle.printed_text.proofs.words.write_pairs.Goals as goal

pub loop-left-preserved : goal.loop-left-preserved
loop-left-preserved c = grind (arith, nat_tests, pair_next, c.loop-left.invariant.written, c.loop-left.invariant.same, c.write_pair.ensures)

pub returns-clause-written : goal.returns-clause-written
returns-clause-written c =
    let l = c.loop-left in
    let none : l.left ≡ 0 = omega arith in
    let here : c.args.start + 2 * l.left ≡ c.args.start = omega arith in
    let all : take c.args.start l.text ++ hex (2 * l.left) l.rest ++ drop (c.args.start + 2 * l.left) l.text ≡ l.text =
    rw (here, none) (ap (λ (t : List ℕ). t ++ drop c.args.start l.text) (append-nil (take c.args.start l.text)) ∙ take-append-drop c.args.start l.text)
    in
    sym (l.invariant.written ∙ all)

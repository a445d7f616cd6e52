use Rattle.script_calls.proofs.Words.{◌≡◌, ◌∙◌, ℕ, List, Result, length, get_or, sym, ap, subst, arith, ScriptKind, Call, Word, Called, call_of, calls_of, Gives, line_by}
use Rattle.script_calls.proofs.CallLaws.{found_own}
use Rattle.script_calls.proofs.CallWordLaws.{same_call}
use Rattle.script_calls.proofs.LineOfCall.{line_of_next}
use Rattle.script_calls.proofs.call_table.RankTable.call.Goals as goal

pub returns-clause-read : goal.returns-clause-read
unfolding line_by
returns-clause-read c =
    let d : Called = c.args.self.now in
    let own : List Call = c.index-own.result.now in
    let calls : c.self.inside.ranks.items ≡ d.calls = ap (λ (x : Called). x.calls) c.self.view_is in
    let values : c.self.inside.values ≡ d.values = ap (λ (x : Called). x.values) c.self.view_is in
    let count : c.len.result ≡ length d.calls = omega (arith, c.len.ensures, ap length calls) in
    let at : own ≡ get_or d.calls c.args.rank own = c.index-own.ensures ∙ ap (λ (x : List (List Call)). get_or x c.args.rank own) calls in
    let same : own ≡ calls_of c.args.rank d.calls = sym (found_own d.calls c.args.rank own at c.requires) in
    subst (λ (read : Result Call ScriptKind). Gives (λ (x : Call). x) c.call_of.result read)
    (same_call c.len.result c.args.rank own c.self.inside.values c.in_ok-word.word.now c.next.new.words
    ∙ line_of_next (λ (n : ℕ) (o : List Call) (b : ℕ) (w : List ℕ) (ws : List Word). call_of n c.args.rank o b w ws) c.args.words.now c.next.new.words c.in_ok-word.word.now
    c.len.result (length d.calls) c.self.inside.values d.values own (calls_of c.args.rank d.calls) c.in_ok-word.ensures count same values)
    c.call_of.ensures.read

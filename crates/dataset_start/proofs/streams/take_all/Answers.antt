use Rattle.dataset_start.proofs.Words.{◌≡◌, ℕ, List, ◌++◌, take, Option, Some, None, sym, ap, ◌∙◌, append_assoc, arith, length-take, nat_tests, with_front, length-append}
use Rattle.dataset_start.proofs.streams.take_all.Goals as goal

-- what was taken, and one piece more
one_more : (left mid now : Option (List ℕ)) (text piece : List ℕ) → left ≡ with_front text mid → mid ≡ with_front piece now → left ≡ with_front (text ++ piece) now
one_more left mid None text piece e f = e ∙ ap (λ (t : Option (List ℕ)). with_front text t) f
one_more left mid (Some rest) text piece e f =
    e ∙ ap (λ (t : Option (List ℕ)). with_front text t) f ∙ ap (λ (t : List ℕ). Some t) (sym (append_assoc text piece rest))

-- where no byte was taken, as much is left as before
none_more : (mid now : Option (List ℕ)) (piece : List ℕ) (n : ℕ) → n ≡ 0 → mid ≡ with_front (take n piece) now → mid ≡ now
none_more mid None piece n z e = e
none_more mid (Some rest) piece n z e = e ∙ ap (λ (k : ℕ). Some (take k piece ++ rest)) z

pub returns-then-count-eq0 : goal.returns-then-count-eq0
returns-then-count-eq0 g c =
    let same = none_more (g.S.Source.left c.loop-turn.source) (g.S.Source.left c.take.new.self) c.take.new.into c.in_ok-count.count c.if-count-eq0.true c.in_ok-count.ensures.bytes in
    grind (arith, nat_tests, c.loop-turn.invariant.taken, c.loop-turn.invariant.short, c.in_ok-count.ensures.end, c.loop-turn.invariant.later, c.take.ensures.cause.later)

pub returns-in_err-extend_from_slice-clause-few : goal.returns-in_err-extend_from_slice-clause-few
returns-in_err-extend_from_slice-clause-few g c =
    let text : List ℕ = c.loop-turn.text.items in
    let piece : List ℕ = take c.in_ok-count.count c.take.new.into in
    record {
      front = text ++ piece;
      few = omega (arith, length-append text piece, length-take c.in_ok-count.count c.take.new.into, c.in_ok-count.ensures.count);
      taken = grind (arith, nat_tests, one_more (g.S.Source.left c.args.source.now) (g.S.Source.left c.loop-turn.source), c.loop-turn.invariant.taken, c.in_ok-count.ensures.bytes);
    }

pub loop-turn-preserved : goal.loop-turn-preserved
loop-turn-preserved g c =
    let text : List ℕ = c.loop-turn.text.items in
    grind (arith, nat_tests, one_more (g.S.Source.left c.args.source.now) (g.S.Source.left c.loop-turn.source), c.loop-turn.invariant.long, c.if-count-eq0.false, c.in_ok-count.ensures.count, c.in_ok-extend_from_slice.ensures.len, c.len.ensures, c.if-len-gt-MAX_SCRIPT_BYTES.false, c.loop-turn.invariant.taken, c.in_ok-count.ensures.bytes, c.loop-turn.invariant.later, c.take.ensures.cause.later)

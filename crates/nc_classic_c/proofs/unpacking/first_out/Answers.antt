-- The first value that memory does not keep.
use Rattle.nc_classic_c.proofs.Words.{◌≡◌, ◌∙◌, ℕ, Bool, not, true, false, sym, ap, subst, below_more, arith, Value, fits, nat_tests}
use Rattle.nc_classic_c.proofs.ValueLaws.{value_in, value_out, values_fit}
use Rattle.nc_classic_c.proofs.unpacking.first_out.Goals as goal

pub returns-then-is_none : goal.returns-then-is_none
returns-then-is_none g c =
    grind (arith, nat_tests, value_out, fits, c.word.ensures.kept, c.is_none.ensures, c.if-is_none.true, c.loop-k.invariant, c.value_at.ensures)

pub loop-k-preserved : goal.loop-k-preserved
loop-k-preserved g c =
    let some : fits g.T.Kept.same c.value_at.result ≡ true = sym c.word.ensures.kept ∙ c.is_none.ensures ∙ ap (λ (b : Bool). not b) c.if-is_none.false in
    below_more (λ (j : ℕ). fits g.T.Kept.same (value_in c.args.kind c.args.bytes.now j) ≡ true) c.loop-k.k c.loop-k.invariant
    (subst (λ (v : Value). fits g.T.Kept.same v ≡ true) c.value_at.ensures some)

pub returns : goal.returns
returns g c = grind (arith, nat_tests, values_fit, c.loop-k.invariant, c.loop-k-test.false)

-- One value more is written.
use Rattle.nc_classic_c.proofs.Words.{◌≡◌, ◌∙◌, ℕ, length, map, sym, ap, true, arith, range_with_len, take_all, fits, nat_tests}
use Rattle.nc_classic_c.proofs.ValueLaws.{one_read, value_fits, value_in}
use Rattle.nc_classic_c.proofs.unpacking.write_all.Goals as goal

pub word_for-requires : goal.word_for-requires
word_for-requires g c = grind (arith, nat_tests, fits, value_fits, c.value_at.ensures, c.loop-k-test.true, c.loop-k.auto.into)

pub loop-k-preserved : goal.loop-k-preserved
loop-k-preserved g c = grind (arith, nat_tests, one_read, c.loop-k-test.true, c.loop-k.auto.into, c.word_for.ensures, c.value_at.ensures, c.loop-k.invariant)

pub returns : goal.returns
returns g c =
    let last : c.loop-k.k ≡ length c.args.into.now = omega (arith, c.loop-k-test.false) in
    ap (λ xs. map g.T.Kept.told xs) (sym (take_all c.loop-k.k c.loop-k.into (omega (arith, c.loop-k-test.false, c.loop-k.auto.into))))
    ∙ c.loop-k.invariant
    ∙ ap (λ (n : ℕ). map (value_in c.args.kind c.args.bytes.now) (range_with_len 0 n)) last

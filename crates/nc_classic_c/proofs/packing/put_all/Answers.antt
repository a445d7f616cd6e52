-- One value more is written.
use Rattle.nc_classic_c.proofs.Words.{◌*◌, ◌≤◌, ◌∙◌, length, map, sym, ap, true, arith, mul-le-mul_right, take_all, Value, fits, ext, size_of, packed, nat_tests}
use Rattle.nc_classic_c.proofs.ValueLaws.{one_written, word_fits}
use Rattle.nc_classic_c.proofs.packing.put_all.Goals as goal

pub put_value-requires-clause-fits : goal.put_value-requires-clause-fits
put_value-requires-clause-fits g c = grind (arith, nat_tests, fits, word_fits, c.value.ensures, c.loop-i-test.true, c.index-words-i.is)

pub loop-i-preserved : goal.loop-i-preserved
loop-i-preserved g c =
    one_written c.args.kind g.T.Kept.told c.args.words.now c.loop-i.into c.put_value.new.into c.loop-i.i c.size_of-size.result _ c.index-words-i.result c.size_of-size.ensures
    c.loop-i-test.true c.index-words-i.is (c.requires.room ∙ sym c.loop-i.auto.into)
    (c.put_value.ensures ∙ ap (λ (v : Value). ext c.args.kind v) c.value.ensures) c.loop-i.invariant

pub returns : goal.returns
returns g c =
    let over : length c.args.words.now * size_of c.args.kind ≤ c.loop-i.i * size_of c.args.kind = mul-le-mul_right (size_of c.args.kind) c.loop-i-test.false in
    let long : length c.loop-i.into ≤ c.loop-i.i * size_of c.args.kind = omega (arith, over, c.requires.room, c.loop-i.auto.into) in
    sym (take_all (c.loop-i.i * size_of c.args.kind) c.loop-i.into long)
    ∙ c.loop-i.invariant
    ∙ ap (λ xs. packed c.args.kind (map g.T.Kept.told xs)) (take_all c.loop-i.i c.args.words.now c.loop-i-test.false)

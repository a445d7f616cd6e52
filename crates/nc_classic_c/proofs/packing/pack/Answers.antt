-- The values are all in the range, or the first one is told that is not.
use Rattle.nc_classic_c.proofs.Words.{length, sym, arith, nat_tests, length-map}
use Rattle.nc_classic_c.proofs.ValueLaws.{words_fit, words_refused}
use Rattle.nc_classic_c.proofs.packing.pack.Goals as goal

pub put_all-requires-clause-fit : goal.put_all-requires-clause-fit
put_all-requires-clause-fit g c = words_fit c.args.kind g.T.Kept.told c.args.words.now (sym c.in-None.ensures)

pub returns-in-Some-clause-refused : goal.returns-in-Some-clause-refused
returns-in-Some-clause-refused g c =
    grind (arith, nat_tests, words_refused c.args.kind g.T.Kept.told c.args.words.now (length c.args.into.now) c.in-Some.number, c.in-Some.ensures)

pub returns-in-None-clause-packed : goal.returns-in-None-clause-packed
returns-in-None-clause-packed g c = grind (arith, nat_tests, words_fit, length-map, c.in-None.ensures, c.put_all.ensures)

-- The lists stand for all slabs.
use Rattle.redef_mover.proofs.Words.{arith, Slabs, nat_tests}
use Rattle.redef_mover.proofs.ListedLaws.{listed_is, steps_are}
use Rattle.redef_mover.proofs.slabs.Slabs.new.Goals as goal

pub returns : goal.returns
returns c =
    let slabs : Slabs = record { fixed = c.in_ok-fixed.fixed; records = c.in_ok-records.records; count = c.record_count-count.result; step = record { old = c.recsize.result; new = c.recsize-2.result } } in
    grind (arith, nat_tests, listed_is c.args.old.now c.args.new.now slabs c.in_ok-fixed.ensures c.in_ok-records.ensures, steps_are c.args.old.now c.args.new.now slabs c.requires.risen.0 c.requires.risen.1, c.record_count-count.ensures.none, c.deref.ensures.value, c.record_count-count.ensures.some, c.recsize.ensures.value, c.recsize-2.ensures.value, c.requires.risen.2, c.requires.short)

-- One domain after another.
use Rattle.nc_classic_c.proofs.Words.{◌+◌, refl, arith, length-map, windows_left, spans_ascend, spans, shown, map, nat_tests}
use Rattle.nc_classic_c.proofs.Filling.{laid_whole, part_laid}
use Rattle.nc_classic_c.proofs.WindowLaws.{all_windows, divided, next_windows, no_windows, windows_few_in_all, windows_from}
use Rattle.nc_classic_c.proofs.windows.lay_domains.Goals as goal

pub loop-number-init : goal.loop-number-init
loop-number-init c = record { laid = refl; many = omega arith }

pub cut-domain-requires : goal.cut-domain-requires
cut-domain-requires c = grind (arith, nat_tests, divided, c.requires.order, c.requires.limit, c.loop-number-test.true)

pub windows-walk-requires : goal.windows-walk-requires
windows-walk-requires c = record { cover = c.requires.cover; ends = c.requires.ends; size = (divided c.args.division.now c.requires.division).buffer }

pub lay_windows-total-requires : goal.lay_windows-total-requires
lay_windows-total-requires c =
    let asc = spans_ascend c.args.cover.now c.requires.cover in
    let next = next_windows c.args.division.now c.args.reach.lo c.args.reach.hi c.args.cover.now c.cut-domain.result c.loop-number.number (windows_left c.windows-walk.result)
    c.loop-number-test.true asc c.requires.begin c.requires.end c.cut-domain.ensures.bytes c.windows-walk.ensures.windows in
    grind (arith, nat_tests, windows_few_in_all, divided, c.requires.end, c.windows-walk.ensures.ready, c.loop-number.invariant.many, c.requires.limit)

pub loop-number-preserved : goal.loop-number-preserved
loop-number-preserved c =
    let left = windows_left c.windows-walk.result in
    let next = next_windows c.args.division.now c.args.reach.lo c.args.reach.hi c.args.cover.now c.cut-domain.result c.loop-number.number left c.loop-number-test.true
    (spans_ascend c.args.cover.now c.requires.cover) c.requires.begin c.requires.end c.cut-domain.ensures.bytes c.windows-walk.ensures.windows in
    record {
      laid = part_laid c.args.from c.loop-number.total c.lay_windows-total.result c.loop-number.into c.lay_windows-total.new.into (map (shown c.loop-number.number) left)
          (windows_from c.args.reach.lo c.args.reach.hi c.args.division.now (spans c.args.cover.now) (c.loop-number.number + 1)) _ _
          (omega (arith, c.lay_windows-total.ensures.next, length-map left (shown c.loop-number.number))) c.lay_windows-total.ensures.laid next.parts c.loop-number.invariant.laid;
      many = omega (arith, c.lay_windows-total.ensures.next, c.loop-number.invariant.many, next.many);
    }

pub returns : goal.returns
returns c =
    grind (arith, nat_tests, no_windows, all_windows, laid_whole, c.loop-number-test.false, c.requires.end, c.loop-number.invariant.laid, c.loop-number.invariant.many)

-- The bytes between the two borders.
use Rattle.file_domains.proofs.Words.{◌≡◌, ℕ, ◌+◌, ◌-◌, ◌^◌, ap, arith, low_of, share_of}
use Rattle.file_domains.proofs.DomainBytes.{in_cut, multiple_is}
use Rattle.file_domains.proofs.domain.cut.Goals as goal

pub returns-clause-begin : goal.returns-clause-begin
returns-clause-begin c =
    let share : c.share_of_each-share.result ≡ share_of c.args.lo c.args.hi c.args.aggregators c.args.unit = cc in
    let m = multiple_is (low_of c.args.lo c.args.unit) c.share_of_each-share.result (share_of c.args.lo c.args.hi c.args.aggregators c.args.unit)
    c.from-number.result c.args.a c.multiple_from.result (2 ^ 64 - 1) c.multiple_from.ensures share c.from-number.ensures in
    omega (arith, m)

pub returns-clause-end : goal.returns-clause-end
returns-clause-end c =
    let share : c.share_of_each-share.result ≡ share_of c.args.lo c.args.hi c.args.aggregators c.args.unit = cc in
    let next = ap (λ (n : ℕ). n + 1) c.from-number.ensures in
    let m = multiple_is (low_of c.args.lo c.args.unit) c.share_of_each-share.result (share_of c.args.lo c.args.hi c.args.aggregators c.args.unit)
    (c.from-number.result + 1) (c.args.a + 1) c.multiple_from-2.result (2 ^ 64 - 1) c.multiple_from-2.ensures share next in
    let b = returns-clause-begin c in
    omega (arith, m)

pub returns-clause-bytes : goal.returns-clause-bytes
returns-clause-bytes c =
    let b = returns-clause-begin c in
    let e = returns-clause-end c in
    in_cut c.args.lo c.args.hi (low_of c.args.lo c.args.unit) (share_of c.args.lo c.args.hi c.args.aggregators c.args.unit) c.args.a
    c.min-at.result c.min-end.result (omega arith) (omega arith) b (omega arith)

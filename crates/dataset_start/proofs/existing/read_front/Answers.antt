use Rattle.dataset_start.proofs.Words.{◌≡◌, ◌-◌, ◌^◌, min, ℕ, List, take, drop, length, sym, subst, arith, rules, IfSome, with_items, with_items_is, front, nat_tests}
use Rattle.dataset_start.proofs.Opened.{empty_front, read_front}
use Rattle.dataset_start.proofs.existing.read_front.Goals as goal

pub returns-clause-bytes : goal.returns-clause-bytes
returns-clause-bytes g c =
    let back : (with_items c.in_ok-bytes.bytes c.read_at.new.into).items ≡ c.read_at.new.into = with_items_is c.in_ok-bytes.bytes _ (search rules) in
    let len : length c.deref_mut.result.now ≡ min (g.D.Disk.len c.args.disk.now) (2 ^ 20) = search rules in
    let place : 0 - g.D.Disk.from c.args.disk.now ≡ 0 = omega arith in
    subst (λ (t : List ℕ). IfSome (g.D.Disk.held c.args.disk.now) (λ file. t ≡ front file)) (sym back)
    (read_front (g.D.Disk.held c.args.disk.now) (g.D.Disk.len c.args.disk.now) (length c.deref_mut.result.now) c.read_at.new.into (g.D.Disk.told c.args.disk.now) len
    (subst (λ (x : ℕ). IfSome (g.D.Disk.held c.args.disk.now) (λ bytes. c.read_at.new.into ≡ take (length c.deref_mut.result.now) (drop x bytes))) place c.in_ok-read_at.ensures.read))

pub returns-then-len-eq0-clause-bytes : goal.returns-then-len-eq0-clause-bytes
returns-then-len-eq0-clause-bytes g c =
    grind (arith, nat_tests, empty_front (g.D.Disk.held c.args.disk.now) (g.D.Disk.len c.args.disk.now) (g.D.Disk.told c.args.disk.now))

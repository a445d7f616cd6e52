-- One share more is cut: its domain, where it has a byte.
use Rattle.collective_round.proofs.Words.{◌≡◌, ◌+◌, arith, low_of, share_of, bytes_in, nat_tests}
use Rattle.collective_round.proofs.DomainCuts.{cut_domains, cut_more, cut_none, cut_windows, ends_below, last_border, share_bytes, within_reach}
use Rattle.collective_round.proofs.DomainSteps.{domain_is, in_range_hints}
use Rattle.collective_round.proofs.parts.domains_of.Goals as goal

pub cut-domain-requires : goal.cut-domain-requires
cut-domain-requires c = grind (arith, nat_tests, in_range_hints, c.reach_of-reach.ensures.limit, c.loop-a-test.true)

pub loop-a-preserved : goal.loop-a-preserved
loop-a-preserved c =
    let range = in_range_hints c.args.hints.now c.requires.hints in
    let lo = c.reach_of-reach.result.at in
    let hi = c.reach_of-reach.result.at + c.reach_of-reach.result.len in
    let begin = c.reach_of-reach.ensures.begin in
    let end = c.reach_of-reach.ensures.end in
    let nodes = c.args.hints.now.cb_nodes in
    let unit = c.args.hints.now.striping_unit in
    let size = c.args.hints.now.cb_buffer in
    let cover = c.args.cover.now in
    let domain = c.cut-domain.result in
    let cut = c.loop-a.invariant.0 in
    let bytes : bytes_in domain cover ≡ share_bytes lo hi nodes unit cover c.loop-a.a
    = domain_is cover domain lo hi (low_of lo unit) (share_of lo hi nodes unit) c.loop-a.a c.cut-domain.ensures.bytes
    (λ x m. let reach = (within_reach cover x c.requires.cover m).0 in omega arith)
    (λ x m. let reach = (within_reach cover x c.requires.cover m).1 in omega arith) in
    grind (arith, nat_tests, cut_more lo hi nodes unit size cover c.loop-a.a c.loop-a.domains.items domain cut c.cut-domain.ensures.begin, cut_none lo hi nodes unit size cover c.loop-a.a c.loop-a.domains.items domain range.buffer.0 cut, c.cut-domain.ensures.end, c.loop-a.invariant.1)

pub returns : goal.returns
returns c =
    let range = in_range_hints c.args.hints.now c.requires.hints in
    let lo = c.reach_of-reach.result.at in
    let hi = c.reach_of-reach.result.at + c.reach_of-reach.result.len in
    let nodes = c.args.hints.now.cb_nodes in
    let unit = c.args.hints.now.striping_unit in
    let size = c.args.hints.now.cb_buffer in
    let domains = c.loop-a.domains.items in
    let begin = c.reach_of-reach.ensures.begin in
    let end = c.reach_of-reach.ensures.end in
    let last : c.loop-a.a ≡ nodes = (let over = c.loop-a-test.false in let within = c.loop-a.auto.a-end in omega arith) in
    grind (arith, nat_tests, cut_domains lo hi nodes unit size c.args.cover.now domains, ends_below domains lo hi, last_border lo hi nodes unit, cut_windows c.args.hints.now lo hi c.args.cover.now domains c.requires.hints c.requires.cover begin end, c.loop-a.invariant.0, c.reach_of-reach.ensures.limit)

-- The windows of the domains are those of the model.
use Rattle.collective_round.proofs.Words.{◌≡◌, ◌∙◌, ℕ, ap, subst, List, length, map, rules, arith, common_steps, flat_map, Extent, HaveSame, collective_windows, cover_in_order, ranges, spans, told_of, turns_of}
use Rattle.collective_round.proofs.PutLaws.{cover_ends}
use Rattle.collective_round.proofs.rounds.divide.Goals as goal

pub domains_of-requires-clause-ends : goal.domains_of-requires-clause-ends
domains_of-requires-clause-ends c =
    rw c.as_slice-2.ensures (cover_ends c.in_ok-cover.cover c.args.list.now c.in_ok-cover.ensures.apart (rw c.as_slice.ensures at c.in_ok-cover.ensures.bytes) c.requires.sorted.ends)

pub returns : goal.returns
returns c =
    let hints = c.args.hints.now in
    let cover = c.in_ok-cover.cover in
    let domains = c.in_ok-domains.domains.items in
    let many : c.in_ok-domains.domains.len ≡ length domains = first_of (search rules, grind (arith, common_steps)) in
    let bytes : HaveSame (spans cover) (ranges c.args.list.now) = rw c.as_slice.ensures at c.in_ok-cover.ensures.bytes in
    record {
      covers = c.in_ok-cover.ensures.apart;
      bytes = bytes;
      few = omega (arith, many, c.in_ok-domains.ensures.few);
      div = rw c.as_slice-2.ensures at c.in_ok-domains.ensures.domains;
      windows = subst (λ (es : List Extent). flat_map (λ d. turns_of hints.cb_buffer d es) domains ≡ map told_of (collective_windows hints (spans es))) c.as_slice-2.ensures c.in_ok-domains.ensures.windows
          ∙ ap (λ (bytes : List ℕ). map told_of (collective_windows hints bytes)) (cover_in_order cover (ranges c.args.list.now) c.in_ok-cover.ensures.apart bytes);
    }

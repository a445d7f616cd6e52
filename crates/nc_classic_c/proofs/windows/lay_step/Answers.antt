-- The cover has the bytes that are asked for.
use Rattle.nc_classic_c.proofs.Words.{◌≡◌, ◌∙◌, ℕ, List, length, drop, sym, ap, Extent, NcvExtent, Division, NcvWindow, first_of, spans, end_of, filled, bytes_asked, step_windows, AreWindows, arith, nat_tests}
use Rattle.nc_classic_c.proofs.windows.lay_step.Goals as goal

-- what is told of a step is that of its bytes
step_told : (d : Division) (asked : List NcvExtent) (from : ℕ) (old new : List NcvWindow) (bytes : List ℕ) (lo hi n : ℕ) → bytes ≡ bytes_asked asked → lo ≡ first_of bytes → hi ≡ end_of bytes
    → new ≡ filled old (drop from (step_windows d bytes)) → n ≡ length (step_windows d bytes) → AreWindows d asked from old new (record { lo = lo; hi = hi; windows = n })
step_told d asked from old new bytes lo hi n e p q f r = grind (arith, nat_tests)

pub returns-clause-ok : goal.returns-clause-ok
returns-clause-ok c =
    let same = c.as_slice.ensures ∙ sym c.as_slice-2.ensures in
    step_told c.args.division.now c.args.asked.now c.args.from c.args.into.now c.lay_domains.new.into (spans c.as_slice-2.result.now)
    c.reach_of-reach.result.lo c.reach_of-reach.result.hi c.lay_domains.result
    (ap (λ (es : List Extent). spans es) c.as_slice-2.ensures ∙ c.in_ok-cover.ensures.bytes)
    (c.reach_of-reach.ensures.begin ∙ ap (λ (es : List Extent). first_of (spans es)) same)
    (c.reach_of-reach.ensures.end ∙ ap (λ (es : List Extent). end_of (spans es)) same)
    c.lay_domains.ensures.laid c.lay_domains.ensures.total

-- Each cut goes into the list of its rank, and each list into a message.
use Rattle.put_exchange.proofs.Words.{◌≡◌, ◌∙◌, ℕ, List, [], Vec, Global, ap, length, map, rules, arith, common_steps, range_with_len, came_back, told_window, Batch, Job, binned, cuts_by, Cut, nat_tests}
use Rattle.put_exchange.proofs.PackLaws.{bins_long}
use Rattle.put_exchange.proofs.packing.messages_of.Goals as goal

pub fill_bins-requires : goal.fill_bins-requires
fill_bins-requires c =
    grind (arith, nat_tests, bins_long, c.as_slice-batches.ensures, c.job.ensures, c.in_ok-bins.ensures, c.as_mut_slice.ensures.value, c.requires.pieces, c.requires.below)

pub with_bins-requires-clause-bins : goal.with_bins-requires-clause-bins
with_bins-requires-clause-bins c =
    let batches : c.as_slice-batches.result.now ≡ c.args.job.now.batches = c.as_slice-batches.ensures ∙ ap (λ (j : Job). j.batches) c.job.ensures in
    let ranks = ap (λ (bs : List Batch). length bs) batches in
    let long = bins_long (λ r. []) (length c.as_slice-batches.result.now) c.in_ok-bins.bins.items c.in_ok-bins.ensures in
    let lent = ap (λ (bins : List (Vec Cut Global)). length bins) c.as_mut_slice.ensures.value in
    let n : c.in_ok-bins.bins.len ≡ length c.in_ok-bins.bins.items = first_of (search rules, grind (arith, common_steps)) in
    ap (λ (bins : List (Vec Cut Global)). binned bins) (came_back _ c.fill_bins.new.bins c.as_mut_slice.result.now c.in_ok-bins.bins.items n c.as_mut_slice.ensures.value c.fill_bins.auto.bins)
    ∙ c.in_ok-fill_bins.ensures
    ∙ ap (λ (k : ℕ). map (λ r. cuts_by (told_window c.args.turn.now.window) c.args.turn.now.entries.now r) (range_with_len 0 k)) (lent ∙ long ∙ ranks)

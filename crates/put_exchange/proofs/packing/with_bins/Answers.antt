-- One rank more.
use Rattle.put_exchange.proofs.Words.{ℕ, ◌≡◌, ◌<◌, ◌∙◌, ◌++◌, ◌∷◌, [], List, ap, sym, length, append_assoc, arith, rules, common_steps, slice_get_within, middle_at, told_window, cuts_by, Cut, nat_tests}
use Rattle.put_exchange.proofs.PackLaws.{bin_is, bins_long, cuts_are, messages_push}
use Rattle.put_exchange.proofs.packing.with_bins.Goals as goal

pub add_message-requires : goal.add_message-requires
add_message-requires c =
    let batches = c.args.job.now.batches in
    let list = c.args.turn.now.entries.now in
    let t = told_window c.args.turn.now.window in
    let bins = c.args.bins.items in
    let f : ℕ → List Cut = λ r. cuts_by t list r in
    let middle = ap (λ v. c.loop-cuts.yielded ++ v) (sym c.in-Some.ensures.steps.0) ∙ c.loop-cuts.invariant.all in
    let here = middle_at c.loop-cuts.yielded _ bins c.in-Some.cuts middle in
    let low : length c.loop-cuts.yielded < length bins = slice_get_within bins (length c.loop-cuts.yielded) c.in-Some.cuts here in
    grind (arith, nat_tests, bins_long f (length batches) bins c.requires.bins, bin_is f (length batches) (length c.loop-cuts.yielded) bins c.in-Some.cuts c.requires.bins here, cuts_are batches t c.loop-cuts.rank list c.requires.pieces, c.loop-cuts.invariant.many)

pub overflow_add-rank : goal.overflow_add-rank
overflow_add-rank c =
    let t = told_window c.args.turn.now.window in
    let bins = c.args.bins.items in
    let middle = ap (λ v. c.loop-cuts.yielded ++ v) (sym c.in-Some.ensures.steps.0) ∙ c.loop-cuts.invariant.all in
    let here = middle_at c.loop-cuts.yielded _ bins c.in-Some.cuts middle in
    let low : length c.loop-cuts.yielded < length bins = slice_get_within bins (length c.loop-cuts.yielded) c.in-Some.cuts here in
    omega (arith, bins_long (λ r. cuts_by t c.args.turn.now.entries.now r) (length c.args.job.now.batches) bins c.requires.bins, c.loop-cuts.invariant.many, c.requires.few)

pub loop-cuts-preserved : goal.loop-cuts-preserved
loop-cuts-preserved c =
    let batches = c.args.job.now.batches in
    let list = c.args.turn.now.entries.now in
    let t = told_window c.args.turn.now.window in
    let bins = c.args.bins.items in
    let f : ℕ → List Cut = λ r. cuts_by t list r in
    let middle = ap (λ v. c.loop-cuts.yielded ++ v) (sym c.in-Some.ensures.steps.0) ∙ c.loop-cuts.invariant.all in
    let here = middle_at c.loop-cuts.yielded _ bins c.in-Some.cuts middle in
    let many = c.loop-cuts.invariant.many in
    let own = bin_is f (length batches) (length c.loop-cuts.yielded) bins c.in-Some.cuts c.requires.bins here ∙ ap f (sym many) in
    record {
      all = append_assoc c.loop-cuts.yielded (c.in-Some.cuts ∷ []) _ ∙ middle;
      many = first_of (search rules, grind (arith, common_steps));
      messages = messages_push batches list t c.loop-cuts.rank c.add_message.new.messages.items c.loop-cuts.messages.items c.in-Some.cuts.items own c.loop-cuts.invariant.messages c.in_ok-add_message.ensures;
    }

pub returns : goal.returns
returns c =
    let t = told_window c.args.turn.now.window in
    let whole : c.loop-cuts.yielded ≡ c.args.bins.items = first_of (search rules, grind (arith, common_steps)) in
    grind (arith, nat_tests, bins_long, c.requires.bins, c.loop-cuts.invariant.many, c.loop-cuts.invariant.messages)

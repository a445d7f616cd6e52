-- The boxes of a range are those of its rows.
use Rattle.fill_records.proofs.Words.{boxes, on_ok_weaker}
use Rattle.fill_records.proofs.CutLaws.{found_none, found_row, found_rows, found_counts}
use Rattle.fill_records.proofs.box_parts.Cutter.+cutting.Goals as goal

pub cut-returns-then-from-to-clause-found : goal.cut-returns-then-from-to-clause-found
cut-returns-then-from-to-clause-found t c =
    found_none c.args.self.now.row.items c.args.counts.now c.args.from c.args.to c.args.self.now.found c.if-from-to.true

pub cut-returns-in-len1-up-clause-found : goal.cut-returns-in-len1-up-clause-found
cut-returns-in-len1-up-clause-found t c =
    on_ok_weaker c.cut_rows.result
    (found_counts c.args.self.now.row.items c.args.counts.now c.args.from c.args.to c.args.self.now.found c.cut_rows.new.self.found c.in-len1-up.len_at_least)
    c.cut_rows.ensures.found

pub cut_row-returns-clause-found : goal.cut_row-returns-clause-found
cut_row-returns-clause-found t c =
    found_row c.args.self.now.row.items c.push.new.self.items c.args.index (boxes c.args.counts.now c.args.from c.args.to) c.args.self.now.found c.cut.new.self.found
    c.in_ok-push.ensures.items c.in_ok-cut.ensures.found

pub cut_rows-returns-clause-found : goal.cut_rows-returns-clause-found
cut_rows-returns-clause-found t c =
    on_ok_weaker c.cut_row-2.result
    (λ f n. found_rows c.args.self.now.row.items c.cut_before.new.self.row.items c.args.counts.now n c.args.size c.args.from c.args.to c.args.self.now.found c.cut_before.new.self.found
    c.cut_row-2.new.self.found c.requires.size c.if-first-last.false c.in_ok-cut_before.ensures.row c.in_ok-cut_before.ensures.found f)
    c.cut_row-2.ensures.found

-- One more reply is put.
use Rattle.file_owner.proofs.Words.{◌∙◌, ◌∷◌, [], sym, ap, arith, length, List, ℕ, Option, None, Some, length-set, Reply, replies, reply_of, slice_get-get_or, left_more}
use Rattle.file_owner.proofs.PutLaws.{all_below, put_below}
use Rattle.file_owner.proofs.steps.reply_all.Goals as goal

pub loop-number-preserved : goal.loop-number-preserved
loop-number-preserved g c =
    let i = c.loop-number.number in
    let test = c.loop-number-test.true in
    let long = c.loop-number.invariant.long in
    let rows = ap (λ (t : List (List (List ℕ))). length t) c.into_vec-table.ensures in
    let end = c.len-number-end.ensures in
    let row = slice_get-get_or c.loop-number.table.items i c.index_mut.result.now (omega arith) in
    let its = sym (c.loop-number.invariant.blobs i (omega arith)) ∙ row in
    record {
      lines = put_below c.args.back.now c.loop-number.back c.put_on.new.self i (replies c.args.pair c.args.records c.args.table) (Reply (reply_of c.args.pair c.args.records c.take-got.result)) c.loop-number.invariant.lines
          (ap (λ (m : Option (List (List ℕ))). elim m [ None ↦ [] | Some got ↦ Reply (reply_of c.args.pair c.args.records got) ∷ [] ]) its
          ∙ ap (λ (got : List (List ℕ)). Reply (reply_of c.args.pair c.args.records got) ∷ []) (sym (c.take-got.ensures.taken ∙ c.index_mut.ensures.value)))
          c.put_on.ensures.here c.put_on.ensures.others c.put_on.ensures.len;
      long = length-set c.loop-number.table.items i c.take-got.new.self ∙ c.loop-number.invariant.long;
      blobs = left_more c.args.table c.loop-number.table.items i c.take-got.new.self c.loop-number.invariant.blobs;
    }

pub returns : goal.returns
returns g c =
    let rows = ap (λ (t : List (List (List ℕ))). length t) c.into_vec-table.ensures in
    let lines = c.requires in
    let end = c.loop-number-test.false in
    let number = c.len-number-end.ensures in
    all_below c.args.back.now c.loop-number.back c.loop-number.number (replies c.args.pair c.args.records c.args.table) c.loop-number.invariant.lines (omega arith)

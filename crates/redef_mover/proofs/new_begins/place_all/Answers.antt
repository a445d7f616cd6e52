use Rattle.redef_mover.proofs.Words.{ℕ, ◌+◌, ◌∙◌, ap, header_len, begins_before, vsize, by_begin, fixed_order, front_after, first_record, capped, Old, records_at, vsizes}
use Rattle.redef_laws.proofs.Orders.{sorted_sum}
use Rattle.redef_mover.proofs.Places.{placed_all}
use Rattle.redef_mover.proofs.new_begins.place_all.Goals as goal

pub returns : goal.returns
returns c =
    let header = c.args.header.now in
    let n = c.args.n in
    let front = front_after header (header_len header) (fixed_order header n) in
    let first = first_record front c.least_begin-least.result in
    let records = records_at header n Old in
    let fixed = c.in_ok-front.ensures.placed header (fixed_order header n) (header_len header) (c.as_slice.ensures ∙ c.in_ok-fixed.ensures) c.requires in
    let old = c.in_ok-end.ensures header (by_begin records) first (c.as_slice-2.ensures ∙ c.in_ok-records.ensures) (c.first_record-first.ensures front fixed.1) in
    let new = c.in_ok-place_new_records.ensures (first + vsizes header records) (old.1 ∙ ap (λ (i : ℕ). capped (first + i)) (sorted_sum begins_before (λ v. vsize header v.1) records)) in
    placed_all header n c.in_ok-places.places c.place_fixed.new.places c.place_old_records.new.places c.place_new_records.new.places c.least_begin-least.result c.unwrap_or.result
    c.in_ok-places.ensures c.least_begin-least.ensures c.unwrap_or.ensures fixed.0 old.0 new

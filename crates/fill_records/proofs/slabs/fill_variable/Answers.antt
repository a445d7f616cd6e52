-- What is written of a variable is its filling.
use Rattle.fill_records.proofs.Words.{◌≡◌, ◌∙◌, sym, false, arith, if_some_at, written, fill_bytes, header_len, is_record, slab, sound_end, if_there, no_calls, nat_tests}
use Rattle.fill_records.proofs.TornLaws.{whole_same}
use Rattle.fill_records.proofs.VariableLaws.{got, room_long, fixed_end, record_kept, fixed_filled, record_stores, fixed_stores}
use Rattle.fill_records.proofs.WindowLaws.{told_begin, told_end, for_told}
use Rattle.fill_records.proofs.slabs.fill_variable.Goals as goal

pub returns-then-is_record-clause-bytes : goal.returns-then-is_record-clause-bytes
returns-then-is_record-clause-bytes g c =
    let own = got _ _ c.args.var _ c.as_slice.ensures c.requires.there c.index-as_slice-var.is in
    grind (arith, nat_tests, if_there, told_begin, for_told, record_kept, c.is_record.ensures, c.if-is_record.true, g.D.Disk.told)

pub returns-then-is_record-clause-calls : goal.returns-then-is_record-clause-calls
returns-then-is_record-clause-calls g c =
    grind (arith, nat_tests, got, if_there, no_calls, record_stores, c.as_slice.ensures, c.requires.there, c.index-as_slice-var.is, c.is_record.ensures, c.if-is_record.true)

pub fill_value-requires-clause-size : goal.fill_value-requires-clause-size
fill_value-requires-clause-size g c = grind (arith, nat_tests, if_there, got, room_long, c.as_slice.ensures, c.requires.there, c.index-as_slice-var.is)

pub write_value-requires-clause-long : goal.write_value-requires-clause-long
write_value-requires-clause-long g c κs within =
    let header = c.args.header.now in
    grind (arith, nat_tests, got, fixed_end, if_some_at, c.as_slice.ensures, c.requires.there, c.index-as_slice-var.is, c.is_record.ensures, c.if-is_record.false, c.slab.ensures.value, c.requires.long)

pub write_value-requires-clause-end : goal.write_value-requires-clause-end
write_value-requires-clause-end g c κs within =
    let header = c.args.header.now in
    grind (arith, nat_tests, got, fixed_end, if_some_at, sound_end, c.as_slice.ensures, c.requires.there, c.index-as_slice-var.is, c.is_record.ensures, c.if-is_record.false, c.slab.ensures.value)

pub returns : goal.returns
returns g c =
    let header = c.args.header.now in
    let v = c.index-as_slice-var.result in
    let held = g.D.Disk.held c.args.disk.now in
    let own = got _ _ c.args.var v c.as_slice.ensures c.requires.there c.index-as_slice-var.is in
    let fixed : is_record header v ≡ false = sym c.is_record.ensures ∙ c.if-is_record.false in
    let end = fixed_end header (header_len header) c.args.var v own fixed in
    let same : c.slab.result ≡ slab header v = if_some_at (λ w. c.slab.result ≡ slab header w) _ _ own c.slab.ensures.value in
    let value : c.fill_value.new.into ≡ fill_bytes v = if_some_at (λ w. c.fill_value.new.into ≡ fill_bytes w) _ _ own c.fill_value.ensures in
    let long = c.requires.long in
    let fills = for_told held
    (λ file e. fixed_filled header v c.fill_value.new.into file c.slab.result fixed value (c.fill_value.auto.into ∙ room_long v.kind c.size_of.result c.size_of.ensures) same (omega arith))
    (g.D.Disk.told c.args.disk.now) in
    grind (arith, nat_tests, if_there, told_end, whole_same held (g.D.Disk.held c.write_value.new.disk), written, fixed_stores c.args.size header v c.slab.result fixed same, c.write_value.ensures.bytes, c.write_value.ensures.refused, c.write_value.ensures.calls, c.write_value.ensures.from, c.write_value.ensures.len, c.write_value.ensures.cause)

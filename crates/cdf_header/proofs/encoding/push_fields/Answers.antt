use Rattle.cdf_header.proofs.Words.{on_ok_weaker}
use Rattle.cdf_header.proofs.Parts.{attrs_ready, dims_ready, records_fit, vars_ready}
use Rattle.cdf_header.proofs.Writing.{fields_written}
use Rattle.cdf_header.proofs.encoding.push_fields.Goals as goal

pub push_count-requires : goal.push_count-requires
push_count-requires c = records_fit c.args.header.now c.requires

pub push_list-requires : goal.push_list-requires
push_list-requires c = rw c.as_slice.ensures (dims_ready c.args.header.now c.requires)

pub push_list-requires-2 : goal.push_list-requires-2
push_list-requires-2 c = rw c.as_slice-2.ensures (attrs_ready c.args.header.now c.requires)

pub push_list-requires-3 : goal.push_list-requires-3
push_list-requires-3 c = rw c.as_slice-3.ensures (vars_ready c.args.header.now c.requires)

pub returns : goal.returns
returns c =
    let dims = rw c.as_slice.ensures at c.in_ok-push_list.ensures in
    let attrs = rw c.as_slice-2.ensures at c.in_ok-push_list-2.ensures in
    on_ok_weaker c.push_list-3.result
    (λ e. fields_written c.args.header.now _ _ _ _ _ _ c.in_ok-extend_from_slice.ensures.items c.in_ok-push_count.ensures dims attrs e)
    (rw c.as_slice-3.ensures at c.push_list-3.ensures)

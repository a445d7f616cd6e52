use Rattle.script_definitions.proofs.Words.{◌≡◌, ◌∙◌, ℕ, ap, flat_map, arith, range_with_len, count_of, ext_of, value_at}
use Rattle.script_definitions.proofs.ListLaws.{bytes_more, bytes_of_all}
use Rattle.script_definitions.proofs.attributes.external_bytes.Goals as goal

pub loop-k-preserved : goal.loop-k-preserved
loop-k-preserved c = bytes_more c.args.kind c.args.values.now c.loop-k.bytes.items c.push_value.new.bytes.items c.loop-k.k c.loop-k.invariant c.in_ok-push_value.ensures

pub returns : goal.returns
returns c =
    let values = c.args.values.now in
    let whole : c.loop-k.k ≡ count_of values = omega (arith, c.len-count.ensures) in
    c.loop-k.invariant ∙ ap (λ (n : ℕ). flat_map (λ k. ext_of c.args.kind (value_at values k)) (range_with_len 0 n)) whole ∙ bytes_of_all c.args.kind values

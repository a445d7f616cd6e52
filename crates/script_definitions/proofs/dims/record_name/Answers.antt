use Rattle.script_definitions.proofs.Words.{option_map}
use Rattle.script_definitions.proofs.DimLaws.{record_pushed}
use Rattle.script_definitions.proofs.dims.record_name.Goals as goal

pub returns-then-len-eq0 : goal.returns-then-len-eq0
returns-then-len-eq0 c = λ dims known one.
    let zero = c.if-len-eq0.true in
    record_pushed (option_map (λ n. n.now) c.args.known) dims (record { name = c.args.name.now; len = c.args.len }) known (one zero) zero

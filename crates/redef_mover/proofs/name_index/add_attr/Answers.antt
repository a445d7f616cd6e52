use Rattle.redef_mover.proofs.IndexLaws.{name_put}
use Rattle.redef_mover.proofs.name_index.add_attr.Goals as goal

pub returns : goal.returns
returns c = name_put c.args.names.now c.insert.new.self c.args.owner c.args.name c.in_ok-insert.ensures.updates

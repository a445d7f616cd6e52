use Rattle.plan_cli.proofs.Words.{writable_is_sound, kept_created, kept_records, created_long}
use Rattle.plan_cli.proofs.OpeningLaws.{created}
use Rattle.plan_cli.proofs.fresh.create.Goals as goal

pub open_fresh-requires-clause-sound : goal.open_fresh-requires-clause-sound
open_fresh-requires-clause-sound c = writable_is_sound c.in_ok-header.header c.in_ok-header.ensures.writable

pub returns-in-Ok-clause-opening : goal.returns-in-Ok-clause-opening
returns-in-Ok-clause-opening c = λ held.
    created c.args.script.now c.in_ok-header.header c.in-Ok.opening c.requires.fresh (kept_created c.args.script.now c.requires.kept c.requires.fresh)
    c.in_ok-header.ensures.header (writable_is_sound c.in_ok-header.header c.in_ok-header.ensures.writable) c.in_ok-header.ensures.faultless
    c.in-Ok.ensures.opening held

pub returns-in-Ok-clause-long : goal.returns-in-Ok-clause-long
returns-in-Ok-clause-long c =
    created_long c.args.script.now c.in_ok-header.header c.in-Ok.opening.size (kept_records c.args.script.now c.requires.kept) c.in_ok-header.ensures.header
    c.in-Ok.ensures.size

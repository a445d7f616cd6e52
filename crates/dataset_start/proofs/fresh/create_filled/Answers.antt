use Rattle.dataset_start.proofs.Words.{writable_is_sound, on_err, arith, nat_tests}
use Rattle.dataset_start.proofs.Keeping.{kept_created, kept_hints, kept_records}
use Rattle.dataset_start.proofs.NotReady.{create_refused, fill_refused}
use Rattle.dataset_start.proofs.ReadyLaws.{created_long, ready-created}
use Rattle.dataset_start.proofs.fresh.create_filled.Goals as goal

pub fill-requires-clause-sound : goal.fill-requires-clause-sound
fill-requires-clause-sound g c = λ _ _. writable_is_sound c.args.header.now c.requires.writable

pub fill-requires-clause-hints : goal.fill-requires-clause-hints
fill-requires-clause-hints g c = λ _ _. kept_hints c.args.script.now c.requires.kept

pub returns-clause-ready : goal.returns-clause-ready
returns-clause-ready g c =
    ready-created c.args.script.now c.args.header.now _ (g.D.Disk.held c.create.new.disk) _ _ (g.D.Disk.calls c.create.new.disk) _ c.requires.fresh
    (kept_created c.args.script.now c.requires.kept c.requires.fresh) c.requires.laid (writable_is_sound c.args.header.now c.requires.writable) c.requires.faultless
    c.in_ok-create.ensures.bytes c.in_ok-fill.ensures.bytes c.in_ok-create.ensures.calls c.in_ok-fill.ensures.calls

pub returns-clause-len : goal.returns-clause-len
returns-clause-len g c = grind (arith, nat_tests, created_long, kept_records, c.requires.laid, c.fill.ensures.len, c.in_ok-create.ensures.len)

-- ---- where it was not made ready

pub returns-in_err-create-clause-refused : goal.returns-in_err-create-clause-refused
returns-in_err-create-clause-refused g c =
    on_err c.from_residual.result
    (create_refused c.args.script.now c.args.header.now (g.D.Disk.held c.args.disk.now) (g.D.Disk.held c.create.new.disk) c.requires.fresh
    c.requires.faultless c.requires.laid c.in_err-create.ensures.refused)

pub returns-in_err-fill-clause-refused : goal.returns-in_err-fill-clause-refused
returns-in_err-fill-clause-refused g c =
    on_err c.from_residual-in_err-fill.result
    (fill_refused c.args.script.now c.args.header.now (g.D.Disk.held c.args.disk.now) (g.D.Disk.held c.create.new.disk) (g.D.Disk.held c.fill.new.disk) c.requires.fresh
    c.requires.faultless c.requires.laid c.in_ok-create.ensures.bytes c.in_err-fill.ensures.refused)

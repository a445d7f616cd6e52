-- The file, and the ranks at their first offers.
use Rattle.reference.proofs.Words.{refl, length, arith}
use Rattle.reference.proofs.FirstLaws.{first_is, first_stands}
use Rattle.reference.proofs.stand.Stand.first.Goals as goal

pub returns : goal.returns
returns c =
    let script = c.args.script.now in
    let header = c.args.header.now in
    let runners = c.in_ok-runners.runners in
    record {
      first = first_is script header (length script.calls) c.in_ok-file.file.items c.args.bytes.now runners.items (omega arith) c.in_ok-runners.ensures c.in_ok-file.ensures.items;
      stands = first_stands script header (length script.calls) (record { file = c.in_ok-file.file; records = header.records; runners = runners }) c.requires.sound c.requires.lawful refl
          c.in_ok-runners.ensures refl;
    }

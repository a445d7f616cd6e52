-- The dataset grows to its end, its header is written, and then its fill values.
use Rattle.opening_plan.proofs.Words.{arith, header_len, sound_end, header_short, nat_tests}
use Rattle.opening_plan.proofs.OpeningLaws.{created_all, created_calls, created_size}
use Rattle.opening_plan.proofs.opening.open_fresh.Goals as goal

pub end_of-size-requires-clause-below : goal.end_of-size-requires-clause-below
end_of-size-requires-clause-below c = sound_end c.args.header.now 0 c.requires.sound (omega arith)

pub returns-clause-opening : goal.returns-clause-opening
returns-clause-opening c = λ bytes.
    let script = c.args.script.now in
    grind (arith, nat_tests, header_short, created_calls, created_all, created_size, c.header_len.ensures, c.requires.kept, c.requires.fresh, c.end_of-size.ensures, c.in_ok-push_filling.ensures, c.from_vec.ensures)

-- The file, its count, and what the ranks leave.
use Rattle.reference.proofs.Words.{ℕ, ◌∙◌, ap, List, map, setting, most_known, Runner, arith, nat_tests}
use Rattle.serial_spec.specs.RankMachine as machine
use Rattle.reference.proofs.EndLaws.{closed_is, known_low}
use Rattle.reference.proofs.end.closed.Goals as goal

pub raise-requires : goal.raise-requires
raise-requires c = grind (arith, nat_tests, known_low, c.greatest_known.ensures, c.deref.ensures.value)

pub returns : goal.returns
returns c = λ rule.
    ap (λ (bytes : List ℕ). record { bytes = bytes; records = c.raise.new.records; answers = c.in_ok-answers_of.field-0; pending = c.in_ok-pending.pending }) c.from_vec.ensures
    ∙ closed_is (setting c.args.header.now rule) c.args.stand.runners.items c.args.stand.file.items c.raise.new.file.items c.args.stand.records c.raise.new.records c.greatest_known.result
    c.in_ok-answers_of.field-0 c.in_ok-pending.pending (c.greatest_known.ensures ∙ ap most_known c.deref.ensures.value) c.in_ok-raise.ensures.file c.in_ok-raise.ensures.records
    c.in_ok-answers_of.ensures (c.in_ok-pending.ensures ∙ ap (map (λ (runner : Runner). machine.pending runner.rank.state)) c.deref-2.ensures.value)

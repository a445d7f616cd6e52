-- The puts are those of all ranks, and the step is that of the definition.
use Rattle.reference.proofs.Words.{ℕ, List, ◌∙◌, refl, ap, subst, map, arith, In, needs, told, Puts, reply_to, setting, some_limit, nat_tests}
use Rattle.reference.proofs.MeetSteps.{known_low, meeting_is, needs_low, puts_right, Done}
use Rattle.reference.proofs.meetings.meeting.Goals as goal

pub told-requires-clause-accepted : goal.told-requires-clause-accepted
told-requires-clause-accepted c = λ p m.
    (puts_right c.args.header.now 0 c.args.offers.now p c.requires.right (subst (λ (ps : Puts). In ps p) (c.as_slice.ensures.value ∙ c.in_ok-puts.ensures) m)).accepted

pub do_puts-requires-clause-right : goal.do_puts-requires-clause-right
do_puts-requires-clause-right c = λ p m.
    puts_right c.args.header.now 0 c.args.offers.now p c.requires.right (subst (λ (ps : Puts). In ps p) (c.as_slice-2.ensures.value ∙ c.in_ok-puts.ensures) m)

pub raise-requires : goal.raise-requires
raise-requires c =
    let s = setting c.args.header.now c.args.overlap in
    let needed = needs_low s c.as_slice-2.result.now c.in_ok-pair.pair
    (λ p m. puts_right c.args.header.now 0 c.args.offers.now p c.requires.right (subst (λ (ps : Puts). In ps p) (c.as_slice-2.ensures.value ∙ c.in_ok-puts.ensures) m)) in
    grind (arith, nat_tests, known_low c.args.offers.now, some_limit c.args.header.now.version, c.in_ok-needed.ensures.needs, c.requires.known, c.known_of.ensures, c.max.ensures)

pub returns : goal.returns
returns c =
    let s = setting c.args.header.now c.args.overlap in
    let done : Done s c.args.offers.now c.args.file.now.items c.do_puts.new.file.items c.in_ok-needed.needed c.known_of.result c.in_ok-puts.puts.items c.in_ok-pair.pair = grind (arith, nat_tests, told, c.in_ok-puts.ensures, c.in_ok-pair.ensures, c.as_slice.ensures.value, c.in_ok-needed.ensures.file, c.as_slice-2.ensures.value, c.in_ok-needed.ensures.needs, c.known_of.ensures) in
    let is = meeting_is _ _ _ _ c.raise.new.file.items c.args.records.now c.raise.new.records _ _ _ _ _ _ done c.max.ensures c.in_ok-raise.ensures.file c.in_ok-raise.ensures.records
    (c.in_ok-all.ensures s refl ∙ ap (λ (f : List ℕ). map (reply_to s c.in_ok-pair.pair c.raise.new.records f) c.args.offers.now) c.as_slice-3.ensures.value) in
    record { file = is.0; records = is.1; replies = is.2 }

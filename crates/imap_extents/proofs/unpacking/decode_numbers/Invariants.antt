use Rattle.imap_extents.proofs.Cited.{◌≡◌, map, take, Some, val, number_in}
use Rattle.imap_extents.proofs.unpacking.decode_numbers.Given as goal

abbrev pub invariant-loop-form : goal.invariant-loop-form
invariant-loop-form g l = l.numbers ≡ map (λ b. number_in (Some (val l.kind b))) (take l.form-index l.forms)

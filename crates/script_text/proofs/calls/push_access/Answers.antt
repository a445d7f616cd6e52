use Rattle.script_text.proofs.Words.{append_assoc, flat_map-append}
use Rattle.script_text.proofs.calls.push_access.Goals as goal

pub returns : goal.returns
returns c = rw (c.in_ok-push_values.ensures, c.in_ok-push_place.ensures) (simp (append_assoc, flat_map-append))

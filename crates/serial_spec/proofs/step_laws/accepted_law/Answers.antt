use Rattle.serial_spec.proofs.AcceptLaws.{accepted_elements, post_inside, puts_inside}
use Rattle.serial_spec.proofs.step_laws.accepted_law.Goals as goal

pub returns : goal.returns
returns c = record { elements = accepted_elements; post = post_inside; puts = puts_inside }

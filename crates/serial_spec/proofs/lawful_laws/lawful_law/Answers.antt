use Rattle.serial_spec.proofs.LawfulTests.{lawful_parts, lawful_whole}
use Rattle.serial_spec.proofs.lawful_laws.lawful_law.Goals as goal

pub returns : goal.returns
returns c = record { parts = lawful_parts; whole = lawful_whole }

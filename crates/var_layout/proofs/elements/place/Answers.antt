use Rattle.var_layout.proofs.Words.{◌≡◌, arith, elements_past_header, nat_tests}
use Rattle.serial_spec.specs.Place as spec
use Rattle.var_layout.proofs.ElementPlaces.{before_end}
use Rattle.var_layout.proofs.Soundness.{if_there}
use Rattle.var_layout.proofs.elements.place.Goals as goal

pub returns-clause-value : goal.returns-clause-value
returns-clause-value c = if_there _ _ (λ v. c.place_of.result ≡ spec.place c.args.header.now v c.args.index.now) c.variable_at.ensures c.place_of.ensures

pub returns-clause-past_header : goal.returns-clause-past_header
returns-clause-past_header c = grind (arith, nat_tests, elements_past_header, c.variable_at.ensures, c.requires.valid, c.place_of.ensures)

pub returns-clause-before_end : goal.returns-clause-before_end
returns-clause-before_end c = grind (arith, nat_tests, if_there, before_end, c.variable_at.ensures, c.requires.valid, c.place_of.ensures)

use Rattle.var_layout.proofs.Words.{header_len, elements_apart, elements_past_header}
use Rattle.var_layout.proofs.ElementPlaces.{before_end}
use Rattle.var_layout.proofs.elements.elements_lie_apart.Goals as goal

pub returns : goal.returns
returns c = record { apart = elements_apart; past_header = elements_past_header; before_end = λ header k v i n h e l. before_end header (header_len header) k v i n h e l }

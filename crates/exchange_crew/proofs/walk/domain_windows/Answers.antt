-- A walk's windows, told by their hulls.
use Rattle.exchange_crew.proofs.Words.{◌∙◌, List, map, ap, Extent, bytes_in, Window, told_window, turns_of}
use Rattle.exchange_crew.proofs.DomainTurns.{told_windows}
use Rattle.exchange_crew.proofs.walk.domain_windows.Goals as goal

pub returns-clause-windows : goal.returns-clause-windows
returns-clause-windows c = ap (λ (ws : List Window). map told_window ws) c.windows.ensures.windows ∙ told_windows c.args.size (bytes_in c.args.domain c.as_slice.result.now)
    ∙ ap (λ (es : List Extent). turns_of c.args.size c.args.domain es) c.as_slice.ensures

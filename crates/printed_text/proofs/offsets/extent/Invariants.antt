use Rattle.printed_text.proofs.Cited.{◌≡◌, min, take, fold, Var}
use Rattle.printed_text.proofs.offsets.extent.Given as goal

abbrev pub invariant-loop-var : goal.invariant-loop-var
invariant-loop-var l = l.least ≡ fold (λ a (w : Var). min a w.begin) l.initial.least (take l.var-index l.others)

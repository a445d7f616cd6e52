-- What holds of a result of either kind.
use Rattle.list_laws.proofs.Words.{Result, OnErr, OnOk, arith, nat_tests}

pub on_err : {T E P : Type 0} (r : Result T E) → P → OnErr r P
on_err r p = grind (arith, nat_tests)

pub on_ok : {T E : Type 0} {P : Type 0} (r : Result T E) → P → OnOk r P
on_ok r p = grind (arith, nat_tests)

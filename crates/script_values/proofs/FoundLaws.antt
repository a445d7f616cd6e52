-- What was found before what is still read.
use Rattle.std.proofs.Common.{List, ◌++◌, Option, option_map}

abbrev pub with_found : {A : Type 0} → List A → Option (List A) → Option (List A)
with_found found read = option_map (λ more. found ++ more) read

-- What a fault of the disk, and one of a redefinition, leave, and what ends early after the script was read.
use Rattle.dataset_start.proofs.Words.{◌≡◌, arith, Result, Err, IfErr, RedefErr, StepErr, IsBeforeStart, IsOfDataset, IsOfOpening, IsOfRedefinition, status_of, stop_of_disk, Stop, nat_tests}
use Rattle.dataset_start.specs.declared.stop.Stop.TheVariants as stops

-- a fault of the disk is none of the dataset
pub disk-untold : (err : StepErr) → status_of (stop_of_disk err) ≡ 4 → ⊥
disk-untold err s = grind (arith, nat_tests)

-- it ends a redefinition, an opening, and the making of a dataset
pub of_disk : (err : StepErr) → IsOfRedefinition (stop_of_disk err) × IsOfOpening (stop_of_disk err) × IsOfDataset (stop_of_disk err)
of_disk err = (grind (arith, nat_tests), grind (arith, nat_tests), grind (arith, nat_tests))

-- what a refused redefinition leaves is left where the dataset is at fault
pub redefinition-leaves : {T Q : Type 0} (result : Result T Stop) → ((e : RedefErr) → result ≡ Err (stops.Redefinition e) → Q) → IfErr result IsOfRedefinition
    → IfErr result (λ stop. status_of stop ≡ 4 → Q)
redefinition-leaves result left only = grind (arith, nat_tests)

-- ---- the script was read

-- a dataset whose making ends early was started, or could have been
pub late : (stop : Stop) → IsOfDataset stop → IsBeforeStart (status_of stop) → ⊥
late stop only s = grind (arith, nat_tests)

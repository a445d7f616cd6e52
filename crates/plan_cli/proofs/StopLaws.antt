-- Why a plan ends early, by the function that ends.
use Rattle.plan_cli.proofs.Words.{◌≡◌, ℕ, ◌==◌, length, true, false, List, Option, Some, None, refl, sym, subst, ◌∙◌, IfErr, IfSome, IsErrOf, Result, Ok, Err, IsErrAnd, LayoutErr, RedefErr, ScriptErr, redefined_fault, script_fault, creation_fault, Asks, HasRedefinitionFault, IsOfLayout, IsOfRedefinition, IsOfTaking, Stop, at_front, fault-some, IsOpenedFile, IsStoppedBy, IsUnprepared}
use Rattle.nc_base.specs.declared.script.Script as script_type
use Rattle.dataset_start.specs.declared.stop.Stop.TheVariants as stops
use Rattle.plan_cli.proofs.FrontLaws.{as_opened}
use Rattle.nc_base.specs.declared.header.Header as head

-- what holds of the stop with which a call ended holds of the one that `?` passes on
pub passed : {T U : Type 0} (P : Stop → Type 0) (result : Result U Stop) (err : Stop) (left : Result T Stop) → result ≡ Err err → IfErr result P
    → IsErrAnd left (λ stop. stop ≡ err) → IfErr left P
passed P result err (Ok x) r h e = tt
passed P (Ok y) err (Err stop) r h e = absurd cc
passed P (Err other) err (Err stop) r h e =
    let same : other ≡ stop = let t : other ≡ err = cc in t ∙ sym e in
    subst P same h

-- ---- a dataset that is created

pub unlaid : {T : Type 0} (script : script_type.Script) (held named : Option (List ℕ)) (Failed : Type 0) (result : Result T Stop) → script.fresh ≡ true
    → ((e : LayoutErr) → result ≡ Err (stops.Layout e) → creation_fault script ≡ Some e) → IfErr result IsOfLayout
    → IfErr result (IsUnprepared script held named Failed)
unlaid script held named Failed (Ok x) f h o = tt
unlaid script held named Failed (Err (stops.Layout e)) f h o = (f, h e refl)
unlaid script held named Failed (Err stops.Memory) f h o = tt
unlaid script held named Failed (Err stop) f h o = absurd o

-- ---- a dataset that is there

-- the fault with which the header refuses what is added, of a file that is told
pub refuses : (script : script_type.Script) (old : head.Header) (held : Option (List ℕ)) (size : ℕ) (e : RedefErr) → (length script.extra == 0) ≡ false
    → IsOpenedFile held old size → redefined_fault old script.extra ≡ Some e → IfSome held (λ file. HasRedefinitionFault script file e)
refuses script old None size e x o r = tt
refuses script old (Some file) size e x o r =
    let b = at_front (Some file) old (as_opened (Some file) old size o) in
    record { old = old; count = b.0; begins = b.1; refuses = fault-some script old x ∙ r }

pub unadded : {T : Type 0} (script : script_type.Script) (held named : Option (List ℕ)) (Failed : Type 0) (result : Result T Stop) → script.fresh ≡ false
    → ((e : RedefErr) → result ≡ Err (stops.Redefinition e) → IfSome held (λ file. HasRedefinitionFault script file e)) → (IsErrOf result stops.Disk → ⊥)
    → IfErr result IsOfRedefinition → IfErr result (IsUnprepared script held named Failed)
unadded script held named Failed (Ok x) f h d o = tt
unadded script held named Failed (Err (stops.Redefinition e)) f h d o = (f, h e refl)
unadded script held named Failed (Err stops.Disk) f h d o = absurd (d refl)
unadded script held named Failed (Err stops.Memory) f h d o = tt
unadded script held named Failed (Err stop) f h d o = absurd o

-- ---- the script, and its dataset

pub untaken : {T : Type 0} (left held named : Option (List ℕ)) (Untouched SourceFailed DatasetFailed : Type 0) (result : Result T Stop) → Untouched
    → ((e : ScriptErr) → result ≡ Err (stops.Script e) → IfSome left (λ text. script_fault text ≡ Some e)) → (IsErrOf result stops.Source → SourceFailed)
    → IfErr result IsOfTaking → IfErr result (IsStoppedBy left held named Untouched SourceFailed DatasetFailed)
untaken left held named Untouched SourceFailed DatasetFailed (Ok x) u h s o = tt
untaken left held named Untouched SourceFailed DatasetFailed (Err (stops.Script e)) u h s o = (u, h e refl)
untaken left held named Untouched SourceFailed DatasetFailed (Err stops.Source) u h s o = (u, s refl)
untaken left held named Untouched SourceFailed DatasetFailed (Err stops.Memory) u h s o = tt
untaken left held named Untouched SourceFailed DatasetFailed (Err stop) u h s o = absurd o

pub unprepared : {T : Type 0} (left held named : Option (List ℕ)) (Untouched SourceFailed DatasetFailed : Type 0) (script : script_type.Script) (result : Result T Stop)
    → Asks left script → (script.fresh ≡ true → Untouched) → IfErr result (IsUnprepared script held named DatasetFailed)
    → IfErr result (IsStoppedBy left held named Untouched SourceFailed DatasetFailed)
unprepared left held named Untouched SourceFailed DatasetFailed script (Ok x) a u h = tt
unprepared left held named Untouched SourceFailed DatasetFailed script (Err stops.Memory) a u h = tt
unprepared left held named Untouched SourceFailed DatasetFailed script (Err stops.Usage) a u h = absurd h
unprepared left held named Untouched SourceFailed DatasetFailed script (Err (stops.Script e)) a u h = absurd h
unprepared left held named Untouched SourceFailed DatasetFailed script (Err stops.Source) a u h = absurd h
unprepared left held named Untouched SourceFailed DatasetFailed script (Err stop) a u h = (script, (a, h, u))

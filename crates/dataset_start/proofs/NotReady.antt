-- A dataset that was not made ready.
use Rattle.dataset_start.proofs.Words.{◌≡◌, ℕ, ◌≤◌, ◌==◌, ◌⊎◌, inl, inr, ◌∙◌, ap, subst, List, [], length, Bool, true, false, Option, Some, None, arith, IfSome, HeaderErr, Extra, PartlyWritten, after, BothTold, at, longer, written, canon, header_len, HasFault, start, redefined, IsBegun, IsLengthened, IsTornCreation, IsTornRedefinition, at-longer, longer_long, IsBetween, filled_long, IsApplied, new_end, KeepsPlaces, created_header, creation_fault, front, AreHeadersOf, Asks, blank_file, dataset_end, filled_if, IsCutRedefinition, IsLeftUnready, IsNotReady, IsOpened, IsPartlyOpened, IsPartlyRedefined, IsUnready, told_as, both_ways, holds_or_not, nat_tests}
use Rattle.nc_base.specs.declared.header.Header as head
use Rattle.nc_base.specs.declared.script.Script as script_type
use Rattle.dataset_start.proofs.Created.{front-of-zeros}
use Rattle.dataset_start.proofs.ReadyLaws.{at_front, created-faultless, fault-none, fault-some, header-changed, header-kept, opened-faultless, start-created}

-- ---- a dataset that is created

-- the start was refused, which may have emptied the file, or nothing was done
pub start_refused : (header whole : List ℕ) (held now : Option (List ℕ)) → (now ≡ held) ⊎ (now ≡ after (λ _. []) held)
    → BothTold (λ old left. IsTornCreation header whole old left) held now
start_refused header whole held now xs = grind (arith, nat_tests)

-- some zeros are there
pub grow_refused : (bytes : List ℕ) (size end : ℕ) (held mid now : Option (List ℕ)) → size ≤ end → mid ≡ after (λ _. []) held
    → now ≡ after (λ file. longer file size) mid → BothTold (λ old left. IsTornCreation bytes (longer bytes end) old left) held now
grow_refused bytes size end held mid now few e g = grind (arith, nat_tests, longer [] size, longer_long [] size, longer_long bytes end, at-longer [] size)

-- the header is there in part
head_part : (bytes left : List ℕ) (end : ℕ) → length bytes ≤ end → PartlyWritten 0 bytes (longer [] end) left → IsBegun bytes (longer bytes end) left
head_part bytes left end fits p =
    grind (arith, nat_tests, front-of-zeros bytes end fits, at left, longer [] end, written, at bytes, longer bytes end, at-longer [] end)

pub head_refused : (bytes other : List ℕ) (size end place : ℕ) (held mid grown now : Option (List ℕ)) → length bytes ≤ end → size ≡ end → place ≡ 0 → other ≡ bytes
    → mid ≡ after (λ _. []) held → grown ≡ after (λ file. longer file size) mid → BothTold (PartlyWritten place other) grown now
    → BothTold (λ old left. IsTornCreation bytes (longer bytes end) old left) held now
head_refused bytes other size end place held mid grown now fits s p o e g b = grind (arith, nat_tests, head_part)

-- ---- what is not ready

-- nothing was done to a dataset that was to be created
pub not_laid : (script : script_type.Script) (held : Option (List ℕ)) → script.fresh ≡ true → BothTold (IsNotReady script) held held
not_laid script held f = grind (arith, nat_tests)

unfilled_file : head.Header → List ℕ
unfilled_file header = blank_file header

filled_as_long : (asked : Bool) (header : head.Header) → length (filled_if asked header (unfilled_file header)) ≡ length (unfilled_file header)
unfolding unfilled_file
filled_as_long asked header = grind (arith, nat_tests, filled_long, longer_long)

start_as_long : (script : script_type.Script) (header : head.Header) (file : List ℕ) → script.fresh ≡ true → length (start script header file) ≡ length (unfilled_file header)
unfolding unfilled_file
start_as_long script header file f = grind (arith, nat_tests, start-created script header file f, filled_as_long script.filled header)

-- the creation was cut off before the fill
unfilled_part : (script : script_type.Script) (header : head.Header) (file left : List ℕ) → script.fresh ≡ true
    → IsTornCreation (canon header) (blank_file header) file left → IsTornCreation (canon header) (start script header file) file left
unfolding unfilled_file
unfilled_part script header file left f xs = grind (arith, nat_tests, start_as_long, at-longer)

pub create_refused : (script : script_type.Script) (header : head.Header) (held now : Option (List ℕ)) → script.fresh ≡ true → creation_fault script ≡ None
    → header ≡ created_header script
    → BothTold (λ old left. IsTornCreation (canon header) (blank_file header) old left) held now
    → IsUnready script held now
create_refused script header held now f l h b = grind (arith, nat_tests, told_as, unfilled_part, created-faultless)

-- the fill was cut off
filled_part : (script : script_type.Script) (header : head.Header) (file left : List ℕ) → script.fresh ≡ true
    → IsBetween (blank_file header) (filled_if script.filled header (blank_file header)) left
    → IsBegun (canon header) (start script header file) left
unfolding unfilled_file
filled_part script header file left f b = grind (arith, nat_tests, start_as_long, at-longer, start-created)

pub fill_refused : (script : script_type.Script) (header : head.Header) (held mid now : Option (List ℕ)) → script.fresh ≡ true → creation_fault script ≡ None
    → header ≡ created_header script → mid ≡ after (λ _. blank_file header) held
    → BothTold (λ old left. IsBetween old (filled_if script.filled header old) left) mid now → IsUnready script held now
fill_refused script header held mid now f l h e b = grind (arith, nat_tests, created-faultless, filled_part)

-- ---- a dataset that is opened

as_opened : (script : script_type.Script) (file left : List ℕ) → script.fresh ≡ false → IsPartlyOpened script file left → IsNotReady script file left
as_opened script file left f p = record { created = λ c. absurd (both_ways script.fresh f c); opened = λ _. p }

heads_of : (script : script_type.Script) (old header : head.Header) (file : List ℕ) → script.fresh ≡ false → IsOpened (Some file) old
    → ((length script.extra == 0) ≡ true → header ≡ old) → ((length script.extra == 0) ≡ false → IsApplied old script.extra header) → AreHeadersOf script file old header
heads_of script old header file f o same changed = grind (arith, nat_tests, at_front, holds_or_not, header-kept, header-changed)

pub lengthen_refused : (script : script_type.Script) (header : head.Header) (held mid now : Option (List ℕ)) → script.fresh ≡ false → (length script.extra == 0) ≡ true
    → IsOpened held header → IfSome held (λ file. (e : HeaderErr) → HasFault (front file) e → ⊥) → mid ≡ held
    → BothTold (IsLengthened (dataset_end header)) mid now → IsUnready script held now
lengthen_refused script header None mid now f x o n e b = grind (arith, nat_tests)
lengthen_refused script header (Some file) mid now f x o n e b =
    grind (arith, nat_tests, opened-faultless script header (Some file) f o (fault-none script header x) n, as_opened script file, heads_of script header header file f o)

pub redefine_refused : (script : script_type.Script) (old : head.Header) (held mid now : Option (List ℕ)) → script.fresh ≡ false → (length script.extra == 0) ≡ false
    → IsOpened held old → IfSome held (λ file. (e : HeaderErr) → HasFault (front file) e → ⊥) → mid ≡ held
    → BothTold (IsPartlyRedefined old script.extra) mid now → IsUnready script held now
redefine_refused script old held mid now f x o n e b =
    by_held held o n (subst (λ (m : Option (List ℕ)). BothTold (IsPartlyRedefined old script.extra) m now) e b)
  where
    by_part : (file left : List ℕ) → IsOpened (Some file) old → ((e : HeaderErr) → HasFault (front file) e → ⊥) → now ≡ Some left
        → IsPartlyRedefined old script.extra file left → IsUnready script (Some file) now
    by_part file left p n s (inl same) = inl (s ∙ ap (λ (t : List ℕ). Some t) same)
    by_part file left p n s (inr (new, a, t)) =
        grind (
          arith,
          nat_tests,
          opened-faultless script old (Some file) f p (fault-some script old x ∙ a.faultless) n,
          fault-some script old x,
          as_opened script file left f,
          heads_of script old new file f p,
        )

    by_held : (t : Option (List ℕ)) → IsOpened t old → IfSome t (λ file. (e : HeaderErr) → HasFault (front file) e → ⊥)
        → BothTold (IsPartlyRedefined old script.extra) t now → IsUnready script t now
    by_held None p n c = inl c
    by_held (Some file) p n c = by_part file c.0 p n c.1 c.2

-- ---- the dataset that a text asks for

pub left_unready : (left held now : Option (List ℕ)) (script : script_type.Script) → Asks left script → IsUnready script held now → IsLeftUnready left held now
left_unready left held now script a xs = grind (arith, nat_tests)

-- ---- a redefinition

pub not_redefined : (old : head.Header) (extras : List Extra) (held : Option (List ℕ)) → BothTold (IsPartlyRedefined old extras) held held
not_redefined old extras held = grind (arith, nat_tests)

pub relocate_refused : (old new : head.Header) (extras : List Extra) (held now : Option (List ℕ)) → IsApplied old extras new
    → BothTold (λ file left. IsTornRedefinition (header_len new) (new_end old new) file (redefined file old new) left) held now → BothTold (KeepsPlaces old new) held now
    → BothTold (IsPartlyRedefined old extras) held now
relocate_refused old new extras held now a b k = grind (arith, nat_tests, told_as (IsCutRedefinition old new) (IsPartlyRedefined old extras) held now)

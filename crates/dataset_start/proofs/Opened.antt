-- The front of a file that is opened, and the file made longer.
use Rattle.dataset_start.proofs.Words.{grow_to, if◌then◌else◌, is_ok, OnOk, ◌≡◌, ℕ, ◌^◌, ◌≤◌, List, [], ◌++◌, length, take, drop, min, Option, Some, None, refl, sym, ap, inl, inr, ◌⊎◌, subst, ◌∙◌, arith, IfSome, Result, Ok, Err, IsErrAnd, cases_lt, DiskCall, after, with_end, head_load, take-append-drop, take_all, HeaderErr, IsOpened, stop_of_header, Stop, Memory, Spells, first_check, HasFault, fault_only, spells_once, BeginsWith, nat_tests}
use Rattle.dataset_start.specs.Dataset as headline
use Rattle.dataset_start.specs.declared.stop.Stop.TheVariants.{Header}
use Rattle.nc_base.specs.declared.errors.HeaderErr.TheVariants as fault
use Rattle.nc_base.specs.declared.header.Header as head

-- ---- a header that stands at a front, and a fault, exclude each other

other : (header : head.Header) (bytes : List ℕ) (n : ℕ) (e : HeaderErr) → BeginsWith bytes header n
    → (h : head.Header) (front rest : List ℕ) → bytes ≡ front ++ rest → Spells h front → first_check h ≡ Some e → ⊥
other header bytes n e b h front rest s t f =
    grind (arith, nat_tests, spells_once header h (take n bytes) front (drop n bytes) rest b.0 t (take-append-drop n bytes ∙ s), take-append-drop n bytes)

-- ---- one header stands at a front

pub begins_once : (header other : head.Header) (bytes : List ℕ) (n m : ℕ) → BeginsWith bytes header n → BeginsWith bytes other m → header ≡ other
begins_once header other bytes n m b c =
    (spells_once header other (take n bytes) (take m bytes) (drop n bytes) (drop m bytes) b.0 c.0 (take-append-drop n bytes ∙ sym (take-append-drop m bytes))).0

pub no_fault : (header : head.Header) (bytes : List ℕ) (n : ℕ) → BeginsWith bytes header n → (e : HeaderErr) → HasFault bytes e → ⊥
no_fault header bytes n b e h = grind (arith, nat_tests, fault_only bytes e, other header bytes n e b)

-- ---- the front that is read

-- as many bytes as there are, and no more than the front has, are the front
pub front_is : (bytes : List ℕ) (n : ℕ) → n ≡ min (length bytes) (2 ^ 20) → take n (drop 0 bytes) ≡ headline.front bytes
front_is bytes n e = elim (cases_lt (2 ^ 20) (length bytes)) [
  | inl h ↦ let own : n ≡ 2 ^ 20 = omega (arith, e, h) in ap (λ (k : ℕ). take k bytes) own
  | inr h ↦ grind (arith, nat_tests, take_all (length bytes) bytes (omega arith), take_all (2 ^ 20) bytes h)
]

-- what is read of a file that is told
pub read_front : (held : Option (List ℕ)) (len n : ℕ) (read : List ℕ) → IfSome held (λ bytes. length bytes ≡ len) → n ≡ min len (2 ^ 20)
    → IfSome held (λ bytes. read ≡ take n (drop 0 bytes)) → IfSome held (λ file. read ≡ headline.front file)
read_front held len n read told e h = grind (arith, nat_tests, front_is)

-- nothing is read of a file that is empty
pub empty_front : (held : Option (List ℕ)) (len : ℕ) → IfSome held (λ bytes. length bytes ≡ len) → min len (2 ^ 20) ≡ 0 → IfSome held (λ file. [] ≡ headline.front file)
empty_front None len told e = tt
empty_front (Some file) len told e = front_is file 0 (omega (arith, told, e))

-- the calls by which a file that is told is made longer, where they were answered Ok
pub grown_calls : {T E : Type 0} (r : Result T E) (held : Option (List ℕ)) (told now : Option (List DiskCall)) (len end most : ℕ) → IfSome held (λ bytes. length bytes ≡ len) → end ≡ most
    → now ≡ (if is_ok r then with_end told (grow_to len end) else told) → OnOk r (IfSome held (λ file. now ≡ with_end told (grow_to (length file) most)))
grown_calls r held told now len end most l e g = grind (arith, nat_tests)

-- ---- what the front that was read tells of the file

pub opened : (held : Option (List ℕ)) (bytes : List ℕ) (header : head.Header) (n : ℕ) → IfSome held (λ file. bytes ≡ headline.front file) → length bytes ≤ 2 ^ 20
    → BeginsWith bytes header n → IsOpened held header
opened None bytes header n e few b =
    record { file = bytes; told = tt; count = n; begins = grind (arith, nat_tests, take_all (2 ^ 20) bytes few) }
opened (Some file) bytes header n e few b = record { file = file; told = refl; count = n; begins = grind (arith, nat_tests) }

pub faultless : (held : Option (List ℕ)) (bytes : List ℕ) (header : head.Header) (n : ℕ) → IfSome held (λ file. bytes ≡ headline.front file)
    → BeginsWith bytes header n → IfSome held (λ file. (e : HeaderErr) → HasFault (headline.front file) e → ⊥)
faultless None bytes header n e b = tt
faultless (Some file) bytes header n e b = no_fault header (headline.front file) n (subst (λ (t : List ℕ). BeginsWith t header n) e b)

same_header : (err e : HeaderErr) → Header e ≡ stop_of_header err → err ≡ e
same_header err e h = grind (arith, nat_tests)

no_memory : (err e : HeaderErr) → Header e ≡ stop_of_header err → err ≡ fault.Memory → ⊥
no_memory err e h m = grind (arith, nat_tests)

of_fault : (held : Option (List ℕ)) (bytes : List ℕ) (e : HeaderErr) → IfSome held (λ file. bytes ≡ headline.front file) → HasFault bytes e
    → IfSome held (λ file. HasFault (headline.front file) e)
of_fault None bytes e f h = tt
of_fault (Some file) bytes e f h = subst (λ (t : List ℕ). HasFault t e) f h

-- the fault that ended the opening is that of the file's header
pub tells : (held : Option (List ℕ)) (bytes : List ℕ) (result : Result head.Header Stop) (err e : HeaderErr) → IfSome held (λ file. bytes ≡ headline.front file)
    → (err ≡ fault.Memory) ⊎ HasFault bytes err → IsErrAnd result (λ stop. stop ≡ stop_of_header err) → result ≡ Err (Header e)
    → IfSome held (λ file. HasFault (headline.front file) e)
tells held bytes (Ok header) err e f why s r = absurd s
tells held bytes (Err stop) err e f why s r =
    let same : Header e ≡ stop_of_header err = cc in
    elim why [
      | inl m ↦ absurd (no_memory err e same m)
      | inr h ↦ of_fault held bytes e f (subst (λ (x : HeaderErr). HasFault bytes x) (same_header err e same) h)
    ]

-- ---- the calls of an opening

pub front_calls : (held mid : Option (List ℕ)) (before started now : Option (List DiskCall)) → mid ≡ held → started ≡ after (λ _. []) before
    → IfSome mid (λ file. now ≡ with_end started (head_load file)) → IfSome held (λ file. now ≡ after (λ _. head_load file) before)
front_calls held mid before started now same b h = grind (arith, nat_tests)

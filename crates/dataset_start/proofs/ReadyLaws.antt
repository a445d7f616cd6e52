-- A dataset that is ready for the ranks.
use Rattle.dataset_start.proofs.Words.{◌≡◌, ℕ, ◌≤◌, ◌==◌, Bool, true, false, List, [], ◌∷◌, length, Option, Some, None, inl, inr, refl, sym, ap, append_assoc, eqb-true, ◌∙◌, arith, IfErr, IfOk, IfSome, IsSomeAnd, Result, Ok, Err, IsErrAnd, HeaderErr, RedefErr, Extra, DiskCall, Grow, Store, after, with_end, after-after, after-same, grow_to, head_load, longer, header_len, HasFault, is_sound, brought, redefined, redefined_fault, redefined_header, start, longer-enough, BeginsWith, IsApplied, new_end, relocation_calls, Reads, created_header, creation_fault, front, header_of_run, redefinition_fault, Asks, AsksForBadLayout, HasRedefinitionFault, IsBadDataset, IsLaid, IsMislaid, IsSoundFile, TellsDataset, blank_file, dataset_end, empty_end, fill_calls_if, filled_if, first_calls, IsFaultless, IsOpened, IsReady, line_of, status_of, IsOfHeader, IsOfRedefinition, Stop, both_ways, some_not_none, nat_tests, common_steps}
use Rattle.nc_base.specs.declared.header.Header as head
use Rattle.nc_base.specs.declared.script.Script as script_type
use Rattle.dataset_start.specs.declared.stop.Stop.TheVariants as stops
use Rattle.dataset_start.proofs.Opened.{begins_once}
use Rattle.dataset_start.proofs.Redefinable.{redefined_sound}
use Rattle.dataset_start.proofs.RedefinedLaws.{long_enough, same_end}

-- ---- nothing is added to a dataset, or something

abbrev AddsNothing : script_type.Script → Bool → Type 0
AddsNothing script b = (length script.extra == 0) ≡ b

pub no_extras : (script : script_type.Script) → script.extra ≡ [] → (length script.extra == 0) ≡ true
no_extras script e = ap (λ (x : List Extra). length x == 0) e

pub some_extras : (script : script_type.Script) → (script.extra ≡ [] → ⊥) → (length script.extra == 0) ≡ false
some_extras script h = grind (arith, nat_tests, eqb-true, common_steps)

pub header-kept : (script : script_type.Script) (old : head.Header) → AddsNothing script true → header_of_run script old ≡ old
header-kept script old x = ap (λ (b : Bool). elim b [ true ↦ old | false ↦ redefined_header old script.extra ]) x

pub header-changed : (script : script_type.Script) (old new : head.Header) → AddsNothing script false → IsApplied old script.extra new → new ≡ header_of_run script old
header-changed script old new x a = a.made ∙ sym (ap (λ (b : Bool). elim b [ true ↦ old | false ↦ redefined_header old script.extra ]) x)

pub file-kept : (script : script_type.Script) (old new : head.Header) (file : List ℕ) → AddsNothing script true → brought script old new file ≡ file
file-kept script old new file x = ap (λ (b : Bool). elim b [ true ↦ file | false ↦ redefined file old new ]) x

pub fault-none : (script : script_type.Script) (old : head.Header) → AddsNothing script true → redefinition_fault script old ≡ None
fault-none script old x = ap (λ (b : Bool). elim b [ true ↦ None | false ↦ redefined_fault old script.extra ]) x

pub fault-some : (script : script_type.Script) (old : head.Header) → AddsNothing script false → redefinition_fault script old ≡ redefined_fault old script.extra
fault-some script old x = ap (λ (b : Bool). elim b [ true ↦ None | false ↦ redefined_fault old script.extra ]) x

-- ---- the file before the ranks begin

pub start-created : (script : script_type.Script) (header : head.Header) (file : List ℕ) → script.fresh ≡ true
    → start script header file ≡ filled_if script.filled header (blank_file header)
start-created script header file f = grind (arith, nat_tests)

-- ---- the calls before the ranks begin

created-calls : script_type.Script → head.Header → List DiskCall
created-calls script header = Grow (empty_end header) ∷ Store 0 (header_len header) ∷ fill_calls_if script.filled script.hints header

calls-created : (script : script_type.Script) (header : head.Header) (held : Option (List ℕ)) (before mid now : Option (List DiskCall)) → script.fresh ≡ true
    → AddsNothing script true
    → mid ≡ after (λ _. Grow (empty_end header) ∷ Store 0 (header_len header) ∷ []) before
    → now ≡ with_end mid (fill_calls_if script.filled script.hints header)
    → IfSome held (λ bytes. now ≡ after (λ _. first_calls script header header bytes) before)
unfolding created-calls
calls-created script header held before mid now f x m n = grind (arith, nat_tests)

-- what is held, or nothing where nothing is told
abbrev told : Option (List ℕ) → List ℕ
told None = []
told (Some file) = file

told-is : (held : Option (List ℕ)) → IfSome held (λ bytes. bytes ≡ told held)
told-is held = grind (arith, nat_tests)

-- ---- a new dataset

-- where its layout has no fault, nothing is wrong with it
pub created-faultless : (script : script_type.Script) (held : Option (List ℕ)) → script.fresh ≡ true → creation_fault script ≡ None → IsFaultless script held
created-faultless script held f l = record { created = λ _. l; opened = λ o. absurd (both_ways script.fresh o f) }

pub ready-created : (script : script_type.Script) (header : head.Header) (before mid now : Option (List ℕ)) (calls_before calls_mid calls_now : Option (List DiskCall))
    → script.fresh ≡ true → AddsNothing script true
    → header ≡ created_header script → is_sound header ≡ true → creation_fault script ≡ None
    → mid ≡ after (λ _. blank_file header) before → now ≡ after (filled_if script.filled header) mid
    → calls_mid ≡ after (λ _. Grow (empty_end header) ∷ Store 0 (header_len header) ∷ []) calls_before
    → calls_now ≡ with_end calls_mid (fill_calls_if script.filled script.hints header)
    → IsReady script header before now calls_before calls_now
ready-created script header before mid now calls_before calls_mid calls_now f x h s l e g m n = record {
  old = header;
  file = told before;
  held = told-is before;
  heads = grind (arith, nat_tests, both_ways, header-kept);
  sound = s;
  faultless = created-faultless script before f l;
  bytes = grind (arith, nat_tests, after-after, after-same, start-created);
  calls = calls-created script header before calls_before calls_mid calls_now f x m n;
}

-- ---- an existing dataset

-- the header at the front of what is held
pub at_front : (held : Option (List ℕ)) (header : head.Header) → IsOpened held header → IfSome held (λ file. (n : ℕ) × BeginsWith (front file) header n)
at_front held header o = grind (arith, nat_tests)

-- where nothing is at fault in the header, and it refuses nothing, nothing is at fault
sound-file : (script : script_type.Script) (old : head.Header) (held : Option (List ℕ)) → IsOpened held old → redefinition_fault script old ≡ None
    → IfSome held (λ file. (e : HeaderErr) → HasFault (front file) e → ⊥) → IfSome held (IsSoundFile script)
sound-file script old None o r n = tt
sound-file script old (Some file) o r n = record { header = n; redefinition = refuses }
  where
    refuses : (e : RedefErr) → HasRedefinitionFault script file e → ⊥
    refuses e h =
        let b = at_front (Some file) old o in
        let same : h.old ≡ old = begins_once h.old old (front file) h.count b.0 h.begins b.1 in
        some_not_none e (redefinition_fault script h.old) h.refuses (ap (λ (x : head.Header). redefinition_fault script x) same ∙ r)

pub opened-faultless : (script : script_type.Script) (old : head.Header) (held : Option (List ℕ)) → script.fresh ≡ false → IsOpened held old
    → redefinition_fault script old ≡ None → IfSome held (λ file. (e : HeaderErr) → HasFault (front file) e → ⊥) → IsFaultless script held
opened-faultless script old held f o r n = grind (arith, nat_tests, sound-file script old held o r n, both_ways)

pub ready-kept : (script : script_type.Script) (header : head.Header) (before mid now : Option (List ℕ)) (calls_before calls_mid calls_now : Option (List DiskCall))
    → script.fresh ≡ false → AddsNothing script true → IsOpened before header → is_sound header ≡ true
    → IfSome before (λ file. (e : HeaderErr) → HasFault (front file) e → ⊥) → mid ≡ before
    → now ≡ after (λ file. longer file (dataset_end header)) mid
    → IfSome before (λ file. calls_mid ≡ after (λ _. head_load file) calls_before)
    → IfSome mid (λ file. calls_now ≡ with_end calls_mid (grow_to (length file) (dataset_end header)))
    → IsReady script header before now calls_before calls_now
ready-kept script header before mid now calls_before calls_mid calls_now f x o s n h e m k = record {
  old = header;
  file = o.file;
  held = o.told;
  heads = record { created = λ c. absurd (both_ways script.fresh f c); opened = λ _. (o.count, o.begins); made = sym (header-kept script header x) };
  sound = s;
  faultless = opened-faultless script header before f o (fault-none script header x) n;
  bytes = grind (arith, nat_tests, after-same, file-kept);
  calls = grind (arith, nat_tests, with_end, dataset_end);
}

pub redefined-ready : (script : script_type.Script) (old : head.Header) (before mid now : Option (List ℕ)) (calls_before calls_mid calls_now : Option (List DiskCall))
    (result : Result head.Header Stop) → script.fresh ≡ false → AddsNothing script false → IsOpened before old
    → IfSome before (λ file. (e : HeaderErr) → HasFault (front file) e → ⊥) → mid ≡ before → IfOk result (λ new. IsApplied old script.extra new)
    → IfOk result (λ new. now ≡ after (λ file. redefined file old new) mid)
    → IfSome before (λ file. calls_mid ≡ after (λ _. head_load file) calls_before)
    → IfOk result (λ new. IfSome mid (λ file. calls_now ≡ with_end calls_mid (relocation_calls script.hints.wr_buffer old new file)))
    → IfOk result (λ new. IsReady script new before now calls_before calls_now)
redefined-ready script old before mid now calls_before calls_mid calls_now (Err stop) f x o n h a e m k = tt
redefined-ready script old before mid now calls_before calls_mid calls_now (Ok new) f x o n h a e m k = record {
  old = old;
  file = o.file;
  held = o.told;
  heads = record { created = λ c. absurd (both_ways script.fresh f c); opened = λ _. (o.count, o.begins); made = header-changed script old new x a };
  sound = redefined_sound old new script.extra a;
  faultless = opened-faultless script old before f o (fault-some script old x ∙ a.faultless) n;
  bytes = grind (arith, nat_tests, after-same, brought, same_end, long_enough, longer-enough, after);
  calls = grind (arith, nat_tests, append_assoc, script.hints.wr_buffer, with_end, relocation_calls);
}

pub redefined_long : (old : head.Header) (len : ℕ) (extras : List Extra) (result : Result head.Header Stop)
    → IfOk result (λ new. IsApplied old extras new) → IfOk result (λ new. new_end old new ≤ len)
    → IfOk result (λ new. dataset_end new ≤ len)
redefined_long old len extras result a h = grind (arith, nat_tests, same_end)

-- ---- what is wrong with it

bad-header-stop : (script : script_type.Script) (held : Option (List ℕ)) (stop : Stop) → script.fresh ≡ false
    → ((e : HeaderErr) → stop ≡ stops.Header e → IfSome held (λ file. HasFault (front file) e)) → IsOfHeader stop
    → status_of stop ≡ 4 → IfSome (line_of stop) (TellsDataset script held)
bad-header-stop script held (stops.Header e) f h o s =
    record { created = λ c. absurd (both_ways script.fresh f c); opened = λ _. inl (e, (h e refl, refl)) }
bad-header-stop script held stop f h o s = absurd (grind (arith, nat_tests))

pub bad-header : {T U : Type 0} (script : script_type.Script) (held : Option (List ℕ)) (result : Result T Stop) (err : Stop) (left : Result U Stop) → script.fresh ≡ false
    → result ≡ Err err → ((e : HeaderErr) → result ≡ Err (stops.Header e) → IfSome held (λ file. HasFault (front file) e)) → IfErr result IsOfHeader
    → IsErrAnd left (λ stop. stop ≡ err)
    → IfErr left (λ stop. status_of stop ≡ 4 → IfSome (line_of stop) (TellsDataset script held))
bad-header script held result err left f r h o e = grind (arith, nat_tests, bad-header-stop)

redefinition-told : (script : script_type.Script) (old : head.Header) (held : Option (List ℕ)) (e : RedefErr) → AddsNothing script false → IsOpened held old
    → redefined_fault old script.extra ≡ Some e → IfSome held (λ file. HasRedefinitionFault script file e)
redefinition-told script old held e x o r = grind (arith, nat_tests)

pub bad-redefinition : (script : script_type.Script) (old : head.Header) (held : Option (List ℕ)) (result : Result head.Header Stop) → script.fresh ≡ false
    → AddsNothing script false → IsOpened held old
    → ((e : RedefErr) → result ≡ Err (stops.Redefinition e) → redefined_fault old script.extra ≡ Some e) → IfErr result IsOfRedefinition
    → IfErr result (λ stop. status_of stop ≡ 4 → IfSome (line_of stop) (TellsDataset script held))
bad-redefinition script old held (Err (stops.Redefinition e)) f x p h o = λ s.
    record { created = λ c. absurd (both_ways script.fresh f c); opened = λ _. inr (e, (redefinition-told script old held e x p (h e refl), refl)) }
bad-redefinition script old held result f x p h o = grind (arith, nat_tests)

-- ---- one text has one script

pub same_script : (text : List ℕ) (a b : script_type.Script) → Reads text a → Reads text b → a ≡ b
same_script text a b r s = let e : Ok a ≡ Ok b = sym r ∙ s in cc

-- a created dataset has no record
pub created_long : (script : script_type.Script) (header : head.Header) (len : ℕ) → script.header.records ≡ 0 → header ≡ created_header script
    → len ≡ empty_end header → dataset_end header ≤ len
created_long script header len r h l = grind (arith, nat_tests)

-- ---- a layout that is refused

-- what is laid out has no fault
pub laid-mislaid : {Q : Type 0} (script : script_type.Script) → IsLaid script → IsMislaid script → Q
laid-mislaid script l m = absurd (some_not_none m.fault (creation_fault script) m.refuses (l m.created))

-- what is so of a script whose layout is refused is so where the text asks for one
pub of_bad_layout : {Q : Type 0} (left : Option (List ℕ)) (script : script_type.Script) → Asks left script → (IsMislaid script → Q)
    → IsSomeAnd left AsksForBadLayout → Q
of_bad_layout left script r h b = grind (arith, nat_tests)

pub bad-dataset : {Untouched : Type 0} (left held : Option (List ℕ)) (script : script_type.Script) (told : Option (List ℕ)) → Asks left script
    → (IsMislaid script → Untouched) → IfSome told (TellsDataset script held) → IfSome told (IsBadDataset left held Untouched)
bad-dataset left held script told a h t = grind (arith, nat_tests)

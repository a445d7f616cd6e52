-- What an opening is: its calls, and how long the file is then.
use Rattle.opening_plan.proofs.Words.{◌≡◌, ◌==◌, ℕ, ◌<◌, ◌≤◌, ◌^◌, max, min, refl, sym, ◌∙◌, ap, List, [], ◌∷◌, ◌++◌, length, append_assoc, true, false, arith, flat_map, reverse, append-nil, Header, Script, DiskCall, Grow, Load, Store, Slab, grow_to, head_load, move_calls, zero_calls, header_len, end_of, brought, redefined, start, is_sound, and_first, holds_or_not, inl, inr, and_second, within_is, longer-enough, longer_long, filled_long, IsApplied, gaps, rising, new_end, all_calls, gap_calls, slab_calls, has_laws, relocated, HasLaws, carried_is, risen_up, IsKept, dataset_end, empty_end, fill_calls_if, first_calls, kept_created, kept_hints, no_extras, some_extras, start-created, redefined_sound, long_enough, records_kept, same_end, added_calls, carry_calls, AreLow, nat_tests}

-- ---- the first bytes

pub no_head : (file : List ℕ) (size : ℕ) (old : List DiskCall) → length file ≡ size → size ≡ 0 → old ≡ old ++ head_load file
no_head file size old e z = grind (arith, nat_tests, append-nil old)

pub some_head : (file : List ℕ) (size n : ℕ) (old new : List DiskCall) → length file ≡ size → 0 < size → n ≡ min size (2 ^ 20) → new ≡ old ++ Load 0 n ∷ []
    → new ≡ old ++ head_load file
some_head file size n old new e l m p = grind (arith, nat_tests)

-- ---- a created dataset

pub kept_cb_buffer : (script : Script) → IsKept script → 1 ≤ script.hints.cb_buffer
kept_cb_buffer script k = grind (arith, nat_tests, within_is 1 (2 ^ 25) script.hints.cb_buffer, and_second, and_first, kept_hints script k)

pub created_calls : (script : Script) (header : Header) (file : List ℕ) (size len : ℕ) (calls : List DiskCall) → IsKept script → script.fresh ≡ true → size ≡ empty_end header
    → len ≡ header_len header → calls ≡ Grow size ∷ Store 0 len ∷ fill_calls_if script.filled script.hints header → calls ≡ first_calls script header header file
created_calls script header file size len calls k f s l e = grind (arith, nat_tests, kept_created, first_calls, fill_calls_if)

-- the calls of a created dataset, one after another
pub created_all : (none one two all list : List DiskCall) (first second : DiskCall) (more : List DiskCall) → none ≡ [] → one ≡ none ++ first ∷ [] → two ≡ one ++ second ∷ []
    → all ≡ two ++ more → list ≡ all → list ≡ first ∷ second ∷ more
created_all none one two all list first second more n o t a l = grind (arith, nat_tests)

pub created_size : (script : Script) (header : Header) (file : List ℕ) (size : ℕ) → script.fresh ≡ true → size ≡ empty_end header
    → size ≡ length (start script header (brought script header header file))
created_size script header file size f s = grind (arith, nat_tests, start-created, brought, filled_long, longer_long)

-- ---- a redefinition

pub nothing_added : (script : Script) (old new : Header) → script.extra ≡ [] → added_calls script old new ≡ []
nothing_added script old new e = rw (no_extras script e, added_calls) refl

pub something_added : (script : Script) (old new : Header) → (script.extra ≡ [] → ⊥) → added_calls script old new ≡ carry_calls script.hints.wr_buffer old new
something_added script old new h = rw (some_extras script h, added_calls) refl

pub rising_low : (old new : Header) → HasLaws old new → (ss : List Slab) → ss ≡ rising old new → AreLow ss
rising_low old new h ss e s i = grind (arith, nat_tests, risen_up)

pub carried_calls : (z : ℕ) (old new : Header) (begun moved zeroed calls : List DiskCall) (ss : List Slab) (first end len : ℕ) → HasLaws old new → 1 ≤ z → ss ≡ rising old new
    → first ≡ header_len new → end ≡ new_end old new → len ≡ header_len new
    → moved ≡ begun ++ all_calls z (reverse ss) → zeroed ≡ moved ++ gap_calls z (gaps first end ss) → calls ≡ zeroed ++ Store 0 len ∷ []
    → calls ≡ begun ++ carry_calls z old new
carried_calls z old new begun moved zeroed calls ss first end len h some s f e l m g c =
    let moves : move_calls z old new ≡ all_calls z (reverse (rising old new)) = ap (λ xs. flat_map (slab_calls z) xs) h.falls in
    c ∙ ap (λ t. t ++ Store 0 len ∷ []) (g ∙ ap (λ t. t ++ gap_calls z (gaps first end ss)) m)
    ∙ (λ t. begun ++ all_calls z (reverse (s t)) ++ gap_calls z (gaps (f t) (e t) (s t)) ++ Store 0 (l t) ∷ [])
    ∙ (λ t. begun ++ sym moves t ++ sym (h.zeros z some) t ++ Store 0 (header_len new) ∷ [])
    ∙ ap (λ calls. calls ++ Store 0 (header_len new) ∷ []) (append_assoc begun (move_calls z old new) (zero_calls z old new))
    ∙ append_assoc begun (move_calls z old new ++ zero_calls z old new) (Store 0 (header_len new) ∷ [])

redefined_size : (old new : Header) (file : List ℕ) → HasLaws old new → length (redefined file old new) ≡ max (length file) (new_end old new)
redefined_size old new file h = grind (arith, nat_tests, relocated old new h file, carried_is old new file h.carriable)

-- ---- an existing dataset, to which the script may add

-- what an existing dataset and the script make of the headers
module _ (script : Script) (old new : Header) (opened : script.fresh ≡ false) (same : (length script.extra == 0) ≡ true → new ≡ old)
    (applied : (length script.extra == 0) ≡ false → IsApplied old script.extra new) where
  pub new_records : new.records ≡ old.records
  new_records = elim (holds_or_not (length script.extra == 0)) [ inl x ↦ ap (λ (h : Header). h.records) (same x) | inr x ↦ records_kept old new script.extra (applied x).made ]

  pub new_sound : is_sound old ≡ true → is_sound new ≡ true
  new_sound sound = elim (holds_or_not (length script.extra == 0)) [ inl x ↦ ap is_sound (same x) ∙ sound | inr x ↦ redefined_sound old new script.extra (applied x) ]

  pub same_place : new_end old new ≡ dataset_end new
  same_place = ap (λ (n : ℕ). end_of new (header_len new) n) (sym new_records)

  pub existing_calls : (file : List ℕ) (bytes end : ℕ) (none head grown all calls : List DiskCall) → length file ≡ bytes → end ≡ new_end old new
      → none ≡ [] → head ≡ none ++ head_load file → grown ≡ head ++ grow_to bytes end → all ≡ grown ++ added_calls script old new → calls ≡ all
      → calls ≡ first_calls script old new file
  existing_calls file bytes end none head grown all calls b e n h g a c = grind (arith, nat_tests, holds_or_not, same_place, first_calls, added_calls)

  changed_size : (length script.extra == 0) ≡ false → (file : List ℕ) → max (length file) (new_end old new) ≡ length (start script new (brought script old new file))
  changed_size x file =
      let laws = has_laws old new (script.extra, applied x) in
      grind (arith, nat_tests, longer-enough, same_end, long_enough, redefined_size, brought)

  pub existing_size : (file : List ℕ) (bytes end size : ℕ) → length file ≡ bytes → end ≡ new_end old new → size ≡ max bytes end
      → size ≡ length (start script new (brought script old new file))
  existing_size file bytes end size b e s = grind (arith, nat_tests, holds_or_not, same_place, longer_long, brought, new_end, changed_size)

-- Where the variables of a created file lie, one variable after another.
use Rattle.var_layout.proofs.Words.{◌≡◌, ℕ, suc, ◌+◌, ◌^◌, ◌<◌, ◌≤◌, List, [], ◌∷◌, ◌++◌, length, take, drop, get_or, Bool, true, false, Option, Some, None, refl, sym, ap, ◌∙◌, arith, filter, find, no_both, sum_by, not, option_map, option_or, enumerate_from, take_all, drop_all, append-nil, set, get_or-enumerate_from, length-enumerate_from, fold_push, and_second, Header, Var, Align, round_up, vsize, is_record, fixed_variables, record_variables, begin_of, placed, begins, header_len, Numbered, fixed_of, records_in, size_fault, layout_fault, find-append, not_from_false, not_from_true, fixed_end, first_record, lies_too_far, far_fixed, far_record, capped, nat_tests, ltb-true}
use Rattle.nc_base.specs.declared.errors.LayoutErr.TheVariants as fault
use Rattle.var_layout.proofs.Capping.{filter_yes, filter_no, sum_filter_yes}
use Rattle.var_layout.proofs.Searches.{Lies, find_stops, find_goes_on, fails_at}

-- ---- the variables with their begins

abbrev pub at_begin : Var → ℕ → Var
at_begin v begin = record v { begin = begin }

abbrev pub in_place : Header → Align → ℕ → ℕ → Var → Var
in_place header align first k v = at_begin v (begin_of header align first k v)

get_or-placed : (header : Header) (align : Align) (first n : ℕ) (vs : List Var) (k : ℕ) (d : Var) → k < length vs
    → get_or (placed header align first n vs) k d ≡ in_place header align first (n + k) (get_or vs k d)
get_or-placed header align first n [] k d h = absurd (omega arith)
get_or-placed header align first n (v ∷ vs) k d h = grind (arith, nat_tests, get_or-placed header align first (suc n) vs)

pub length-placed : (header : Header) (align : Align) (first n : ℕ) (vs : List Var) → length (placed header align first n vs) ≡ length vs
length-placed header align first n [] = refl
length-placed header align first n (v ∷ vs) = ap (λ (m : ℕ). suc m) (length-placed header align first (suc n) vs)

abbrev numbered : Header → Align → ℕ → List Numbered
numbered header align first = enumerate_from 0 (placed header align first 0 header.vars)

-- none that passes the test lies too far, of the first k
abbrev pub NoneFar : Header → Align → ℕ → (Numbered → Bool) → ℕ → Type 0
NoneFar header align first p k = find (λ w. lies_too_far header w.1) (filter p (take k (numbered header align first))) ≡ None

-- the vsizes of the record variables before variable k
abbrev pub records_before : Header → ℕ → ℕ
records_before header k = sum_by (λ v. vsize header v) (record_variables header (take k header.vars))

pub records_more : (header : Header) (k : ℕ) (v : Var) → Lies header k v → is_record header v ≡ true → records_before header (k + 1) ≡ records_before header k + vsize header v
records_more header k v lies f = let e = lies.there in let h = lies.within in grind (arith, nat_tests, sum_filter_yes)

pub records_same : (header : Header) (k : ℕ) (v : Var) → Lies header k v → is_record header v ≡ false → records_before header (k + 1) ≡ records_before header k
records_same header k v lies f = let e = lies.there in let h = lies.within in grind (arith, nat_tests, filter_no)

pub near_end : (header : Header) (v : Var) → lies_too_far header v ≡ false → v.begin + vsize header v < 2 ^ 62
near_end header v h = grind (arith, nat_tests, ltb-true, and_second)

pub record FixedSoFar (header : Header) (align : Align) (first k end : ℕ) : Type 0 where
  pub place : end ≡ fixed_end header align first k
  pub small : end < 2 ^ 62
  pub none : NoneFar header align first (λ w. not (is_record header w.1)) k

pub record RecordsSoFar (header : Header) (align : Align) (first k begin : ℕ) : Type 0 where
  pub place : begin ≡ first_record header align first + records_before header k
  pub none : NoneFar header align first (λ w. is_record header w.1) k

module _ (header : Header) (align : Align) (first : ℕ) where
  numbered_at : (k : ℕ) (v : Var) → Lies header k v → get_or (numbered header align first) k (0, v) ≡ (k, in_place header align first k v)
  numbered_at k v lies = grind (arith, nat_tests, get_or-enumerate_from, length-placed, get_or-placed, lies.within, lies.there)

  pub begin_fixed : (k : ℕ) (v : Var) → is_record header v ≡ false → begin_of header align first k v ≡ round_up align.var (fixed_end header align first k)
  begin_fixed k v e = grind (arith, nat_tests)

  pub begin_record : (k : ℕ) (v : Var) → is_record header v ≡ true → begin_of header align first k v ≡ first_record header align first + records_before header k
  begin_record k v e = grind (arith, nat_tests)

  -- ---- one variable on

  pub fixed_end_more : (k : ℕ) (v : Var) → Lies header k v → is_record header v ≡ false
      → fixed_end header align first (k + 1) ≡ round_up align.var (fixed_end header align first k) + vsize header v
  fixed_end_more k v lies f =
      let is : filter (λ w. not (is_record header w)) (take (k + 1) header.vars) ≡ fixed_variables header (take k header.vars) ++ get_or header.vars k v ∷ [] =
      grind (arith, nat_tests, filter_yes (λ w. not (is_record header w)) header.vars k v lies.within, not_from_false, lies.there) in
      rw (is, ← lies.there) (fold_push (λ end w. round_up align.var end + vsize header w) (round_up align.header first) (fixed_variables header (take k header.vars)) v)

  pub fixed_end_same : (k : ℕ) (v : Var) → Lies header k v → is_record header v ≡ true → fixed_end header align first (k + 1) ≡ fixed_end header align first k
  fixed_end_same k v lies f = let e = lies.there in let h = lies.within in grind (arith, nat_tests, filter_no, not_from_true)

  -- ---- the search for a variable that lies too far, as far as a loop has come

  pub none_more : (p : Numbered → Bool) (k : ℕ) (v : Var) → Lies header k v
      → (p (k, in_place header align first k v) ≡ true → lies_too_far header (in_place header align first k v) ≡ false)
      → NoneFar header align first p k → NoneFar header align first p (k + 1)
  none_more p k v lies near none = grind (arith, nat_tests, find_goes_on p, numbered_at k v lies, length-placed, length-enumerate_from)

  far_here : (p : Numbered → Bool) (k : ℕ) (v : Var) → Lies header k v → p (k, in_place header align first k v) ≡ true
      → lies_too_far header (in_place header align first k v) ≡ true
      → NoneFar header align first p k → find (λ w. lies_too_far header w.1) (filter p (numbered header align first)) ≡ Some (k, in_place header align first k v)
  far_here p k v lies passes far none = grind (arith, nat_tests, find_stops p, numbered_at k v lies, length-placed, length-enumerate_from)

  fits_at : (p : Numbered → Bool) (k : ℕ) (v : Var) → Lies header k v → find (λ w. lies_too_far header w.1) (filter p (numbered header align first)) ≡ None
      → p (k, in_place header align first k v) ≡ true → lies_too_far header (in_place header align first k v) ≡ false
  fits_at p k v lies none passes = grind (arith, nat_tests, fails_at p, numbered_at k v lies, length-placed, length-enumerate_from)

  -- all have been looked at
  pub none_whole : (p : Numbered → Bool) (n : ℕ) → length header.vars ≤ n → NoneFar header align first p n
      → find (λ w. lies_too_far header w.1) (filter p (numbered header align first)) ≡ None
  none_whole p n h none =
      let whole : length (numbered header align first) ≤ n = grind (arith, nat_tests, length-placed, length-enumerate_from) in
      rw (take_all n (numbered header align first) whole) at none

  -- ---- where none lies too far

  pub fixed_fits : (k : ℕ) (v : Var) → far_fixed (begins header align first) ≡ None → Lies header k v → is_record header v ≡ false
      → lies_too_far header (in_place header align first k v) ≡ false
  fixed_fits k v none lies f = fits_at (λ w. not (is_record header w.1)) k v lies none (not_from_false _ f)

  pub record_fits : (k : ℕ) (v : Var) → far_record (begins header align first) ≡ None → Lies header k v → is_record header v ≡ true
      → lies_too_far header (in_place header align first k v) ≡ false
  record_fits k v none lies f = fits_at (λ w. is_record header w.1) k v lies none f

  pub fixed_near : (k : ℕ) (v : Var) → far_fixed (begins header align first) ≡ None → Lies header k v → is_record header v ≡ false
      → round_up align.var (fixed_end header align first k) + vsize header v < 2 ^ 62
  fixed_near k v none lies f =
      grind (arith, nat_tests, near_end header (in_place header align first k v) (fixed_fits k v none lies f), fixed_fits k v none lies f, begin_fixed k v f)

  pub record_near : (k : ℕ) (v : Var) → far_record (begins header align first) ≡ None → Lies header k v → is_record header v ≡ true
      → first_record header align first + records_before header k + vsize header v < 2 ^ 62
  record_near k v none lies f =
      grind (arith, nat_tests, near_end header (in_place header align first k v) (record_fits k v none lies f), record_fits k v none lies f, begin_record k v f)

  -- ---- the fixed variables and the record variables, as far as the loop has come

  fixed_far : (k end : ℕ) (v : Var) (far : Bool) → is_record header v ≡ false → FixedSoFar header align first k end
      → lies_too_far header (at_begin v (round_up align.var end)) ≡ far → lies_too_far header (in_place header align first k v) ≡ far
  fixed_far k end v far f so e = ap (λ (n : ℕ). lies_too_far header (at_begin v n)) (begin_fixed k v f ∙ ap (λ (n : ℕ). round_up align.var n) (sym so.place)) ∙ e

  record_far : (k begin : ℕ) (v : Var) (far : Bool) → is_record header v ≡ true → RecordsSoFar header align first k begin
      → lies_too_far header (at_begin v begin) ≡ far → lies_too_far header (in_place header align first k v) ≡ far
  record_far k begin v far f so e = ap (λ (n : ℕ). lies_too_far header (at_begin v n)) (begin_record k v f ∙ sym so.place) ∙ e

  pub fixed_skip : (k end : ℕ) (v : Var) → Lies header k v → is_record header v ≡ true → FixedSoFar header align first k end → FixedSoFar header align first (k + 1) end
  fixed_skip k end v lies f so = grind (arith, nat_tests, fixed_end_same, none_more, no_both, not)

  pub fixed_next : (k end next : ℕ) (v : Var) → Lies header k v → is_record header v ≡ false
      → lies_too_far header (at_begin v (round_up align.var end)) ≡ false → next ≡ round_up align.var end + vsize header v → next < 2 ^ 62
      → FixedSoFar header align first k end → FixedSoFar header align first (k + 1) next
  fixed_next k end next v lies f near g l so = grind (arith, nat_tests, fixed_end_more, none_more, fixed_far, not)

  pub fixed_stops : (k end : ℕ) (v : Var) → Lies header k v → is_record header v ≡ false → lies_too_far header (at_begin v (round_up align.var end)) ≡ true
      → FixedSoFar header align first k end → far_fixed (begins header align first) ≡ Some (k, in_place header align first k v)
  fixed_stops k end v lies f far so = far_here (λ w. not (is_record header w.1)) k v lies (not_from_false _ f) (fixed_far k end v true f so far) so.none

  pub records_skip : (k begin : ℕ) (v : Var) → Lies header k v → is_record header v ≡ false → RecordsSoFar header align first k begin → RecordsSoFar header align first (k + 1) begin
  records_skip k begin v lies f so = grind (arith, nat_tests, records_same, none_more, no_both, first_record)

  pub records_next : (k begin next : ℕ) (v : Var) → Lies header k v → is_record header v ≡ true → lies_too_far header (at_begin v begin) ≡ false → next ≡ begin + vsize header v
      → RecordsSoFar header align first k begin → RecordsSoFar header align first (k + 1) next
  records_next k begin next v lies f near g so = grind (arith, nat_tests, records_more, none_more, record_far)

  pub records_stop : (k begin : ℕ) (v : Var) → Lies header k v → is_record header v ≡ true → lies_too_far header (at_begin v begin) ≡ true
      → RecordsSoFar header align first k begin → far_record (begins header align first) ≡ Some (k, in_place header align first k v)
  records_stop k begin v lies f far so = far_here (λ w. is_record header w.1) k v lies f (record_far k begin v true f so far) so.none

-- ---- the begins that are written, the variables standing apart from their header

abbrev pub whole_header : Header → List Var → Header
whole_header header vars = record header { vars = vars }

pub record WrittenSoFar (header : Header) (align : Align) (first : ℕ) (old now : List Var) (k fixed begin : ℕ) : Type 0 where
  pub items : now ≡ take k (placed (whole_header header old) align first 0 old) ++ drop k old
  pub fixed_place : fixed ≡ fixed_end (whole_header header old) align first k
  pub small : fixed < 2 ^ 62
  pub place : begin ≡ first_record (whole_header header old) align first + sum_by (λ w. vsize header w) (record_variables header (take k old))

-- one item further, of two lists of one length
set_seam : {A : Type 0} (new old : List A) (k : ℕ) (x d : A) → length new ≡ length old → k < length old → get_or new k d ≡ x
    → set (take k new ++ drop k old) k x ≡ take (suc k) new ++ drop (suc k) old
set_seam {A} (n ∷ new) (o ∷ old) k x d l h e = grind (arith, nat_tests, set_seam new old)
set_seam _ _ k x d l h e = absurd (omega arith)

seam_at : {A : Type 0} (new old : List A) (k : ℕ) (d : A) → length new ≡ length old → k < length old → get_or (take k new ++ drop k old) k d ≡ get_or old k d
seam_at {A} (n ∷ new) (o ∷ old) k d l h = grind (arith, nat_tests, seam_at new old)
seam_at _ _ k d l h = absurd (omega arith)

suc_is : (n : ℕ) → suc n ≡ n + 1
suc_is n = omega arith

module _ (header : Header) (align : Align) (first : ℕ) (old : List Var) where
  -- the item at the seam
  pub item_there : (now : List Var) (k fixed begin : ℕ) (d : Var) → length now ≡ length old → k < length now → d ≡ get_or now k d
      → WrittenSoFar header align first old now k fixed begin → Lies (whole_header header old) k (get_or now k d)
  item_there now k fixed begin d l h e so = grind (arith, nat_tests, seam_at, length-placed)

  one_written : (now : List Var) (k fixed begin b : ℕ) (v : Var) → Lies (whole_header header old) k v → WrittenSoFar header align first old now k fixed begin
      → b ≡ begin_of (whole_header header old) align first k v
      → set now k (at_begin v b) ≡ take (k + 1) (placed (whole_header header old) align first 0 old) ++ drop (k + 1) old
  one_written now k fixed begin b v lies so is =
      let whole = whole_header header old in
      grind (arith, nat_tests, get_or-placed whole align first 0 old k v lies.within, set, set_seam (placed whole align first 0 old) old k (at_begin v b) v (length-placed whole align first 0 old), placed whole align first 0 old, length-placed whole align first 0 old, suc_is k, lies.there, so.items, in_place, get_or, at_begin, take, drop)

  pub write_record : (now : List Var) (k fixed begin bytes : ℕ) (v : Var) → Lies (whole_header header old) k v → is_record header v ≡ true
      → far_record (begins (whole_header header old) align first) ≡ None → bytes ≡ capped (vsize header v)
      → WrittenSoFar header align first old now k fixed begin → WrittenSoFar header align first old (set now k (at_begin v begin)) (k + 1) fixed (begin + bytes)
  write_record now k fixed begin bytes v lies f none b so =
      let whole = whole_header header old in
      grind (arith, nat_tests, record_near whole align first k v none lies f, one_written now k fixed begin begin v lies so (so.place ∙ sym (begin_record whole align first k v f)), begin_record whole align first k v f, fixed_end_same whole align first k v lies f, records_more whole k v lies f, so.fixed_place, so.small)

  pub write_fixed : (now : List Var) (k fixed begin bytes place : ℕ) (v : Var) → Lies (whole_header header old) k v → is_record header v ≡ false
      → far_fixed (begins (whole_header header old) align first) ≡ None → bytes ≡ capped (vsize header v) → place ≡ round_up align.var fixed
      → WrittenSoFar header align first old now k fixed begin → WrittenSoFar header align first old (set now k (at_begin v place)) (k + 1) (place + bytes) begin
  write_fixed now k fixed begin bytes place v lies f none b r so =
      grind (
        arith,
        nat_tests,
        fixed_near (whole_header header old) align first k v none lies f,
        one_written now k fixed begin place v lies so,
        begin_fixed (whole_header header old) align first k v f,
        fixed_end_more (whole_header header old) align first k v lies f,
        records_same (whole_header header old) k v lies f,
      )

pub written_whole : (header : Header) (align : Align) (first : ℕ) (old now : List Var) (k fixed begin : ℕ) → length old ≤ k
    → WrittenSoFar header align first old now k fixed begin → now ≡ placed (whole_header header old) align first 0 old
written_whole header align first old now k fixed begin h so = grind (arith, nat_tests, length-placed, drop_all, append-nil, take_all)

-- ---- why a layout is refused

pub fault_is : (header : Header) (align : Align) (len : ℕ) → len ≡ header_len header
    → layout_fault header align
    ≡ option_or (size_fault header)
    (option_or (option_map (λ v. fault.BeginRange v.0) (far_fixed (begins header align len))) (option_map (λ v. fault.BeginRange v.0) (far_record (begins header align len))))
fault_is header align len e =
    rw (e, find-append (λ v. lies_too_far header v.1) (fixed_of header (numbered header align (header_len header))) (records_in header (numbered header align (header_len header))))
    (ap (λ o. option_or (size_fault header) o) (mapped (far_fixed (begins header align (header_len header))) (far_record (begins header align (header_len header)))))
  where
    mapped : (a b : Option Numbered) → option_map (λ v. fault.BeginRange v.0) (option_or a b)
        ≡ option_or (option_map (λ v. fault.BeginRange v.0) a) (option_map (λ v. fault.BeginRange v.0) b)
    mapped a b = grind (arith, nat_tests)

pub is_second : {E : Type 0} (s x y : Option E) (e : E) → None ≡ s → Some e ≡ x → Some e ≡ option_or s (option_or x y)
is_second s x y e f g = ap (λ o. option_or o y) g ∙ ap (λ o. option_or o (option_or x y)) f

pub is_third : {E : Type 0} (s x y : Option E) (e : E) → None ≡ s → None ≡ x → Some e ≡ y → Some e ≡ option_or s (option_or x y)
is_third s x y e f g h = h ∙ ap (λ o. option_or o y) g ∙ ap (λ o. option_or o (option_or x y)) f

pub is_none_of : {E : Type 0} (s x y : Option E) → None ≡ s → None ≡ x → None ≡ y → None ≡ option_or s (option_or x y)
is_none_of s x y f g h = h ∙ ap (λ o. option_or o y) g ∙ ap (λ o. option_or o (option_or x y)) f

pub no_far : {A B : Type 0} (f : A → B) (o : Option A) → None ≡ option_map f o → o ≡ None
no_far f o e = grind (arith, nat_tests)

pub first_record_is : (header : Header) (align : Align) (first end begin : ℕ) → end ≡ fixed_end header align first (length header.vars)
    → begin ≡ round_up align.var end → begin ≡ first_record header align first
first_record_is header align first end begin e f = grind (arith, nat_tests, take_all)

-- What a filling that was refused leaves: each byte is old, or that of the filled file.
use Rattle.fill_records.proofs.Words.{◌≡◌, ℕ, suc, ◌+◌, ◌<◌, ◌≤◌, ◌⊎◌, inl, inr, refl, sym, ◌∙◌, ap, subst, in_left, filter_in, in_at, filter-append, take-append-drop, drop, In, List, [], ◌∷◌, ◌++◌, length, take, true, false, not, Option, Some, None, arith, fold, IfSome, cases_lt, nat_tests, told_else, both_none, Header, Var, PartlyWritten, after, BothTold, at, written, fill_bytes, fill_var, filled, header_len, is_sound, end_of, fixed_variables, is_record, share, sharing_from, slab, none_shared, none_with, length-written_inside, get_or-written_below, get_or-written_within, get_or-written_above, IsBetween, repeated, filled_variable, found_long, common_steps}
use Rattle.fill_records.proofs.RepeatedLaws.{repeated_long, at_repeated}
use Rattle.fill_records.proofs.VariableLaws.{filled_more, fixed_end}
use Rattle.fill_records.proofs.WindowLaws.{for_told}
use Rattle.fill_records.proofs.WriteLaws.{var_filled}

-- ---- files

-- the first of the bytes that are written
some_written : (value file : List ℕ) (begin n len : ℕ) → n ≤ len → begin + len ≤ length file
    → IsBetween file (written file begin (repeated value 0 len)) (written file begin (repeated value 0 n))
some_written value file begin n len h room =
    grind (
      arith,
      nat_tests,
      repeated_long value 0 n,
      repeated_long value 0 len,
      length-written_inside,
      cases_lt,
      get_or-written_above,
      get_or-written_within,
      at_repeated,
      get_or-written_below,
    )

-- ---- files that may be told

-- a change more was cut off
change_refused : (held mid now : Option (List ℕ)) (f g whole : List ℕ → List ℕ) → mid ≡ after f held
    → IfSome held (λ file. IsBetween file (whole file) (f file) × IsBetween file (whole file) (g (f file)))
    → BothTold (λ old left. IsBetween old (g old) left) mid now → BothTold (λ old left. IsBetween old (whole old) left) held now
change_refused held mid now f g whole e s b = grind (arith, nat_tests)

-- the write of some bytes was cut off
write_refused : (mid now : Option (List ℕ)) (place : ℕ) (bytes : List ℕ) → IfSome mid (λ file. place + length bytes ≤ length file)
    → BothTold (PartlyWritten place bytes) mid now → BothTold (λ old left. IsBetween old (written old place bytes) left) mid now
write_refused mid now place bytes room b = grind (arith, nat_tests, length-written_inside)

-- one window more of a value's bytes was cut off
pub part_refused : (held mid now : Option (List ℕ)) (value bytes : List ℕ) (begin len some next place size : ℕ) → IfSome held (λ file. length file ≡ size)
    → some ≤ len → next ≤ len → begin + len ≤ size → place + length bytes ≤ size
    → ((file : List ℕ) → length file ≡ size → written (written file begin (repeated value 0 some)) place bytes ≡ written file begin (repeated value 0 next))
    → mid ≡ after (λ file. written file begin (repeated value 0 some)) held → BothTold (PartlyWritten place bytes) mid now
    → BothTold (λ old left. IsBetween old (written old begin (repeated value 0 len)) left) held now
part_refused None mid now value bytes begin len some next place size long few less room fits same e b = subst (λ (m : Option (List ℕ)). BothTold (PartlyWritten place bytes) m now) e b
part_refused (Some file) mid now value bytes begin len some next place size long few less room fits same e b =
    let one = some_written value file begin some len few (omega arith) in
    change_refused (Some file) mid now (λ f. written f begin (repeated value 0 some)) (λ f. written f place bytes) (λ f. written f begin (repeated value 0 len)) e
    (one, subst (λ (f : List ℕ). IsBetween file (written file begin (repeated value 0 len)) f) (sym (same file long)) (some_written value file begin next len less (omega arith)))
    (write_refused mid now place bytes (rw e (omega (arith, one.len))) b)

-- the same bytes by another name
pub whole_same : (held now : Option (List ℕ)) (f g : List ℕ → List ℕ) → IfSome held (λ file. f file ≡ g file)
    → BothTold (λ old left. IsBetween old (f old) left) held now → BothTold (λ old left. IsBetween old (g old) left) held now
whole_same held now f g same b = grind (arith, nat_tests)

-- ---- some of the variables

-- what fills these variables
abbrev fill_all : Header → List Var → List ℕ → List ℕ
fill_all header vars file = fold (fill_var header) file vars

-- the byte is not in the variable
abbrev IsBeside : Header → ℕ → Var → Type 0
IsBeside header x v = (x < v.begin) ⊎ (v.begin + slab header v ≤ x)

-- these are fixed variables that end inside a file so long
abbrev AreInside : Header → ℕ → List Var → Type 0
AreInside header long vars = (w : Var) → In vars w → (is_record header w ≡ false) × (w.begin + slab header w ≤ long)

-- no two of these share a byte
abbrev AreApart : Header → List Var → Type 0
AreApart header [] = Unit {0}
AreApart header (v ∷ vars) = ((w : Var) → In vars w → share header v w ≡ false) × AreApart header vars

module _ (header : Header) where
  -- what the filling of a fixed variable writes
  fill_written : (v : Var) (file : List ℕ) → is_record header v ≡ false → v.begin + slab header v ≤ length file
      → fill_var header file v ≡ written file v.begin (repeated (fill_bytes v) 0 (slab header v))
  fill_written v file fixed room = var_filled header v (fill_bytes v) file fixed refl (found_long v.kind v.attrs) room

  -- bytes beside the variable stay
  fill_beside : (v : Var) (file : List ℕ) (x : ℕ) → is_record header v ≡ false → v.begin + slab header v ≤ length file → IsBeside header x v
      → at (fill_var header file v) x ≡ at file x
  fill_beside v file x fixed room xs = grind (arith, nat_tests, repeated_long, fill_written, get_or-written_below, get_or-written_above)

  inside_next : (v : Var) (vars : List Var) (file : List ℕ) → AreInside header (length file) (v ∷ vars) → AreInside header (length (fill_var header file v)) vars
  inside_next v vars file inside w i = grind (arith, nat_tests, repeated_long, fill_written, length-written_inside)

  all_long : (vars : List Var) (file : List ℕ) → AreInside header (length file) vars → length (fill_all header vars file) ≡ length file
  all_long [] file inside = refl
  all_long (v ∷ vars) file inside =
      grind (arith, nat_tests, all_long vars (fill_var header file v) (inside_next v vars file inside), inside_next, fill_all, repeated_long, fill_written, length-written_inside)

  all_beside : (vars : List Var) (file : List ℕ) (x : ℕ) → AreInside header (length file) vars → ((w : Var) → In vars w → IsBeside header x w)
      → at (fill_all header vars file) x ≡ at file x
  all_beside [] file x inside beside = refl
  all_beside (v ∷ vars) file x inside beside =
      grind (arith, nat_tests, all_beside vars (fill_var header file v) x (inside_next v vars file inside), inside_next, fill_beside, fill_all)

  in_or_beside : (v : Var) (x : ℕ) → IsBeside header x v ⊎ ((v.begin ≤ x) × (x < v.begin + slab header v))
  in_or_beside v x = grind (arith, nat_tests)

  -- a byte of one of two fixed variables that share none
  two_apart : (v w : Var) (x : ℕ) → is_record header v ≡ false → is_record header w ≡ false → share header v w ≡ false → v.begin ≤ x → x < v.begin + slab header v
      → IsBeside header x w
  two_apart v w x e f apart low high = elim (in_or_beside w x) [ inl b ↦ b | inr t ↦ absurd (grind (arith, nat_tests)) ]

  -- when the first of them are filled, a byte has its last value already, or is old
  some_of : (first rest : List Var) (file : List ℕ) (x : ℕ) → AreInside header (length file) (first ++ rest) → AreApart header (first ++ rest)
      → (at (fill_all header first file) x ≡ at file x) ⊎ (at (fill_all header first file) x ≡ at (fill_all header (first ++ rest) file) x)
  some_of [] rest file x inside apart = inl refl
  some_of (v ∷ first) rest file x inside apart =
      let own = inside v (inl refl) in
      let next = inside_next v (first ++ rest) file inside in
      let last : v.begin ≤ x → x < v.begin + slab header v → at (fill_all header (first ++ rest) (fill_var header file v)) x ≡ at (fill_var header file v) x = λ l h.
      all_beside (first ++ rest) (fill_var header file v) x next (λ w i. two_apart v w x own.0 (inside w (inr i)).0 (apart.0 w i) l h) in
      grind (arith, nat_tests, some_of first rest (fill_var header file v) x next apart.1, in_or_beside v x, fill_beside v file x own.0 own.1, last)

  -- of a header of which no variables share a byte
  fixed_apart : (first n : ℕ) (vars : List Var) → sharing_from header first n vars ≡ None → AreApart header (fixed_variables header vars)
  fixed_apart first n [] alone = tt
  fixed_apart first n (v ∷ vars) alone = grind (arith, nat_tests, both_none, told_else, fixed_apart first (suc n) vars, in_at, filter_in, none_with, AreApart)

  fixed_inside : (long : ℕ) → end_of header (header_len header) 0 ≤ long → AreInside header long (fixed_variables header header.vars)
  fixed_inside long room w i = grind (arith, nat_tests, filter_in, in_at, fixed_end, AreInside)

  -- the first of the variables are filled
  some_filled : (k : ℕ) (file : List ℕ) → is_sound header ≡ true → end_of header (header_len header) 0 ≤ length file
      → IsBetween file (filled header file) (fold (fill_var header) file (fixed_variables header (take k header.vars)))
  some_filled k file sound room =
      by_parts (fixed_variables header (take k header.vars)) (fixed_variables header (drop k header.vars))
      (sym (ap (fixed_variables header) (sym (take-append-drop k header.vars)) ∙ filter-append (λ (u : Var). not (is_record header u)) (take k header.vars) (drop k header.vars)))
    where
      by_parts : (first rest : List Var) → first ++ rest ≡ fixed_variables header header.vars → IsBetween file (filled header file) (fill_all header first file)
      by_parts first rest e =
          let inside = subst (AreInside header (length file)) (sym e) (fixed_inside (length file) room) in
          let apart = subst (AreApart header) (sym e) (fixed_apart (header_len header) 0 header.vars (none_shared header sound)) in
          subst (λ (vs : List Var). IsBetween file (fill_all header vs file) (fill_all header first file)) e
          (record { len = all_long first file (λ w i. inside w (in_left first rest w i)); each = λ x. some_of first rest file x inside apart })

  pub filled_long : (file : List ℕ) → end_of header (header_len header) 0 ≤ length file → length (filled header file) ≡ length file
  filled_long file room = all_long (fixed_variables header header.vars) file (fixed_inside (length file) room)

-- one variable more was cut off
pub variable_refused : (header : Header) (held mid now : Option (List ℕ)) (k size : ℕ) (v : Var) → take (k + 1) header.vars ≡ take k header.vars ++ v ∷ []
    → is_sound header ≡ true → IfSome held (λ file. length file ≡ size) → end_of header (header_len header) 0 ≤ size
    → mid ≡ after (λ file. fold (fill_var header) file (fixed_variables header (take k header.vars))) held
    → BothTold (λ old left. IsBetween old (filled_variable header v old) left) mid now
    → BothTold (λ old left. IsBetween old (filled header old) left) held now
variable_refused header held mid now k size v next sound long room e b =
    change_refused held mid now (λ file. fold (fill_var header) file (fixed_variables header (take k header.vars))) (filled_variable header v) (filled header) e
    (for_told held (λ file l. grind (arith, common_steps, some_filled header k file sound, filled header file, filled_more header k v file next, some_filled header (k + 1) file sound)) long) b

-- What a run leaves of each byte: what the last completed put that holds it says, else the old one.
use Rattle.whole_run_laws.proofs.Words.{written, fill_bytes, fill_var, filled, end_for, fixed_variables, inner_lengths, place, coordinates, state_after, longer_long, written_grows, end_grows, ◌≡◌, ℕ, ◌≤◌, refl, ◌∙◌, List, [], ◌∷◌, length, set, false, arith, flat_map-append, get_or_past, fold, Header, Script, Mark, Offer, at, said_at, byte_or, said_by_puts, Setting, Counted, after_puts, meeting, told, Going, after_mark, first_state, serial, serial_from, start, setting_of, count_long, puts_keep, raised_keeps, at-longer, byte_or_later, puts_said, said_append, completed, completed_from, completed_puts, IsBesideCount, is_held, puts_at, puts_met, raised_grows, mark_grows, nat_tests}

-- ---- a step

pub meeting_said : (s : Setting) (offers : List Offer) (c : Counted) (x : ℕ) → IsBesideCount s.header x
    → at (meeting s offers c).0.file x ≡ byte_or (said_at (said_by_puts s.header (completed s (puts_met offers))) x) (at c.file x)
meeting_said s offers c x h =
    let puts = puts_met offers in
    grind (arith, nat_tests, told s puts, raised_keeps s (record { file = after_puts s puts (told s puts) c.file; records = c.records }), count_long, puts_said s puts)

mark_said : (s : Setting) (state : Counted × List Going) (m : Mark) (x : ℕ) → IsBesideCount s.header x
    → at (after_mark s state m).0.file x ≡ byte_or (said_at (said_by_puts s.header (completed s (puts_at s state m))) x) (at state.0.file x)
mark_said s state m x h = grind (arith, nat_tests, meeting_said, set, puts_said)

-- ---- a run

state_said : (s : Setting) (state : Counted × List Going) (order : List Mark) (x : ℕ) → IsBesideCount s.header x
    → at (fold (after_mark s) state order).0.file x ≡ byte_or (said_at (said_by_puts s.header (completed_from s state order)) x) (at state.0.file x)
state_said s state [] x h = refl
state_said s state (m ∷ order) x h = grind (arith, nat_tests, state_said s (after_mark s state m) order x h, mark_said, byte_or_later, said_append, flat_map-append)

pub end_said : (script : Script) (header : Header) (file : List ℕ) (order : List Mark) (x : ℕ) → IsBesideCount header x
    → at (serial_from script header file order).bytes x ≡ byte_or (said_at (said_by_puts header (completed_puts script header file order)) x) (at file x)
end_said script header file order x h =
    grind (arith, nat_tests, state_said (setting_of script header) (first_state header file script.calls) order x h, raised_keeps (setting_of script header), count_long)

-- ---- what no put holds

pub end_kept : (script : Script) (header : Header) (file : List ℕ) (order : List Mark) (x : ℕ) → IsBesideCount header x
    → is_held header (completed_puts script header file order) x ≡ false → at (serial_from script header file order).bytes x ≡ at file x
end_kept script header file order x h k =
    grind (arith, nat_tests, end_said script header file order x h, puts_said (setting_of script header), puts_keep (setting_of script header), at-longer, k)

pub end_grown : (script : Script) (header : Header) (file : List ℕ) (order : List Mark) (x : ℕ) → IsBesideCount header x
    → is_held header (completed_puts script header file order) x ≡ false → length file ≤ x → at (serial_from script header file order).bytes x ≡ 0
end_grown script header file order x h k l = end_kept script header file order x h k ∙ get_or_past file x 0 l

pub opened_kept : (script : Script) (header : Header) (file : List ℕ) (order : List Mark) (x : ℕ) → script.fresh ≡ false → IsBesideCount header x
    → is_held header (completed_puts script header (start script header file) order) x ≡ false → at (serial script header file order).bytes x ≡ at file x
opened_kept script header file order x opened h k = grind (arith, nat_tests, end_kept, at-longer)

-- ---- lengths

fold_grows : {A B : Type 0} (size : B → ℕ) (f : B → A → B) → ((b : B) (x : A) → size b ≤ size (f b x)) → (b : B) (xs : List A) → size b ≤ size (fold f b xs)
fold_grows size f h b [] = omega arith
fold_grows size f h b (x ∷ xs) = grind (arith, nat_tests, fold_grows size f h (f b x) xs)

pub end_long : (script : Script) (header : Header) (file : List ℕ) (order : List Mark) → length file ≤ length (serial_from script header file order).bytes
end_long script header file order =
    let s = setting_of script header in
    let state = first_state header file script.calls in
    let last = fold (after_mark s) state order in
    grind (arith, nat_tests, raised_grows s last.0, fold_grows (λ (z : Counted × List Going). length z.0.file) (after_mark s) (mark_grows s) state order, s.header, last.1)

-- the file of a run goes at least to the end for no records
filled_grows : (header : Header) (file : List ℕ) → length file ≤ length (filled header file)
filled_grows header file =
    fold_grows (λ (f : List ℕ). length f) (fill_var header) (λ old v.
    fold_grows (λ (f : List ℕ). length f) (λ (f : List ℕ) (index : List ℕ). written f (place header v index) (fill_bytes v))
    (λ f index. written_grows f (place header v index) (fill_bytes v)) old (coordinates (inner_lengths header v))) file (fixed_variables header header.vars)

pub run_long : (script : Script) (header : Header) (file : List ℕ) (order : List Mark)
    → end_for (setting_of script header) 0 ≤ length (state_after script header (start script header file) order).0.file
run_long script header file order =
    let s = setting_of script header in
    grind (arith, nat_tests, longer_long, end_grows, filled_grows, fold_grows (λ (z : Counted × List Going). length z.0.file) (after_mark s) (mark_grows s))

-- What each row of the table of calls keeps, and that each lawful call that names no region is made by a row.
use Rattle.script_spec.proofs.Words.{◌≡◌, ◌∙◌, ℕ, List, [], Bool, true, false, find, ◌&&◌, ◌==◌, Some, None, bytes_eq, refl, sym, ap, eq-eqb, AllByRecursion, and_parts, eqb-true, find_at, each_at, Choice, Call, is_size, is_lawful_call, values_in_call, id_posted, Word, row_call, call_of, call_word, choice_words, words_behind, call_words, Family, Size, Record, Behind, CallRow, call_table, row_of_text, row_of, plain_word, of_behind, arith, nat_tests}
use Rattle.nc_base.specs.declared.request.Call.TheVariants as call

abbrev pub HasNoRegion : Call → Type 0
HasNoRegion (call.Put all name given values) = ⊥
HasNoRegion (call.Get all name given) = ⊥
HasNoRegion (call.Post id kind name given values) = ⊥
HasNoRegion _ = Unit {0}

-- the number behind a word is a size
abbrev pub is_sized : (f : Family) → Behind f → Bool
is_sized Size n = is_size n
is_sized Record v = is_size v.1
is_sized _ _ = true

-- Its word is read as this row's, what stood behind the word is seen of a call that was made of it, and a call that is
-- made of sizes is lawful.
pub record IsRow (row : CallRow) : Type 0 where
  pub is_read : (ranks r : ℕ) (own : List Call) (before : ℕ) (ws : List Word) → call_of ranks r own before row.word ws ≡ row_call ranks r row ws
  pub found : (ranks r : ℕ) (b : Behind row.family) → row_of (row.made ranks r b) ≡ Some row
  pub again : (ranks r : ℕ) (b : Behind row.family) → row.seen (row.made ranks r b) ≡ Some b
  pub apart : (ranks r : ℕ) (b : Behind row.family) → HasNoRegion (row.made ranks r b)
  pub lawful : (ranks r : ℕ) (b : Behind row.family) → is_sized row.family b ≡ true → is_lawful_call ranks r (row.made ranks r b) ≡ true

rows : AllByRecursion IsRow call_table
rows = grind (arith, nat_tests, eq-eqb)

each_found : {A : Type 0} (P : A → Type 0) (p : A → Bool) (xs : List A) (x : A) → AllByRecursion P xs → find p xs ≡ Some x → P x
each_found P p xs x all e = each_at P xs _ x all (sym (find_at p xs) ∙ e)

pub found_row : (w : List ℕ) (row : CallRow) → row_of_text w ≡ Some row → IsRow row
found_row w row e = each_found IsRow (λ x. bytes_eq w x.word) call_table row rows e

-- ---- the call of a row

plain : (c : Call) → HasNoRegion c → (call_word c ≡ plain_word c) × (call_words c ≡ of_behind [] words_behind c) × (values_in_call c ≡ 0) × (id_posted c ≡ None)
plain c h = grind (arith, nat_tests)

module _ (row : CallRow) (is : IsRow row) (ranks r : ℕ) (b : Behind row.family) where
  pub made_word : call_word (row.made ranks r b) ≡ row.word
  made_word = grind (arith, nat_tests, plain, call_word)

  pub made_behind : {A : Type 0} (other : A) (f : (g : Family) → Behind g → A) → of_behind other f (row.made ranks r b) ≡ f row.family b
  made_behind {A} other f = grind (arith, nat_tests)

  pub made_no_values : values_in_call (row.made ranks r b) ≡ 0
  made_no_values = (plain (row.made ranks r b) (is.apart ranks r b)).2

  pub made_no_post : id_posted (row.made ranks r b) ≡ None
  made_no_post = (plain (row.made ranks r b) (is.apart ranks r b)).3

pub wait_words : (all : Bool) (choice : Choice) → call_words (call.Wait all choice) ≡ choice_words choice
wait_words all choice = grind (arith, nat_tests)

-- ---- the row of a call

-- a call of rank r, one of so many, as a row makes it
pub record OfRow (ranks r : ℕ) (c : Call) : Type 0 where
  pub row : CallRow
  pub is : IsRow row
  pub b : Behind row.family
  pub sized : is_sized row.family b ≡ true
  pub same : row.made ranks r b ≡ c

pub of_row : (ranks r : ℕ) (c : Call) → HasNoRegion c → is_lawful_call ranks r c ≡ true → OfRow ranks r c
of_row ranks r (call.Put all name given values) h lawful = absurd h
of_row ranks r (call.Get all name given) h lawful = absurd h
of_row ranks r (call.Post id kind name given values) h lawful = absurd h
of_row ranks r (call.Wait false choice) h lawful = record { row = _; is = rows.0; b = choice; sized = refl; same = refl }
of_row ranks r (call.Wait true choice) h lawful = record { row = _; is = rows.1.0; b = choice; sized = refl; same = refl }
of_row ranks r (call.Cancel choice) h lawful = record { row = _; is = rows.1.1.0; b = choice; sized = refl; same = refl }
of_row ranks r (call.Attach n) h lawful = record { row = _; is = rows.1.1.1.0; b = n; sized = lawful; same = refl }
of_row ranks r (call.InqDim name) h lawful = record { row = _; is = rows.1.1.1.1.0; b = name; sized = refl; same = refl }
of_row ranks r (call.FillRec name n share others) h lawful =
    let all = and_parts (is_size n && (share == r)) (others == ranks) lawful in
    let own = and_parts (is_size n) (share == r) all.0 in
    record {
      row = _;
      is = rows.1.1.1.1.1.0;
      b = (name, n);
      sized = own.0;
      same =
          ap (λ (x : ℕ). call.FillRec name n x ranks) (sym (eqb-true share r own.1))
          ∙ ap (λ (x : ℕ). call.FillRec name n share x) (sym (eqb-true others ranks all.1));
    }
of_row ranks r call.Detach h lawful = record { row = _; is = rows.1.1.1.1.1.1.0; b = tt; sized = refl; same = refl }
of_row ranks r call.BeginIndep h lawful = record { row = _; is = rows.1.1.1.1.1.1.1.0; b = tt; sized = refl; same = refl }
of_row ranks r call.EndIndep h lawful = record { row = _; is = rows.1.1.1.1.1.1.1.1.0; b = tt; sized = refl; same = refl }
of_row ranks r call.SyncRecords h lawful = record { row = _; is = rows.1.1.1.1.1.1.1.1.1.0; b = tt; sized = refl; same = refl }

-- Entries that are written window by window.
use Rattle.data_sieving.proofs.Words.{◌≡◌, ℕ, ◌+◌, ◌-◌, ◌<◌, ◌≤◌, inl, inr, sym, ◌∙◌, ap, subst, List, [], ◌∷◌, ◌++◌, length, max, Option, Some, None, arith, length-take, length-drop, nat_lt, nat_le, ◌&&◌, cond, first_counts, IfSome, option_or, from_less, cells_said, second_counts, Owned, Window, after, BothTold, at, written, Cell, said_at, said_by, write_cells, IsFrom, IsWithin, moved_down, clips, Source, IsBetween, cells_long, same_said, moved_said, within_lowered, within_more, append_within, none_below, none_past, clips_within, clips_from, clips_in, said_joined, IsPast, IsNext, past_covered, front_covered, entry_cells, entries_two, unsaid, nat_tests, common_steps, none_last}

-- ---- entries laid

-- entries of two lists, one after another
pub laid_twice : (source : Source) (lo hi : ℕ) (a b : List Owned) (old mid now : List ℕ)
    → mid ≡ write_cells old (moved_down lo (clips lo hi (entry_cells source a))) → now ≡ write_cells mid (moved_down lo (clips lo hi (entry_cells source b)))
    → now ≡ write_cells old (moved_down lo (clips lo hi (entry_cells source (a ++ b))))
laid_twice source lo hi a b old mid now h g = grind (arith, common_steps, written)

-- ---- where cells lie

append_from : (lo : ℕ) (a b : List Cell) → IsFrom lo a → IsFrom lo b → IsFrom lo (a ++ b)
append_from lo [] b h k = k
append_from lo (c ∷ a) b h k = (h.0, append_from lo a b h.1 k)

clips_fit : (lo hi n : ℕ) (cells : List Cell) → lo ≤ hi → IsFrom lo cells → IsWithin cells n → IsWithin (clips lo hi cells) n
clips_fit lo hi n [] l f h = tt
clips_fit lo hi n (c ∷ cells) l f h = grind (arith, nat_tests, clips_fit lo hi n cells l f.1 h.1, length-take, length-drop)

-- what cells seen from a place say
moved_at : (base : ℕ) (cells : List Cell) (i : ℕ) → IsFrom base cells → said_at (said_by (moved_down base cells)) i ≡ said_at (said_by cells) (i + base)
moved_at base cells i f = grind (arith, nat_tests, moved_said)

-- ---- one window more

-- what is gone says nothing of the bytes that are left
past_said : (source : Source) (place : ℕ) (whole left : List Owned) (x : ℕ) → place ≤ x → IsPast place whole left
    → said_at (said_by (entry_cells source whole)) x ≡ said_at (said_by (entry_cells source left)) x
past_said source place [] left x l h = ap (λ (os : List Owned). said_at (said_by (entry_cells source os)) x) (sym h)
past_said source place (o ∷ whole) left x l (inl h) =
    entries_two source (o ∷ []) whole x
    ∙ grind (arith, common_steps, unsaid source (o ∷ []) x, past_said source place whole left x l h.1, none_last (said_at (said_by (entry_cells source whole)) x))
past_said source place (o ∷ whole) left x l (inr h) =
    grind (arith, nat_tests, past_said source place whole h.0 x l h.2, entries_two source (o ∷ []) whole x, entries_two source (o ∷ []) h.0 x)

-- what cells say between two places
clips_say : (lo hi : ℕ) (cells : List Cell) (x : ℕ) → lo ≤ hi → said_at (said_by (clips lo hi cells)) x ≡ cond (nat_le lo x && nat_lt x hi) (said_at (said_by cells) x) None
clips_say lo hi cells x l =
    grind (arith, nat_tests, clips_in lo hi cells x, none_past hi (clips lo hi cells) x (clips_within lo hi cells l), none_below lo (clips lo hi cells) x (clips_from lo hi cells l))

-- two lists of cells say of a byte what one says of which they are the parts
parts_say : (s t : Option ℕ) (x base place low high stop : ℕ) → base ≤ x → base ≤ low → place ≤ low → low ≤ high → high ≤ stop → (place ≤ x → x < stop → s ≡ t)
    → (place ≤ x → x < low → s ≡ None) → (high ≤ x → x < stop → s ≡ None)
    → option_or (cond (nat_le low x && nat_lt x high) t None) (cond (nat_le base x && nat_lt x (max base place)) s None) ≡ cond (nat_le base x && nat_lt x (max base stop)) s None
parts_say s t x base place low high stop h b l m u both least each = grind (arith, nat_tests, none_last, first_counts)

-- ---- the file

-- entries that lie on a disk which begins at a place and has so many bytes
pub record AreCells (base n : ℕ) (cells : List Cell) : Type 0 where
  pub from : IsFrom base cells
  pub within : IsWithin cells (base + n)

-- a file with the parts of the cells up to a place
abbrev pub file_to : ℕ → ℕ → List Cell → List ℕ → List ℕ
file_to base place cells file = write_cells file (moved_down base (clips base (max base place) cells))

to_within : (base place n : ℕ) (cells : List Cell) → AreCells base n cells → IsWithin (moved_down base (clips base (max base place) cells)) n
to_within base place n cells a = grind (arith, nat_tests, within_lowered, clips_from, clips_fit)

-- one window more
module _ (source : Source) (list : List Owned) {left : List Owned} {place size : ℕ} {w : Window} {served : List Owned} {stop : ℕ} (p : IsPast place list left)
    (k : IsNext left place size w served stop) where
  abbrev pub cells : List Cell
  cells = entry_cells source list

  abbrev pub here : List Cell
  here = clips w.hull.at (w.hull.at + w.hull.len) (entry_cells source served)

  between : (x : ℕ) → place ≤ x → x < stop → said_at (said_by cells) x ≡ said_at (said_by (entry_cells source served)) x
  between x l h = grind (arith, nat_tests, k.front, past_said source place list left x l p, entries_two source served k.front.rest x, second_counts, unsaid)

  -- the parts of the entries up to a window, and in it, say what their parts up to its end say
  step_said : (base x : ℕ) → base ≤ w.hull.at → base ≤ x → said_at (said_by (clips base (max base place) cells ++ here)) x ≡ said_at (said_by (clips base (max base stop) cells)) x
  step_said base x low least =
      let from = k.from in
      said_joined (clips base (max base place) cells) here x
      ∙ (λ i. option_or (clips_say w.hull.at (w.hull.at + w.hull.len) (entry_cells source served) x (omega arith) i) (clips_say base (max base place) cells x (omega arith) i))
      ∙ parts_say (said_at (said_by cells) x) (said_at (said_by (entry_cells source served)) x) x base place w.hull.at (w.hull.at + w.hull.len) stop least low from
      (omega arith) (omega arith) (between x)
      (λ l h. unsaid source list x (λ c. let past = k.least x (past_covered place list left x p l c) l in absurd (omega arith)))
      (λ l h. unsaid source list x (λ c. let past = k.hull.each x (front_covered stop left served x k.front h (past_covered place list left x p (omega arith) c)) h in absurd (omega arith)))
      ∙ sym (clips_say base (max base stop) cells x (omega arith))

  pub file_step : (base n : ℕ) (file : List ℕ) → AreCells base n cells → base ≤ w.hull.at → w.hull.at + w.hull.len ≤ base + n → length file ≡ n
      → write_cells (file_to base place cells file) (moved_down base here) ≡ file_to base stop cells file
  file_step base n file a low high e =
      let before = clips base (max base place) cells in
      let whole = clips base (max base stop) cells in
      grind (arith, common_steps, append_from base before here, clips_from base (max base place), from_less base w.hull.at here low, clips_from w.hull.at (w.hull.at + w.hull.len) (entry_cells source served), append_within before here (base + n), clips_fit base (max base place) (base + n), within_more here (w.hull.at + w.hull.len) (base + n) high, clips_within w.hull.at (w.hull.at + w.hull.len) (entry_cells source served), written, same_said (moved_down base (before ++ here)) (moved_down base whole) file, within_lowered base n (before ++ here), to_within base stop n, moved_at base (before ++ here), step_said base, moved_at base whole, clips_from base (max base stop))

pub to_begin : (base n : ℕ) (cells : List Cell) (file : List ℕ) → AreCells base n cells → length file ≡ n → file ≡ file_to base 0 cells file
to_begin base n cells file a e =
    same_said [] (moved_down base (clips base (max base 0) cells)) file tt
    (subst (λ (m : ℕ). IsWithin (moved_down base (clips base (max base 0) cells)) m) (sym e) (to_within base 0 n cells a))
    (grind (arith, common_steps, moved_at base (clips base (max base 0) cells), clips_from base (max base 0) cells, none_past (max base 0) (clips base (max base 0) cells), clips_within base (max base 0) cells))

pub to_end : (source : Source) (list left : List Owned) (base place n : ℕ) (file : List ℕ) → AreCells base n (entry_cells source list) → length file ≡ n
    → left ≡ [] → IsPast place list left → file_to base place (entry_cells source list) file ≡ write_cells file (moved_down base (entry_cells source list))
to_end source list left base place n file a e none p =
    let cells = entry_cells source list in
    let clipped = clips base (max base place) cells in
    same_said (moved_down base clipped) (moved_down base cells) file
    (subst (λ (m : ℕ). IsWithin (moved_down base clipped) m) (sym e) (to_within base place n cells a))
    (subst (λ (m : ℕ). IsWithin (moved_down base cells) m) (sym e) (within_lowered base n cells a.from a.within))
    (λ i. moved_at base clipped i (clips_from base (max base place) cells (omega arith))
    ∙ grind (arith, nat_tests, clips_say base (max base place) (entry_cells source list) (i + base) (omega arith), unsaid source list (i + base), past_covered place list left (i + base) p)
    ∙ sym (moved_at base cells i a.from))

-- ---- a disk that may tell its bytes

pub mixed_to : (base place n : ℕ) (cells : List Cell) (file : List ℕ) → AreCells base n cells → length file ≡ n
    → IsBetween file (write_cells file (moved_down base cells)) (file_to base place cells file)
mixed_to base place n cells file a e = grind (arith, nat_tests, file_to, cells_long, to_within, cells_said, moved_at, clips_from, clips_say)

pub held_refused : (held mid now : Option (List ℕ)) (n : ℕ) (f g h whole : List ℕ → List ℕ) → IfSome held (λ b. length b ≡ n)
    → ((file : List ℕ) → length file ≡ n → g (f file) ≡ h file)
    → ((file : List ℕ) → length file ≡ n → IsBetween file (whole file) (f file)) → ((file : List ℕ) → length file ≡ n → IsBetween file (whole file) (h file))
    → mid ≡ after f held → BothTold (λ old left. IsBetween old (g old) left) mid now → BothTold (λ old left. IsBetween old (whole old) left) held now
held_refused None mid now n f g h whole long same before past e b = grind (arith, nat_tests)
held_refused (Some file) mid now n f g h whole long same before past e b =
    let earlier : IsBetween file (whole file) (f file) = before file long in
    let later : IsBetween file (whole file) (g (f file)) = subst (λ (l : List ℕ). IsBetween file (whole file) l) (sym (same file long)) (past file long) in
    let r : BothTold (λ old left. IsBetween old (g old) left) (Some (f file)) now = subst (λ (m : Option (List ℕ)). BothTold (λ old left. IsBetween old (g old) left) m now) e b in
    (r.0, r.1, record { len = (r.2).len ∙ earlier.len; each = λ i. grind (arith, nat_tests, (r.2).each i, earlier.each i, later.each i) })

-- The record count of a run: the greater of the old one and the greatest that a completed put needed.
use Rattle.serial_spec.proofs.RoomLaws.{greatest_holds}
use Rattle.whole_run_laws.proofs.Words.{entry_map, ◌≡◌, ℕ, suc, ◌≤◌, refl, ap, List, [], ◌∷◌, map, set, max, true, Some, arith, map-append, same_Some, eqb_tells, fold, slice_get, entry_set, entry_set_other, Header, Call, Script, Mark, Meet, Solo, MeetKind, Offer, Counted, meeting, needs, Setting, solo, told, IsLegal, is_lawful, greatest, needed_by, advance, after_mark, after_meeting, closed, first_going, first_state, Going, hears, offers_of, serial_from, setting_of, go_went, hear_known, meeting_within, completed, completed_from, completed_puts, puts_asked, puts_at, puts_met, set_cases, same_le, greatest_joined, raised_records, nat_tests}
use Rattle.join_laws.proofs.WholeLaws.{get_map as mapped_from}
use Rattle.whole_run_laws.proofs.Courses.{AreAlong, first_along, Heard, heard_by, hears_then, mark_along, meets, offered, offered_alone, Stepped, steps}

-- ---- counts

abbrev known_of : List Going → List ℕ
known_of goings = map (λ g. g.rank.known) goings

known_at : (goings : List Going) (q : ℕ) (g : Going) → slice_get goings q ≡ Some g → g.rank.known ≤ greatest (known_of goings)
known_at goings q g e = greatest_holds (known_of goings) q g.rank.known (entry_map (λ g. g.rank.known) goings q g e)

known_below : (goings : List Going) (m : ℕ) → ((q : ℕ) (g : Going) → slice_get goings q ≡ Some g → g.rank.known ≤ m) → greatest (known_of goings) ≤ m
known_below [] m f = omega arith
known_below (x ∷ goings) m f = let a = f 0 x refl in let b = known_below goings m (λ q g e. f (suc q) g e) in omega arith

-- ---- the greatest of the file's count and of those that the ranks know

pub record Counts (n : ℕ) (c : Counted) (goings : List Going) : Type 0 where
  pub count : c.records ≤ n
  pub known : (q : ℕ) (g : Going) → slice_get goings q ≡ Some g → g.rank.known ≤ n
  pub reached : n ≤ max c.records (greatest (known_of goings))

-- ---- a meeting

module _ {script : Script} {j n : ℕ} {rest : List Mark} (s : Setting) (c : Counted) (goings : List Going) (on : AreAlong script (Meet j ∷ rest) goings) (counts : Counts n c goings) where
  abbrev offers : List Offer
  offers = offers_of (map (advance s.header) goings)

  abbrev asked : ℕ
  asked = needs s (puts_met offers) (told s (puts_met offers))

  offers_within : (q : ℕ) (o : Offer) → slice_get offers q ≡ Some o → o.known ≤ n
  offers_within q o e = let w = offered s.header on q o e in same_le o.known w.going.rank.known n w.known (counts.known q w.going w.was)

  heard_known : (q : ℕ) (g : Going) (h : Heard s c goings q g) → g.rank.known ≡ max h.before.rank.known (meeting s offers c).0.records
  heard_known q g h = grind (arith, nat_tests, meets s.header on q h.before h.was, hear_known)

  met_counts : Counts (max n asked) (meeting s offers c).0 (after_meeting s (c, goings)).1
  met_counts = record {
    count = meeting_within s offers c n counts.count offers_within;
    known = λ q g e.
        let h = heard_by s c on q g e in
        omega (arith, heard_known q g h, counts.known q h.before h.was, meeting_within s offers c n counts.count offers_within);
    reached =
        let grew = known_below goings (greatest (known_of (after_meeting s (c, goings)).1)) (λ q b e.
        let g = hears_then s c on q b e in
        grind (arith, nat_tests, heard_known q g.0 g.1.1, known_at (after_meeting s (c, goings)).1 q g.0 g.1.0, g.1.1.before, g.1.1.was)) in
        grind (arith, nat_tests, counts.reached, raised_records, grew);
  }

-- ---- a step of one rank

module _ {k r n : ℕ} {ks : List MeetKind} {rest : List Mark} (s : Setting) (c : Counted) (goings : List Going) (counts : Counts n c goings) (st : Stepped s r c goings k ks rest) where
  abbrev own : Offer
  own = st.at.asks.offer

  abbrev asked_alone : ℕ
  asked_alone = needs s (puts_asked r (Some own)) (told s (puts_asked r (Some own)))

  abbrev next : Going
  next = hears s.header (advance s.header st.before).0 (solo s r own c).1

  solo_counts : Counts (max n asked_alone) (solo s r own c).0 (set goings r next)
  solo_counts =
      let was = counts.known r st.before st.was in
      let mine = known_at (set goings r next) r next (entry_set goings r st.before next st.was) in
      let grew = known_below goings (greatest (known_of (set goings r next))) (λ q b e.
      grind (arith, nat_tests, eqb_tells r q, same_Some st.before b, known_at (set goings r next) q b, entry_set_other goings r q next, hear_known, mine, st.was)) in
      grind (arith, nat_tests, set_cases, hear_known, counts.count, counts.known, counts.reached, next)

-- ---- a run

mark_counts : (script : Script) (s : Setting) (n : ℕ) (m : Mark) (rest : List Mark) (c : Counted) (goings : List Going) → AreAlong script (m ∷ rest) goings → Counts n c goings
    → Counts (max n (needed_by s.header (completed s (puts_at s (c, goings) m)))) (after_mark s (c, goings) m).0 (after_mark s (c, goings) m).1
mark_counts script s n (Meet j) rest c goings a counts = grind (arith, nat_tests, met_counts s c goings a counts)
mark_counts script s n (Solo r i) rest c goings a counts =
    let st = steps s c a in
    grind (arith, nat_tests, told s (puts_asked r (Some st.at.asks.offer)), offered_alone st, solo_counts s c goings counts st, s.header, st.state, st.before, completed, puts_asked)

ends_known : (header : Header) (goings : List Going) → known_of (map (λ g. (advance header g).0) goings) ≡ known_of goings
ends_known header [] = refl
ends_known header (g ∷ goings) = grind (arith, nat_tests, ends_known header goings, go_went header 0 0 g.rank g.answers g.calls)

order_count : (script : Script) (s : Setting) (n : ℕ) (order : List Mark) (state : Counted × List Going) → AreAlong script order state.1 → Counts n state.0 state.1
    → (closed s (fold (after_mark s) state order)).records ≡ max n (needed_by s.header (completed_from s state order))
order_count script s n [] state a counts = grind (arith, nat_tests, counts, ends_known s.header state.1, known_below state.1 n counts.known, raised_records)
order_count script s n (m ∷ order) state a counts =
    let now = completed s (puts_at s state m) in
    grind (arith, nat_tests, order_count script s (max n (needed_by s.header now)) order (after_mark s state m), mark_along script s m order state a, mark_counts script s n m order state.0 state.1 a counts, greatest_joined, map-append, completed_from)

first_counts : (header : Header) (file : List ℕ) (calls : List (List Call)) → Counts header.records (record { file = file; records = header.records }) (map (first_going header) calls)
first_counts header file calls = record {
  count = omega arith;
  known = λ q g e. let own = mapped_from (first_going header) calls q g e in same_le g.rank.known header.records header.records (ap (λ (z : Going). z.rank.known) own.1.1) (omega arith);
  reached = omega arith;
}

pub end_count : (script : Script) (header : Header) (file : List ℕ) (order : List Mark) → is_lawful script ≡ true → IsLegal script order
    → (serial_from script header file order).records ≡ max header.records (needed_by header (completed_puts script header file order))
end_count script header file order lawful legal =
    order_count script (setting_of script header) header.records order (first_state header file script.calls)
    (first_along script header order lawful legal) (first_counts header file script.calls)

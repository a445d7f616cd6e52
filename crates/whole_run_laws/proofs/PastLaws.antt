-- No completed put holds a byte of the header, so its bytes stay but for the record count.
use Rattle.whole_run_laws.proofs.Words.{holds_or_not, some_or_none, ◌≡◌, ℕ, ◌<◌, ◌≤◌, sym, ◌∙◌, ap, subst, inl, inr, List, [], ◌∷◌, map, true, false, ◌||◌, Option, Some, arith, flat_map-append, slice_get, range_with_len, fails_each, or_first_false, any_in, flat_in, in_either, range_low, each_in, map_in, numbered_in, Header, Var, Post, Script, Mark, Meet, Solo, Offer, refused, wrong_length, at, Counted, Setting, header_len, is_sound, IsLegal, is_lawful, In, IsElementBelow, place, records_of, check_some, elements, advance, after_mark, first_going, first_state, Going, offers_of, serial_from, setting_of, bytes_of, bytes_of_some, covered, Puts, accepted_elements, elements_past_header, Fit, good_first, heard_fits, most_posts_held, offer_fits, completed, completed_from, completed_puts, IsBesideCount, is_held, puts_at, puts_met, nat_tests}
use Rattle.nc_base.specs.declared.request.Direction.TheVariants as way
use Rattle.join_laws.proofs.CountLaws.{passes_accepted as accepted}
use Rattle.join_laws.proofs.WholeLaws.{get_map as mapped_from}
use Rattle.whole_run_laws.proofs.Courses.{AreAlong, first_along, mark_along, moved, offered, offered_alone, steps}
use Rattle.whole_run_laws.proofs.KeptLaws.{end_kept}

-- ---- an accepted put

abbrev Past : Header → Post → Type 0
Past header p = (x : ℕ) → In (bytes_of header p) x → header_len header ≤ x

post_past : (header : Header) (known : ℕ) (p : Post) → is_sound header ≡ true → (refused header known way.Put p || wrong_length header p) ≡ false → Past header p
post_past header known p sound e x m = elim (some_or_none (slice_get header.vars p.var)) [
  | inl f ↦ absurd (subst (λ (o : Option Var). In (bytes_of_some header o p) x) f m)
  | inr (v, f) ↦
      let fine = sym (ap (λ (o : Option Var). check_some header o p.region known way.Put) f) ∙ accepted _ (or_first_false (refused header known way.Put p) _ e) in
      grind (arith, nat_tests, flat_in, map_in, place header v, each_in (IsElementBelow header v (records_of header v p.region)) (elements p.region), accepted_elements header p.var v p.region known way.Put sound f fine, elements_past_header header p.var v, range_low, v.kind, range_with_len)
]

-- ---- a rank whose puts are accepted

pub record IsFit (header : Header) (ranks : ℕ) (g : Going) : Type 0 where
  pub number : ℕ
  pub low : number < ranks
  pub fit : Fit header ranks number most_posts_held g.rank g.calls

offer_past : (header : Header) (ranks : ℕ) (g : Going) (o : Offer) → is_sound header ≡ true → IsFit header ranks g → (advance header g).1 ≡ Some o
    → (p : Post) → In o.batch.puts p → Past header p
offer_past header ranks g o sound f e p m =
    let fits = (offer_fits header sound ranks f.number most_posts_held f.low g o f.fit e).batch in
    post_past header o.known p sound
    (each_in (λ (q : Post). (refused header o.known way.Put q || wrong_length header q) ≡ false) o.batch.puts p
    (fails_each (λ (q : Post). refused header o.known way.Put q || wrong_length header q) o.batch.puts fits.puts) m)

-- ---- a step

abbrev pub AllPast : Header → Puts → Type 0
AllPast header puts = (x : ℕ) → In (covered header puts) x → header_len header ≤ x

met_past : (header : Header) (offers : List Offer) → ((q : ℕ) (o : Offer) → slice_get offers q ≡ Some o → (p : Post) → In o.batch.puts p → Past header p)
    → AllPast header (puts_met offers)
met_past header offers f x m = grind (arith, nat_tests, flat_in, map_in, numbered_in)

-- the ranks at a place of an order
pub record AreRight (script : Script) (header : Header) (rest : List Mark) (goings : List Going) : Type 0 where
  pub sound : is_sound header ≡ true
  pub along : AreAlong script rest goings
  pub fit : (q : ℕ) (g : Going) → slice_get goings q ≡ Some g → IsFit header script.ranks g

pub mark_past : (script : Script) (s : Setting) (m : Mark) (rest : List Mark) (c : Counted) (goings : List Going) → AreRight script s.header (m ∷ rest) goings
    → AllPast s.header (puts_at s (c, goings) m)
mark_past script s (Meet j) rest c goings a =
    met_past s.header (offers_of (map (advance s.header) goings)) (λ q o e.
    let w = offered s.header a.along q o e in
    offer_past s.header script.ranks w.going o a.sound (a.fit q w.going w.was) w.is)
mark_past script s (Solo r n) rest c goings a =
    let st = steps s c a.along in
    grind (arith, nat_tests, offered_alone st, flat_in, map_in, offer_past s.header script.ranks st.before st.at.asks.offer a.sound (a.fit r st.before st.was), st.at.asks.is_offer)

pub mark_right : (script : Script) (s : Setting) (m : Mark) (rest : List Mark) (state : Counted × List Going) → AreRight script s.header (m ∷ rest) state.1
    → AreRight script s.header rest (after_mark s state m).1
mark_right script s m rest (c, goings) a = record {
  sound = a.sound;
  along = mark_along script s m rest (c, goings) a.along;
  fit = λ q g e.
      let w = moved script s q m rest c goings g a.along e in
      let f = a.fit q w.before w.was in
      elim w.is [
        | inl h ↦ subst (IsFit s.header script.ranks) (sym h) f
        | inr h ↦ grind (arith, nat_tests, heard_fits s.header a.sound script.ranks f.number most_posts_held f.low w.before h.0 h.1 f.fit h.2, h.3)
      ];
}

-- ---- a run

order_past : (script : Script) (s : Setting) (order : List Mark) (state : Counted × List Going) → AreRight script s.header order state.1
    → AllPast s.header (completed_from s state order)
order_past script s [] state a x m = absurd m
order_past script s (k ∷ order) state a x m =
    let now = completed s (puts_at s state k) in
    let later = completed_from s (after_mark s state k) order in
    grind (arith, nat_tests, in_either (covered s.header now) (covered s.header later) x, flat_map-append (λ (p : ℕ × Post). bytes_of s.header p.1) now later, mark_past script s k order state.0 state.1 a x, order_past script s order (after_mark s state k) (mark_right script s k order state a) x, mark_right script s k order state a)

pub first_right : (script : Script) (header : Header) (order : List Mark) → is_sound header ≡ true → is_lawful script ≡ true → IsLegal script order
    → AreRight script header order (map (first_going header) script.calls)
first_right script header order sound lawful legal = record {
  sound = sound;
  along = first_along script header order lawful legal;
  fit = λ q g e.
      let own = mapped_from (first_going header) script.calls q g e in
      grind (arith, nat_tests, good_first script header q own.0 lawful own.1.0, script.ranks, own.1.1);
}

pub all_past : (script : Script) (header : Header) (file : List ℕ) (order : List Mark) (x : ℕ) → is_sound header ≡ true → is_lawful script ≡ true → IsLegal script order
    → is_held header (completed_puts script header file order) x ≡ true → header_len header ≤ x
all_past script header file order x sound lawful legal held =
    order_past script (setting_of script header) order (first_state header file script.calls) (first_right script header order sound lawful legal) x
    (any_in (covered header (completed_puts script header file order)) x held)

pub header_stays : (script : Script) (header : Header) (file : List ℕ) (order : List Mark) (x : ℕ) → is_sound header ≡ true → is_lawful script ≡ true → IsLegal script order
    → IsBesideCount header x → x < header_len header → at (serial_from script header file order).bytes x ≡ at file x
header_stays script header file order x sound lawful legal beside below =
    grind (arith, nat_tests, holds_or_not (is_held header (completed_puts script header file order) x), all_past script header file order x sound lawful legal, end_kept script header file order x beside)

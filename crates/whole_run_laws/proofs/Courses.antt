-- The ranks along a legal order: at each mark they stand at the offers of its step.
use Rattle.whole_run_laws.proofs.Words.{◌≡◌, ℕ, zero, suc, refl, sym, ◌∙◌, ap, subst, ◌⊎◌, List, [], ◌∷◌, ◌++◌, length, map, set, drop, true, Option, Some, None, arith, length-map, length-set, same_Some, slice_get_within, fold, slice_get, filter, list_all, entry_below, and_first, and_second, equal_itself, Header, Call, Script, Mark, Meet, Solo, MeetKind, Offer, Reply, Open, concerns, is_of_rank_below, IsLegal, kinds, marks_from, is_lawful, Counted, Setting, meeting, solo, Going, advance, after_mark, after_meeting, after_solo, first_going, hears, offers_of, puts_asked, rank_offer, puts_of, set_cases, kinds_of, own_lawful, ranks_lawful, solo_goes, state_after, meeting_call, Went, at_meeting, at_solo, go_went, hear_mode, hear_length, going_after, goings_long, replied, solo_of_is, entry_map, cons_rest, nil_cons, nat_tests, ltb-true}
use Rattle.nc_base.specs.declared.step.OfferKind.TheVariants as offer
use Rattle.join_laws.proofs.WholeLaws.{get_map as mapped_from}
use Rattle.whole_run_laws.proofs.CallNumbers.{IsNumbered, number_alone, number_met}

-- ---- one rank

-- these kinds of meetings and these marks are left to it, after k meetings
pub record OnCourse (q k : ℕ) (ks : List MeetKind) (rest : List Mark) (g : Going) : Type 0 where
  pub marks : marks_from q (length g.answers) k g.rank.independent g.calls ≡ filter (concerns q) rest
  pub kinds : kinds g.calls ≡ ks

-- it stands at an offer, and these marks are left after it
pub record Asks (q k n : ℕ) (rest : List Mark) (p : Going × Option Offer) : Type 0 where
  pub offer : Offer
  pub is_offer : p.1 ≡ Some offer
  pub known : p.0.rank.known ≡ n
  pub told : offer.known ≡ n
  pub open_with : Open
  pub is_open : p.0.rank.«open» ≡ Some open_with
  pub left : marks_from q (suc (length p.0.answers)) k open_with.independent p.0.calls ≡ filter (concerns q) rest

pub record AtMeeting (q k n : ℕ) (ks : List MeetKind) (rest : List Mark) (p : Going × Option Offer) : Type 0 where
  pub asks : Asks q (suc k) n rest p
  pub kind : MeetKind
  pub of_kind : asks.offer.kind ≡ offer.Meet kind
  pub kinds : ks ≡ kind ∷ kinds p.0.calls

pub record AtSolo (q k n : ℕ) (ks : List MeetKind) (rest : List Mark) (p : Going × Option Offer) : Type 0 where
  pub asks : Asks q k n rest p
  pub of_kind : asks.offer.kind ≡ offer.Solo
  pub kinds : ks ≡ kinds p.0.calls

not_solo : {A : Type 0} (k q n : ℕ) (xs ys : List Mark) → Solo q n ∷ xs ≡ Meet k ∷ ys → A
not_solo k q n xs ys e = absurd cc

abbrev asks_of : (q k k' n : ℕ) (ks : List MeetKind) (ms rest : List Mark) (g : Going) (o : Offer) (w : Went q k n ks ms (g, Some o))
    → marks_from q (suc (length g.answers)) k' w.open_with.independent g.calls ≡ filter (concerns q) rest → Asks q k' n rest (g, Some o)
asks_of q k k' n ks ms rest g o w left =
    record { offer = o; is_offer = refl; known = w.known; told = w.told; open_with = w.open_with; is_open = w.is_open; left = left }

to_meeting : (q k n j : ℕ) (ks ks' : List MeetKind) (ms rest : List Mark) (p : Going × Option Offer) → Went q k n ks ms p → ks ≡ ks'
    → ms ≡ Meet j ∷ filter (concerns q) rest → AtMeeting q k n ks' rest p
to_meeting q k n j ks ks' ms rest (g, None) w f e = nil_cons (Meet j) (filter (concerns q) rest) (sym w.marks_none ∙ e)
to_meeting q k n j ks ks' ms rest (g, Some o) w f e = elim w.kinded [
  | at_meeting kind a b d ↦ record { asks = asks_of q k (suc k) n ks ms rest g o w (cons_rest (Meet k) (Meet j) _ _ (sym d ∙ e)); kind = kind; of_kind = a; kinds = sym f ∙ b }
  | at_solo a b d ↦ not_solo j q (length g.answers) _ (filter (concerns q) rest) (sym d ∙ e)
]

to_solo : (q k n c : ℕ) (ks ks' : List MeetKind) (ms rest : List Mark) (p : Going × Option Offer) → Went q k n ks ms p → ks ≡ ks'
    → ms ≡ Solo q c ∷ filter (concerns q) rest → AtSolo q k n ks' rest p
to_solo q k n c ks ks' ms rest (g, None) w f e = nil_cons (Solo q c) (filter (concerns q) rest) (sym w.marks_none ∙ e)
to_solo q k n c ks ks' ms rest (g, Some o) w f e = elim w.kinded [
  | at_meeting kind a b d ↦ not_solo k q c (filter (concerns q) rest) _ (sym e ∙ d)
  | at_solo a b d ↦ record { asks = asks_of q k k n ks ms rest g o w (cons_rest (Solo q (length g.answers)) (Solo q c) _ _ (sym d ∙ e)); of_kind = a; kinds = sym f ∙ b }
]

-- a rank that hears goes on
heard_on : (header : Header) (q k n : ℕ) (ks : List MeetKind) (rest : List Mark) (p : Going × Option Offer) (y : Reply) → Asks q k n rest p
    → kinds p.0.calls ≡ ks → OnCourse q k ks rest (hears header p.0 y)
heard_on header q k n ks rest p y a e = grind (arith, nat_tests, hear_length, hear_mode)

-- ---- all ranks

-- these marks are left to them, after some meetings
pub record AreAlong (script : Script) (rest : List Mark) (goings : List Going) : Type 0 where
  pub met : ℕ
  pub left : List MeetKind
  pub long : length goings ≡ script.ranks
  pub known : list_all (is_of_rank_below script.ranks) rest ≡ true
  pub each : (q : ℕ) (g : Going) → slice_get goings q ≡ Some g → OnCourse q met left rest g
  pub numbered : (q : ℕ) (g : Going) (own : List Call) → slice_get goings q ≡ Some g → slice_get script.calls q ≡ Some own → IsNumbered met own (length g.answers) g.calls

module _ {script : Script} {j : ℕ} {rest : List Mark} {goings : List Going} (header : Header) (on : AreAlong script (Meet j ∷ rest) goings) where
  pub meets : (q : ℕ) (g : Going) → slice_get goings q ≡ Some g → AtMeeting q on.met g.rank.known on.left rest (advance header g)
  meets q g e = grind (arith, nat_tests, to_meeting q on.met g.rank.known j (kinds g.calls) on.left, go_went header q on.met g.rank g.answers g.calls)

  pub meets_number : (q : ℕ) (g : Going) → slice_get goings q ≡ Some g → on.met ≡ j
  meets_number q g e = grind (arith, nat_tests, on.each q g e, go_went header q on.met g.rank g.answers g.calls, nil_cons, not_solo)

module _ {script : Script} {r c : ℕ} {rest : List Mark} {goings : List Going} (header : Header) (on : AreAlong script (Solo r c ∷ rest) goings) where
  pub goes_alone : (g : Going) → slice_get goings r ≡ Some g → AtSolo r on.met g.rank.known on.left rest (advance header g)
  goes_alone g e =
      let own = on.each r g e in
      to_solo r on.met g.rank.known c (kinds g.calls) on.left (marks_from r (length g.answers) on.met g.rank.independent g.calls) rest (advance header g)
      (go_went header r on.met g.rank g.answers g.calls) own.kinds (grind (arith, nat_tests, own.marks, equal_itself r))

  pub goes_number : (g : Going) → slice_get goings r ≡ Some g → length (advance header g).0.answers ≡ c
  goes_number g e = grind (arith, nat_tests, on.each r g e, go_went header r on.met g.rank g.answers g.calls, equal_itself r, nil_cons, not_solo)

-- ---- the offers of a meeting

abbrev pub AllAsk : List (Going × Option Offer) → Type 0
AllAsk ps = (q : ℕ) (p : Going × Option Offer) → slice_get ps q ≡ Some p → (o : Offer) × (p.1 ≡ Some o)

offers_long : (ps : List (Going × Option Offer)) → AllAsk ps → length (offers_of ps) ≡ length ps
offers_long [] f = refl
offers_long (p ∷ ps) f = grind (arith, nat_tests, f 0 p refl, offers_long ps (λ q p e. f (suc q) p e))

offer_at : (ps : List (Going × Option Offer)) (q : ℕ) (p : Going × Option Offer) (o : Offer) → AllAsk ps → slice_get ps q ≡ Some p → p.1 ≡ Some o
    → slice_get (offers_of ps) q ≡ Some o
offer_at [] q p o f e h = cc
offer_at (x ∷ ps) zero p o f e h = grind (arith, nat_tests, same_Some x p e)
offer_at (x ∷ ps) (suc q) p o f e h = grind (arith, nat_tests, f 0 x refl, offer_at ps q p o (λ r z d. f (suc r) z d) e h)

-- an offer of a meeting is a rank's
pub record IsOffered (header : Header) (goings : List Going) (ks : List MeetKind) (q : ℕ) (o : Offer) : Type 0 where
  pub going : Going
  pub was : slice_get goings q ≡ Some going
  pub is : (advance header going).1 ≡ Some o
  pub known : o.known ≡ going.rank.known
  pub kind : MeetKind
  pub others : List MeetKind
  pub of_kind : o.kind ≡ offer.Meet kind
  pub kinds : ks ≡ kind ∷ others

module _ {script : Script} {j : ℕ} {rest : List Mark} {goings : List Going} (header : Header) (on : AreAlong script (Meet j ∷ rest) goings) where
  all_ask : AllAsk (map (advance header) goings)
  all_ask q p e = grind (arith, nat_tests, meets header on q (mapped_from (advance header) goings q p e).0)

  pub offer_met : (q : ℕ) (g : Going) (e : slice_get goings q ≡ Some g) → slice_get (offers_of (map (advance header) goings)) q ≡ Some (meets header on q g e).asks.offer
  offer_met q g e = offer_at (map (advance header) goings) q (advance header g) _ all_ask (entry_map (advance header) goings q g e) (meets header on q g e).asks.is_offer

  pub offers_met_long : length (offers_of (map (advance header) goings)) ≡ length goings
  offers_met_long = offers_long (map (advance header) goings) all_ask ∙ length-map goings (advance header)

  pub offered : (q : ℕ) (o : Offer) → slice_get (offers_of (map (advance header) goings)) q ≡ Some o → IsOffered header goings on.left q o
  offered q o e =
      let long = offers_met_long in
      let below = slice_get_within (offers_of (map (advance header) goings)) q o e in
      let g = entry_below goings q (omega arith) in
      grind (arith, nat_tests, meets header on q g.0 g.1, offer_met q g.0 g.1)

-- ---- after a meeting

-- the rank after it, and what it heard
pub record Heard (s : Setting) (c : Counted) (goings : List Going) (q : ℕ) (g : Going) : Type 0 where
  pub before : Going
  pub was : slice_get goings q ≡ Some before
  pub reply : Reply
  pub is_reply : slice_get (meeting s (offers_of (map (advance s.header) goings)) c).1 q ≡ Some reply
  pub records : reply.records ≡ (meeting s (offers_of (map (advance s.header) goings)) c).0.records
  pub is : g ≡ hears s.header (advance s.header before).0 reply

module _ {script : Script} {j : ℕ} {rest : List Mark} {goings : List Going} (s : Setting) (c : Counted) (on : AreAlong script (Meet j ∷ rest) goings) where
  -- a rank before it is one after it
  pub hears_then : (q : ℕ) (b : Going) → slice_get goings q ≡ Some b → (g : Going) × ((slice_get (after_meeting s (c, goings)).1 q ≡ Some g) × Heard s c goings q g)
  hears_then q b e =
      let offers = offers_of (map (advance s.header) goings) in
      let y = replied s offers c q (meets s.header on q b e).asks.offer (offer_met s.header on q b e) in (
        hears s.header (advance s.header b).0 y.reply,
        (going_after s offers c goings q b y.reply e y.is, record { before = b; was = e; reply = y.reply; is_reply = y.is; records = y.records; is = refl }),
      )

  pub met_long : length (after_meeting s (c, goings)).1 ≡ length goings
  met_long = goings_long s (offers_of (map (advance s.header) goings)) c goings (offers_met_long s.header on)

  pub heard_by : (q : ℕ) (g : Going) → slice_get (after_meeting s (c, goings)).1 q ≡ Some g → Heard s c goings q g
  heard_by q g e =
      let long = met_long in
      let below = slice_get_within (after_meeting s (c, goings)).1 q g e in
      grind (arith, nat_tests, entry_below goings q, hears_then q)

  pub met_along : AreAlong script rest (after_meeting s (c, goings)).1
  met_along = record {
    met = suc on.met;
    left = drop 1 on.left;
    long = met_long ∙ on.long;
    known = and_second (is_of_rank_below script.ranks (Meet j)) _ on.known;
    each = λ q g e.
        let h = heard_by q g e in
        grind (arith, nat_tests, meets s.header on q h.before h.was, heard_on s.header q (suc on.met) h.before.rank.known (drop 1 on.left) rest (advance s.header h.before) h.reply, h.is, drop);
    numbered = λ q g own e f i.
        let h = heard_by q g e in
        let at = meets s.header on q h.before h.was in
        grind (arith, nat_tests, number_met s.header h.before at.kind at.asks.offer at.asks.is_offer at.of_kind, hear_length s.header (advance s.header h.before).0 h.reply, on.numbered q h.before own h.was f (suc i), h.is, meeting_call);
  }

-- ---- after a step of one rank

-- the rank's step
pub record Stepped (s : Setting) (r : ℕ) (c : Counted) (goings : List Going) (k : ℕ) (ks : List MeetKind) (rest : List Mark) : Type 0 where
  pub before : Going
  pub was : slice_get goings r ≡ Some before
  pub at : AtSolo r k before.rank.known ks rest (advance s.header before)
  pub state : after_solo s r c goings ≡ ((solo s r at.asks.offer c).0, set goings r (hears s.header (advance s.header before).0 (solo s r at.asks.offer c).1))

pub offered_alone : {s : Setting} {r k : ℕ} {c : Counted} {goings : List Going} {ks : List MeetKind} {rest : List Mark} (st : Stepped s r c goings k ks rest)
    → puts_asked r (rank_offer s goings r) ≡ puts_of (r, st.at.asks.offer)
offered_alone st = grind (arith, nat_tests)

module _ {script : Script} {r n : ℕ} {rest : List Mark} {goings : List Going} (s : Setting) (c : Counted) (on : AreAlong script (Solo r n ∷ rest) goings) where
  pub steps : Stepped s r c goings on.met on.left rest
  steps =
      let low = ltb-true r script.ranks (and_first (is_of_rank_below script.ranks (Solo r n)) _ on.known) in
      let b = entry_below goings r (omega arith) in
      let at = goes_alone s.header on b.0 b.1 in
      record {
        before = b.0;
        was = b.1;
        at = at;
        state = grind (arith, nat_tests, solo_goes s r c goings b.0 b.1, solo_of_is s r c (advance s.header b.0) at.asks.offer at.asks.is_offer, set);
      }

  pub solo_along : AreAlong script rest (after_solo s r c goings).1
  solo_along =
      let st = steps in
      let b = st.before in
      let p = advance s.header b in
      let y = (solo s r st.at.asks.offer c).1 in
      let next = hears s.header p.0 y in
      let own : OnCourse r on.met on.left rest next = heard_on s.header r on.met b.rank.known on.left rest p y st.at.asks (sym st.at.kinds) in
      subst (AreAlong script rest) (sym (ap (λ (z : Counted × List Going). z.1) st.state))
      (record {
        met = on.met;
        left = on.left;
        long = length-set goings r next ∙ on.long;
        known = and_second (is_of_rank_below script.ranks (Solo r n)) _ on.known;
        each = λ q g e. grind (arith, nat_tests, set_cases goings r q next g e, own, on.each q g);
        numbered = grind (arith, nat_tests, set_cases goings r, number_alone s.header b st.at.asks.offer st.at.asks.is_offer st.at.of_kind, hear_length s.header p.0 y, on.numbered, st.was, script.calls, meeting_call);
      })

-- ---- along an order

pub mark_along : (script : Script) (s : Setting) (m : Mark) (rest : List Mark) (state : Counted × List Going) → AreAlong script (m ∷ rest) state.1
    → AreAlong script rest (after_mark s state m).1
mark_along script s (Meet j) rest (c, goings) a = met_along s c a
mark_along script s (Solo r n) rest (c, goings) a = solo_along s c a

-- a rank after a step is as it was, or it heard a reply to its offer
pub record Moved (s : Setting) (goings : List Going) (q : ℕ) (g : Going) : Type 0 where
  pub before : Going
  pub was : slice_get goings q ≡ Some before
  pub is : (g ≡ before) ⊎ ((o : Offer) × (y : Reply) × ((advance s.header before).1 ≡ Some o) × (g ≡ hears s.header (advance s.header before).0 y))

pub moved : (script : Script) (s : Setting) (q : ℕ) (m : Mark) (rest : List Mark) (c : Counted) (goings : List Going) (g : Going) → AreAlong script (m ∷ rest) goings
    → slice_get (after_mark s (c, goings) m).1 q ≡ Some g → Moved s goings q g
moved script s q (Meet j) rest c goings g a e =
    grind (arith, nat_tests, heard_by s c a q g e, meets s.header a q (heard_by s c a q g e).before (heard_by s c a q g e).was)
moved script s q (Solo r n) rest c goings g a e = grind (arith, nat_tests, steps s c a, set_cases goings r q)

pub marks_along : (script : Script) (s : Setting) (order rest : List Mark) (state : Counted × List Going) → AreAlong script (order ++ rest) state.1
    → AreAlong script rest (fold (after_mark s) state order).1
marks_along script s [] rest state a = a
marks_along script s (m ∷ order) rest state a = marks_along script s order rest (after_mark s state m) (mark_along script s m (order ++ rest) state a)

pub first_along : (script : Script) (header : Header) (order : List Mark) → is_lawful script ≡ true → IsLegal script order
    → AreAlong script order (map (first_going header) script.calls)
first_along script header order lawful legal = record {
  met = 0;
  left = kinds_of script;
  long = length-map script.calls (first_going header) ∙ (ranks_lawful script lawful).one_each;
  known = legal.known_ranks;
  each = λ q g e.
      let own = mapped_from (first_going header) script.calls q g e in
      grind (arith, nat_tests, own.1.1, legal.each_rank q, own_lawful script q own.0 lawful own.1.0, ranks_lawful script lawful, slice_get_within script.calls q own.0 own.1.0);
  numbered = λ q g own e f j.
      let from = mapped_from (first_going header) script.calls q g e in
      grind (arith, nat_tests, from.0, from.1.0, from.1.1, meeting_call);
}

-- what is left at a place of a run
pub along_at : (script : Script) (header : Header) (file : List ℕ) (before later : List Mark) → is_lawful script ≡ true → IsLegal script (before ++ later)
    → AreAlong script later (state_after script header file before).1
along_at script header file before later lawful legal = grind (arith, nat_tests, marks_along, first_along)

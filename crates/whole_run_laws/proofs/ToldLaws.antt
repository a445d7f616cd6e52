-- What a step tells its ranks, and that a step with a pair changes nothing.
use Rattle.whole_run_laws.proofs.Words.{holds_or_not, inl, inr, ◌≡◌, ℕ, suc, ◌+◌, refl, sym, ◌∙◌, ap, List, [], ◌∷◌, ◌++◌, map, Bool, true, false, Some, None, arith, same_Some, nat_tests, flat_map, slice_get, enumerate_from, in_at, Answer, Pair, Header, Call, OverlapRule, Refuse, Script, Mark, Meet, Solo, MeetKind, Offer, OfferKind, Reply, Counted, get_post, known_by, meeting, puts_of, raises, Setting, told, told_under, IsLegal, is_lawful, greatest, In, Rank, advance, after_mark, go, Going, offers_of, setting_of, state_after, holdings, IsSharedPair, IsUnshared, Puts, shared_pair, pair_found, pair_none, state_more, puts_at, puts_met, quiet_step}
use Rattle.nc_base.specs.declared.step.OfferKind.TheVariants as offer
use Rattle.whole_run_laws.proofs.Courses.{AreAlong, along_at, offered, offered_alone, steps}
use Rattle.join_laws.proofs.WholeLaws.{get_map as mapped_from}

-- ---- one step

pub reply_told : (s : Setting) (offers : List Offer) (c : Counted) (q : ℕ) (y : Reply) → slice_get (meeting s offers c).1 q ≡ Some y → y.pair ≡ told s (puts_met offers)
reply_told s offers c q y e =
    let next = (meeting s offers c).0 in
    let o = mapped_from (λ (o : Offer). let z : Reply = record { pair = told s (puts_met offers); records = next.records; got = map (get_post s next.file) o.batch.gets } in z) offers q y e in
    ap (λ (z : Reply). z.pair) o.1.1

pub replies_told : (s : Setting) (offers : List Offer) (c : Counted) (y : Reply) → In (meeting s offers c).1 y → y.pair ≡ told s (puts_met offers)
replies_told s offers c y h = let at = in_at (meeting s offers c).1 y h in reply_told s offers c at.0 y at.1

pub pair_is_least : (s : Setting) (puts : Puts) (p : Pair) → told s puts ≡ Some p → IsSharedPair (holdings s.header puts) p
pair_is_least s puts p e = pair_found (holdings s.header puts) p (grind (arith, nat_tests, e))

pub none_shared : (s : Setting) (puts : Puts) → s.overlap ≡ Refuse → told s puts ≡ None → (x : ℕ) → IsUnshared (holdings s.header puts) x
none_shared s puts e f = pair_none (holdings s.header puts) (sym (ap (λ (rule : OverlapRule). told_under rule (shared_pair s.header puts)) e) ∙ f)

pub only_refused : (s : Setting) (puts : Puts) (p : Pair) → told s puts ≡ Some p → s.overlap ≡ Refuse
only_refused s puts p e = grind (arith, nat_tests)

-- ---- an offer that raises the count by its kind brings no put

quiet_go : (header : Header) (o : Offer) (calls : List Call) (r : Rank) (answers : List Answer) → (go header r answers calls).1 ≡ Some o → raises o.kind ≡ true → o.batch.puts ≡ []
quiet_go header o [] r answers e = grind (arith, nat_tests)
quiet_go header o (c ∷ calls) r answers e = grind (arith, nat_tests, quiet_go header o calls, quiet_step, same_Some)

-- ---- nothing is done

none_asked : (offers : List Offer) (a : ℕ) → ((q : ℕ) (o : Offer) → slice_get offers q ≡ Some o → o.batch.puts ≡ []) → flat_map puts_of (enumerate_from a offers) ≡ []
none_asked [] a f = refl
none_asked (o ∷ offers) a f = grind (arith, nat_tests, f 0 o refl, none_asked offers (a + 1) (λ q p e. f (suc q) p e))

none_known : (offers : List Offer) → ((q : ℕ) (o : Offer) → slice_get offers q ≡ Some o → raises o.kind ≡ false) → greatest (map (λ o. known_by o.kind o.known) offers) ≡ 0
none_known [] f = refl
none_known (o ∷ offers) f =
    let own : (k : OfferKind) → raises k ≡ false → known_by k o.known ≡ 0 = λ k e. grind (arith, nat_tests) in
    grind (arith, nat_tests, own o.kind (f 0 o refl), none_known offers (λ q p e. f (suc q) p e))

-- whether the first of these meetings raises the count by its kind
abbrev first_raises : List MeetKind → Bool
first_raises [] = false
first_raises (kind ∷ kinds) = raises (offer.Meet kind)

-- ---- in a run

module _ {script : Script} {j : ℕ} {rest : List Mark} {goings : List Going} (s : Setting) (c : Counted) (on : AreAlong script (Meet j ∷ rest) goings) where
  abbrev offers : List Offer
  offers = offers_of (map (advance s.header) goings)

  meeting_alike : (p : Pair) → told s (puts_met offers) ≡ Some p → (meeting s offers c).0 ≡ c
  meeting_alike p e =
      let same : (q : ℕ) (o : Offer) → slice_get offers q ≡ Some o → raises o.kind ≡ first_raises on.left = λ q o h. grind (arith, nat_tests, offered s.header on q o h) in
      elim (holds_or_not (first_raises on.left)) [
        | inl g ↦
            let none = none_asked offers 0 (λ q o h. let w = offered s.header on q o h in quiet_go s.header o w.going.calls w.going.rank w.going.answers w.is (same q o h ∙ g)) in
            grind (arith, nat_tests, e, none)
        | inr g ↦ grind (arith, nat_tests, e, none_known offers (λ q o h. same q o h ∙ g))
      ]

step_nothing : (script : Script) (s : Setting) (m : Mark) (rest : List Mark) (c : Counted) (goings : List Going) (p : Pair) → AreAlong script (m ∷ rest) goings
    → told s (puts_at s (c, goings) m) ≡ Some p → (after_mark s (c, goings) m).0 ≡ c
step_nothing script s (Meet j) rest c goings p a e = meeting_alike s c a p e
step_nothing script s (Solo r n) rest c goings p a e = grind (arith, nat_tests, steps s c a, offered_alone (steps s c a))

pub mark_nothing : (script : Script) (header : Header) (file : List ℕ) (before later : List Mark) (m : Mark) (p : Pair)
    → is_lawful script ≡ true → IsLegal script (before ++ m ∷ later)
    → told (setting_of script header) (puts_at (setting_of script header) (state_after script header file before) m) ≡ Some p
    → (state_after script header file (before ++ m ∷ [])).0 ≡ (state_after script header file before).0
mark_nothing script header file before later m p lawful legal e =
    let state = state_after script header file before in
    grind (arith, nat_tests, state_more script header file before m, step_nothing script (setting_of script header) m later state.0 state.1 p, along_at script header file before (m ∷ later) lawful legal)

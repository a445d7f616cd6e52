-- A rank that answers alone, and the steps of ranks that stand at their offers.
use Rattle.run_laws.proofs.Words.{◌≡◌, ℕ, suc, refl, ap, List, [], ◌∷◌, length, map, set, Option, Some, None, arith, slice_get, zip, Header, Call, Answer, Hints, Solo, Offer, Reply, DiskCall, Setting, Counted, mark_calls, solo_calls, step, Going, advance, hears, offers_of, after_solo, solo_of, answered, asking, HasCome, AreAt, AreEnded, all_hear, nat_tests}
use Rattle.nc_base.specs.declared.step.Want.TheVariants as want
use Rattle.serial_spec.specs.RankMachine as machine

-- ---- one rank

pub comes_on : (header : Header) (g s : Going) (next : machine.Rank) (a : Answer) (c : Call) (calls : List Call)
    → HasCome header g s → s.calls ≡ c ∷ calls → (next, want.Answered a) ≡ step header s.rank c → HasCome header g (answered s next a calls)
comes_on header g s next a c calls h e f = grind (arith, nat_tests)

pub comes_to_meeting : (header : Header) (g s : Going) (next : machine.Rank) (o : Offer) (c : Call) (calls : List Call)
    → HasCome header g s → s.calls ≡ c ∷ calls → (next, want.Meet o) ≡ step header s.rank c → advance header g ≡ (asking s next calls, Some o)
comes_to_meeting header g s next o c calls h e f = grind (arith, nat_tests)

pub comes_to_solo : (header : Header) (g s : Going) (next : machine.Rank) (o : Offer) (c : Call) (calls : List Call)
    → HasCome header g s → s.calls ≡ c ∷ calls → (next, want.Solo o) ≡ step header s.rank c → advance header g ≡ (asking s next calls, Some o)
comes_to_solo header g s next o c calls h e f = grind (arith, nat_tests)

pub comes_to_end : (header : Header) (g s : Going) → HasCome header g s → s.calls ≡ [] → advance header g ≡ (s, None)
comes_to_end header g s h e = grind (arith, nat_tests)

-- ---- all ranks at their offers

abbrev at_offers : List Going → List Offer → List (Going × Option Offer)
at_offers ss offers = map (λ p. (p.0, Some p.1)) (zip ss offers)

pub arrived : (header : Header) (goings ss : List Going) (offers : List Offer) → AreAt header goings ss offers → map (advance header) goings ≡ at_offers ss offers
arrived header [] [] [] w = refl
arrived header (g ∷ goings) (s ∷ ss) (o ∷ offers) w =
    let rest : AreAt header goings ss offers = record { long = omega (arith, w.long); all = omega (arith, w.all); each = λ r g' s' o' a b c. w.each (suc r) g' s' o' a b c } in
    grind (arith, nat_tests, w.each 0 g s o refl refl refl, arrived header goings ss offers rest)
arrived header goings ss offers w = absurd (omega (arith, w.all, w.long))

pub offers_at : (ss : List Going) (offers : List Offer) → length ss ≡ length offers → offers_of (at_offers ss offers) ≡ offers
offers_at [] [] e = refl
offers_at (s ∷ ss) (o ∷ offers) e = ap (λ (os : List Offer). o ∷ os) (offers_at ss offers (omega arith))
offers_at ss offers e = absurd (omega arith)

pub hears_at : (header : Header) (ss : List Going) (offers : List Offer) (replies : List Reply) → length ss ≡ length offers
    → map (λ p. hears header p.0.0 p.1) (zip (at_offers ss offers) replies) ≡ all_hear header ss replies
hears_at header (s ∷ ss) [] replies e = absurd (omega arith)
hears_at header (s ∷ ss) (o ∷ offers) (y ∷ replies) e = ap (λ (gs : List Going). hears header s y ∷ gs) (hears_at header ss offers replies (omega arith))
hears_at header xs ys replies e = refl

pub beside_offers : (header : Header) (goings ss : List Going) (offers : List Offer) → AreAt header goings ss offers → length ss ≡ length offers
beside_offers header goings ss offers w = let a = w.long in let b = w.all in omega arith

-- ---- one rank at its solo offer

pub solo_goes : (s : Setting) (r : ℕ) (c : Counted) (goings : List Going) (g : Going) → slice_get goings r ≡ Some g
    → after_solo s r c goings ≡ ((solo_of s r c (advance s.header g)).0, set goings r (solo_of s r c (advance s.header g)).1)
solo_goes s r c goings g e = grind (arith, nat_tests, set)

abbrev pub calls_at : Hints → Setting → ℕ → Counted → Option Offer → List DiskCall
calls_at hints s r c m = elim m [ None ↦ [] | Some o ↦ solo_calls hints s r o c ]

pub solo_calls_go : (hints : Hints) (s : Setting) (r n : ℕ) (c : Counted) (goings : List Going) (g : Going) → slice_get goings r ≡ Some g
    → mark_calls hints s (c, goings) (Solo r n) ≡ elim ((advance s.header g).1) [ None ↦ [] | Some o ↦ solo_calls hints s r o c ]
solo_calls_go hints s r n c goings g e = grind (arith, nat_tests)

-- ---- the close

pub ended : (header : Header) (goings ss : List Going) → AreEnded header goings ss → map (λ g. (advance header g).0) goings ≡ ss
ended header [] [] w = refl
ended header (g ∷ goings) (s ∷ ss) w =
    let others = ended header goings ss (record { long = omega (arith, w.long); each = λ r g' s' a b. w.each (suc r) g' s' a b }) in
    grind (arith, nat_tests, w.each 0 g s refl refl, others)
ended header goings ss w = absurd (omega (arith, w.long))

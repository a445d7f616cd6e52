-- Runs over files that differ in their bytes, step by step: ranks beside one another, and ends that are alike.
use Rattle.join_laws.proofs.Words.{◌≡◌, ℕ, ◌+◌, refl, sym, ◌∙◌, ap, subst, List, [], ◌∷◌, map, set, Option, Some, None, slice_get, fold, take, zip, Header, Script, Mark, Meet, Solo, Offer, Setting, Counted, meeting, solo, told_of, Going, advance, close_by, count_after, first_state, hears, offers_of, serial_from, setting_of, state_after, Arrived, Stand, ended_from, first_stand, heard, step_to, arrival_steps, first_up, gone_up, serial_of_arrivals, AllBeside, AreAlikeEnds, AreBeside, AreNear, IsLike, TellAlike, arith, nat_tests}
use Rattle.nc_base.specs.declared.step.Reply as reply
use Rattle.join_laws.proofs.AlikeLaws.{advance_beside, hears_near}
pub use Rattle.join_laws.proofs.OwnerAlikeLaws.{AllTell}
use Rattle.join_laws.proofs.OwnerAlikeLaws.{meeting_records, meeting_tells, raised_records, solo_alike}
use Rattle.list_laws.proofs.Maps.{map_map}

-- ---- ranks

pub same_beside : (ranks : List Arrived) → AllBeside ranks ranks
same_beside [] = tt
same_beside (p ∷ ranks) = grind (arith, nat_tests, same_beside ranks)

pub offers_beside : (one other : List Arrived) → AllBeside one other → offers_of one ≡ offers_of other
offers_beside (p ∷ one) (q ∷ other) w = grind (arith, nat_tests, offers_beside one other w.1)
offers_beside one other w = grind (arith, nat_tests)

abbrev BesideAt : Option Arrived → Option Arrived → Type 0
BesideAt None None = Unit {0}
BesideAt (Some p) (Some q) = AreBeside p q
BesideAt _ _ = ⊥

at_beside : (one other : List Arrived) (r : ℕ) → AllBeside one other → BesideAt (slice_get one r) (slice_get other r)
at_beside (p ∷ one) (q ∷ other) r w = grind (arith, nat_tests, at_beside one other)
at_beside one other r w = grind (arith, nat_tests)

set_beside : (one other : List Arrived) (r : ℕ) (p q : Arrived) → AllBeside one other → AreBeside p q → AllBeside (set one r p) (set other r q)
set_beside (x ∷ one) (y ∷ other) r p q w v = grind (arith, nat_tests, set, λ (k : ℕ). set_beside one other k p q w.1 v)
set_beside one other r p q w v = grind (arith, nat_tests)

-- ---- replies

all_heard : (header : Header) (one other : List Arrived) (ys zs : List reply.Reply) → AllBeside one other → AllTell ys zs
    → AllBeside (map (heard header) (zip one ys)) (map (heard header) (zip other zs))
all_heard header (p ∷ one) (q ∷ other) (y ∷ ys) (z ∷ zs) w t =
    (advance_beside header (hears header p.0 y) (hears header q.0 z) (hears_near header p.0 q.0 y z w.0.0 t.0), all_heard header one other ys zs w.1 t.1)
all_heard header one other ys zs w t = grind (arith, nat_tests)

-- ---- a step

-- a meeting whose ranks hear these replies
pub meets_like : (s : Setting) (x : Stand) (k m n : ℕ) (ranks : List Arrived) (replies : List reply.Reply) → IsLike x m ranks
    → (meeting s (offers_of ranks) x.0).0.records ≡ n → AllTell (meeting s (offers_of ranks) x.0).1 replies
    → IsLike (step_to s x (Meet k)) n (map (heard s.header) (zip ranks replies))
meets_like s x k m n ranks replies w e t =
    let same = offers_beside x.1 ranks w.beside in
    record {
      records = ap (λ (os : List Offer). (meeting s os x.0).0.records) same ∙ e;
      beside = all_heard s.header x.1 ranks (meeting s (offers_of x.1) x.0).1 replies w.beside (subst (λ (os : List Offer). AllTell (meeting s os x.0).1 replies) (sym same) t);
    }

-- a solo step whose rank hears this reply
pub solo_like : (s : Setting) (x : Stand) (r k n : ℕ) (ranks : List Arrived) (t : Going) (o : Offer) (y : reply.Reply) → IsLike x n ranks
    → slice_get ranks r ≡ Some (t, Some o) → TellAlike (solo s r o x.0).1 y
    → IsLike (step_to s x (Solo r k)) n (set ranks r (advance s.header (hears s.header t y)))
solo_like s x r k n ranks t o y w e tells =
    let beside = λ (g : Going) (v : AreNear g t). set_beside x.1 ranks r (advance s.header (hears s.header g (solo s r o x.0).1)) (advance s.header (hears s.header t y)) w.beside
    (advance_beside s.header (hears s.header g (solo s r o x.0).1) (hears s.header t y) (hears_near s.header g t (solo s r o x.0).1 y v tells)) in
    grind (arith, nat_tests, at_beside x.1 ranks r w.beside, beside)

abbrev AreLike : Stand → Stand → Type 0
AreLike x y = IsLike x y.0.records y.1

step_alike : (s : Setting) (x y : Stand) (m : Mark) → AreLike x y → AreLike (step_to s x m) (step_to s y m)
step_alike s x y (Meet k) w =
    meets_like s x k y.0.records (meeting s (offers_of y.1) y.0).0.records y.1 (meeting s (offers_of y.1) y.0).1 w
    (meeting_records s (offers_of y.1) x.0 y.0 w.records) (meeting_tells s (offers_of y.1) x.0 y.0 w.records)
step_alike s x y (Solo r k) w =
    grind (arith, nat_tests, set_beside x.1 y.1 r, advance_beside s.header, at_beside x.1 y.1 r w.beside, solo_like s x r k y.0.records y.1, solo_alike s r)

steps_alike : (s : Setting) (x y : Stand) (order : List Mark) → AreLike x y → AreLike (fold (step_to s) x order) (fold (step_to s) y order)
steps_alike s x y [] w = w
steps_alike s x y (m ∷ order) w = steps_alike s (step_to s x m) (step_to s y m) order (step_alike s x y m w)

-- ---- the close

-- what does not depend on such values is the same
each_beside : {X : Type 0} (f : Going → X) → ((g h : Going) → AreNear g h → f g ≡ f h) → (one other : List Arrived) → AllBeside one other
    → map f (map (λ (a : Arrived). a.0) one) ≡ map f (map (λ (a : Arrived). a.0) other)
each_beside f same (p ∷ one) (q ∷ other) w = let first = same p.0 q.0 w.0.0 in let again = each_beside f same one other w.1 in λ i. first i ∷ again i
each_beside f same one other w = grind (arith, nat_tests)

pub close_alike : (s : Setting) (x : Stand) (c : Counted) (ranks : List Arrived) → IsLike x c.records ranks
    → AreAlikeEnds (close_by s x.0 (map (λ (a : Arrived). a.0) x.1)) (close_by s c (map (λ (a : Arrived). a.0) ranks))
close_alike s x c ranks w = grind (arith, nat_tests, each_beside, raised_records, map_map)

-- ---- a run

pub ends_alike : (script : Script) (header : Header) (file other : List ℕ) (order : List Mark) → AreAlikeEnds (serial_from script header file order) (serial_from script header other order)
ends_alike script header file other order =
    let s = setting_of script header in
    grind (arith, nat_tests, close_alike s (fold (step_to s) (first_stand header file script.calls) order), steps_alike s (first_stand header file script.calls) (first_stand header other script.calls) order, serial_of_arrivals script header file order, serial_of_arrivals script header other order, ended_from, first_stand, same_beside)

stand_after : (script : Script) (header : Header) (file : List ℕ) (order : List Mark)
    → fold (step_to (setting_of script header)) (first_stand header file script.calls) order ≡ gone_up (setting_of script header) (state_after script header file order)
stand_after script header file order =
    let s = setting_of script header in
    ap (λ (stand : Stand). fold (step_to s) stand order) (first_up header s file script.calls refl) ∙ arrival_steps s (first_state header file script.calls) order

pub count_alike : (script : Script) (header : Header) (file other : List ℕ) (order : List Mark) (k : ℕ) → count_after script header file order k ≡ count_after script header other order k
count_alike script header file other order k =
    let s = setting_of script header in
    grind (arith, nat_tests, stand_after script header file (take k order), steps_alike s (first_stand header file script.calls) (first_stand header other script.calls) (take k order), stand_after script header other (take k order), take, same_beside)

-- a mark with its number, told with the count after it
abbrev told_with : (ℕ → ℕ) → ℕ × Mark → Mark × ℕ
told_with count p = (p.1, count (p.0 + 1))

counts_same : (f g : ℕ → ℕ) → ((k : ℕ) → f k ≡ g k) → (marks : List (ℕ × Mark)) → map (told_with f) marks ≡ map (told_with g) marks
counts_same f g e [] = refl
counts_same f g e (m ∷ marks) = let first = e (m.0 + 1) in let others = counts_same f g e marks in λ i. (m.1, first i) ∷ others i

pub told_alike : (script : Script) (header : Header) (file other : List ℕ) (order : List Mark) → told_of script header file order ≡ told_of script header other order
told_alike script header file other order = grind (arith, nat_tests, counts_same, count_alike)

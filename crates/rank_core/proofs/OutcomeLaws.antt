-- What a call comes to: by its check, by whether it has an element, and by its values.
use Rattle.rank_core.proofs.Words.{◌≡◌, ℕ, refl, sym, ap, subst, ◌∙◌, inl, inr, ◌⊎◌, List, [], ◌∷◌, length, Bool, true, false, ltb, Option, Some, None, Result, Ok, Err, CallErr, Code, NcType, Post, Region, Values, part_posts, error_of, look_of, settled, ComesTo, IfOk, IfErr, OnOk, IsRefusal, arith, nat_tests}
use Rattle.nc_base.specs.declared.answer.CallErr.TheVariants as refusal
use Rattle.nc_base.specs.declared.answer.Code.TheVariants as code
use Rattle.serial_spec.specs.Looks as looks
use Rattle.serial_spec.specs.RankMachine as machine

abbrev pub outcome : Code → Bool → List Post → Code → looks.Look
outcome checked some asked last =
    elim (error_of checked) [
      | Some c ↦ looks.Refused c
      | None ↦ elim some [
        | false ↦ looks.Empty
        | true ↦ elim (error_of last) [ Some c ↦ looks.Refused c | None ↦ looks.Asks asked ]
      ]
    ]

outcome_refused : (c : Code) (some : Bool) (asked : List Post) (last : Code) → (c ≡ code.Ok → ⊥) → looks.Refused c ≡ outcome c some asked last
outcome_refused code.Ok some asked last n = absurd (n refl)
outcome_refused c some asked last n = refl

-- the code of a check that is not Ok
pub checked_refused : (checked : Code) (some : Bool) (asked : List Post) (last c : Code) → c ≡ checked → (c ≡ code.Ok → ⊥)
    → looks.Refused c ≡ outcome checked some asked last
checked_refused checked some asked last c e n = outcome_refused c some asked last n ∙ ap (λ (d : Code). outcome d some asked last) e

pub no_element : (checked : Code) (some : Bool) (asked : List Post) (last : Code) → checked ≡ code.Ok → some ≡ false
    → looks.Empty ≡ outcome checked some asked last
no_element checked some asked last e f = grind (arith, nat_tests)

data_refused : (checked : Code) (some : Bool) (asked : List Post) (last c : Code) → checked ≡ code.Ok → some ≡ true → c ≡ last → (c ≡ code.Ok → ⊥)
    → looks.Refused c ≡ outcome checked some asked last
data_refused checked some asked last c e f g n = grind (arith, nat_tests, outcome)

all_right : (checked : Code) (some : Bool) (asked : List Post) (last : Code) → checked ≡ code.Ok → some ≡ true → last ≡ code.Ok
    → looks.Asks asked ≡ outcome checked some asked last
all_right checked some asked last e f g = grind (arith, nat_tests)

-- what the values of a call with an element came to
pub outcome_comes : (checked : Code) (some : Bool) (asked : List Post) (last : Code) (r : Result (List Post) CallErr) → checked ≡ code.Ok → some ≡ true
    → IfOk r (λ posts. look_of posts ≡ looks.Asks asked) → OnOk r (last ≡ code.Ok) → IfErr r (IsRefusal last) → ComesTo (outcome checked some asked last) r
outcome_comes checked some asked last (Ok posts) ok here is right unfit = is ∙ all_right checked some asked last ok here right
outcome_comes checked some asked last (Err (refusal.Code c)) ok here is right unfit = data_refused checked some asked last c ok here unfit.0 unfit.1
outcome_comes checked some asked last (Err refusal.Memory) ok here is right unfit = unfit

-- posts are asked for only where everything is right
pub outcome_posts : (checked : Code) (some : Bool) (asked : List Post) (last : Code)
    → (machine.posts_of (outcome checked some asked last) ≡ []) ⊎ ((machine.posts_of (outcome checked some asked last) ≡ asked) × (checked ≡ code.Ok) × (last ≡ code.Ok))
outcome_posts code.Ok true asked code.Ok = inr (refl, refl, refl)
outcome_posts checked some asked last = inl refl

pub parts_ask : (id var : ℕ) (kind : NcType) (values : Option Values) (k : ℕ) (regions : List Region) → ltb 0 (length regions) ≡ true
    → look_of (part_posts id var kind values k regions) ≡ looks.Asks (part_posts id var kind values k regions)
parts_ask id var kind values k [] h = absurd cc
parts_ask id var kind values k (g ∷ regions) h = refl

-- ---- what posts or a refusal come to

pub settled_is : (r : Result (List Post) CallErr) (m l : looks.Look) → ComesTo m r → settled r ≡ Some l → l ≡ m
settled_is (Ok posts) m l h e = let f : look_of posts ≡ l = cc in sym f ∙ h
settled_is (Err (refusal.Code c)) m l h e = let f : looks.Refused c ≡ l = cc in sym f ∙ h
settled_is (Err refusal.Memory) m l h e = absurd cc

pub failed : (m : looks.Look) (r : Result (List Post) CallErr) (d : CallErr) → (e : CallErr) × (r ≡ Err e) × (e ≡ d) → ComesTo m (Err d) → ComesTo m r
failed m r d p right = subst (ComesTo m) (sym (p.1 ∙ ap (λ (e : CallErr). Err e) p.2)) right

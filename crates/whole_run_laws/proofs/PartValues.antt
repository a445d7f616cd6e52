-- A get of many regions gives the values of gets of the regions, joined.
use Rattle.whole_run_laws.proofs.Words.{◌≡◌, ℕ, ◌≤◌, refl, sym, ◌∙◌, ◌⊎◌, List, [], ◌∷◌, length, map, true, false, None, option_map, fold-append, flat_map, Header, Post, Varn, Given, Part, Counted, Setting, end_for, look, code_of_look, posts_of, Going, longer-enough, outcome, outcome_posts, joined, last_values, makes, on_part, request_values, arith, nat_tests}
use Rattle.nc_base.specs.declared.answer.Code.TheVariants as code
use Rattle.nc_base.specs.declared.request.Call.TheVariants as call
use Rattle.serial_spec.specs.Looks as looks
use Rattle.whole_run_laws.proofs.PartPosts.{varn_gets}

-- ---- gets of which each asks for one region at most

abbrev IsOneAtMost : List Post → Type 0
IsOneAtMost gets = (gets ≡ []) ⊎ ((p : Post) × (gets ≡ p ∷ []))

values_joined : {A : Type 0} (s : Setting) (file : List ℕ) (id : ℕ) (f : A → List Post) → ((x : A) → IsOneAtMost (f x)) → (xs : List A)
    → request_values s file id (flat_map f xs) ≡ joined (map (λ x. request_values s file id (f x)) xs)
values_joined s file id f one [] = refl
values_joined s file id f one (x ∷ xs) = grind (arith, nat_tests, values_joined s file id f one xs, option_map)

part_one : (header : Header) (known id : ℕ) (name : List ℕ) (p : Part) → IsOneAtMost (posts_of (look header known id name (on_part p) None))
part_one header known id name p = grind (arith, nat_tests, outcome_posts, outcome)

pub varn_values : (s : Setting) (file : List ℕ) (known id : ℕ) (name : List ℕ) (given : Given) → given.form ≡ Varn
    → code_of_look (look s.header known id name given None) ≡ code.Ok
    → request_values s file id (posts_of (look s.header known id name given None))
    ≡ joined (map (λ part. request_values s file id (posts_of (look s.header known id name (on_part part) None))) given.parts)
varn_values s file known id name given many ok = grind (arith, nat_tests, varn_gets, values_joined, part_one)

-- ---- an independent get

module _ (s : Setting) (number : ℕ) (state : Counted × Going) (name : List ℕ) where
  abbrev get_look : Given → looks.Look
  get_look given = look s.header state.1.rank.known 0 name given None

  get_answer : (given : Given) → state.1.rank.independent ≡ true → end_for s 0 ≤ length state.0.file
      → last_values (makes s number state (call.Get false name given)).1 ≡ request_values s state.0.file 0 (posts_of (get_look given))
  get_answer given mode whole = grind (arith, nat_tests, fold-append, longer-enough)

  pub varn_answer : (given : Given) → state.1.rank.independent ≡ true → end_for s 0 ≤ length state.0.file → given.form ≡ Varn → code_of_look (get_look given) ≡ code.Ok
      → last_values (makes s number state (call.Get false name given)).1
      ≡ joined (map (λ part. last_values (makes s number state (call.Get false name (on_part part))).1) given.parts)
  varn_answer given mode whole many ok =
      get_answer given mode whole
      ∙ varn_values s state.0.file state.1.rank.known 0 name given many ok
      ∙ (λ t. joined (map (λ part. sym (get_answer (on_part part) mode whole) t) given.parts))

-- What is answered of a header that is defined, by its parts.
use Rattle.nc_classic_c.proofs.Words.{◌≡◌, ℕ, ◌^◌, ◌≤◌, List, ◌++◌, drop, take, length, true, Option, None, Result, Ok, Err, sym, ap, subst, ◌∙◌, OnOk, le-ltb, second_counts, Header, Align, canon, header_len, is_writable, BeginsWith, Refusal, Unmade, NcvHeaderDef, definition_refusal, filled, made_header, align_of, argument_refusal, place_refusal, refusal_of, IsMade, header_of, arith, nat_tests}
use Rattle.nc_classic_c.specs.declared.answers.Refusal.TheVariants as refusal
use Rattle.nc_classic_c.specs.declared.causes.Cause.TheVariants as cause
use Rattle.nc_classic_c.proofs.Filling.{filled_whole}
use Rattle.serial_spec.proofs.SpellingLaws.{writable_is_sound}

-- ---- the whole

pub place_told : (D : NcvHeaderDef) (header : Header) (align : Align) (o : Option Unmade) → None ≡ argument_refusal D → None ≡ definition_refusal D
    → header ≡ header_of D → align ≡ align_of D → o ≡ place_refusal header align D.records → refusal_of D ≡ o
place_told D header align o a d e f h = grind (arith, nat_tests)

-- ---- room for the bytes

module _ (D : NcvHeaderDef) (len : ℕ) (bytes old new : List ℕ) (h : refusal_of D ≡ None) (e : bytes ≡ canon (made_header D)) (w : is_writable (made_header D) ≡ true)
    (law : (header : Header) (more : List ℕ) → is_writable header ≡ true → BeginsWith (take (2 ^ 20) (canon header ++ more)) header (header_len header)) (l : len ≡ length bytes) where
  header_made : length bytes ≤ length old → new ≡ filled old bytes → IsMade D len old new
  header_made room f =
      let is : new ≡ canon (made_header D) ++ drop (length bytes) old =
      f ∙ filled_whole old bytes room ∙ ap (λ (x : List ℕ). x ++ drop (length bytes) old) e in
      record {
        none_refused = grind (arith, nat_tests, h, second_counts, le-ltb);
        long = l ∙ ap (λ (x : List ℕ). length x) e;
        bytes = f ∙ ap (λ (x : List ℕ). filled old x) e;
        read_back = (
          subst (λ (x : List ℕ). BeginsWith (take (2 ^ 20) x) (made_header D) (header_len (made_header D))) (sym is) (law (made_header D) (drop (length bytes) old) w),
          writable_is_sound (made_header D) w,
        );
      }

  pub made_given : (r : Result (Unit {0}) Refusal) → OnOk r (length bytes ≤ length old) → OnOk r (new ≡ filled old bytes) → OnOk r (IsMade D len old new)
  made_given (Ok u) room f = header_made room f
  made_given (Err x) room f = tt

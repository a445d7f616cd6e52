-- Puts and gets of two ranks, one each, the put of an only rank, and two gets and a put of one rank alone, as the tests have them.
use Rattle.std.proofs.lemmas.Bool.Decides.{nat_tests}
use native.Mathlib.Omega.{arith}
use Rattle.std.proofs.Common.{◌≡◌, ℕ, refl, sym, subst, inl, inr, List, [], ◌∷◌, true, Some}
use Rattle.std.specs.Prelude.{slice_get}
use Rattle.serial_spec.proofs.MemberLaws.{at_in}
use Rattle.nc_base.specs.declared.header.Header.{Header}
use Rattle.nc_base.specs.declared.plan.Batch.{Batch}
use Rattle.nc_base.specs.declared.plan.Post.{Post}
use Rattle.serial_spec.specs.SoundHeaders.{is_sound}
use Rattle.serial_spec.specs.SharedByte.{Puts, bytes_of, holdings, IsOwnOnce}
use Rattle.overlay_laws.specs.Entries.{HaveOwnKeys}
use Rattle.serial_spec.specs.Extents.{IsOnce}
use Rattle.overlay_laws.proofs.ShareLaws.{own_once}
use Rattle.vara_extents.proofs.OnceLaws.{post_once}
use Rattle.collective_round.specs.Rounds.{gets_in, puts_in, puts_of_batch, AreGets, ArePuts, IsGet, IsPut}

abbrev lone : Post → Batch
lone p = record { puts = p ∷ []; gets = [] }

all_once : (header : Header) (puts : Puts) → is_sound header ≡ true → ArePuts header puts → (i : ℕ) (p : ℕ × Post) → slice_get puts i ≡ Some p → IsOnce (bytes_of header p.1)
all_once header puts sound are i p g = post_once header p.1 sound (are p (at_in puts i p g)).accepted

-- ---- two ranks

abbrev two : Post → Post → List Batch
two a b = lone a ∷ lone b ∷ []

two_are : (header : Header) (a b : Post) → IsPut header a → IsPut header b → ArePuts header (puts_in (two a b))
two_are header a b p q r (inl e) = subst (λ (s : ℕ × Post). IsPut header s.1) e p
two_are header a b p q r (inr (inl e)) = subst (λ (s : ℕ × Post). IsPut header s.1) e q
two_are header a b p q r (inr (inr m)) = absurd m

two_keys : (a b : Post) → HaveOwnKeys (puts_in (two a b))
two_keys a b xs j p q g h e f = grind (arith, nat_tests)

pub two_puts : (header : Header) (a b : Post) (batches : List Batch) → batches ≡ two a b → IsPut header a → IsPut header b → ArePuts header (puts_in batches)
two_puts header a b batches e p q = subst (λ (bs : List Batch). ArePuts header (puts_in bs)) (sym e) (two_are header a b p q)

pub two_own : (header : Header) (a b : Post) (batches : List Batch) → is_sound header ≡ true → batches ≡ two a b → IsPut header a → IsPut header b
    → IsOwnOnce (holdings header (puts_in batches))
two_own header a b batches sound e p q =
    subst (λ (bs : List Batch). IsOwnOnce (holdings header (puts_in bs))) (sym e)
    (own_once header (puts_in (two a b)) (two_keys a b) (all_once header (puts_in (two a b)) sound (two_are header a b p q)))

-- ---- gets of two ranks

abbrev ask : Post → Batch
ask p = record { puts = []; gets = p ∷ [] }

pub two_gets : (header : Header) (len : ℕ) (a b : Post) (batches : List Batch) → batches ≡ ask a ∷ ask b ∷ []
    → IsGet header len a → IsGet header len b → AreGets header len (gets_in batches)
two_gets header len a b batches e p q = subst (λ (bs : List Batch). AreGets header len (gets_in bs)) (sym e) are
  where
    are : AreGets header len (gets_in (ask a ∷ ask b ∷ []))
    are r (inl h) = subst (λ (s : Post). IsGet header len s) h p
    are r (inr (inl h)) = subst (λ (s : Post). IsGet header len s) h q
    are r (inr (inr m)) = absurd m

-- ---- two gets of one rank alone

abbrev both : Post → Post → Batch
both a b = record { puts = []; gets = a ∷ b ∷ [] }

pub two_alone : (header : Header) (len : ℕ) (a b : Post) (batch : Batch) → batch ≡ both a b → IsGet header len a → IsGet header len b → AreGets header len batch.gets
two_alone header len a b batch e p q = subst (λ (g : Batch). AreGets header len g.gets) (sym e) are
  where
    are : AreGets header len (a ∷ b ∷ [])
    are r (inl h) = subst (λ (s : Post). IsGet header len s) h p
    are r (inr (inl h)) = subst (λ (s : Post). IsGet header len s) h q
    are r (inr (inr m)) = absurd m

-- ---- a put of one rank alone

one_are : (header : Header) (rank : ℕ) (a : Post) → IsPut header a → ArePuts header (puts_of_batch (rank, lone a))
one_are header rank a p r xs = grind (arith, nat_tests)

one_key : (rank : ℕ) (a : Post) → HaveOwnKeys (puts_of_batch (rank, lone a))
one_key rank a xs j p q g h e f = grind (arith, nat_tests)

pub one_own : (header : Header) (rank : ℕ) (a : Post) (batch : Batch) → is_sound header ≡ true → batch ≡ lone a → IsPut header a
    → IsOwnOnce (holdings header (puts_of_batch (rank, batch)))
one_own header rank a batch sound e p =
    subst (λ (b : Batch). IsOwnOnce (holdings header (puts_of_batch (rank, b)))) (sym e)
    (own_once header (puts_of_batch (rank, lone a)) (one_key rank a) (all_once header (puts_of_batch (rank, lone a)) sound (one_are header rank a p)))

-- ---- the put of an only rank

pub only_puts : (header : Header) (a : Post) (batches : List Batch) → batches ≡ lone a ∷ [] → IsPut header a → ArePuts header (puts_in batches)
only_puts header a batches e p = subst (λ (bs : List Batch). ArePuts header (puts_in bs)) (sym e) (one_are header 0 a p)

pub only_own : (header : Header) (a : Post) (batches : List Batch) → is_sound header ≡ true → batches ≡ lone a ∷ [] → IsPut header a
    → IsOwnOnce (holdings header (puts_in batches))
only_own header a batches sound e p =
    subst (λ (bs : List Batch). IsOwnOnce (holdings header (puts_in bs))) (sym e) (one_own header 0 a (lone a) sound refl p)

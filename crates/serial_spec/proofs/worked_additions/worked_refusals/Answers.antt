use Rattle.serial_spec.proofs.Words.{◌≡◌, ℕ, ◌^◌, ◌<◌, refl, sym, ap, subst, take, length, ◌++◌, lit<, arith, length-append, option_map, option_or, lt-ltb, Att, Header, canon, header_len, redefined_header, dataset_a, title}
use Rattle.std.specs.Prelude.{List, [], ◌∷◌, Bool, true, cond, Option, Some, None}
use Rattle.nc_base.specs.declared.errors.RedefErr.TheVariants as redef
use Rattle.serial_spec.proofs.worked_additions.worked_refusals.Goals as goal

told_first : {A : Type 0} (test : Bool) (told : A) (later : Option A) → test ≡ true → option_or (cond test (Some told) None) later ≡ Some told
told_first test told later h = subst (λ t. option_or (cond t (Some told) None) later ≡ Some told) (sym h) refl

long_part : (front bytes a b c : List ℕ) → 0 < length front → length bytes ≡ 2 ^ 20 → 2 ^ 20 < length (front ++ (bytes ++ a ++ b ++ c))
long_part front bytes a b c some long =
    omega (arith, some, long, length-append front (bytes ++ a ++ b ++ c), length-append (bytes ++ a ++ b) c, length-append (bytes ++ a) b, length-append bytes a)

abbrev titled : List ℕ → Header
titled bytes = redefined_header dataset_a (Att None (record title { count = 2 ^ 20; bytes = bytes }) ∷ [])

-- the first 52 bytes stand before those of the attribute
long_titled : (bytes : List ℕ) → length bytes ≡ 2 ^ 20 → 2 ^ 20 < header_len (titled bytes)
unfolding canon
long_titled bytes long = long_part (take 52 (canon (titled []))) bytes _ _ _ (lit< tt) long

pub returns-clause-long_header : goal.returns-clause-long_header
unfolding canon
returns-clause-long_header c bytes long =
    ap (λ e. option_map (λ f. redef.Layout f) e) (told_first _ _ _ (lt-ltb (2 ^ 20) (header_len (titled bytes)) (long_titled bytes long)))

-- Every form ends as the words ask for.
use Rattle.ncmpi_cli.proofs.Words.{◌≡◌, ℕ, List, [], Option, Some, None, inr, refl, subst, arith, nat_tests, Mark, EndsAs, IsOfReadHeader, Seen, Asked, run, offsets, generate, most_taken, TakesAtMost}
use Rattle.ncmpi_cli.proofs.CutOff.{made_unready}
use Rattle.ncmpi_cli.proofs.Made.{made_begins_none}

-- nothing was taken
takes_none : (left : Option (List ℕ)) → TakesAtMost most_taken left left
takes_none None = record { front = []; few = omega arith; taken = refl }
takes_none (Some text) = record { front = []; few = omega arith; taken = refl }

-- what is so of what is asked for is so of what the words ask for
pub ends : (form asked : Option Asked) (before now : Seen) (Untouched : Type 0) (status : ℕ) (order : List Mark) (readings : List (List ℕ)) → asked ≡ form
    → EndsAs asked before now Untouched status order readings → EndsAs form before now Untouched status order readings
ends form asked before now Untouched status order readings e h = subst (λ (f : Option Asked). EndsAs f before now Untouched status order readings) e h

not_read : (status : ℕ) → status ≡ 8 → IsOfReadHeader status → ⊥
not_read status e s = grind (arith, nat_tests)

-- want of memory before anything was done is an end of every form
pub wanting : (form : Option Asked) (before now : Seen) (Untouched : Type 0) (status : ℕ) (order : List Mark) (readings : List (List ℕ)) → now.left ≡ before.left
    → now.output.held ≡ before.output.held → Untouched → status ≡ 8 → order ≡ [] → EndsAs form before now Untouched status order readings
wanting None before now Untouched status order readings l h u e o = (inr e, o)
wanting (Some (run watchers name)) before now Untouched status order readings l h u e o = grind (arith, nat_tests, takes_none before.left)
wanting (Some (offsets name)) before now Untouched status order readings l h u e o = grind (arith, nat_tests, not_read)
wanting (Some (generate seed size name)) before now Untouched status order readings l h u e o =
    grind (arith, nat_tests, made_begins_none seed size order o, made_unready seed size before.output.held now.output.held h)

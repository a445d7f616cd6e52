-- The text that is printed of a made script.
use Rattle.script_text.proofs.Words.{◌≡◌, ◌≤◌, ℕ, List, IfOk, Result, Ok, Err, subst, sym, made_script, Reads, shown}
use Rattle.script_text.proofs.MadeText.{made_read}
use Rattle.nc_base.specs.declared.script.Script as script_type
use Rattle.script_text.proofs.made.made_text.Goals as goal

read_again : {E : Type 0} (seed size : ℕ) (r : Result (List ℕ) E) → IfOk r (λ text. text ≡ shown (made_script seed size)) → IfOk r (λ text. size ≤ 40 → Reads text (made_script seed size))
read_again seed size (Ok text) h = λ few. subst (λ (x : List ℕ). Reads x (made_script seed size)) (sym h) (made_read seed size few)
read_again seed size (Err e) h = tt

pub returns-clause-shown : goal.returns-clause-shown
returns-clause-shown c = subst (λ (s : script_type.Script). IfOk c.print_script.result (λ text. text ≡ shown s)) c.in_ok-script.ensures c.print_script.ensures

pub returns-clause-read : goal.returns-clause-read
returns-clause-read c = read_again c.args.seed c.args.size c.print_script.result (returns-clause-shown c)

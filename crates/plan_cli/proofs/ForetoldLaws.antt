-- What a plan tells of a run.
use Rattle.plan_cli.proofs.Words.{◌≡◌, ℕ, Bool, List, [], length, Option, refl, sym, ap, ◌∙◌, Header, Script, after, Asks, Opening, document, Planned, TellsPlan, file_at_start, IsOpening, arith, nat_tests}

-- a plan from an opening on is that of the whole run
pub planned : (json : Bool) (left left_now held : Option (List ℕ)) (script : Script) (header : Header) (opening : Opening) (text : List ℕ) → Asks left script
    → left_now ≡ after (λ _. []) left → IsOpening script held header opening → TellsPlan json script header opening text → Planned json left left_now held text
planned json left left_now held script header opening text a l o t = record {
  script = script;
  old = o.old;
  header = header;
  file = o.file;
  plan = t.plan;
  sums = t.sums;
  reads = a;
  taken = l;
  held = o.held;
  heads = o.heads;
  legal = t.planned.legal;
  foretells = λ bytes m. let long : length (file_at_start script o.old header bytes) ≡ opening.size = sym (o.size bytes m) in grind (arith, nat_tests);
  summed = t.summed;
  whole = t.whole ∙ ap (λ (n : ℕ). document json script header n t.plan t.sums) (o.size o.file (λ _. refl));
}

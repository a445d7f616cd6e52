-- A lawful script that words can express is read from what is printed of it.
use Rattle.script_text.proofs.Words.{◌≡◌, ℕ, ◌+◌, ◌≤◌, List, [], ◌∷◌, map, sum, length, length-append, codes, Bool, true, nat_le, ◌&&◌, refl, sym, subst, arith, list_all, and_parts, cond-true, eqb-true, leb-true, length-map, Script, Call, most_dims, most_vars, is_version, is_lawful, is_lawful_dim, is_lawful_header, is_lawful_var, shown, Reads, most_bytes, most_lines, is_expressible, is_expressible_call, is_expressible_header, printed_lines, nat_tests, common_steps}
use Rattle.serial_spec.proofs.Common.{lawful_parts}
use Rattle.serial_spec.proofs.MemberLaws.{empty_list}
use Rattle.script_spelling.proofs.Told.{spelled_read}
use Rattle.script_text.proofs.CallLines.{call_lines}
use Rattle.script_text.proofs.DefinedChains.{lines_of_own}
use Rattle.script_text.proofs.ExpressedDefinitions.{header_told}
use Rattle.script_text.proofs.ScriptLines.{all_lines}
use Rattle.script_text.proofs.Whole.{HeadFits, Content, new_content, spells_shown}

-- ---- a script for a new dataset, by its parts

-- of a script for a new dataset
record NewHeader (s : Script) : Type 0 where
  records : s.header.records ≡ 0
  version : is_version s.header.version ≡ true
  few_dims : length s.header.dims ≤ most_dims
  dims : list_all (is_lawful_dim s.header.version) s.header.dims ≡ true
  few_vars : length s.header.vars ≤ most_vars
  vars : list_all is_lawful_var s.header.vars ≡ true
  nothing_added : s.extra ≡ []

new_header : (s : Script) → s.fresh ≡ true → is_lawful_header s ≡ true → NewHeader s
new_header s fresh h = grind (arith, nat_tests, and_parts, cond-true, nat_le, eqb-true, leb-true, empty_list)

-- ---- how many lines it has

calls_long : (r : ℕ) (calls : List (List Call)) → length (call_lines r calls) ≡ sum (map (λ own. length own) calls)
calls_long r [] = refl
calls_long r (own ∷ more) = grind (arith, common_steps, calls_long (r + 1) more)

all_long : (s : Script) → s.extra ≡ [] → s.header.attrs ≡ [] → lines_of_own s.header.vars ≡ [] → length (all_lines s) ≡ printed_lines s
all_long s none plain own = grind (arith, common_steps, all_lines, calls_long 0 s.calls, codes, length-append, length-map)

-- ---- the whole

pub expressed_again : (s : Script) → is_lawful s ≡ true → is_expressible s ≡ true → length (shown s) ≤ most_bytes → printed_lines s ≤ most_lines → Reads (shown s) s
expressed_again s lawful h short few =
    let e2 = and_parts (s.fresh && is_expressible_header s.header) (list_all (list_all is_expressible_call) s.calls) h in
    let e1 = and_parts s.fresh (is_expressible_header s.header) e2.0 in
    let new = new_header s e1.0 (lawful_parts s lawful).header in
    let told = header_told s.header e1.1 new.dims new.few_dims new.vars new.few_vars in
    let content = new_content s new.version new.records new.nothing_added told.defined in
    let shown = subst (λ (b : Bool). HeadFits b s.header.version × Content b s) (sym e1.0) (new.version, content) in
    spelled_read _ s (spells_shown s lawful shown.0 shown.1 e2.1 short (λ long. omega (arith, long, few, all_long s new.nothing_added told.no_attrs told.no_own)))

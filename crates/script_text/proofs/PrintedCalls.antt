-- A call that is printed is read as the same call.
use Rattle.script_text.proofs.Words.{◌∙◌, nat_lt, and_parts, are_expressible_values, is_expressible_call, HasNoRegion, of_behind, made_behind, ◌≡◌, ℕ, ◌^◌, List, ◌∷◌, ◌++◌, true, None, refl, sym, subst, arith, decimal, list_all, and_from, ltb-true, Values, Numbers, PostKind, Iget, Call, Word, Plain, is_name, Family, Requests, Behind, is_sized, is_expressible_behind, all_joined, SpellsBehind, SpellsCall, SpellsPlain, SpellsPosted, ap, are_values, is_given, is_id, is_lawful_call, is_post_of, length, list_all-append, most_elements, nat_le, of_row, ◌&&◌, nat_tests}
use Rattle.script_spelling.proofs.Steps.{all_more}
use Rattle.serial_spec.proofs.MemberLaws.{empty_list}
use Rattle.script_laws.proofs.Sequences.{is_fit_number}
use Rattle.script_text.proofs.Lexing.{is_good}
use Rattle.script_text.proofs.Numerals.{name_plain, size_plain, size_again}
use Rattle.script_text.proofs.PrintedValues.{value_tokens, is_read, AreFit, values_good, are_fit, values_spell, each_passed}
use Rattle.script_text.proofs.PrintedRegions.{region_tokens, id_again, id_plain, choice_good, choice_spells, has_sizes, id_named, region_good, region_spells}
use Rattle.script_text.proofs.CallTokens.{tokens_behind, call_tokens, made_tokens}
use Rattle.nc_base.specs.declared.request.Call.TheVariants as call
use Rattle.script_spelling.proofs.CallsRead.{apart_spelled, made_spelled}
use Rattle.serial_spec.proofs.Common.{is_number}

-- ---- values of a call that words can express

values_are : (vs : Values) → are_values vs ≡ true → are_expressible_values vs ≡ true → AreFit None vs
values_are (Numbers zs) lawful h = all_more is_number (is_fit_number None) (λ z e. and_from _ _ e refl) zs (and_parts (nat_le (length zs) most_elements) (list_all is_number zs) lawful).1
values_are vs lawful h = grind (arith, nat_tests, all_more, nat_lt)

values_named : (vs : Values) → AreFit None vs → are_expressible_values vs ≡ true
values_named (Numbers zs) h = refl
values_named vs h = grind (arith, nat_tests, all_more, nat_lt)

posted_shown : (k : PostKind) (vs : Values) → is_post_of k vs ≡ true → are_expressible_values vs ≡ true → (list_all is_good (value_tokens vs) ≡ true) × SpellsPosted k (value_tokens vs) vs
posted_shown Iget vs lawful h = grind (arith, nat_tests, is_good, empty_list)
posted_shown k vs lawful h = let are = values_are vs lawful h in (values_good None vs are, values_spell None vs are)

posted_named : (k : PostKind) (vs : Values) (ws : List Word) → SpellsPosted k ws vs → list_all is_read ws ≡ true → are_expressible_values vs ≡ true
posted_named Iget vs ws h read = ap are_expressible_values h.1
posted_named k vs ws h read = grind (arith, nat_tests, values_named vs (are_fit None ws vs h read), are_fit None ws vs h read)

-- ---- a call that is printed

-- its words are cut again, and spell it
pub record CallShown (c : Call) : Type 0 where
  pub good : list_all is_good (call_tokens c) ≡ true
  pub spells : SpellsCall (call_tokens c) c

behind_good : (f : Family) (b : Behind f) → is_expressible_behind f b ≡ true → is_sized f b ≡ true → list_all is_good (tokens_behind f b) ≡ true
behind_good Requests c h sized = choice_good c h
behind_good f b h sized = grind (arith, nat_tests, size_plain, name_plain, ltb-true, is_expressible_behind)

behind_spells : (f : Family) (b : Behind f) → is_expressible_behind f b ≡ true → is_sized f b ≡ true → SpellsBehind (tokens_behind f b) f b
behind_spells Requests c h sized = choice_spells c h
behind_spells f b h sized = grind (arith, nat_tests, size_again, is_expressible_behind)

plain_shown : (ranks r : ℕ) (c : Call) → HasNoRegion c → is_lawful_call ranks r c ≡ true → of_behind true is_expressible_behind c ≡ true → CallShown c
plain_shown ranks r c apart lawful h =
    let o = of_row ranks r c apart lawful in
    grind (arith, nat_tests, made_behind o.row o.is ranks r o.b true is_expressible_behind, made_tokens, behind_spells, is_good, behind_good, apart_spelled, made_spelled, o.same, o.sized)

pub call_shown : (ranks r : ℕ) (c : Call) → is_lawful_call ranks r c ≡ true → is_expressible_call c ≡ true → CallShown c
call_shown ranks r (call.Put all n g vs) lawful h =
    let a = and_parts (is_given g) (are_values vs) lawful in
    let b = and_parts (is_name n) (are_expressible_values vs) h in
    let s = has_sizes g a.0 in
    let are = values_are vs a.1 b.1 in
    let region = region_tokens g.form g in
    record {
      good = and_from _ _ (name_plain n b.0) (all_joined is_good region (value_tokens vs) (region_good g.form g s) (values_good None vs are));
      spells = (Plain n ∷ region, value_tokens vs, refl, (region, refl, b.0, region_spells g.form g s), values_spell None vs are);
    }
call_shown ranks r (call.Get all n g) lawful h =
    grind (arith, nat_tests, has_sizes g lawful, name_plain n h, region_good g.form g (has_sizes g lawful), region_spells g.form g (has_sizes g lawful))
call_shown ranks r (call.Post id k n g vs) lawful h =
    let a = and_parts (is_given g) (is_post_of k vs) lawful in
    let b = and_parts (is_id id && is_name n) (are_expressible_values vs) h in
    let d = and_parts (is_id id) (is_name n) b.0 in
    let low = ltb-true id (2 ^ 32) d.0 in
    let s = has_sizes g a.0 in
    let posted = posted_shown k vs a.1 b.1 in
    let region = region_tokens g.form g in
    record {
      good = and_from _ _ (id_plain id low) (and_from _ _ (name_plain n d.1) (all_joined is_good region (value_tokens vs) (region_good g.form g s) posted.0));
      spells = (decimal id, Plain n ∷ region, value_tokens vs, refl, id_again id low, (region, refl, d.1, region_spells g.form g s), posted.1);
    }
call_shown ranks r c lawful h = plain_shown ranks r c tt lawful h

-- ---- a call that words spell is one that words can express

plain_named : (ws : List Word) (c : Call) → SpellsPlain ws c → of_behind true is_expressible_behind c ≡ true
plain_named ws c h = grind (arith, nat_tests, each_passed, id_named)

rest_read : (front rest ws : List Word) → ws ≡ front ++ rest → list_all is_read ws ≡ true → list_all is_read rest ≡ true
rest_read front rest ws are read = (and_parts (list_all is_read front) _ (sym (list_all-append is_read front rest) ∙ subst (λ (xs : List Word). list_all is_read xs ≡ true) are read)).1

pub call_named : (c : Call) (ws : List Word) → SpellsCall ws c → list_all is_read ws ≡ true → is_expressible_call c ≡ true
call_named (call.Put all n g vs) ws (place, last, are, (own, is, named, spells), told) read = and_from _ _ named (values_named vs (are_fit None last vs told (rest_read place last ws are read)))
call_named (call.Get all n g) ws (own, is, named, spells) read = named
call_named (call.Post id k n g vs) ws (w, place, last, are, low, (own, is, named, spells), told) read =
    and_from _ _ (and_from _ _ (id_named w id low) named) (posted_named k vs last told (rest_read (Plain w ∷ place) last ws are read))
call_named c ws h read = plain_named ws c h

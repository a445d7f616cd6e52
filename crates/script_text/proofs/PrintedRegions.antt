-- Names, regions, ids and choices that are printed are read again.
use Rattle.script_text.proofs.Words.{◌≡◌, ℕ, ◌^◌, ◌≤◌, ◌<◌, List, [], ◌∷◌, map, length, Bool, true, nat_le, ◌&&◌, Some, refl, ap, arith, codes, decimal, list_all, and_parts, and_from, Form, Given, Part, Choice, Every, Listed, most_parts, is_given, size_list, part_words, form_words, choice_words, Word, Plain, list_of_text, id_of_text, is_id, is_expressible_choice, nat_tests, Each, SpellsChoice, SpellsForm, SpellsOne, ltb-true, lt-ltb, below, nat_lt, common_steps}
use Rattle.std.proofs.Common.{flat_map}
use Rattle.script_text.proofs.Lexing.{spelling, is_plain, is_good}
use Rattle.script_text.proofs.Numerals.{size_again, size_plain, is_size, list_again, list_plain}
use Rattle.script_text.proofs.PrintedValues.{plain_spelled, each_spells, mapped_good}
use Rattle.nc_base.specs.declared.request.Form.TheVariants as form

-- ---- lists and parts

abbrev pub are_sizes : List ℕ → Bool
are_sizes ns = list_all is_size ns

list_spells : (ns : List ℕ) → are_sizes ns ≡ true → SpellsOne list_of_text (Plain (size_list ns)) ns
list_spells ns h = (size_list ns, refl, list_again ns h)

abbrev pub part_tokens : Part → List Word
part_tokens p = Plain (size_list p.start) ∷ Plain (size_list p.count) ∷ []

abbrev pub is_part : Part → Bool
is_part p = are_sizes p.start && are_sizes p.count

parts_spelled : (ps : List Part) → map spelling (flat_map part_tokens ps) ≡ flat_map part_words ps
parts_spelled [] = refl
parts_spelled (p ∷ ps) = ap (λ (ws : List (List ℕ)). size_list p.start ∷ size_list p.count ∷ ws) (parts_spelled ps)

parts_good : (ps : List Part) → list_all is_part ps ≡ true → list_all is_good (flat_map part_tokens ps) ≡ true
parts_good [] h = refl
parts_good (p ∷ ps) h = grind (arith, nat_tests, parts_good ps (and_parts (is_part p) (list_all is_part ps) h).1, and_parts, and_from, list_plain)

parts_spell : (ps : List Part) → list_all is_part ps ≡ true → Each list_of_text (flat_map part_tokens ps) (flat_map (λ p. p.start ∷ p.count ∷ []) ps)
parts_spell [] h = tt
parts_spell (p ∷ ps) h = grind (arith, nat_tests, list_spells, parts_spell ps (and_parts (is_part p) (list_all is_part ps) h).1, flat_map, part_tokens)

-- ---- regions

abbrev pub region_tokens : Form → Given → List Word
region_tokens form.Var g = []
region_tokens form.Var1 g = Plain (size_list g.start) ∷ []
region_tokens form.Vara g = Plain (size_list g.start) ∷ Plain (size_list g.count) ∷ []
region_tokens form.Vars g = Plain (size_list g.start) ∷ Plain (size_list g.count) ∷ Plain (size_list g.stride) ∷ []
region_tokens form.Varm g = Plain (size_list g.start) ∷ Plain (size_list g.count) ∷ Plain (size_list g.stride) ∷ Plain (size_list g.imap) ∷ []
region_tokens form.Varn g = Plain (decimal (length g.parts)) ∷ flat_map part_tokens g.parts

pub region_spelled : (f : Form) (g : Given) → map spelling (region_tokens f g) ≡ form_words f g
region_spelled f g = grind (arith, nat_tests, decimal, parts_spelled)

-- what a region that is given has, of whatever form
pub record HasSizes (g : Given) : Type 0 where
  pub start : are_sizes g.start ≡ true
  pub count : are_sizes g.count ≡ true
  pub stride : are_sizes g.stride ≡ true
  pub imap : are_sizes g.imap ≡ true
  pub parts : list_all is_part g.parts ≡ true
  pub few : length g.parts ≤ most_parts

pub has_sizes : (g : Given) → is_given g ≡ true → HasSizes g
has_sizes g h = grind (arith, nat_tests, nat_le, g.imap, g.stride, g.count, g.start)

pub region_good : (f : Form) (g : Given) → HasSizes g → list_all is_good (region_tokens f g) ≡ true
region_good form.Varn g s = and_from _ _ (size_plain (length g.parts) (let few = s.few in omega arith)) (parts_good g.parts s.parts)
region_good f g s = grind (arith, nat_tests, list_plain, list_all, region_tokens)

pub region_spells : (f : Form) (g : Given) → HasSizes g → SpellsForm f (region_tokens f g) g
region_spells form.Var g s = tt
region_spells f g s = grind (arith, nat_tests, list_spells, flat_map, size_again, parts_spell, region_tokens)

-- ---- ids

pub id_again : (n : ℕ) → n < 2 ^ 32 → id_of_text (decimal n) ≡ Some n
id_again n h = grind (arith, nat_tests, size_again, below)

pub id_plain : (n : ℕ) → n < 2 ^ 32 → is_plain (decimal n) ≡ true
id_plain n h = size_plain n (omega arith)

pub id_named : (w : List ℕ) (n : ℕ) → id_of_text w ≡ Some n → is_id n ≡ true
id_named w n h = lt-ltb n (2 ^ 32) (grind (arith, nat_tests, nat_lt, common_steps))

-- ---- choices

abbrev pub choice_tokens : Choice → List Word
choice_tokens Every = Plain (codes "all") ∷ []
choice_tokens (Listed ns) = map (λ n. Plain (decimal n)) ns

pub choice_spelled : (c : Choice) → map spelling (choice_tokens c) ≡ choice_words c
choice_spelled Every = refl
choice_spelled (Listed ns) = plain_spelled decimal ns

pub choice_good : (c : Choice) → is_expressible_choice c ≡ true → list_all is_good (choice_tokens c) ≡ true
choice_good Every h = refl
choice_good (Listed ns) h = mapped_good is_id decimal (λ n low. id_plain n (ltb-true n (2 ^ 32) low)) ns h

pub choice_spells : (c : Choice) → is_expressible_choice c ≡ true → SpellsChoice (choice_tokens c) c
choice_spells Every h = refl
choice_spells (Listed ns) h = each_spells id_of_text is_id decimal (λ n low. id_again n (ltb-true n (2 ^ 32) low)) ns h

-- What the words of the command line ask for.
--     texts words       the words as texts
--     Wanted            a form of the plan, and the dataset that the words name, if any
--     is_name word      the word may name a dataset
--     form_of words     what the words ask for, where they are of the form [--json] [DATASET]
--     named_by wanted   the dataset that is named
--     wanted_of form    what the program's own form of the words means
--     name_of name      the bytes of a name
use Rattle.std.specs.Prelude.{ℕ, Bool, true, false, not, ◌&&◌, ◌==◌, List, [], ◌∷◌, length, map, codes, nat_eq, Option, Some, None, option_and_then, option_map, if◌then◌else◌}
use Rattle.std.specs.Borrow.{Bor}
use Rattle.std.specs.List.{starts_with}
use Rattle.std.specs.Str.{bytes_eq}
use Rattle.plan_cli.specs.declared.command.Form.{Form}

abbrev pub texts : List (Bor (List ℕ)) → List (List ℕ)
texts words = map (λ w. w.now) words

pub record Wanted : Type 0 where
  -- a JSON document in place of a text
  pub json : Bool
  pub dataset : Option (List ℕ)

-- a name is not empty, and doesn't begin as an option does
abbrev pub is_name : List ℕ → Bool
is_name word = not (length word == 0) && not (starts_with nat_eq word (codes "--"))

abbrev pub wanted_by_name : Bool → List ℕ → Option Wanted
wanted_by_name json word = if is_name word then Some (record { json = json; dataset = Some word }) else None

-- no name, or one
abbrev pub with_names : Bool → List (List ℕ) → Option Wanted
with_names json [] = Some (record { json = json; dataset = None })
with_names json (word ∷ []) = wanted_by_name json word
with_names json (word ∷ other ∷ words) = None

abbrev pub form_of : List (List ℕ) → Option Wanted
form_of [] = with_names false []
form_of (word ∷ words) = if bytes_eq word (codes "--json") then with_names true words else with_names false (word ∷ words)

abbrev pub named_by : Option Wanted → Option (List ℕ)
named_by wanted = option_and_then (λ w. w.dataset) wanted

abbrev pub name_of : Option (Bor (List ℕ)) → Option (List ℕ)
name_of name = option_map (λ n. n.now) name

abbrev pub wanted_of : Form → Wanted
wanted_of form = record { json = form.json; dataset = name_of form.dataset }

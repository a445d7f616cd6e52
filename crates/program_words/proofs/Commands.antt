-- What clap finds in the words.
use Rattle.std.proofs.Common.{◌≡◌, ℕ, Bool, true, false, List, [], length, Option, Some, None, refl, sym, ap, ◌∙◌, codes}
use Rattle.std.specs.Prelude.{◌==◌, option_map}
use Rattle.clap.specs.Faults.{fault_of, is_simple_and_free}
use Rattle.clap.specs.Kinds.{Kinds}
use Rattle.clap.specs.Matches.{first_value, found_of}
use Rattle.clap.specs.Simple.{App, HasMatchesOf, is_simple, matches_of}
use Rattle.clap.specs.Walk.{rows_of}
use Rattle.clap.specs.declared.parser.matches.ArgMatches.{ArgMatches}
use Rattle.clap.specs.declared.parser.matches.Found.{Found}
use Rattle.clap.proofs.WalkLemmas.{first_value-rows}
use Rattle.program_words.specs.Words.{command, is_parsed, is_set, options, options_by}
use Rattle.program_words.specs.Words as words
use Rattle.program_words.specs.Forms.{options_of}
use Rattle.program_words.specs.declared.command.Options.{Options}

-- what the getters read is what the rows give
pub read : (f : Found) (o : Options) → o.offsets ≡ is_set (first_value f (codes "offsets"))
    → option_map (λ s. s.now) o.generate ≡ first_value f (codes "generate") → option_map (λ s. s.now) o.size ≡ first_value f (codes "size")
    → option_map (λ s. s.now) o.watch ≡ first_value f (codes "watch") → option_map (λ s. s.now) o.dataset ≡ first_value f (codes "dataset")
    → options_of o ≡ options_by (rows_of f)
read f o offsets generate size watch dataset =
    let offsets_is = offsets ∙ ap is_set (first_value-rows f (codes "offsets")) in
    let generate_is = generate ∙ first_value-rows f (codes "generate") in
    let size_is = size ∙ first_value-rows f (codes "size") in
    let watch_is = watch ∙ first_value-rows f (codes "watch") in
    let dataset_is = dataset ∙ first_value-rows f (codes "dataset") in
    λ i. record { offsets = offsets_is i; generate = generate_is i; size = size_is i; watch = watch_is i; dataset = dataset_is i }

simple : is_simple command ≡ true
simple = refl

simple_and_free : is_simple_and_free command ≡ true
simple_and_free = refl

abbrev found_if : List (List ℕ) → Bool → Option words.Options
found_if ws b = elim b [ true ↦ Some (options_by (matches_of command ws)) | false ↦ None ]

-- a parse that succeeds finds what the words give
pub parsed : (app : App) (ws : List (List ℕ)) (m : ArgMatches) (o : Options) → app ≡ command → (is_simple_and_free app ≡ true → fault_of app ws ≡ [])
    → HasMatchesOf app ws m → options_of o ≡ options_by (rows_of (found_of m)) → Some (options_of o) ≡ options ws
parsed app ws m o same none gives reads =
    let rows : rows_of (found_of m) ≡ matches_of command ws = (gives (ap is_simple same ∙ simple)).0 ∙ ap (λ (a : App). matches_of a ws) same in
    let faultless : fault_of command ws ≡ [] = sym (ap (λ (a : App). fault_of a ws) same) ∙ none (ap is_simple_and_free same ∙ simple_and_free) in
    let takes : is_parsed ws ≡ true = ap (λ (k : Kinds). length k == 0) faultless in
    ap (λ (x : words.Options). Some x) (reads ∙ ap options_by rows) ∙ sym (ap (found_if ws) takes)

use Rattle.std.proofs.Common.{◌≡◌, ◌∙◌, ap, ap₂, codes, false, rules}
use Rattle.std.proofs.lemmas.Result.{IfOk-weaker}
use Rattle.clap.specs.Simple.{app_of, app_of_fields, new_app, with_rule}
use Rattle.clap.specs.Walk.{rule_of}
use Rattle.program_words.specs.Words.{nameless, required}
use Rattle.program_words.proofs.command.command.Goals as goal

pub returns : goal.returns
returns c =
    let empty : app_of c.no_binary_name.result ≡ nameless (new_app (codes "ncrun")) = ap app_of_fields c.no_binary_name.ensures ∙ ap nameless c.new.ensures.app in
    let offsets = c.in_ok-arg.ensures.shape c.flag.ensures.own ∙ ap₂ with_rule empty c.flag.ensures.rule in
    let generate = c.in_ok-arg-2.ensures.shape c.option.ensures.own ∙ ap₂ with_rule offsets c.option.ensures.rule in
    let size = c.in_ok-arg-3.ensures.shape c.option-2.ensures.own ∙ ap₂ with_rule generate c.option-2.ensures.rule in
    let watch = c.in_ok-arg-4.ensures.shape c.option-3.ensures.own ∙ ap₂ with_rule size c.option-3.ensures.rule in
    let own : c.required.result.global ≡ false = search rules in
    let rule : rule_of c.required.result ≡ required (codes "dataset") = search rules in
    IfOk-weaker c.arg-5.result _ _ (λ m h. h.shape own ∙ ap₂ with_rule watch rule) c.arg-5.ensures

use Rattle.vara_extents.proofs.Words.{◌∙◌, ap, List, rules, Region, refusal_of}
use Rattle.vara_extents.proofs.PartLaws.{accepted_by, refused_by}
use Rattle.vara_extents.proofs.parts.code_by_boxes.Goals as goal

pub returns-then-not-is_ok : goal.returns-then-not-is_ok
returns-then-not-is_ok c =
    refused_by c.args.header.now c.args.var.now c.args.regions.items c.args.ends.known c.args.ends.direction c.first_refusal-refusal.result
    (c.first_refusal-refusal.ensures ∙ ap (λ (l : List Region). refusal_of c.args.header.now c.args.var.now l c.args.ends.known c.args.ends.direction) c.as_slice.ensures.value)
    (search rules)

pub returns : goal.returns
returns c =
    c.together_code.ensures
    ∙ accepted_by c.args.header.now c.args.var.now c.args.regions.items c.args.ends.known c.args.ends.direction c.first_refusal-refusal.result
    (c.first_refusal-refusal.ensures ∙ ap (λ (l : List Region). refusal_of c.args.header.now c.args.var.now l c.args.ends.known c.args.ends.direction) c.as_slice.ensures.value)
    (search rules)

use Rattle.plan_cli.proofs.Words.{◌≡◌, Some, rules, both_ways, no_extras, some_extras}
use Rattle.plan_cli.proofs.OpeningLaws.{added, kept}
use Rattle.plan_cli.proofs.StopLaws.{refuses, unadded}
use Rattle.plan_cli.proofs.existing.open.Goals as goal

pub keep-requires-clause-none : goal.keep-requires-clause-none
keep-requires-clause-none g c = no_extras c.args.script.now (c.is_empty.ensures.0 c.if-is_empty.true)

pub redefine-prepared-requires-clause-some : goal.redefine-prepared-requires-clause-some
redefine-prepared-requires-clause-some g c = some_extras c.args.script.now (λ none. both_ways _ c.if-is_empty.false (c.is_empty.ensures.1 none))

pub returns-then-is_empty-clause-opening : goal.returns-then-is_empty-clause-opening
returns-then-is_empty-clause-opening g c =
    let named : c.args.name ≡ Some c.in-Some.name = search rules in
    rw named
    (kept c.args.script.now c.in_ok-old.old.header c.in_ok-old.old.size (g.D.DatasetFront.held c.args.dataset.now c.in-Some.name.now) c.requires.opened c.in_ok-old.ensures.opened
    c.in_ok-old.ensures.faultless c.keep.result (no_extras c.args.script.now (c.is_empty.ensures.0 c.if-is_empty.true)) c.in_ok-old.ensures.sound c.keep.ensures.header c.keep.ensures.opening)

pub returns-else-is_empty-clause-opening : goal.returns-else-is_empty-clause-opening
returns-else-is_empty-clause-opening g c =
    let named : c.args.name ≡ Some c.in-Some.name = search rules in
    rw named
    (added c.args.script.now c.in_ok-old.old.header c.in_ok-old.old.size (g.D.DatasetFront.held c.args.dataset.now c.in-Some.name.now) c.requires.opened c.in_ok-old.ensures.opened
    c.in_ok-old.ensures.faultless c.redefine-prepared.result (some_extras c.args.script.now (λ none. both_ways _ c.if-is_empty.false (c.is_empty.ensures.1 none)))
    c.redefine-prepared.ensures.applied c.redefine-prepared.ensures.opening)

pub returns-else-is_empty-clause-stopped : goal.returns-else-is_empty-clause-stopped
returns-else-is_empty-clause-stopped g c =
    let named : c.args.name ≡ Some c.in-Some.name = search rules in
    rw named
    (unadded c.args.script.now (g.D.DatasetFront.held c.args.dataset.now c.in-Some.name.now) _ _ c.redefine-prepared.result c.requires.opened
    (λ e r. refuses c.args.script.now c.in_ok-old.old.header (g.D.DatasetFront.held c.args.dataset.now c.in-Some.name.now) c.in_ok-old.old.size e
    (some_extras c.args.script.now (λ none. both_ways _ c.if-is_empty.false (c.is_empty.ensures.1 none))) c.in_ok-old.ensures.opened (c.redefine-prepared.ensures.refused e r))
    c.redefine-prepared.ensures.unread c.redefine-prepared.ensures.only)

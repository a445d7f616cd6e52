use Rattle.generated_run.proofs.Words.{◌≡◌, ℕ, List, Option, sym, ap, subst, ◌∙◌, option_map, option_copied, Bor, Call, Given, elements_given, posted_elements, IfOk}
use Rattle.generated_run.proofs.PostLaws.{elements_of, found_are}
use Rattle.generated_run.proofs.elements.Posts.elements.Goals as goal

pub returns-in-None : goal.returns-in-None
returns-in-None c =
    let calls = c.self.inside.calls.now in
    ap (λ (o : Option (Bor (Bor Given))). elements_of (option_map (λ (g : Bor Given). g.now) (option_copied o))) (sym c.in-None.is)
    ∙ found_are calls c.args.id c.get.result _ c.get.ensures.value (c.self.invariant c.args.id)
    ∙ ap (λ (cs : List Call). posted_elements cs c.args.id) c.self.view_is

pub returns-in-Some : goal.returns-in-Some
returns-in-Some c =
    let calls = c.self.inside.calls.now in
    let same : elements_given c.in-Some.given.now.now ≡ posted_elements c.args.self.now c.args.id =
    ap (λ (o : Option (Bor (Bor Given))). elements_of (option_map (λ (g : Bor Given). g.now) (option_copied o))) (sym c.in-Some.is)
    ∙ found_are calls c.args.id c.get.result _ c.get.ensures.value (c.self.invariant c.args.id)
    ∙ ap (λ (cs : List Call). posted_elements cs c.args.id) c.self.view_is in
    subst (λ (m : ℕ). IfOk c.elements.result (λ n. n ≡ m)) same c.elements.ensures

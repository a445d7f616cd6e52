use Rattle.run_watch.proofs.Words.{◌≡◌, ◌++◌, ◌∷◌, [], List, Option, Some, drop, fold, sym, ap, ◌∙◌, subst, view, Heard, Shown, summary, TellsMore, arith, nat_tests}
use Rattle.run_watch.proofs.Moves.{tells}
use Rattle.run_watch.proofs.Results.{ok_of, done, last_shown, shown, summed, told_more}
use Rattle.run_watch.proofs.board.show.Goals as goal

pub publish_as-writer-requires : goal.publish_as-writer-requires
publish_as-writer-requires g c = λ next is.
    let one : Shown = shown c.args.steps c.args.records c.args.mark in
    grind (arith, nat_tests, ok_of c.append.result, last_shown c.append.new.self.desk.shown.value next one, tells c.append.new.self.desk.place.id c.args.before.value c.append.new.self.desk.shown.value one c.args.mark, summed c.args.before.value c.args.mark c.args.steps c.args.records c.requires.steps, c.if-is_err.false, c.is_err.ensures.value, c.append.ensures.pending, c.requires.shows.2, c.append.ensures.desk, c.requires.shows.0, c.requires.shows.1)

pub returns-clause-ok : goal.returns-clause-ok
returns-clause-ok g c =
    let one : Shown = shown c.args.steps c.args.records c.args.mark in
    let told : Heard = c.args.before.value in
    let was : List Shown = drop c.args.writer.behind c.args.writer.log.items in
    let now : List Shown = drop c.append.new.self.behind c.append.new.self.log.items in
    let more : now ≡ was ++ one ∷ [] = ok_of c.append.result (now ≡ was ++ one ∷ []) (λ (x : Shown). (x ≡ one) × (now ≡ was)) (sym c.if-is_err.false ∙ c.is_err.ensures.value) c.append.ensures.pending in
    let single : now ≡ one ∷ [] = more ∙ ap (λ (l : List Shown). l ++ one ∷ []) c.requires.shows.2 in
    let x : Shown = c.append.new.self.desk.shown.value in
    let y : Shown = c.publish_as-writer.result.0.desk.shown.value in
    let left : List Shown = drop c.publish_as-writer.result.0.behind c.publish_as-writer.result.0.log.items in
    let before : Option Heard = view c.append.new.self.desk.place in
    let after : Option Heard = view c.publish_as-writer.result.0.desk.place in
    let heard : before ≡ Some told = rw c.append.ensures.desk c.requires.shows.0 in
    let values : (y ≡ fold (λ (a b : Shown). b) x now) × (left ≡ []) =
    done c.publish_as-writer.result.1 ((y ≡ fold (λ (a b : Shown). b) x now) × (left ≡ [])) ((y ≡ x) × (left ≡ now)) (c.publish_as-writer.ensures.succeeds tt) c.publish_as-writer.ensures.values in
    let rule : TellsMore before y after = done c.publish_as-writer.result.1 (TellsMore before y after) (after ≡ before) (c.publish_as-writer.ensures.succeeds tt) c.publish_as-writer.ensures.rule in
    let is : y ≡ one = last_shown x y one now single values.0 in (
      told_more told after y c.args.steps c.args.records c.args.mark is (subst (λ (v : Option Heard). TellsMore v y after) heard rule),
      ap (λ (z : Shown). z.summary) is ∙ summed told c.args.mark c.args.steps c.args.records c.requires.steps,
      values.1,
    )

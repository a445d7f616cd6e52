use Rattle.rank_core.proofs.Words.{◌≡◌, ◌+◌, false, option_copied, into_iter_items, elements_of_all, some_unfit}
use Rattle.serial_spec.specs.Looks as looks
use Rattle.rank_core.proofs.look.parts.part_posts.Given as goal

abbrev pub invariant-loop-region : goal.invariant-loop-region
invariant-loop-region l = record {
  posts : l.posts ≡ looks.part_posts l.target.id l.target.place l.target.var.now.kind (option_copied l.values) 0 l.yielded;
  before : l.before ≡ elements_of_all l.yielded;
  rest : l.before + elements_of_all (into_iter_items l.region-iterator) ≡ elements_of_all l.fn.regions.items;
  fit : some_unfit l.target.var.now.kind (option_copied l.values) 0 l.before ≡ false;
}

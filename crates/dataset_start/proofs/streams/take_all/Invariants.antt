use Rattle.dataset_start.proofs.Words.{◌≡◌, ◌≤◌, vec_len, with_front, max_text}
use Rattle.dataset_start.proofs.streams.take_all.Given as goal

abbrev pub invariant-loop-turn : goal.invariant-loop-turn
invariant-loop-turn g l = record {
  long : l._turn ≤ vec_len l.text;
  short : vec_len l.text ≤ max_text;
  taken : g.S.Source.left l.initial.source ≡ with_front l.text.items (g.S.Source.left l.source);
  later : g.S.Source.faults l.initial.source ≤ g.S.Source.faults l.source;
}

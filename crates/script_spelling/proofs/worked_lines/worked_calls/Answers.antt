use Rattle.script_spelling.proofs.Words.{[], ◌∷◌, refl, pos, neg_ℤ, codes, arith, words, OfNumbers, OfBits, OfSequence}
use Rattle.script_spelling.proofs.worked_lines.worked_calls.Goals as goal

pub returns : goal.returns
returns c = record {
  put = (
    codes "0",
    words (codes "v [1] [2] 5 -1"),
    refl,
    refl,
    refl,
    (
      words (codes "v [1] [2]"),
      words (codes "5 -1"),
      refl,
      (words (codes "[1] [2]"), refl, refl, ((codes "[1]", refl, refl), ((codes "[2]", refl, refl), tt))),
      OfNumbers (pos 5 ∷ neg_ℤ (pos 1) ∷ []) ((codes "5", refl, refl), ((codes "-1", refl, refl), tt)) refl,
    ),
  );
  post = (codes "12", words (codes "7 v"), refl, refl, refl, (codes "7", words (codes "v"), [], refl, refl, ([], refl, refl, tt), (refl, refl)));
  wait = (codes "1", words (codes "3 7"), refl, refl, refl, ((codes "3", refl, refl), ((codes "7", refl, refl), tt)));
  all = (codes "1", words (codes "all"), refl, refl, refl, refl);
  sequence = OfSequence (codes "3", codes "4", codes "-5", 3, pos 4, neg_ℤ (pos 5), refl, refl, refl, refl, (λ some. refl), refl, refl, refl);
  bits = OfBits (0x3F800000 ∷ 15 ∷ []) (omega arith) ((codes "x3F800000", refl, refl), ((codes "xf", refl, refl), tt)) refl;
}

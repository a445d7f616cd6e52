use Rattle.run_laws.proofs.Words.{ap, arith, nat_tests, solo_of, meeting}
use Rattle.run_laws.proofs.StandingLaws.{arrived, offers_at, hears_at, beside_offers, solo_goes, solo_calls_go, ended}
use Rattle.run_laws.proofs.step_law.Goals as goal

pub returns : goal.returns
returns c = record {
  meeting = λ s c goings ss offers w. grind (
    arith,
    nat_tests,
    arrived s.header goings ss offers w,
    offers_at ss offers (beside_offers s.header goings ss offers w),
    hears_at s.header ss offers (meeting s offers c).1 (beside_offers s.header goings ss offers w),
  );
  meeting_calls = λ hints s c goings ss offers k w. grind (arith, nat_tests, arrived s.header goings ss offers w, offers_at ss offers (beside_offers s.header goings ss offers w));
  solo = λ s r c goings g t o e f. grind (arith, nat_tests, solo_goes);
  solo_calls = λ hints s r n c goings g t o e f. grind (arith, nat_tests, solo_calls_go);
  own_step = λ s r c g t o m f. ap (solo_of s r c) f;
  closed = λ s c goings ss w. grind (arith, nat_tests, ended s.header goings ss w);
}

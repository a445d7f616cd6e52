-- The additions, one after another.
use Rattle.redef_mover.proofs.Words.{◌≡◌, ℕ, suc, ◌+◌, ◌<◌, ◌≤◌, List, ◌∷◌, length, get_or, drop, fold, Option, Some, None, ap, arith, length-append, nat_tests, drop_more, drop_all, Header, Extra, RedefErr, most_dims, with_extra, extra_fault, extras_from, extras_fault, added}
use Rattle.nc_base.specs.declared.script.Extra.TheVariants as extra
use Rattle.nc_base.specs.declared.errors.RedefErr.TheVariants as redef

pub extras_goes_on : (header : Header) (k : ℕ) (e : Extra) (es : List Extra) → extra_fault header k e ≡ None
    → extras_from header k (e ∷ es) ≡ extras_from (with_extra header e) (suc k) es
extras_goes_on header k e es h = ap (λ (o : Option RedefErr). elim o [ Some f ↦ Some f | None ↦ extras_from (with_extra header e) (suc k) es ]) h

pub extras_stops : (header : Header) (k : ℕ) (e : Extra) (es : List Extra) (f : RedefErr) → extra_fault header k e ≡ Some f
    → extras_from header k (e ∷ es) ≡ Some f
extras_stops header k e es f h = ap (λ (o : Option RedefErr). elim o [ Some g ↦ Some g | None ↦ extras_from (with_extra header e) (suc k) es ]) h

-- no dimension is added where there are as many as can be
pub few_still : (header : Header) (k : ℕ) (e : Extra) → extra_fault header k e ≡ None → length header.dims ≤ most_dims → length (with_extra header e).dims ≤ most_dims
few_still header k e h few = grind (arith, nat_tests, length-append)

-- after the first k extras
pub record AddedSoFar (header : Header) (extras : List Extra) (k : ℕ) (new : Header) : Type 0 where
  pub few : length new.dims ≤ most_dims
  pub fault : extras_from new k (drop k extras) ≡ extras_fault header extras
  pub rest : fold with_extra new (drop k extras) ≡ added header extras

pub added_next : (header : Header) (extras : List Extra) (k : ℕ) (new after : Header) (e : Extra) → k < length extras → e ≡ get_or extras k e
    → extra_fault new k e ≡ None → after ≡ with_extra new e → AddedSoFar header extras k new → AddedSoFar header extras (k + 1) after
added_next header extras k new after e within there none made so_far =
    grind (arith, nat_tests, drop_more extras k e within, few_still new k e none so_far.few, extras_goes_on new k e (drop (k + 1) extras) none, fold)

pub added_stops : (header : Header) (extras : List Extra) (k : ℕ) (new : Header) (e : Extra) (f : RedefErr) → k < length extras → e ≡ get_or extras k e
    → extra_fault new k e ≡ Some f → AddedSoFar header extras k new → extras_fault header extras ≡ Some f
added_stops header extras k new e f within there some so_far =
    grind (arith, nat_tests, drop_more extras k e within, extras_stops new k e (drop (k + 1) extras) f some)

pub added_whole : (header : Header) (extras : List Extra) (k : ℕ) (new : Header) → length extras ≤ k → AddedSoFar header extras k new
    → (extras_fault header extras ≡ None) × (new ≡ added header extras)
added_whole header extras k new past so_far = grind (arith, nat_tests, drop_all k extras past, fold)

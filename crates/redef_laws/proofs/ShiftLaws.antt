-- A redefinition moves the slabs of the old variables up, or lets them stay, and none passes another.
use Rattle.redef_laws.proofs.Words.{◌≡◌, ℕ, ◌<◌, ◌≤◌, sym, ◌∙◌, List, length, true, Some, arith, slice_get_within, slice_get, and_first, Header, Var, Extra, is_sound, is_redefinable, is_record, added, begins_by_number, begin_of_number, redefined_header, redefined_keeps, IsApplied, numbered_at, entry_map, nat_tests}
use Rattle.redef_laws.proofs.PlacedLaws.{begin_rises, begins_rise}
use Rattle.redef_laws.proofs.KeptLaws.{kept_var}
use Rattle.redef_laws.proofs.SlabLaws.{IsRaised}

-- ---- an old variable on its way

-- variable k before the begins are given; then it begins where its number is placed
pub record IsOnWay (old : Header) (extras : List Extra) (k : ℕ) (v w : Var) : Type 0 where
  pub var : Var
  pub there : slice_get (added old extras).vars k ≡ Some var
  pub begin : var.begin ≡ v.begin
  pub kind : is_record (added old extras) var ≡ is_record old v
  pub now : w.begin ≡ begin_of_number (begins_by_number (added old extras) (length old.vars)) k

on_way : (old : Header) (extras : List Extra) (k : ℕ) (v w : Var) → is_sound old ≡ true → slice_get old.vars k ≡ Some v
    → slice_get (redefined_header old extras).vars k ≡ Some w → IsOnWay old extras k v w
on_way old extras k v w sound h g =
    grind (arith, nat_tests, added old extras, kept_var old extras k v sound h, entry_map, numbered_at)

-- ---- the law

redefined_raised : (old : Header) (extras : List Extra) → is_sound old ≡ true → is_sound (redefined_header old extras) ≡ true → IsRaised old (redefined_header old extras)
redefined_raised old extras sound sound_new =
    record {
      sound_old = sound;
      sound_new = sound_new;
      keeps = redefined_keeps old extras sound;
      up = λ k v w h g.
          let way = on_way old extras k v w sound h g in
          grind (arith, nat_tests, begin_rises (added old extras) (length old.vars) k way.var way.there (slice_get_within old.vars k v h), added old extras, way.begin, way.now);
      order = order;
    }
  where
    order : (k m : ℕ) (v w x y : Var) → slice_get old.vars k ≡ Some v → slice_get (redefined_header old extras).vars k ≡ Some w
        → slice_get old.vars m ≡ Some x → slice_get (redefined_header old extras).vars m ≡ Some y → is_record old v ≡ is_record old x → v.begin < x.begin → w.begin ≤ y.begin
    order k m v w x y h g i j same low =
        let one = on_way old extras k v w sound h g in
        let two = on_way old extras m x y sound i j in
        let rise = begins_rise (added old extras) (length old.vars) k m one.var two.var one.there two.there (slice_get_within old.vars k v h) (slice_get_within old.vars m x i)
        (one.kind ∙ same ∙ sym two.kind) (omega (arith, low, one.begin, two.begin)) in
        omega (arith, rise, one.now, two.now)

pub sound_before : (header : Header) → is_redefinable header ≡ true → is_sound header ≡ true
sound_before header h = and_first _ _ (and_first _ _ (and_first _ _ (and_first _ _ h)))

pub applied_raised : (old new : Header) (extras : List Extra) → IsApplied old extras new → is_sound new ≡ true → IsRaised old new
applied_raised old new extras applied sound = grind (arith, nat_tests, redefined_raised, sound_before)

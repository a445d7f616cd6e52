-- What is made of a header that was read is sound.
use Rattle.dataset_start.proofs.Words.{◌≡◌, List, true, writable_is_sound, Header, Extra, is_sound, IsApplied}
use Rattle.redef_laws.proofs.WrittenLaws.{written}

pub redefined_sound : (old new : Header) (extras : List Extra) → IsApplied old extras new → is_sound new ≡ true
redefined_sound old new extras applied = writable_is_sound new (written old new extras applied)

-- What a run lends to the owner's steps. (own)
--     AreSame old now          outlets that still lend the same
use Rattle.std.specs.Prelude.{◌≡◌}
use Rattle.file_owner.specs.declared.lent.Outlets.{Outlets}

pub record AreSame {D T : Type 0} (old now : Outlets D T) : Type 0 where
  pub disk : now.disk.ghost_name ≡ old.disk.ghost_name
  pub records : now.records.ghost_name ≡ old.records.ghost_name
  pub told : now.told.ghost_name ≡ old.told.ghost_name
  pub back : now.back.ghost_name ≡ old.back.ghost_name

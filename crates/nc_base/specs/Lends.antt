-- What a list ends as, where a `&mut` to its items is returned. (own)
use Rattle.std.specs.Prelude.{List, length}
use Rattle.std.specs.List.{refill}
use Rattle.std.specs.Borrow.{Lends, Fml, RattleType, MutBor, Array}
use Rattle.nc_base.specs.contracts.items.Items.{the_row}

-- once the borrow r ends, the list is what r shows last, which is as long
abbrev pub lends_items : (T : RattleType) → MutBor (List T.Denot) → MutBor (List T.Denot) → Fml
lends_items T list r = Lends (the_row T) (Array T 0) list r (λ w. refill (length list.now) list.now w)

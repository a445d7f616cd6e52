-- What clauses see of the ends of a line and of an inbox (own).
use Rattle.std.specs.Prelude.{ℕ, List, [], ◌∷◌, ◌++◌, map, filter, ◌==◌}
use Rattle.atomic_table.specs.Seated.{TableId}
use Rattle.atomic_table.specs.declared.badge.Badge.{Badge}
use Rattle.crossbeam_channel.specs.declared.flavors.array.Key.{Key}
use Rattle.crossbeam_channel.specs.declared.flavors.array.Doing.{Doing}
use Rattle.crossbeam_channel.specs.declared.flavors.array.Rows.{Rows}

-- which line or inbox it is, and how many items may stand in it
pub record Line (T : Type 0) : Type 0 where
  pub table : TableId
  pub key : Badge (Key T)
  pub room : ℕ

-- the line of a channel
abbrev pub line_of : {X V Q M L A : Type 0} → Rows (Badge (Key X)) (Doing X V) Q M (Key X) L A → Line X
line_of c = record { table = c.stamps.shared.table_id; key = c.stamps.shared.key; room = c.cap }

-- an end of a line: its line, and the items that it put or took, the first one first
pub record End (T : Type 0) : Type 0 where
  pub of : Line T
  pub items : List T

-- a sending end of an inbox: the inbox, the end's number, and the items that it put
pub record Sender (T : Type 0) : Type 0 where
  pub of : Line (ℕ × T)
  pub number : ℕ
  pub items : List T

-- the receiving end of an inbox: the inbox, how many senders it was made with, and the items that it took, each beside its sender's number
pub record Receiver (T : Type 0) : Type 0 where
  pub of : Line (ℕ × T)
  pub senders : ℕ
  pub items : List (ℕ × T)

-- the items under one number, in their order
abbrev pub items_under : {T : Type 0} → ℕ → List (ℕ × T) → List T
items_under number pairs = map (λ p. p.1) (filter (λ p. p.0 == number) pairs)

-- the end, once it put one item more
abbrev pub with_item : {T : Type 0} → End T → T → End T
with_item e item = record { of = e.of; items = e.items ++ item ∷ [] }

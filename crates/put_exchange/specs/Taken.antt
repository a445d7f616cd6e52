-- What a helper does with the messages that it takes. (own)
--     pieces_in_all messages                the pieces of messages, one after another
--     AreFor hull messages                  they are messages of this hull
--     Carry source t picked messages        they are of a window, and carry the parts of entries in it
--     HasTaken count before now             so many messages more were taken
--     HasLaid hull count ..                 and laid over a buffer of the hull's bytes, where they are of this hull
--     HasPutTaken turn ..                   and laid over the hull of a window of a part, where they carry what fills it
use Rattle.std.specs.Prelude.{◌≡◌, ℕ, ◌+◌, ◌<◌, ◌≤◌, List, ◌++◌, flat_map, length, true, Option, Result, OnOk}
use Rattle.nc_base.specs.declared.plan.Extent.{Extent}
use Rattle.nc_base.specs.declared.plan.Owned.{Owned}
use Rattle.nc_outside.specs.Told.{after, BothTold}
use Rattle.serial_spec.specs.Said.{Cell, write_cells, moved_down}
use Rattle.overlay_laws.specs.Changes.{IsBetween}
use Rattle.overlay_laws.specs.Entries.{In, Source}
use Rattle.overlay_laws.specs.Windows.{HasPlace}
use Rattle.exchange_crew.specs.Turns.{Told}
use Rattle.put_exchange.specs.Sent.{cells_in, hull_of, Sent}

-- each byte of a window without a hole has a cell
abbrev pub IsFilledBy : Told → List Cell → Type 0
IsFilledBy t cells = t.2 ≡ true → (x : ℕ) → t.0 ≤ x → x < t.0 + t.1 → HasPlace cells x

abbrev pub pieces_in_all : List Sent → List Cell
pieces_in_all messages = flat_map (λ m. m.pieces) messages

abbrev pub AreFor : Extent → List Sent → Type 0
AreFor hull messages = (m : Sent) → In messages m → m.hull ≡ hull

pub record Carry (source : Source) (t : Told) (picked : List Owned) (messages : List Sent) : Type 0 where
  pub hull : AreFor (hull_of t) messages
  pub cells : pieces_in_all messages ≡ cells_in source t picked

pub record HasTaken (count : ℕ) (before now : List Sent) : Type 0 where
  pub got : List Sent
  pub taken : now ≡ before ++ got
  pub many : length got ≡ count

pub record HasLaid (hull : Extent) (count : ℕ) (before now : List Sent) (old new : List ℕ) : Type 0 where
  pub got : List Sent
  pub taken : now ≡ before ++ got
  pub many : length got ≡ count
  pub laid : AreFor hull got → new ≡ write_cells old (moved_down hull.at (pieces_in_all got))

-- the part with the parts of entries in a window
abbrev pub put_window : Source → ℕ → Told → List Owned → List ℕ → List ℕ
put_window source from t list file = write_cells file (moved_down from (cells_in source t list))

-- so many messages of a window of a part that begins at `from`
pub record TurnDue : Type 0 where
  pub from : ℕ
  pub turn : Told
  pub count : ℕ

abbrev pub turn_due : ℕ → Told → ℕ → TurnDue
turn_due from turn count = record { from = from; turn = turn; count = count }

pub record HasPutTaken {T E : Type 0} (due : TurnDue) (before now : List Sent) (held left : Option (List ℕ)) (end : Result T E) : Type 0 where
  pub got : List Sent
  pub taken : now ≡ before ++ got
  pub many : length got ≡ due.count
  pub bytes : (source : Source) (picked : List Owned) → Carry source due.turn picked got → IsFilledBy due.turn (cells_in source due.turn picked)
      → OnOk end (left ≡ after (put_window source due.from due.turn picked) held)
  pub between : (source : Source) (picked : List Owned) → Carry source due.turn picked got → IsFilledBy due.turn (cells_in source due.turn picked)
      → BothTold (λ file new. IsBetween file (put_window source due.from due.turn picked file) new) held left

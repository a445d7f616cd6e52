-- What the owner of a file tells of its run, by what its ends gained. Order and strangers by the arrivals alone: `ByArrivals` of `owner_laws`. (own)
--     arrived old now         what was taken
--     gained old now q        what was put on line q
--     Passed                  what passed over the owner's ends
--     passed arrivals n put   so much, over n lines
--     HasTaken ..             what was taken, and each number's end is among it
--     HasToldAlong ..         what was told of the steps that were done
--     IsDone ..               a run without a fault, by the owner's machine: its order, and what each line gained up to the bytes of gets
--     IsDoneSo ..             the same with the bytes
--     IsCutOff ..             a run that a fault cut off
use Rattle.std.specs.Prelude.{◌≡◌, ℕ, ◌<◌, List, [], ◌++◌, drop, length, replicate, nat_lt, Option, Some, None, slice_get, IsTrue}
use Rattle.std.specs.List.{list_all}
use Rattle.nc_base.specs.declared.step.Mark.{Mark}
use Rattle.nc_base.specs.declared.step.OwnerItem.{OwnerItem}
use Rattle.nc_base.specs.declared.step.OwnerItem.TheVariants.{Stop}
use Rattle.nc_base.specs.declared.step.RankItem.{RankItem}
use Rattle.nc_outside.specs.Told.{with_end}
use Rattle.ruled_line.specs.Ends.{End, Receiver}
use Rattle.serial_spec.specs.Owner.{Owner, first_owner, free_client, given_along, offers_in, owed, own_items, served}
use Rattle.serial_spec.specs.FileStep.{Counted, Setting}
use Rattle.serial_spec.specs.History.{Arrival}
use Rattle.serial_spec.specs.Joined.{HasEnd}
use Rattle.join_laws.specs.Alike.{AreAlike}
use Rattle.file_owner.specs.Owned.{owner_told}

abbrev pub arrived : Receiver RankItem → Receiver RankItem → List Arrival
arrived old now = drop (length old.items) now.items

abbrev pub more_on : Option (End OwnerItem) → Option (End OwnerItem) → List OwnerItem
more_on (Some old) (Some now) = drop (length old.items) now.items
more_on _ _ = []

abbrev pub gained : List (End OwnerItem) → List (End OwnerItem) → ℕ → List OwnerItem
gained old now q = more_on (slice_get old q) (slice_get now q)

-- what was taken, and what was put on each of so many lines
pub record Passed : Type 0 where
  pub arrivals : List Arrival
  pub lines : ℕ
  pub put : ℕ → List OwnerItem

abbrev pub passed : List Arrival → ℕ → (ℕ → List OwnerItem) → Passed
passed arrivals lines put = record { arrivals = arrivals; lines = lines; put = put }

-- as many numbers as there are lines, and none of them has arrived
abbrev pub opening : ℕ → Counted → Owner
opening senders c = first_owner (replicate senders free_client) c

pub record HasTaken (old now : Receiver RankItem) : Type 0 where
  pub items : now.items ≡ old.items ++ arrived old now
  pub senders : now.senders ≡ old.senders
  pub of : now.of ≡ old.of
  pub numbers : IsTrue (list_all (λ a. nat_lt a.0 old.senders) (arrived old now))
  pub ended : (q : ℕ) → q < old.senders → HasEnd (own_items q (arrived old now))

-- each is the line that it was, with what it had and more
pub record HavePut (old now : List (End OwnerItem)) : Type 0 where
  pub long : length now ≡ length old
  pub each : (q : ℕ) (end : End OwnerItem) → slice_get old q ≡ Some end → slice_get now q ≡ Some (record { of = end.of; items = end.items ++ gained old now q })

-- Along `first` no arrival is strange. Its steps are the order, and each was told with the record count after it.
pub record HasToldAlong (s : Setting) (d : Owner) (arrivals : List Arrival) (marks : List Mark) (before now : Option (List (Mark × ℕ))) : Type 0 where
  pub first : List Arrival
  pub later : List Arrival
  pub all : arrivals ≡ first ++ later
  pub none_strange : (served s d first).stranger ≡ None
  pub order : marks ≡ (served s d first).marks
  pub heard : now ≡ with_end before (owner_told s d first)

pub record IsDone (s : Setting) (d : Owner) (passed : Passed) (marks : List Mark) (number : Option ℕ) : Type 0 where
  pub order : marks ≡ (served s d passed.arrivals).marks
  pub stranger : number ≡ (served s d passed.arrivals).stranger
  pub given : (q : ℕ) → q < passed.lines → AreAlike (passed.put q) (owed s d passed.arrivals q)

pub record IsDoneSo (s : Setting) (d : Owner) (passed : Passed) (held : Option (List ℕ)) (n : ℕ) : Type 0 where
  pub told : held ≡ Some (served s d passed.arrivals).owner.state.file
  pub records : n ≡ (served s d passed.arrivals).owner.state.records
  pub given : (q : ℕ) → q < passed.lines → passed.put q ≡ owed s d passed.arrivals q

-- Along `first` no arrival is strange, and its replies were given; each other offer has a stop.
pub record IsCutOff (s : Setting) (d : Owner) (first : List Arrival) (lines : ℕ) (put : ℕ → List OwnerItem) (marks : List Mark) : Type 0 where
  pub none_strange : (served s d first).stranger ≡ None
  pub order : marks ≡ (served s d first).marks
  pub given : (q : ℕ) → q < lines → (stopped : ℕ) × AreAlike (put q) (given_along s d first q ++ replicate stopped Stop)

pub record HasFailed (s : Setting) (d : Counted → Owner) (records : ℕ) (passed : Passed) (marks : List Mark) (number : Option ℕ) : Type 0 where
  pub first : List Arrival
  pub later : List Arrival
  pub all : passed.arrivals ≡ first ++ later
  pub cut_off : (file : List ℕ) → IsCutOff s (d (record { file = file; records = records })) first passed.lines passed.put marks
  pub one_each : (q : ℕ) → q < passed.lines → length (passed.put q) ≡ offers_in (own_items q passed.arrivals)
  pub stranger : number ≡ None

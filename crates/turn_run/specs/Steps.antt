-- A step of the file by the batches of its ranks. (own; the step itself is that of serial_spec)
--     held_offers runners         the offers that the runners hold, in order
--     met s batches known c     file and count after a meeting of these batches, whose ranks know so many records
--     met_calls ..              its device calls
--     IsJob ..                  batches that a meeting takes
--     IsOneRise ..              it is not both the puts and what the ranks know that raise the count
--     needed_after ..           the count that puts need, 0 where a pair was told
use Rattle.std.specs.Prelude.{◌≡◌, ℕ, max, List, [], ◌++◌, ◌⊎◌, map, flat_map, length, nat_lt, None}
use Rattle.std.specs.Option.{option_to_list}
use Rattle.nc_base.specs.declared.plan.Batch.{Batch}
use Rattle.nc_base.specs.declared.script.Hints.{Hints}
use Rattle.nc_base.specs.declared.step.DiskCall.{DiskCall}
use Rattle.nc_base.specs.declared.step.Offer.{Offer}
use Rattle.serial_spec.specs.Owner.{needed_now}
use Rattle.serial_spec.specs.DeviceCalls.{collective_windows, get_bytes, loads, put_calls, store_records}
use Rattle.serial_spec.specs.FileStep.{Setting, Counted, after_puts, known_by, raised, told}
use Rattle.serial_spec.specs.Layout.{greatest}
use Rattle.collective_round.specs.Rounds.{counted, gets_in, puts_in}
use Rattle.collective_round.specs.Rounds.{AreFew, AreGets, ArePuts}
use Rattle.collective_round.specs.declared.collective.PutEnd.{PutEnd}
use Rattle.collective_round.specs.declared.collective.PutEnd.TheVariants.{Done, Overlap}
use Rattle.nc_base.specs.declared.header.Header.{Header}
use Rattle.nc_base.specs.declared.plan.Post.{Post}
use Rattle.serial_spec.specs.RankMachine.{new_rank}
use Rattle.serial_spec.specs.Records.{needed}
use Rattle.serial_spec.specs.SharedByte.{holdings, IsOwnOnce}
use Rattle.turn_run.specs.declared.runners.Runner.{Runner}

abbrev pub held_offers : List Runner → List Offer
held_offers runners = flat_map (λ runner. option_to_list runner.held) runners

abbrev pub batches_of : List Offer → List Batch
batches_of offers = map (λ o. o.batch) offers

-- the greatest count that a meeting of these offers takes from what its ranks know
abbrev pub known_of : List Offer → ℕ
known_of offers = greatest (map (λ o. known_by o.kind o.known) offers)

abbrev pub met : Setting → List Batch → ℕ → Counted → Counted
met s batches known c =
    let puts = puts_in batches in
    raised s (counted (after_puts s puts (told s puts) c.file) c.records) (max (needed_now s puts) known)

abbrev pub met_calls : Hints → Setting → List Batch → ℕ → Counted → List DiskCall
met_calls hints s batches known c =
    put_calls s (collective_windows hints) (puts_in batches) (length c.file)
    ++ store_records s (nat_lt c.records (met s batches known c).records)
    ++ flat_map loads (collective_windows hints (get_bytes s (gets_in batches)))

pub record IsJob (header : Header) (len : ℕ) (batches : List Batch) : Type 0 where
  pub few : AreFew batches
  pub puts : ArePuts header (puts_in batches)
  pub own : IsOwnOnce (holdings header (puts_in batches))
  pub gets : AreGets header len (gets_in batches)

-- either the puts raise the count, or what the ranks know does
abbrev pub IsOneRise : ℕ → List Batch → Type 0
IsOneRise known batches = (known ≡ 0) ⊎ (puts_in batches ≡ [])

abbrev pub needed_after : Header → List Post → PutEnd → ℕ
needed_after header puts Done = greatest (map (λ p. needed header p) puts)
needed_after header puts (Overlap pair) = 0

abbrev pub first_runner : Header → ℕ → Runner
first_runner header records = record { rank = record { header = header; state = new_rank records }; answers = []; held = None }
